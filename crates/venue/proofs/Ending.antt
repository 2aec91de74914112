-- What a call does to the rows of requests and quotes: it adds one at the end or none, and of the others it changes only
-- how they end. Said for any view of a row that does not look at its end. Assumes nothing.
use Rattle.std.proofs.Common.{◌≡◌, ℕ, zero, suc, Bool, true, false, cond, ◌&&◌, ◌||◌, eqb, leb, List, [], ◌∷◌, ◌++◌, map, get_or, set, Some, None, Option, sym, refl, ap, ◌∙◌, append-nil}
use Rattle.venue.specs.declared.rows.Life.{Life}
use Rattle.venue.specs.declared.rows.Life.TheVariants as life
use Rattle.venue.specs.declared.rows.Request.{Request}
use Rattle.venue.specs.declared.rows.Quote.{Quote}
use Rattle.venue.specs.Days.{Day, numbered, no_request, no_quote}
use Rattle.venue.specs.Trading.{renumbered}
use Rattle.venue.specs.Calls.{Call, Call.enter, Call.offer, Call.pull, Call.cancel, Call.accept, Call.file, Call.post, Call.move_clock, Call.ask_price, Call.view, Call.book, Call.close, fills_of}
use Rattle.venue.specs.Model.{apply, ended_as, ended, ended_if, entered, offered, without_quote, without_old, settled_quotes, is_over}

-- the row that a call adds
abbrev pub new_requests : Day → Call → List Request
new_requests d (enter e) = entered d e ∷ []
new_requests d (offer o) = []
new_requests d (pull u q) = []
new_requests d (cancel u n) = []
new_requests d (accept a) = []
new_requests d (file r) = []
new_requests d (post p) = []
new_requests d (move_clock t) = []
new_requests d (ask_price k) = []
new_requests d (view u room) = []
new_requests d (book u n room) = []
new_requests d close = []

abbrev pub new_quotes : Call → List Quote
new_quotes (enter e) = []
new_quotes (offer o) = offered o ∷ []
new_quotes (pull u q) = []
new_quotes (cancel u n) = []
new_quotes (accept a) = []
new_quotes (file r) = []
new_quotes (post p) = []
new_quotes (move_clock t) = []
new_quotes (ask_price k) = []
new_quotes (view u room) = []
new_quotes (book u n room) = []
new_quotes close = []

module _ {X Y : Type 0} (g : X → Y) where
  pub map_append : (xs ys : List X) → map g (xs ++ ys) ≡ map g xs ++ map g ys
  map_append [] ys = refl
  map_append (x ∷ xs) ys = ap (λ l. g x ∷ l) (map_append xs ys)

  -- all rows changed, and one, so that the view stays
  mapped : (f : X → X) (xs : List X) → ((x : X) → g (f x) ≡ g x) → map g (map f xs) ≡ map g xs
  mapped f [] h = refl
  mapped f (x ∷ xs) h = λ i. h x i ∷ mapped f xs h i

  set_kept : (none : X) (xs : List X) (i : ℕ) (y : X) → g y ≡ g (get_or xs i none) → map g (set xs i y) ≡ map g xs
  set_kept none [] i y h = refl
  set_kept none (x ∷ xs) zero y h = ap (λ v. v ∷ map g xs) h
  set_kept none (x ∷ xs) (suc i) y h = ap (λ l. g x ∷ l) (set_kept none xs i y h)

  kept : (none : X) (xs : List X) (n : ℕ) (y : X) → g y ≡ g (numbered none xs n) → map g (renumbered xs n y) ≡ map g xs
  kept none xs zero y h = refl
  kept none xs (suc i) y h = set_kept none xs i y h

  -- no row more
  none_more : (xs xs' : List X) → map g xs' ≡ map g xs → map g xs' ≡ map g xs ++ []
  none_more xs xs' e = e ∙ sym (append-nil (map g xs))

module _ {Y : Type 0} (g : Request → Y) (h : (l : Life) (r : Request) → g (ended_as l r) ≡ g r) where
  ended_maybe : (b : Bool) (l : Life) (r : Request) → g (cond b (ended_as l r) r) ≡ g r
  ended_maybe true l r = h l r
  ended_maybe false l r = refl

  settled_requests : (b : Bool) (n : ℕ) (rs : List Request) → map g (cond b (renumbered rs n (ended_as life.Accepted (numbered no_request rs n))) rs) ≡ map g rs
  settled_requests true n rs = kept g no_request rs n _ (h life.Accepted _)
  settled_requests false n rs = refl

  pub requests_after : (d : Day) (c : Call) → map g (apply d c).requests ≡ map g d.requests ++ map g (new_requests d c)
  requests_after d (enter e) = map_append g d.requests (entered d e ∷ [])
  requests_after d (offer o) = none_more g d.requests _ refl
  requests_after d (pull u q) = none_more g d.requests _ refl
  requests_after d (cancel u n) = none_more g d.requests _ (kept g no_request d.requests n _ (h life.Cancelled _))
  requests_after d (accept a) = none_more g d.requests _ (settled_requests (is_over a (fills_of d a)) a.request d.requests)
  requests_after d (file r) = none_more g d.requests _ refl
  requests_after d (post p) = none_more g d.requests _ refl
  requests_after d (move_clock t) = none_more g d.requests _ (mapped g _ d.requests (λ r. ended_maybe (leb r.expiry t) life.Expired r))
  requests_after d (ask_price k) = none_more g d.requests _ refl
  requests_after d (view u room) = none_more g d.requests _ refl
  requests_after d (book u n room) = none_more g d.requests _ refl
  requests_after d close = none_more g d.requests _ (mapped g _ d.requests (h life.Closed))

module _ {Y : Type 0} (g : Quote → Y) (h : (q : Quote) → g (ended q) ≡ g q) where
  ended_or_not : (b : Bool) (q : Quote) → g (ended_if b q) ≡ g q
  ended_or_not true q = h q
  ended_or_not false q = refl

  without_one : (q : ℕ) (qs : List Quote) → map g (without_quote q qs) ≡ map g qs
  without_one q qs = kept g no_quote qs q _ (h _)

  without_old_one : (o : Option ℕ) (qs : List Quote) → map g (without_old o qs) ≡ map g qs
  without_old_one None qs = refl
  without_old_one (Some q) qs = without_one q qs

  settled_rows : (n : ℕ) (over : Bool) (qs : List Quote) (ms : List ℕ) → map g (settled_quotes n over qs ms) ≡ map g qs
  settled_rows n over [] ms = refl
  settled_rows n over (q ∷ qs) [] = λ i. ended_or_not (eqb q.request n && over) q i ∷ settled_rows n over qs [] i
  settled_rows n over (q ∷ qs) (m ∷ ms) = λ i. ended_or_not (eqb q.request n && (over || eqb m 0)) q i ∷ settled_rows n over qs ms i

  pub quotes_after : (d : Day) (c : Call) → map g (apply d c).quotes ≡ map g d.quotes ++ map g (new_quotes c)
  quotes_after d (enter e) = none_more g d.quotes _ refl
  quotes_after d (offer o) =
      map_append g (without_old o.old d.quotes) (offered o ∷ []) ∙ ap (λ l. l ++ g (offered o) ∷ []) (without_old_one o.old d.quotes)
  quotes_after d (pull u q) = none_more g d.quotes _ (without_one q d.quotes)
  quotes_after d (cancel u n) = none_more g d.quotes _ (mapped g _ d.quotes (λ q. ended_or_not (eqb q.request n) q))
  quotes_after d (accept a) = none_more g d.quotes _ (settled_rows a.request (is_over a (fills_of d a)) d.quotes (fills_of d a).remains)
  quotes_after d (file r) = none_more g d.quotes _ refl
  quotes_after d (post p) = none_more g d.quotes _ refl
  quotes_after d (move_clock t) = none_more g d.quotes _ (mapped g _ d.quotes (λ q. ended_or_not _ q))
  quotes_after d (ask_price k) = none_more g d.quotes _ refl
  quotes_after d (view u room) = none_more g d.quotes _ refl
  quotes_after d (book u n room) = none_more g d.quotes _ refl
  quotes_after d close = none_more g d.quotes _ (mapped g _ d.quotes h)
