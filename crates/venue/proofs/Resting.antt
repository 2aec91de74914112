-- What has ended rests. Assumes nothing.
use Rattle.std.proofs.Common.{◌≡◌, ℕ, zero, suc, ◌≤◌, Bool, true, false, cond, ◌&&◌, ◌||◌, eqb, leb, List, [], ◌∷◌, ◌++◌, map, length, get_or, set, Some, None, Ok, Err, Option, Result, refl, ap, ◌∙◌, arith, length-append}
use lib.ListN.{length-map}
use Rattle.std.proofs.lemmas.Bool.{cond_both}
use Rattle.records.specs.declared.causes.Refusal.{Refusal}
use Rattle.venue.specs.declared.rows.Life.{Life}
use Rattle.venue.specs.declared.rows.Life.TheVariants as life
use Rattle.venue.specs.declared.rows.Request.{Request}
use Rattle.venue.specs.declared.rows.Quote.{Quote}
use Rattle.venue.specs.Days.{Day, numbered, no_request, no_quote, request_of, quote_of, is_open}
use Rattle.venue.specs.Trading.{renumbered}
use Rattle.venue.specs.Calls.{Call, Call.enter, Call.offer, Call.pull, Call.cancel, Call.accept, Call.file, Call.post, Call.move_clock, Call.ask_price, Call.view, Call.book, Call.close, fills_of}
use Rattle.venue.specs.Model.{Reply, answer, apply, next_by, next, ended_as, ended_if, entered, offered, without_old, settled_quotes, is_over}
use Rattle.venue.specs.Quantities.{Rest, EndedRests}
use Rattle.venue.proofs.Ending.{requests_after, quotes_after, new_requests, new_quotes}
use Rattle.venue.proofs.Counting.{length_without_old}
use Rattle.venue.proofs.Staying.{numbered_front}

-- rows of which some stand
module _ {X : Type 0} (stands : X → Bool) (none : X) where
  rests_mapped : (f : X → X) → ((x : X) → stands x ≡ false → stands (f x) ≡ false) → (xs : List X) (n : ℕ) → stands (numbered none xs n) ≡ false → stands (numbered none (map f xs) n) ≡ false
  rests_mapped f h xs zero e = e
  rests_mapped f h [] (suc i) e = e
  rests_mapped f h (x ∷ xs) (suc zero) e = h x e
  rests_mapped f h (x ∷ xs) (suc (suc i)) e = rests_mapped f h xs (suc i) e

  rests_set : (xs : List X) (i : ℕ) (y : X) (k : ℕ) → stands y ≡ false → stands (get_or xs k none) ≡ false → stands (get_or (set xs i y) k none) ≡ false
  rests_set [] i y k h e = e
  rests_set (x ∷ xs) zero y zero h e = h
  rests_set (x ∷ xs) zero y (suc k) h e = e
  rests_set (x ∷ xs) (suc i) y zero h e = e
  rests_set (x ∷ xs) (suc i) y (suc k) h e = rests_set xs i y k h e

  rests_renumbered : (xs : List X) (n : ℕ) (y : X) (k : ℕ) → stands y ≡ false → stands (numbered none xs k) ≡ false → stands (numbered none (renumbered xs n y) k) ≡ false
  rests_renumbered xs zero y k h e = e
  rests_renumbered xs (suc i) y zero h e = e
  rests_renumbered xs (suc i) y (suc k) h e = rests_set xs i y k h e

  rests_pushed : (xs : List X) (x : X) (n : ℕ) → n ≤ length xs → stands (numbered none xs n) ≡ false → stands (numbered none (xs ++ x ∷ []) n) ≡ false
  rests_pushed xs x n h e = ap stands (numbered_front none xs (x ∷ []) n h) ∙ e

abbrev opened : Request → Bool
opened r = is_open r.life

abbrev lives : Quote → Bool
lives q = q.live

ended_shut : (l : Life) (r : Request) → is_open l ≡ false → opened (ended_as l r) ≡ false
ended_shut l r h = cond_both (opened r) l r.life (λ x. is_open x ≡ false) (λ t. h) (λ f. f)

ended_or_shut : (b : Bool) (l : Life) (r : Request) → is_open l ≡ false → opened r ≡ false → opened (cond b (ended_as l r) r) ≡ false
ended_or_shut true l r h e = ended_shut l r h
ended_or_shut false l r h e = e

settled_request : (b : Bool) (rs : List Request) (n : ℕ) (r : Request) (k : ℕ) → opened r ≡ false → opened (numbered no_request rs k) ≡ false → opened (numbered no_request (cond b (renumbered rs n r) rs) k) ≡ false
settled_request true rs n r k h e = rests_renumbered opened no_request rs n r k h e
settled_request false rs n r k h e = e

requests_rest : (d : Day) (c : Call) (n : ℕ) → n ≤ length d.requests → opened (request_of d n) ≡ false → opened (request_of (apply d c) n) ≡ false
requests_rest d (enter x) n h e = rests_pushed opened no_request d.requests (entered d x) n h e
requests_rest d (offer o) n h e = e
requests_rest d (pull u q) n h e = e
requests_rest d (cancel u m) n h e = rests_renumbered opened no_request d.requests m _ n (ended_shut life.Cancelled (request_of d m) refl) e
requests_rest d (accept a) n h e = settled_request (is_over a (fills_of d a)) d.requests a.request _ n (ended_shut life.Accepted (request_of d a.request) refl) e
requests_rest d (file r) n h e = e
requests_rest d (post p) n h e = e
requests_rest d (move_clock t) n h e = rests_mapped opened no_request _ (λ r s. ended_or_shut (leb r.expiry t) life.Expired r refl s) d.requests n e
requests_rest d (ask_price k) n h e = e
requests_rest d (view u room) n h e = e
requests_rest d (book u m room) n h e = e
requests_rest d close n h e = rests_mapped opened no_request _ (λ r s. ended_shut life.Closed r refl) d.requests n e

ended_or_dead : (b : Bool) (q : Quote) → lives q ≡ false → lives (ended_if b q) ≡ false
ended_or_dead true q e = refl
ended_or_dead false q e = e

old_rests : (o : Option ℕ) (qs : List Quote) (k : ℕ) → lives (numbered no_quote qs k) ≡ false → lives (numbered no_quote (without_old o qs) k) ≡ false
old_rests None qs k e = e
old_rests (Some q) qs k e = rests_renumbered lives no_quote qs q _ k refl e

settled_rest : (n : ℕ) (over : Bool) (qs : List Quote) (ms : List ℕ) (k : ℕ) → lives (numbered no_quote qs k) ≡ false → lives (numbered no_quote (settled_quotes n over qs ms) k) ≡ false
settled_rest n over qs ms zero e = e
settled_rest n over [] ms (suc i) e = e
settled_rest n over (q ∷ qs) [] (suc zero) e = ended_or_dead (eqb q.request n && over) q e
settled_rest n over (q ∷ qs) (m ∷ ms) (suc zero) e = ended_or_dead (eqb q.request n && (over || eqb m 0)) q e
settled_rest n over (q ∷ qs) [] (suc (suc i)) e = settled_rest n over qs [] (suc i) e
settled_rest n over (q ∷ qs) (m ∷ ms) (suc (suc i)) e = settled_rest n over qs ms (suc i) e

quotes_rest : (d : Day) (c : Call) (q : ℕ) → q ≤ length d.quotes → lives (quote_of d q) ≡ false → lives (quote_of (apply d c) q) ≡ false
quotes_rest d (enter x) q h e = e
quotes_rest d (offer o) q h e = rests_pushed lives no_quote (without_old o.old d.quotes) (offered o) q (let l = length_without_old o.old d.quotes in omega arith) (old_rests o.old d.quotes q e)
quotes_rest d (pull u p) q h e = rests_renumbered lives no_quote d.quotes p _ q refl e
quotes_rest d (cancel u n) q h e = rests_mapped lives no_quote _ (λ x s. ended_or_dead (eqb x.request n) x s) d.quotes q e
quotes_rest d (accept a) q h e = settled_rest a.request (is_over a (fills_of d a)) d.quotes (fills_of d a).remains q e
quotes_rest d (file r) q h e = e
quotes_rest d (post p) q h e = e
quotes_rest d (move_clock t) q h e = rests_mapped lives no_quote _ (λ x s. ended_or_dead _ x s) d.quotes q e
quotes_rest d (ask_price k) q h e = e
quotes_rest d (view u room) q h e = e
quotes_rest d (book u n room) q h e = e
quotes_rest d close q h e = rests_mapped lives no_quote _ (λ x s. refl) d.quotes q e

-- a call takes no row away
as_many : {X : Type 0} (g : X → ℕ) (xs xs' new : List X) → map g xs' ≡ map g xs ++ map g new → length xs ≤ length xs'
as_many g xs xs' new e =
    let l = ap length e in
    let a = length-append (map g xs) (map g new) in
    let m = length-map xs g in
    let m' = length-map xs' g in
    omega arith

-- one call, carried out or refused
step_requests : (d : Day) (c : Call) (q : Result Reply Refusal) (n : ℕ) → n ≤ length d.requests → opened (request_of d n) ≡ false → (n ≤ length (next_by d c q).requests) × (opened (request_of (next_by d c q) n) ≡ false)
step_requests d c (Ok r) n h e =
    let more = as_many (λ x. x.quantity) d.requests (apply d c).requests (new_requests d c) (requests_after (λ x. x.quantity) (λ l x. refl) d c) in
    (omega arith, requests_rest d c n h e)
step_requests d c (Err x) n h e = (h, e)

step_quotes : (d : Day) (c : Call) (q : Result Reply Refusal) (n : ℕ) → n ≤ length d.quotes → lives (quote_of d n) ≡ false → (n ≤ length (next_by d c q).quotes) × (lives (quote_of (next_by d c q) n) ≡ false)
step_quotes d c (Ok r) n h e =
    let more = as_many (λ x. x.quantity) d.quotes (apply d c).quotes (new_quotes c) (quotes_after (λ x. x.quantity) (λ x. refl) d c) in
    (omega arith, quotes_rest d c n h e)
step_quotes d c (Err x) n h e = (h, e)

rests_from : (later : List Call) (d : Day) → Rest d later
rests_from [] d = record { requests = λ n h e. e; quotes = λ q h e. e }
rests_from (c ∷ later) d =
    let rest = rests_from later (next d c) in
    record {
      requests = λ n h e. let s = step_requests d c (answer d c) n h e in rest.requests n s.0 s.1;
      quotes = λ q h e. let s = step_quotes d c (answer d c) q h e in rest.quotes q s.0 s.1;
    }

pub ended_rests : EndedRests
ended_rests d later = rests_from later d
