-- Quantities add up. Assumes nothing.
use Rattle.std.proofs.Common.{◌≡◌, ℕ, zero, suc, ◌+◌, ◌-◌, ◌≤◌, min, cond, eqb, List, [], ◌∷◌, ◌++◌, map, length, get_or, set, Ok, Err, Result, sym, refl, ◌∙◌, subst, append-nil, arith, length-append}
use Rattle.std.proofs.lemmas.Bool.Decides.{nat_tests}
use Rattle.records.specs.declared.causes.Refusal.{Refusal}
use Rattle.venue.specs.declared.rows.Candidate.{Candidate}
use Rattle.venue.specs.declared.rows.Request.{Request}
use Rattle.venue.specs.declared.rows.Quote.{Quote}
use Rattle.venue.specs.declared.rows.Trade.{Trade}
use Rattle.venue.specs.Days.{Day, numbered, no_request, no_quote, no_trade}
use Rattle.venue.specs.Trading.{renumbered, in_order, total}
use Rattle.venue.specs.Calls.{Call, Call.enter, Call.offer, Call.pull, Call.cancel, Call.accept, Call.file, Call.post, Call.move_clock, Call.ask_price, Call.view, Call.book, Call.close, named, once, fills_of}
use Rattle.venue.specs.Model.{Reply, open_day, answer, apply, next_by, next, after, filed, filed_trade}
use Rattle.venue.specs.Laws.{Turns, Turns.finished, Turns.passed, Turns.traded}
use Rattle.venue.specs.Quantities.{sum_of, on_request, with_quote, traded_on, traded_with, QuantitiesAddUp}
use Rattle.venue.proofs.Filling.{fills_by_turns, turns_add}
use Rattle.venue.proofs.Ending.{requests_after, quotes_after, new_requests, new_quotes}
use Rattle.venue.proofs.Replies.{length_renumbered}

-- the quantities of rows
abbrev asked : List Request → List ℕ
asked rs = map (λ r. r.quantity) rs

abbrev given : List Quote → List ℕ
given qs = map (λ q. q.quantity) qs

-- a number of the row with a number
pub number_of : {X : Type 0} (g : X → ℕ) (none : X) → g none ≡ 0 → (xs : List X) (n : ℕ) → g (numbered none xs n) ≡ numbered 0 (map g xs) n
number_of g none z xs zero = z
number_of g none z [] (suc n) = z
number_of g none z (x ∷ xs) (suc zero) = refl
number_of g none z (x ∷ xs) (suc (suc n)) = number_of g none z xs (suc n)

-- one row more
at_end : (xs : List ℕ) (x k : ℕ) → get_or (xs ++ x ∷ []) k 0 ≡ cond (eqb k (length xs)) x (get_or xs k 0)
at_end [] x zero = refl
at_end [] x (suc k) = grind (arith, nat_tests)
at_end (y ∷ xs) x zero = grind (arith, nat_tests)
at_end (y ∷ xs) x (suc k) = let e = at_end xs x k in grind (arith, nat_tests)

past : (xs : List ℕ) (k : ℕ) → length xs ≤ k → get_or xs k 0 ≡ 0
past [] k h = refl
past (x ∷ xs) zero h = absurd (omega arith)
past (x ∷ xs) (suc k) h = past xs k (omega arith)

pushed : (xs bs : List ℕ) (v : ℕ) (T : ℕ → ℕ) → length xs ≡ length bs → ((n : ℕ) → numbered 0 xs n + T n ≡ numbered 0 bs n) → (n : ℕ) → numbered 0 (xs ++ v ∷ []) n + T n ≡ numbered 0 (bs ++ v ∷ []) n
pushed xs bs v T l h zero = h zero
pushed xs bs v T l h (suc k) =
    let ex = at_end xs v k in
    let ea = at_end bs v k in
    let old = h (suc k) in
    let px = past xs k in
    let pa = past bs k in
    grind (arith, nat_tests)

-- another value at a number: what it lacks is what went elsewhere
set_at : (xs : List ℕ) (i v part k : ℕ) → part + v ≡ get_or xs i 0 → get_or (set xs i v) k 0 + cond (eqb i k) part 0 ≡ get_or xs k 0
set_at [] i v part k h = grind (arith, nat_tests)
set_at (x ∷ xs) zero v part zero h = grind (arith, nat_tests)
set_at (x ∷ xs) zero v part (suc k) h = grind (arith, nat_tests)
set_at (x ∷ xs) (suc i) v part zero h = grind (arith, nat_tests)
set_at (x ∷ xs) (suc i) v part (suc k) h = let e = set_at xs i v part k h in grind (arith, nat_tests)

pub renumbered_at : (xs : List ℕ) (n v part k : ℕ) → part + v ≡ numbered 0 xs n → numbered 0 (renumbered xs n v) k + cond (eqb n k) part 0 ≡ numbered 0 xs k
renumbered_at xs zero v part k h = grind (arith, nat_tests)
renumbered_at xs (suc i) v part zero h = grind (arith, nat_tests)
renumbered_at xs (suc i) v part (suc k) h = let e = set_at xs i v part k h in grind (arith, nat_tests)

-- sums over trades
sum_append : (f : Trade → ℕ) (ts us : List Trade) → sum_of f (ts ++ us) ≡ sum_of f ts + sum_of f us
sum_append f [] us = omega arith
sum_append f (t ∷ ts) us = let e = sum_append f ts us in omega arith

sum_set : (f : Trade → ℕ) (ts : List Trade) (i : ℕ) (y : Trade) → f y ≡ f (get_or ts i no_trade) → sum_of f (set ts i y) ≡ sum_of f ts
sum_set f [] i y h = refl
sum_set f (t ∷ ts) zero y h = omega arith
sum_set f (t ∷ ts) (suc i) y h = let e = sum_set f ts i y h in omega arith

sum_renumbered : (f : Trade → ℕ) (ts : List Trade) (n : ℕ) (y : Trade) → f y ≡ f (numbered no_trade ts n) → sum_of f (renumbered ts n y) ≡ sum_of f ts
sum_renumbered f ts zero y h = refl
sum_renumbered f ts (suc i) y h = sum_set f ts i y h

-- a filing keeps a sum that does not look at the mark
sum_filed : (f : Trade → ℕ) → ((t : Trade) → f (filed_trade t) ≡ f t) → (m : ℕ) (ts : List Trade) (t : ℕ) → sum_of f (filed ts t m) ≡ sum_of f ts
sum_filed f h zero ts t = refl
sum_filed f h (suc m) ts t = sum_filed f h m _ (t + 1) ∙ sum_renumbered f ts t _ (h (numbered no_trade ts t))

-- what turns make on a request and with the quotes
turns_on : (d : Day) (n o : ℕ) (rs : List ℕ) (cs : List Candidate) (ts : List Trade) (o' : ℕ) (rs' : List ℕ) (k : ℕ) → Turns d n o rs cs ts o' rs' → traded_on k ts ≡ cond (eqb n k) (total ts) 0
turns_on d n o rs cs ts o' rs' k (finished _ _) = grind (arith, nat_tests)
turns_on d n o rs cs ts o' rs' k (passed _ _ c cs' _ _ _ h t) = turns_on d n o rs cs' ts o' rs' k t
turns_on d n o rs cs ts o' rs' k (traded _ _ c cs' ts' _ _ h l t) = let r = turns_on d n _ _ cs' ts' o' rs' k t in grind (arith, nat_tests)

turns_with : (d : Day) (n o : ℕ) (rs : List ℕ) (cs : List Candidate) (ts : List Trade) (o' : ℕ) (rs' : List ℕ) (k : ℕ) → Turns d n o rs cs ts o' rs' → numbered 0 rs' k + traded_with k ts ≡ numbered 0 rs k
turns_with d n o rs cs ts o' rs' k (finished _ _) = omega arith
turns_with d n o rs cs ts o' rs' k (passed _ _ c cs' _ _ _ h t) = turns_with d n o rs cs' ts o' rs' k t
turns_with d n o rs cs ts o' rs' k (traded _ _ c cs' ts' _ _ h l t) =
    let m = numbered 0 rs c.quote in
    let r = turns_with d n _ _ cs' ts' o' rs' k t in
    let e = renumbered_at rs c.quote (m - min o m) (min o m) k (omega arith) in
    omega arith

turns_long : (d : Day) (n o : ℕ) (rs : List ℕ) (cs : List Candidate) (ts : List Trade) (o' : ℕ) (rs' : List ℕ) → Turns d n o rs cs ts o' rs' → length rs' ≡ length rs
turns_long d n o rs cs ts o' rs' (finished _ _) = refl
turns_long d n o rs cs ts o' rs' (passed _ _ c cs' _ _ _ h t) = turns_long d n o rs cs' ts o' rs' t
turns_long d n o rs cs ts o' rs' (traded _ _ c cs' ts' _ _ h l t) = turns_long d n _ _ cs' ts' o' rs' t ∙ length_renumbered rs c.quote _

-- rows with what is left of each beside them: what is left and what was taken make up the row
pub record Adds (left rows : List ℕ) (taken : ℕ → ℕ) : Type 0 where
  pub long : length left ≡ length rows
  pub each : (n : ℕ) → numbered 0 left n + taken n ≡ numbered 0 rows n

adds_kept : (left rows rows' : List ℕ) (taken : ℕ → ℕ) → rows' ≡ rows ++ [] → Adds left rows taken → Adds left rows' taken
adds_kept left rows rows' taken e a = subst (λ rs. Adds left rs taken) (sym (e ∙ append-nil rows)) a

adds_pushed : (left rows rows' : List ℕ) (v : ℕ) (taken : ℕ → ℕ) → rows' ≡ rows ++ v ∷ [] → Adds left rows taken → Adds (left ++ v ∷ []) rows' taken
adds_pushed left rows rows' v taken e a =
    subst (λ rs. Adds (left ++ v ∷ []) rs taken) (sym e)
    (record {
      long = let l = length-append left (v ∷ []) in let r = length-append rows (v ∷ []) in let same = a.long in omega arith;
      each = pushed left rows v taken a.long a.each;
    })

-- more taken, and as much less left
adds_moved : (left left' rows : List ℕ) (taken more taken' : ℕ → ℕ) → length left' ≡ length left → ((n : ℕ) → numbered 0 left' n + more n ≡ numbered 0 left n) → ((n : ℕ) → taken' n ≡ taken n + more n) → Adds left rows taken → Adds left' rows taken'
adds_moved left left' rows taken more taken' l m t a =
    record {
      long = l ∙ a.long;
      each = λ n. let was = a.each n in let less = m n in let now = t n in omega arith;
    }

-- the invariant
pub record Kept (d : Day) : Type 0 where
  pub requests : Adds d.opens (asked d.requests) (λ n. traded_on n d.trades)
  pub quotes : Adds d.remains (given d.quotes) (λ q. traded_with q d.trades)

requests_kept : (d : Day) (c : Call) → asked (apply d c).requests ≡ asked d.requests ++ asked (new_requests d c)
requests_kept d c = requests_after (λ r. r.quantity) (λ l r. refl) d c

quotes_kept : (d : Day) (c : Call) → given (apply d c).quotes ≡ given d.quotes ++ given (new_quotes c)
quotes_kept d c = quotes_after (λ q. q.quantity) (λ q. refl) d c

applied_requests : (d : Day) (c : Call) → Adds d.opens (asked d.requests) (λ n. traded_on n d.trades) → Adds (apply d c).opens (asked (apply d c).requests) (λ n. traded_on n (apply d c).trades)
applied_requests d (enter e) a = adds_pushed _ _ _ e.quantity _ (requests_kept d (enter e)) a
applied_requests d (offer o) a = a
applied_requests d (pull u q) a = a
applied_requests d (cancel u n) a = adds_kept _ _ _ _ (requests_kept d (cancel u n)) a
applied_requests d (accept k) a =
    let line = in_order d k.request (once (named k.quotes)) in
    let t = fills_by_turns d k.request line in
    let f = fills_of d k in
    let sum = turns_add d _ _ _ line _ _ _ t in
    adds_kept _ _ _ _ (requests_kept d (accept k))
    (adds_moved d.opens _ _ _ (λ n. traded_on n f.trades) _ (length_renumbered d.opens k.request f.open_left)
    (λ n. let m = renumbered_at d.opens k.request f.open_left (total f.trades) n sum in let on = turns_on d _ _ _ line _ _ _ n t in omega arith)
    (λ n. sum_append (on_request n) d.trades f.trades)
    a)
applied_requests d (file p) a =
    adds_moved d.opens d.opens _ _ (λ n. 0) _ refl (λ n. omega arith)
    (λ n. let e = sum_filed (on_request n) (λ t. refl) (p.last + 1 - p.first) d.trades p.first in omega arith)
    a
applied_requests d (post p) a = a
applied_requests d (move_clock t) a = adds_kept _ _ _ _ (requests_kept d (move_clock t)) a
applied_requests d (ask_price k) a = a
applied_requests d (view u room) a = a
applied_requests d (book u n room) a = a
applied_requests d close a = adds_kept _ _ _ _ (requests_kept d close) a

applied_quotes : (d : Day) (c : Call) → Adds d.remains (given d.quotes) (λ q. traded_with q d.trades) → Adds (apply d c).remains (given (apply d c).quotes) (λ q. traded_with q (apply d c).trades)
applied_quotes d (enter e) a = a
applied_quotes d (offer o) a = adds_pushed _ _ _ o.quantity _ (quotes_kept d (offer o)) a
applied_quotes d (pull u q) a = adds_kept _ _ _ _ (quotes_kept d (pull u q)) a
applied_quotes d (cancel u n) a = adds_kept _ _ _ _ (quotes_kept d (cancel u n)) a
applied_quotes d (accept k) a =
    let line = in_order d k.request (once (named k.quotes)) in
    let t = fills_by_turns d k.request line in
    let f = fills_of d k in
    adds_kept _ _ _ _ (quotes_kept d (accept k))
    (adds_moved d.remains _ _ _ (λ q. traded_with q f.trades) _ (turns_long d _ _ _ line _ _ _ t)
    (λ q. turns_with d _ _ _ line _ _ _ q t)
    (λ q. sum_append (with_quote q) d.trades f.trades)
    a)
applied_quotes d (file p) a =
    adds_moved d.remains d.remains _ _ (λ q. 0) _ refl (λ q. omega arith)
    (λ q. let e = sum_filed (with_quote q) (λ t. refl) (p.last + 1 - p.first) d.trades p.first in omega arith)
    a
applied_quotes d (post p) a = a
applied_quotes d (move_clock t) a = adds_kept _ _ _ _ (quotes_kept d (move_clock t)) a
applied_quotes d (ask_price k) a = a
applied_quotes d (view u room) a = a
applied_quotes d (book u n room) a = a
applied_quotes d close a = adds_kept _ _ _ _ (quotes_kept d close) a

-- every call keeps it, carried out or refused
pub next_kept : (d : Day) (c : Call) (q : Result Reply Refusal) → Kept d → Kept (next_by d c q)
next_kept d c (Ok r) k = record { requests = applied_requests d c k.requests; quotes = applied_quotes d c k.quotes }
next_kept d c (Err e) k = k

after_kept : (cs : List Call) (d : Day) → Kept d → Kept (after d cs)
after_kept [] d k = k
after_kept (c ∷ cs) d k = after_kept cs (next d c) (next_kept d c (answer d c) k)

pub nothing_yet : Adds [] [] (λ n. 0)
nothing_yet = record { long = refl; each = λ n. omega arith }

pub quantities_add_up : QuantitiesAddUp
quantities_add_up o cs =
    let d = after (open_day o) cs in
    let k = after_kept cs (open_day o) (record { requests = nothing_yet; quotes = nothing_yet }) in
    record {
      requests = λ n. k.requests.each n ∙ sym (number_of (λ r. r.quantity) no_request refl d.requests n);
      quotes = λ q. k.quotes.each q ∙ sym (number_of (λ r. r.quantity) no_quote refl d.quotes q);
    }
