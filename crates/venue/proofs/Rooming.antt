-- There is always room for the trades of an acceptance. Assumes nothing.
use Rattle.std.proofs.Common.{◌≡◌, ℕ, zero, suc, ◌+◌, ◌-◌, ◌<◌, ◌≤◌, min, Bool, true, false, cond, not, ◌&&◌, eqb, ltb, leb, ◌≢◌, ◌⊎◌, List, [], ◌∷◌, ◌++◌, map, length, get_or, set, Ok, Err, Result, sym, refl, ap, ◌∙◌, subst, inl, inr, ⊎_elim, append-nil, arith, length-append, eqb-true}
use lib.ListN.{length-map}
use Rattle.std.specs.List.{AllByRecursion as Every}
use Rattle.std.proofs.lemmas.Bool.{and_parts, or_parts, not-false, leb-true, leb-false, ltb-true}
use Rattle.std.proofs.lemmas.Bool.Decides.{nat_tests}
use Rattle.records.specs.declared.causes.Cause.TheVariants.{DayFull}
use Rattle.records.specs.declared.causes.Refusal.{Refusal}
use Rattle.records.proofs.Unless.{granted}
use Rattle.venue.specs.declared.rows.Acceptance.{Acceptance}
use Rattle.venue.specs.declared.rows.Candidate.{Candidate}
use Rattle.venue.specs.declared.rows.Offering.{Offering}
use Rattle.venue.specs.declared.rows.Quote.{Quote}
use Rattle.venue.specs.declared.rows.Request.{Request}
use Rattle.venue.specs.declared.rows.Trade.{Trade}
use Rattle.venue.specs.Days.{Day, numbered, no_request, no_quote, request_of, quote_of, is_open, quotable}
use Rattle.venue.specs.Trading.{renumbered, in_order}
use Rattle.venue.specs.Calls.{Call, Call.enter, Call.offer, Call.pull, Call.cancel, Call.accept, Call.file, Call.post, Call.move_clock, Call.ask_price, Call.view, Call.book, Call.close, minimum_of, amount, whenever, beyond, no_such_user, named, once, has_inexecutable, fills_of, causes}
use Rattle.venue.specs.Model.{Reply, open_day, judge, answer, apply, next_by, next, after}
use Rattle.venue.specs.Laws.{Among, LeastCause, Turns, Turns.finished, Turns.passed, Turns.traded}
use Rattle.venue.specs.Numbers.{TradesHaveRoom}
use Rattle.venue.proofs.Counting.{length_filed}
use Rattle.venue.proofs.Dealing.{Fit, fit_line, all_by, all_append}
use Rattle.venue.proofs.Ending.{quotes_after, new_quotes}
use Rattle.venue.proofs.Filling.{fills_by_turns, turns_add}
use Rattle.venue.proofs.Replies.{judged, length_renumbered}
use Rattle.venue.proofs.Staying.{numbered_front}
use Rattle.venue.proofs.Summing.{Kept, number_of, next_kept, nothing_yet, renumbered_at}
use Rattle.venue.proofs.Told.{told_causes}

-- a quote is free while something remains of it and its request has something open; w says what is open
abbrev is_free : (ℕ → ℕ) → ℕ → ℕ → ℕ
is_free w n m = cond (leb 1 m && leb 1 (w n)) 1 0

abbrev free : (ℕ → ℕ) → List ℕ → List ℕ → ℕ
free w [] ms = 0
free w (n ∷ ns) [] = 0
free w (n ∷ ns) (m ∷ ms) = is_free w n m + free w ns ms

-- less open, fewer free
less_free : (w v : ℕ → ℕ) (n m : ℕ) → v n ≤ w n → is_free v n m ≤ is_free w n m
less_free w v n m h = grind (arith, nat_tests)

free_lower : (w v : ℕ → ℕ) → ((k : ℕ) → v k ≤ w k) → (ns ms : List ℕ) → free v ns ms ≤ free w ns ms
free_lower w v h [] ms = omega arith
free_lower w v h (n ∷ ns) [] = omega arith
free_lower w v h (n ∷ ns) (m ∷ ms) = let here = less_free w v n m (h n) in let rest = free_lower w v h ns ms in omega arith

-- a fill takes one of the free ones away: nothing remains of it, or nothing is open
one_less : (w v : ℕ → ℕ) (n m m' : ℕ) → 1 ≤ m → 1 ≤ w n → (m' ≡ 0) ⊎ (v n ≡ 0) → is_free v n m' + 1 ≡ is_free w n m
one_less w v n m m' hm hw (inl z) = grind (arith, nat_tests)
one_less w v n m m' hm hw (inr z) = grind (arith, nat_tests)

free_drop : (w v : ℕ → ℕ) → ((k : ℕ) → v k ≤ w k) → (ns ms : List ℕ) (i m' : ℕ) → i < length ns → 1 ≤ get_or ms i 0 → 1 ≤ w (get_or ns i 0) → (m' ≡ 0) ⊎ (v (get_or ns i 0) ≡ 0) → free v ns (set ms i m') + 1 ≤ free w ns ms
free_drop w v h [] ms i m' l a b z = absurd (omega arith)
free_drop w v h (n ∷ ns) [] i m' l a b z = absurd (omega arith)
free_drop w v h (n ∷ ns) (m ∷ ms) zero m' l a b z = let here = one_less w v n m m' a b z in let rest = free_lower w v h ns ms in omega arith
free_drop w v h (n ∷ ns) (m ∷ ms) (suc i) m' l a b z =
    let here = less_free w v n m (h n) in
    let rest = free_drop w v h ns ms i m' (omega arith) a b z in
    omega arith

free_drop_number : (w v : ℕ → ℕ) → ((k : ℕ) → v k ≤ w k) → (ns ms : List ℕ) (q m' : ℕ) → 1 ≤ q → q ≤ length ns → 1 ≤ numbered 0 ms q → 1 ≤ w (numbered 0 ns q) → (m' ≡ 0) ⊎ (v (numbered 0 ns q) ≡ 0) → free v ns (renumbered ms q m') + 1 ≤ free w ns ms
free_drop_number w v h ns ms zero m' p l a b z = absurd (omega arith)
free_drop_number w v h ns ms (suc i) m' p l a b z = free_drop w v h ns ms i m' (omega arith) a b z

-- what is open, with another quantity for one request
abbrev with_open : List ℕ → ℕ → ℕ → ℕ → ℕ
with_open os n o k = cond (eqb n k) o (numbered 0 os k)

with_lower : (os : List ℕ) (n o o' : ℕ) → o' ≤ o → (k : ℕ) → with_open os n o' k ≤ with_open os n o k
with_lower os n o o' h k = grind (arith, nat_tests)

with_own : (os : List ℕ) (n o : ℕ) → with_open os n o n ≡ o
with_own os n o = grind (arith, nat_tests)

-- a candidate that is a quote of the request, with a minimum of at least 1
pub record Standing (d : Day) (n : ℕ) (ns : List ℕ) (c : Candidate) : Type 0 where
  pub first : 1 ≤ c.quote
  pub last : c.quote ≤ length ns
  pub quoted : numbered 0 ns c.quote ≡ n
  pub least : 1 ≤ (quote_of d c.quote).minimum

one_empty : (o m : ℕ) → (m - min o m ≡ 0) ⊎ (o - min o m ≡ 0)
one_empty o m = by_test (leb o m) refl
  where
    by_test : (b : Bool) → leb o m ≡ b → (m - min o m ≡ 0) ⊎ (o - min o m ≡ 0)
    by_test true e = let h = leb-true o m e in inr (omega arith)
    by_test false e = let h = leb-false o m e in inl (omega arith)

-- every trade of the turns takes one free quote away
turns_free : (d : Day) (os ns : List ℕ) (n o : ℕ) (rs : List ℕ) (cs : List Candidate) (ts : List Trade) (o' : ℕ) (rs' : List ℕ) → Turns d n o rs cs ts o' rs' → Every (Standing d n ns) cs → length ts + free (with_open os n o') ns rs' ≤ free (with_open os n o) ns rs
turns_free d os ns n o rs cs ts o' rs' (finished _ _) s = omega arith
turns_free d os ns n o rs cs ts o' rs' (passed _ _ c cs' _ _ _ h t) s = turns_free d os ns n o rs cs' ts o' rs' t s.1
turns_free d os ns n o rs cs ts o' rs' (traded _ _ c cs' ts' _ _ h k t) s =
    let m = numbered 0 rs c.quote in
    let fill = min o m in
    let own = s.0.least in
    let rest = turns_free d os ns n (o - fill) (renumbered rs c.quote (m - fill)) cs' ts' o' rs' t s.1 in
    let is = s.0.quoted in
    let was : with_open os n o (numbered 0 ns c.quote) ≡ o = ap (with_open os n o) is ∙ with_own os n o in
    let now : with_open os n (o - fill) (numbered 0 ns c.quote) ≡ o - fill = ap (with_open os n (o - fill)) is ∙ with_own os n (o - fill) in
    let gone : (m - fill ≡ 0) ⊎ (with_open os n (o - fill) (numbered 0 ns c.quote) ≡ 0) = ⊎_elim inl (λ z. inr (now ∙ z)) (one_empty o m) in
    let here = free_drop_number (with_open os n o) (with_open os n (o - fill)) (with_lower os n o (o - fill) (omega arith)) ns rs c.quote (m - fill) s.0.first s.0.last (omega arith) (omega arith) gone in
    omega arith

-- the same open quantities, the same free ones
free_same : (w v : ℕ → ℕ) (ns ms : List ℕ) → Every (λ n. v n ≡ w n) ns → free v ns ms ≡ free w ns ms
free_same w v [] ms h = refl
free_same w v (n ∷ ns) [] h = refl
free_same w v (n ∷ ns) (m ∷ ms) h = let here : is_free v n m ≡ is_free w n m = ap (λ x. cond (leb 1 m && leb 1 x) 1 0) h.0 in let rest = free_same w v ns ms h.1 in omega arith

free_push : (w : ℕ → ℕ) (ns ms : List ℕ) (n m : ℕ) → length ms ≡ length ns → free w (ns ++ n ∷ []) (ms ++ m ∷ []) ≤ free w ns ms + 1
free_push w [] [] n m h = let one : is_free w n m ≤ 1 = grind (arith, nat_tests) in omega arith
free_push w [] (k ∷ ms) n m h = absurd (omega arith)
free_push w (k ∷ ns) [] n m h = absurd (omega arith)
free_push w (k ∷ ns) (l ∷ ms) n m h = let rest = free_push w ns ms n m (omega arith) in omega arith

every : {X : Type 0} (P : X → Type 0) → ((x : X) → P x) → (xs : List X) → Every P xs
every P f [] = tt
every P f (x ∷ xs) = (f x, every P f xs)

-- the quotes' requests are there, their minimums are at least 1, and there are no more trades than quotes that are not free
pub record Room (opens asks leasts remains : List ℕ) (trades : ℕ) : Type 0 where
  pub within : Every (λ n. n ≤ length opens) asks
  pub least : Every (λ m. 1 ≤ m) leasts
  pub spare : trades + free (numbered 0 opens) asks remains ≤ length asks
  pub full : length asks ≤ 512

room_same : (os ns ns' ls ls' ms : List ℕ) (k k' : ℕ) → ns' ≡ ns ++ [] → ls' ≡ ls ++ [] → k' ≡ k → Room os ns ls ms k → Room os ns' ls' ms k'
room_same os ns ns' ls ls' ms k k' en el ek r =
    subst (λ a. Room os a ls' ms k') (sym (en ∙ append-nil ns))
    (subst (λ a. Room os ns a ms k') (sym (el ∙ append-nil ls)) (subst (λ a. Room os ns ls ms a) (sym ek) r))

room_entered : (os ns ns' ls ls' ms : List ℕ) (v k : ℕ) → ns' ≡ ns ++ [] → ls' ≡ ls ++ [] → Room os ns ls ms k → Room (os ++ v ∷ []) ns' ls' ms k
room_entered os ns ns' ls ls' ms v k en el r =
    room_same (os ++ v ∷ []) ns ns' ls ls' ms k k en el refl
    (record {
      within = all_by (λ n. n ≤ length os) (λ n. n ≤ length (os ++ v ∷ [])) ns (λ n h. let l = length-append os (v ∷ []) in omega arith) r.within;
      least = r.least;
      spare =
          let same = free_same (numbered 0 os) (numbered 0 (os ++ v ∷ [])) ns ms (all_by (λ n. n ≤ length os) (λ n. numbered 0 (os ++ v ∷ []) n ≡ numbered 0 os n) ns (numbered_front 0 os (v ∷ [])) r.within) in
          let s = r.spare in
          omega arith;
      full = r.full;
    })

room_offered : (os ns ns' ls ls' ms : List ℕ) (n l m k : ℕ) → length ms ≡ length ns → n ≤ length os → 1 ≤ l → length ns < 512 → ns' ≡ ns ++ n ∷ [] → ls' ≡ ls ++ l ∷ [] → Room os ns ls ms k → Room os ns' ls' (ms ++ m ∷ []) k
room_offered os ns ns' ls ls' ms n l m k long there least room en el r =
    subst (λ a. Room os a ls' (ms ++ m ∷ []) k) (sym en)
    (subst (λ a. Room os (ns ++ n ∷ []) a (ms ++ m ∷ []) k) (sym el)
    (record {
      within = all_append (λ i. i ≤ length os) ns (n ∷ []) r.within (there, tt);
      least = all_append (λ i. 1 ≤ i) ls (l ∷ []) r.least (least, tt);
      spare = let p = free_push (numbered 0 os) ns ms n m long in let s = r.spare in let e = length-append ns (n ∷ []) in omega arith;
      full = let e = length-append ns (n ∷ []) in omega arith;
    }))

-- another open quantity, not above the old one, seen at a number
renumbered_is : (os : List ℕ) (n o k : ℕ) → o ≤ numbered 0 os n → numbered 0 (renumbered os n o) k ≡ with_open os n o k
renumbered_is os n o k h =
    let whole = numbered 0 os n in
    let e = renumbered_at os n o (whole - o) k (omega arith) in
    by_test (eqb n k) refl e
  where
    by_test : (b : Bool) → eqb n k ≡ b → numbered 0 (renumbered os n o) k + cond (eqb n k) (numbered 0 os n - o) 0 ≡ numbered 0 os k → numbered 0 (renumbered os n o) k ≡ cond b o (numbered 0 os k)
    by_test true t e =
        let same : numbered 0 os n ≡ numbered 0 os k = ap (numbered 0 os) (eqb-true n k t) in
        let part : cond (eqb n k) (numbered 0 os n - o) 0 ≡ numbered 0 os n - o = ap (λ b. cond b (numbered 0 os n - o) 0) t in
        omega arith
    by_test false t e =
        let part : cond (eqb n k) (numbered 0 os n - o) 0 ≡ 0 = ap (λ b. cond b (numbered 0 os n - o) 0) t in
        omega arith

with_old : (os : List ℕ) (n k : ℕ) → with_open os n (numbered 0 os n) k ≡ numbered 0 os k
with_old os n k = by_test (eqb n k) refl
  where
    by_test : (b : Bool) → eqb n k ≡ b → cond b (numbered 0 os n) (numbered 0 os k) ≡ numbered 0 os k
    by_test true t = ap (numbered 0 os) (eqb-true n k t)
    by_test false t = refl

-- after the turns of quotes that stand there are as many trades more as there are free quotes fewer
turns_spare : (d : Day) (os ns : List ℕ) (n : ℕ) (rs : List ℕ) (cs : List Candidate) (ts : List Trade) (o' : ℕ) (rs' : List ℕ) → Turns d n (numbered 0 os n) rs cs ts o' rs' → Every (Standing d n ns) cs → length ts + free (numbered 0 (renumbered os n o')) ns rs' ≤ free (numbered 0 os) ns rs
turns_spare d os ns n rs cs ts o' rs' t s =
    let sum = turns_add d n _ rs cs ts o' rs' t in
    let new = free_same (with_open os n o') (numbered 0 (renumbered os n o')) ns rs' (every (λ k. numbered 0 (renumbered os n o') k ≡ with_open os n o' k) (λ k. renumbered_is os n o' k (omega arith)) ns) in
    let old = free_same (numbered 0 os) (with_open os n (numbered 0 os n)) ns rs (every (λ k. with_open os n (numbered 0 os n) k ≡ numbered 0 os k) (with_old os n) ns) in
    let less = turns_free d os ns n _ rs cs ts o' rs' t s in
    omega arith

room_traded : (d : Day) (os ns ns' ls ls' : List ℕ) (n : ℕ) (rs : List ℕ) (cs : List Candidate) (ts : List Trade) (o' : ℕ) (rs' : List ℕ) (k k' : ℕ) → Turns d n (numbered 0 os n) rs cs ts o' rs' → Every (Standing d n ns) cs → ns' ≡ ns ++ [] → ls' ≡ ls ++ [] → k' ≡ k + length ts → Room os ns ls rs k → Room (renumbered os n o') ns' ls' rs' k'
room_traded d os ns ns' ls ls' n rs cs ts o' rs' k k' t s en el ek r =
    room_same (renumbered os n o') ns ns' ls ls' rs' (k + length ts) k' en el ek
    (record {
      within = all_by (λ i. i ≤ length os) (λ i. i ≤ length (renumbered os n o')) ns (λ i h. let l = length_renumbered os n o' in omega arith) r.within;
      least = r.least;
      spare = let p = turns_spare d os ns n rs cs ts o' rs' t s in let q = r.spare in omega arith;
      full = r.full;
    })

-- the same of a day
abbrev asks : List Quote → List ℕ
asks qs = map (λ q. q.request) qs

abbrev leasts : List Quote → List ℕ
leasts qs = map (λ q. q.minimum) qs

abbrev room : Day → Type 0
room d = Room d.opens (asks d.quotes) (leasts d.quotes) d.remains (length d.trades)

-- what is open or live is there
open_in : (rs : List Request) (n : ℕ) → is_open (numbered no_request rs n).life ≡ true → n ≤ length rs
open_in rs zero h = omega arith
open_in [] (suc i) h = let z : ◌≡◌ {A = ℕ} 0 1 = cc in absurd (omega arith)
open_in (r ∷ rs) (suc zero) h = omega arith
open_in (r ∷ rs) (suc (suc i)) h = let e = open_in rs (suc i) h in omega arith

live_in : (qs : List Quote) (q : ℕ) → (numbered no_quote qs q).live ≡ true → (1 ≤ q) × (q ≤ length qs)
live_in qs zero h = let z : ◌≡◌ {A = ℕ} 0 1 = cc in absurd (omega arith)
live_in [] (suc i) h = let z : ◌≡◌ {A = ℕ} 0 1 = cc in absurd (omega arith)
live_in (x ∷ qs) (suc zero) h = (omega arith, omega arith)
live_in (x ∷ qs) (suc (suc i)) h = let e = (live_in qs (suc i) h).1 in (omega arith, omega arith)

all_at : (P : ℕ → Type 0) (xs : List ℕ) (n : ℕ) → 1 ≤ n → n ≤ length xs → Every P xs → P (numbered 0 xs n)
all_at P xs zero h k a = absurd (omega arith)
all_at P [] (suc i) h k a = absurd (omega arith)
all_at P (x ∷ xs) (suc zero) h k a = a.0
all_at P (x ∷ xs) (suc (suc i)) h k a = all_at P xs (suc i) (omega arith) (omega arith) a.1

standing : (d : Day) (n : ℕ) (c : Candidate) → room d → Fit d n c → Standing d n (asks d.quotes) c
standing d n c r f =
    let q = c.quote in
    let parts = and_parts (is_open (request_of d n).life && ((quote_of d q).live && eqb (quote_of d q).request n)) _ f.0 in
    let quote = and_parts (quote_of d q).live _ (and_parts (is_open (request_of d n).life) _ parts.0).1 in
    let there = live_in d.quotes q quote.0 in
    let first = there.0 in
    let last = there.1 in
    let la = length-map d.quotes (λ x. x.request) in
    let ll = length-map d.quotes (λ x. x.minimum) in
    record {
      first = first;
      last = omega arith;
      quoted = sym (number_of (λ x. x.request) no_quote refl d.quotes q) ∙ eqb-true (quote_of d q).request n quote.1;
      least = subst (λ m. 1 ≤ m) (sym (number_of (λ x. x.minimum) no_quote refl d.quotes q)) (all_at (λ m. 1 ≤ m) (leasts d.quotes) q first (omega arith) r.least);
    }

all_standing : (d : Day) (n : ℕ) (qs : List ℕ) → room d → has_inexecutable d n qs ≡ false → Every (Standing d n (asks d.quotes)) (in_order d n (once qs))
all_standing d n qs r h = all_by (Fit d n) (Standing d n (asks d.quotes)) (in_order d n (once qs)) (λ c f. standing d n c r f) (fit_line d n qs h)

asks_after : (d : Day) (c : Call) → asks (apply d c).quotes ≡ asks d.quotes ++ asks (new_quotes c)
asks_after d c = quotes_after (λ q. q.request) (λ q. refl) d c

leasts_after : (d : Day) (c : Call) → leasts (apply d c).quotes ≡ leasts d.quotes ++ leasts (new_quotes c)
leasts_after d c = quotes_after (λ q. q.minimum) (λ q. refl) d c

offer_room : (d : Day) (o : Offering) (r : Reply) → answer d (offer o) ≡ Ok r → Kept d → room d → room (apply d (offer o))
offer_room d o r e k h =
    let g = (granted (causes d (offer o)) tt tt (judged d (offer o) (judge d (offer o)) r e)).0 in
    let range = g.1.1.1.0 in
    let r1 = (or_parts (no_such_user o.user) _ range).1 in
    let r2 = (or_parts (not (amount o.quantity)) _ r1).1 in
    let r3 = (or_parts (whenever o.selling beyond) _ r2).1 in
    let r4 = (or_parts (whenever o.buying beyond) _ r3).1 in
    let least = not-false (amount (minimum_of o.minimum)) (or_parts (not (amount (minimum_of o.minimum))) _ r4).0 in
    let stands = not-false (quotable d o.user o.request) g.1.1.1.1.1.1.1.1.0 in
    let there = open_in d.requests o.request (and_parts (is_open (request_of d o.request).life) _ stands).0 in
    let space = leb-false 512 (length d.quotes) g.1.1.1.1.1.1.1.1.1.1.0 in
    let lo = k.requests.long in
    let lr = length-map d.requests (λ x. x.quantity) in
    let lm = k.quotes.long in
    let lg = length-map d.quotes (λ x. x.quantity) in
    let la = length-map d.quotes (λ x. x.request) in
    room_offered d.opens (asks d.quotes) _ (leasts d.quotes) _ d.remains o.request (minimum_of o.minimum) o.quantity (length d.trades)
    (omega arith) (omega arith) (leb-true 1 (minimum_of o.minimum) (and_parts (leb 1 (minimum_of o.minimum)) _ least).0) (omega arith)
    (asks_after d (offer o)) (leasts_after d (offer o)) h

applied_room : (d : Day) (c : Call) (r : Reply) → answer d c ≡ Ok r → Kept d → room d → room (apply d c)
applied_room d (enter e) r a k h = room_entered d.opens _ _ _ _ d.remains e.quantity _ (asks_after d (enter e)) (leasts_after d (enter e)) h
applied_room d (offer o) r a k h = offer_room d o r a k h
applied_room d (pull u q) r a k h = room_same d.opens _ _ _ _ d.remains _ _ (asks_after d (pull u q)) (leasts_after d (pull u q)) refl h
applied_room d (cancel u n) r a k h = room_same d.opens _ _ _ _ d.remains _ _ (asks_after d (cancel u n)) (leasts_after d (cancel u n)) refl h
applied_room d (accept x) r a k h =
    let g = (granted (causes d (accept x)) tt tt (judged d (accept x) (judge d (accept x)) r a)).0 in
    let line = in_order d x.request (once (named x.quotes)) in
    room_traded d d.opens _ _ _ _ x.request d.remains line _ _ _ _ _ (fills_by_turns d x.request line)
    (all_standing d x.request (named x.quotes) h g.1.1.1.1.1.1.0)
    (asks_after d (accept x)) (leasts_after d (accept x)) (length-append d.trades (fills_of d x).trades) h
applied_room d (file p) r a k h = room_same d.opens _ _ _ _ d.remains _ _ (asks_after d (file p)) (leasts_after d (file p)) (length_filed (p.last + 1 - p.first) d.trades p.first) h
applied_room d (post p) r a k h = h
applied_room d (move_clock t) r a k h = room_same d.opens _ _ _ _ d.remains _ _ (asks_after d (move_clock t)) (leasts_after d (move_clock t)) refl h
applied_room d (ask_price q) r a k h = h
applied_room d (view u n) r a k h = h
applied_room d (book u n m) r a k h = h
applied_room d close r a k h = room_same d.opens _ _ _ _ d.remains _ _ (asks_after d close) (leasts_after d close) refl h

next_room : (d : Day) (c : Call) (q : Result Reply Refusal) → answer d c ≡ q → Kept d → room d → room (next_by d c q)
next_room d c (Ok r) e k h = applied_room d c r e k h
next_room d c (Err x) e k h = h

after_room : (cs : List Call) (d : Day) → Kept d → room d → room (after d cs)
after_room [] d k h = h
after_room (c ∷ cs) d k h = after_room cs (next d c) (next_kept d c (answer d c) k) (next_room d c (answer d c) refl k h)

-- the cause of a full day is that of the trades
full_cause : (d : Day) (a : Acceptance) → Among DayFull (causes d (accept a)) → ltb 512 (length d.trades + length (fills_of d a).trades) ≡ true
full_cause d a (inl x) = let z : ◌≡◌ {A = ℕ} 0 1 = cc in absurd (omega arith)
full_cause d a (inr (inl x)) = let z : ◌≡◌ {A = ℕ} 0 1 = cc in absurd (omega arith)
full_cause d a (inr (inr (inl x))) = let z : ◌≡◌ {A = ℕ} 0 1 = cc in absurd (omega arith)
full_cause d a (inr (inr (inr (inl x)))) = let z : ◌≡◌ {A = ℕ} 0 1 = cc in absurd (omega arith)
full_cause d a (inr (inr (inr (inr (inl x))))) = let z : ◌≡◌ {A = ℕ} 0 1 = cc in absurd (omega arith)
full_cause d a (inr (inr (inr (inr (inr (inl x)))))) = let z : ◌≡◌ {A = ℕ} 0 1 = cc in absurd (omega arith)
full_cause d a (inr (inr (inr (inr (inr (inr (inl x))))))) = let z : ◌≡◌ {A = ℕ} 0 1 = cc in absurd (omega arith)
full_cause d a (inr (inr (inr (inr (inr (inr (inr (inl x)))))))) = x.1
full_cause d a (inr (inr (inr (inr (inr (inr (inr (inr (inl x))))))))) = let z : ◌≡◌ {A = ℕ} 0 1 = cc in absurd (omega arith)
full_cause d a (inr (inr (inr (inr (inr (inr (inr (inr (inr (inl x)))))))))) = let z : ◌≡◌ {A = ℕ} 0 1 = cc in absurd (omega arith)
full_cause d a (inr (inr (inr (inr (inr (inr (inr (inr (inr (inr x)))))))))) = absurd x

never_full : (d : Day) (a : Acceptance) → room d → judge d (accept a) ≢ Err DayFull
never_full d a h e = by_test (has_inexecutable d a.request (named a.quotes)) refl
  where
    told : LeastCause DayFull (causes d (accept a))
    told = told_causes d (accept a) DayFull e

    by_test : (b : Bool) → has_inexecutable d a.request (named a.quotes) ≡ b → ⊥
    by_test true t = let bad : 20 ≤ 19 = told.least.1.1.1.1.1.1.0 t in absurd (omega arith)
    by_test false t =
        let line = in_order d a.request (once (named a.quotes)) in
        let fewer = turns_spare d d.opens (asks d.quotes) a.request d.remains line _ _ _ (fills_by_turns d a.request line) (all_standing d a.request (named a.quotes) h t) in
        let many = ltb-true 512 (length d.trades + length (fills_of d a).trades) (full_cause d a told.holds) in
        let spare = h.spare in
        let full = h.full in
        absurd (omega arith)

pub trades_have_room : TradesHaveRoom
trades_have_room o cs a =
    never_full (after (open_day o) cs) a
    (after_room cs (open_day o) (record { requests = nothing_yet; quotes = nothing_yet })
    (record { within = tt; least = tt; spare = omega arith; full = omega arith }))
