-- The debt of an acceptance can be filed directly after it. Assumes nothing.
use Rattle.std.proofs.Common.{◌≡◌, ℕ, zero, suc, ◌+◌, ◌-◌, ◌<◌, ◌≤◌, Bool, true, false, cond, not, ◌&&◌, ◌||◌, eqb, ltb, List, [], ◌∷◌, ◌++◌, length, get_or, Some, Ok, Err, Option, Result, sym, refl, ap, ◌∙◌, arith}
use Rattle.std.proofs.Math.Bool.{and-true}
use Rattle.std.proofs.lemmas.Bool.Decides.{nat_tests}
use Rattle.records.specs.declared.causes.Refusal.{Refusal}
use Rattle.records.proofs.Unless.{granted, grants}
use Rattle.venue.specs.declared.rows.Acceptance.{Acceptance}
use Rattle.venue.specs.declared.rows.Report.{Report}
use Rattle.venue.specs.declared.rows.Trade.{Trade}
use Rattle.venue.specs.Calls.{Call.accept, Call.file, causes, fills_of, not_owed}
use Rattle.venue.specs.Days.{Day, no_trade, numbered}
use Rattle.venue.specs.Debts.{covered, debt_in, handed, marks, unfiled_at}
use Rattle.venue.specs.Model.{Reply, a_number, answer, answer_by, apply, judge, next, next_by}
use Rattle.venue.proofs.Owing.{call_owes}
use Rattle.venue.proofs.Replies.{judged, replied, reply_is}
use Rattle.transcript.specs.Laws.{Files}

neither : (a b : Bool) → a ≡ false → b ≡ false → (a || b) ≡ false
neither true b p q = p
neither false b p q = q

-- a trade with a mark is there, and is unfiled
there : (ts : List Trade) (i : ℕ) → 1 ≤ get_or (marks ts) i 0 → (i < length ts) × ((get_or ts i no_trade).filed ≡ false)
there [] i h = absurd (omega arith)
there (t ∷ ts) zero h = by_filed t.filed refl h
  where
    by_filed : (b : Bool) → t.filed ≡ b → 1 ≤ cond b 0 1 → (0 < length (t ∷ ts)) × (t.filed ≡ false)
    by_filed true e k = absurd (omega arith)
    by_filed false e k = (omega arith, e)
there (t ∷ ts) (suc i) h = let k = there ts i h in (omega arith, k.1)

owed : (ts : List Trade) (t : ℕ) → 1 ≤ numbered 0 (marks ts) t → (eqb t 0 || (ltb (length ts) t || (numbered no_trade ts t).filed)) ≡ false
owed ts zero h = absurd (omega arith)
owed ts (suc i) h =
    let k = there ts i h in
    let i-in = k.0 in
    let some : eqb (suc i) 0 ≡ false = grind (arith, nat_tests) in
    let inside : ltb (length ts) (suc i) ≡ false = grind (arith, nat_tests) in
    neither _ _ some (neither _ _ inside k.1)

all_owed : (n : ℕ) (ts : List Trade) (t : ℕ) → ((k : ℕ) → t ≤ k → k < t + n → 1 ≤ numbered 0 (marks ts) k) → not_owed ts t n ≡ false
all_owed zero ts t h = refl
all_owed (suc n) ts t h =
    neither _ _ (owed ts t (h t (omega arith) (omega arith))) (all_owed n ts (t + 1) (λ k p q. h k (omega arith) (omega arith)))

abbrev owed_for : Day → Acceptance → Report
owed_for d a =
    record {
      day = d.number;
      first = length d.trades + 1;
      last = length d.trades + length (fills_of d a).trades;
    }

module _ (d : Day) (a : Acceptance) (r : Reply) (e : answer d (accept a) ≡ Ok r) where
  owes : r.debt ≡ Some (owed_for d a)
  owes = ap (λ (s : Reply). s.debt) (reply_is _ r (replied d (accept a) (judge d (accept a)) r e))

  day_is : next d (accept a) ≡ apply d (accept a)
  day_is = ap (next_by d (accept a)) e

  -- an acceptance is carried out on a day that trades
  trades : d.closed ≡ false
  trades = let g = granted (causes d (accept a)) tt tt (judged d (accept a) (judge d (accept a)) r e) in sym (and-true d.closed) ∙ g.0.1.1.0

  -- each of its trades is unfiled
  marked : (k : ℕ) → length d.trades + 1 ≤ k → k < length d.trades + 1 + length (fills_of d a).trades → 1 ≤ unfiled_at (apply d (accept a)) k
  marked k p q =
      let more = (call_owes d (accept a) refl).more k in
      let now = ap (λ (x : Day). unfiled_at x k) day_is in
      let out = ap (λ (x : Result Reply Refusal). covered (handed x) d.number k) e ∙ ap (λ (o : Option Report). covered (debt_in o) d.number k) owes in
      let one : covered (owed_for d a ∷ []) d.number k ≡ 1 = grind (arith, nat_tests) in
      omega arith

  can_file : answer (apply d (accept a)) (file (owed_for d a)) ≡ a_number 0
  can_file =
      let n = length (fills_of d a).trades in
      let own : eqb d.number d.number ≡ true = grind (arith, nat_tests) in
      let count : (owed_for d a).last + 1 - (owed_for d a).first ≡ n = omega arith in
      let held = ap (λ (m : ℕ). not_owed (d.trades ++ (fills_of d a).trades) (length d.trades + 1) m) count ∙ all_owed n _ _ marked in
      ap (answer_by (apply d (accept a)) (file (owed_for d a))) (grants (causes (apply d (accept a)) (file (owed_for d a))) tt (ap (λ b. b && true) trades, (neither _ _ (ap not own) held, tt)))

pub files : Files
files d a r e = (owed_for d a, owes d a r e, ap (λ (x : Day). answer x (file (owed_for d a))) (day_is d a r e) ∙ can_file d a r e)

-- so no filing is refused there
pub never_refused : (d d' : Day) (a : Acceptance) (r : Reply) (p : Report) (e : Refusal) → Ok r ≡ answer d (accept a) → r.debt ≡ Some p → d' ≡ next d (accept a) → Err e ≡ answer d' (file p) → ⊥
never_refused d d' a r p e h owed-is day-then refused =
    let f = files d a r (sym h) in
    let debt = f.1 in
    let same : f.0 ≡ p = cc in
    let z : ◌≡◌ {A = Result Reply Refusal} (Err e) (a_number 0) = refused ∙ ap (λ (x : Day). answer x (file p)) day-then ∙ ap (λ (q : Report). answer (next d (accept a)) (file q)) (sym same) ∙ f.2 in
    let never : ◌≡◌ {A = ℕ} 0 1 = cc in
    omega arith
