-- A table has no more rows than places, and is its rows and what lies behind them. Assumes nothing.
use Rattle.std.proofs.Common.{◌≡◌, ℕ, ◌≤◌, ◌++◌, List, length, subst, sym, ap, ◌∙◌, arith}
use Rattle.std.proofs.Math.Bridge.{le_prop}
use Rattle.std.proofs.Math.Nat.{ℕ_set}
use Rattle.std.proofs.lemmas.List.{length-take-le, take-append-drop}
use Rattle.tables.specs.declared.table.Table.{Table}
use Rattle.tables.specs.Used.{spare, used}

pub used_few : {R : Type 0} {CAP : ℕ} (t : Table R CAP) → length (used t) ≤ CAP
unfolding used
used_few t = omega (arith, t.few, t.whole, length-take-le t.len t.rows (omega (arith, t.few, t.whole)))

-- that a count fits, and that an array is whole, has one proof at most
same_fields : {R : Type 0} {CAP : ℕ} (s t : Table R CAP) → s.rows ≡ t.rows → s.len ≡ t.len → s ≡ t
same_fields {R} {CAP} s t r l =
    subst (λ (ys : List R). (k : ℕ) (few : k ≤ CAP) (whole : length ys ≡ CAP) → s.len ≡ k → s ≡ record { rows = ys; len = k; few = few; whole = whole }) r
    (λ k few whole e. subst (λ (k : ℕ). (few : k ≤ CAP) → s ≡ record { rows = s.rows; len = k; few = few; whole = whole }) e
    (λ few i. record { rows = s.rows; len = s.len; few = le_prop s.few few i; whole = ℕ_set _ _ s.whole whole i }) few)
    t.len t.few t.whole l

-- nothing else is in a table
pub same_table : {R : Type 0} {CAP : ℕ} (s t : Table R CAP) → used s ≡ used t → spare s ≡ spare t → s ≡ t
unfolding used
same_table s t u b =
    let few = length-take-le s.len s.rows (omega (arith, s.few, s.whole)) in
    let few' = length-take-le t.len t.rows (omega (arith, t.few, t.whole)) in
    let long = ap length u in
    let rows = sym (take-append-drop s.len s.rows) ∙ ap (λ l. l ++ spare s) u ∙ ap (λ l. used t ++ l) b ∙ take-append-drop t.len t.rows in
    same_fields s t rows (omega (arith, few, few', long))
