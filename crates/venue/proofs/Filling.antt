-- The fills of an acceptance, turn by turn. Assumes nothing.
use Rattle.std.proofs.Common.{◌≡◌, ℕ, zero, suc, ◌+◌, ◌-◌, ◌<◌, ◌≤◌, min, Bool, true, false, cond, leb, ◌⊎◌, List, [], ◌∷◌, ◌++◌, get_or, set, fold, sym, refl, ◌∙◌, subst, inl, inr, ⊎_elim, append_assoc, append-nil, arith}
use Rattle.std.proofs.lemmas.Bool.{and_parts, and_cases, leb-true, leb-false}
use Rattle.venue.specs.declared.rows.Candidate.{Candidate}
use Rattle.venue.specs.declared.rows.Trade.{Trade}
use Rattle.venue.specs.Days.{Day, numbered, request_of, quote_of, open_of}
use Rattle.venue.specs.Trading.{Filled, renumbered, trade_of_fill, meets, turn, fills, total}
use Rattle.venue.specs.Laws.{Turns, Turns.finished, Turns.passed, Turns.traded, all_remaining, FillsByTurns, FillsAddUp}

module _ (d : Day) (n : ℕ) where
  -- from some state the turns add trades to those made before
  pub record Ran (f : Filled) (line : List Candidate) (g : Filled) : Type 0 where
    pub new : List Trade
    pub added : g.trades ≡ f.trades ++ new
    pub turns : Turns d n f.open_left f.remains line new g.open_left g.remains

  ran : (line : List Candidate) (f : Filled) → Ran f line (fold (turn d n) f line)
  ran [] f = record { new = []; added = sym (append-nil f.trades); turns = finished f.open_left f.remains }
  ran (c ∷ cs) f = by_test (meets fill least own) refl (ran cs)
    where
      fill : ℕ
      fill = min f.open_left (numbered 0 f.remains c.quote)

      least : ℕ
      least = (request_of d n).minimum

      own : ℕ
      own = (quote_of d c.quote).minimum

      taken : Filled
      taken =
          record {
            open_left = f.open_left - fill;
            remains = renumbered f.remains c.quote (numbered 0 f.remains c.quote - fill);
            trades = f.trades ++ trade_of_fill d n c fill ∷ [];
          }

      by_test : (b : Bool) → meets fill least own ≡ b → ((g : Filled) → Ran g cs (fold (turn d n) g cs)) → Ran f (c ∷ cs) (fold (turn d n) (cond b taken f) cs)
      by_test true e rest =
          let r = rest taken in
          let p = and_parts (leb least fill) (leb own fill) e in
          record {
            new = trade_of_fill d n c fill ∷ r.new;
            added = r.added ∙ append_assoc f.trades (trade_of_fill d n c fill ∷ []) r.new;
            turns = traded f.open_left f.remains c cs r.new _ _ (leb-true least fill p.0) (leb-true own fill p.1) r.turns;
          }
      by_test false e rest =
          let r = rest f in
          let short : (fill < least) ⊎ (fill < own) = ⊎_elim (λ h. inl (leb-false least fill h)) (λ h. inr (leb-false own fill h)) (and_cases (leb least fill) (leb own fill) e) in
          record {
            new = r.new;
            added = r.added;
            turns = passed f.open_left f.remains c cs r.new _ _ short r.turns;
          }

  abbrev start : Filled
  start = record { open_left = open_of d n; remains = d.remains; trades = [] }

pub fills_by_turns : FillsByTurns
fills_by_turns d n line =
    let r = ran d n line (start d n) in
    subst (λ ts. Turns d n (open_of d n) d.remains line ts (fills d n line).open_left (fills d n line).remains) (sym r.added) r.turns

-- what turns take of the request
pub turns_add : (d : Day) (n o : ℕ) (rs : List ℕ) (cs : List Candidate) (ts : List Trade) (o' : ℕ) (rs' : List ℕ) → Turns d n o rs cs ts o' rs' → total ts + o' ≡ o
turns_add d n o rs cs ts o' rs' (finished _ _) = omega arith
turns_add d n o rs cs ts o' rs' (passed _ _ c cs' _ _ _ h t) = turns_add d n o rs cs' ts o' rs' t
turns_add d n o rs cs ts o' rs' (traded _ _ c cs' ts' _ _ h k t) = let r = turns_add d n _ _ cs' ts' o' rs' t in omega arith

-- lower remaining quantities
abbrev Lower : List ℕ → List ℕ → Type 0
Lower xs ys = (q : ℕ) → numbered 0 xs q ≤ numbered 0 ys q

lower_sum : (xs ys : List ℕ) (cs : List Candidate) → Lower xs ys → all_remaining xs cs ≤ all_remaining ys cs
lower_sum xs ys [] h = omega arith
lower_sum xs ys (c ∷ cs) h = let here = h c.quote in let rest = lower_sum xs ys cs h in omega arith

set_lower : (xs : List ℕ) (i v k : ℕ) → v ≤ get_or xs i 0 → get_or (set xs i v) k 0 ≤ get_or xs k 0
set_lower [] i v k h = omega arith
set_lower (x ∷ xs) zero v zero h = h
set_lower (x ∷ xs) zero v (suc k) h = omega arith
set_lower (x ∷ xs) (suc i) v zero h = omega arith
set_lower (x ∷ xs) (suc i) v (suc k) h = set_lower xs i v k h

renumbered_lower : (xs : List ℕ) (q v : ℕ) → v ≤ numbered 0 xs q → Lower (renumbered xs q v) xs
renumbered_lower xs zero v h k = omega arith
renumbered_lower xs (suc q) v h zero = omega arith
renumbered_lower xs (suc q) v h (suc k) = set_lower xs q v k h

turns_within : (d : Day) (n o : ℕ) (rs : List ℕ) (cs : List Candidate) (ts : List Trade) (o' : ℕ) (rs' : List ℕ) → Turns d n o rs cs ts o' rs' → total ts ≤ all_remaining rs cs
turns_within d n o rs cs ts o' rs' (finished _ _) = omega arith
turns_within d n o rs cs ts o' rs' (passed _ _ c cs' _ _ _ h t) = let r = turns_within d n o rs cs' ts o' rs' t in omega arith
turns_within d n o rs cs ts o' rs' (traded _ _ c cs' ts' _ _ h k t) =
    let m = numbered 0 rs c.quote in
    let r = turns_within d n _ _ cs' ts' o' rs' t in
    let l = lower_sum (renumbered rs c.quote (m - min o m)) rs cs' (renumbered_lower rs c.quote (m - min o m) (omega arith)) in
    omega arith

pub fills_add_up : FillsAddUp
fills_add_up d n line =
    let t = fills_by_turns d n line in
    (turns_add d n _ _ line _ _ _ t, turns_within d n _ _ line _ _ _ t)
