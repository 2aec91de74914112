-- Causes judged in two steps: those of the caller, and the room. Assumes nothing.
use Rattle.std.proofs.Common.{◌≡◌, ℕ, Bool, true, false, cond, ltb, List, [], ◌∷◌, ◌++◌, length, Ok, Err, Result, sym, refl, ap, ◌∙◌}
use Rattle.records.specs.declared.causes.Cause.{Cause}
use Rattle.records.specs.declared.causes.Cause.TheVariants.{BufferShort}
use Rattle.records.specs.Causes.{unless}
use Rattle.pages.specs.Paged.{Written, Fitted}

-- the first causes decide, and where none of them holds the rest do
pub first_then : {X : Type 0} (cs ds : List (Cause × Bool)) (x : X) → unless {X = Unit {0}} cs tt ≡ Ok tt → unless (cs ++ ds) x ≡ unless ds x
first_then [] ds x h = refl
first_then {X} (c ∷ cs) ds x h = by_test c.1 h (first_then cs ds x)
  where
    by_test : (b : Bool) → cond b (Err c.0) (unless {X = Unit {0}} cs tt) ≡ Ok tt → (unless {X = Unit {0}} cs tt ≡ Ok tt → unless (cs ++ ds) x ≡ unless ds x) → cond b (Err c.0) (unless (cs ++ ds) x) ≡ unless ds x
    by_test true k ih = cc
    by_test false k ih = ih k

pub first_stops : {X : Type 0} (cs ds : List (Cause × Bool)) (x : X) (e : Cause) → unless {X = Unit {0}} cs tt ≡ Err e → unless (cs ++ ds) x ≡ Err e
first_stops [] ds x e h = cc
first_stops {X} (c ∷ cs) ds x e h = by_test c.1 h (first_stops cs ds x e)
  where
    by_test : (b : Bool) → cond b (Err c.0) (unless {X = Unit {0}} cs tt) ≡ Err e → (unless {X = Unit {0}} cs tt ≡ Err e → unless (cs ++ ds) x ≡ Err e) → cond b (Err c.0) (unless (cs ++ ds) x) ≡ Err e
    by_test true k ih = let same : c.0 ≡ e = cc in ap Err same
    by_test false k ih = ih k

module _ (cs : List (Cause × Bool)) (page before : List ℕ) where
  abbrev room : List (Cause × Bool)
  room = (BufferShort, ltb (length before) (length page)) ∷ []

  pub admitted : (after : List ℕ) (r : Result ℕ Cause) → unless {X = Unit {0}} cs tt ≡ Ok tt → Fitted page before after r → Written (unless (cs ++ room) (length page)) page before after r
  admitted after r h w = record { answers = w.answers ∙ sym (first_then cs room (length page) h); buffer = w.buffer; front = w.front }

  pub turned_away : (e : Cause) → unless {X = Unit {0}} cs tt ≡ Err e → Written (unless (cs ++ room) (length page)) page before before (Err e)
  turned_away e h = record { answers = sym (first_stops cs room (length page) e h); buffer = refl; front = tt }
