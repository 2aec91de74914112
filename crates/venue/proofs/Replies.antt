-- What is known of an answer that is given, and of lists with one row changed. Assumes nothing.
use Rattle.std.proofs.Common.{◌≡◌, ℕ, zero, suc, List, length, None, Ok, Err, Result, refl, ap, arith, length-set}
use Rattle.records.specs.declared.causes.Cause.{Cause}
use Rattle.records.specs.declared.causes.Refusal.{Refusal}
use Rattle.venue.specs.Days.{Day}
use Rattle.venue.specs.Trading.{renumbered}
use Rattle.venue.specs.Calls.{Call}
use Rattle.venue.specs.Model.{Reply, reply, answer_by, a_price_of}

-- it comes from the reply, and nothing was against it
pub replied : (d : Day) (c : Call) (v : Result Unit Cause) (r : Reply) → answer_by d c v ≡ Ok r → reply d c ≡ Ok r
replied d c (Ok x) r e = e
replied d c (Err x) r e = let z : ◌≡◌ {A = ℕ} 0 1 = cc in absurd (omega arith)

pub judged : (d : Day) (c : Call) (v : Result Unit Cause) (r : Reply) → answer_by d c v ≡ Ok r → v ≡ Ok tt
judged d c (Ok x) r e = refl
judged d c (Err x) r e = let z : ◌≡◌ {A = ℕ} 0 1 = cc in absurd (omega arith)

pub reply_is : (r s : Reply) → ◌≡◌ {A = Result Reply Refusal} (Ok r) (Ok s) → s ≡ r
reply_is r s e = cc

-- a price owes nothing
pub priced_only : (q : Result ℕ Refusal) (r : Reply) → a_price_of q ≡ Ok r → r.debt ≡ None
priced_only (Ok n) r h = ap (λ (s : Reply). s.debt) (reply_is _ r h)
priced_only (Err e) r h = let z : ◌≡◌ {A = ℕ} 0 1 = cc in absurd (omega arith)

pub length_renumbered : {X : Type 0} (xs : List X) (n : ℕ) (x : X) → length (renumbered xs n x) ≡ length xs
length_renumbered xs zero x = refl
length_renumbered xs (suc n) x = length-set xs n x
