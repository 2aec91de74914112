-- Which refusal comes. Assumes nothing.
use Rattle.std.proofs.Common.{◌≡◌, ℕ, ◌≤◌, Bool, true, false, cond, List, [], ◌∷◌, Err, Result, refl, ap, subst, inl, inr, arith, lit≤}
use Rattle.std.specs.List.{AllByRecursion as Every}
use Rattle.records.specs.declared.causes.Cause.{Cause}
use Rattle.records.specs.Causes.{number, unless}
use Rattle.records.proofs.Unless.{grants}
use Rattle.venue.specs.Days.{Day}
use Rattle.venue.specs.Calls.{Call, Call.enter, Call.offer, Call.pull, Call.cancel, Call.accept, Call.file, Call.post, Call.move_clock, Call.ask_price, Call.view, Call.book, Call.close, causes}
use Rattle.venue.specs.Model.{next_by}
use Rattle.venue.specs.Laws.{RefusedLeaves, LeastCause, ToldCauses, Granted}

pub refused_leaves : RefusedLeaves
refused_leaves d c e h = ap (next_by d c) h

pub when_granted : Granted
when_granted d c h = grants (causes d c) tt h

-- the numbers of a list of causes go up
abbrev Ascends : List (Cause × Bool) → Type 0
Ascends [] = Unit {0}
Ascends (x ∷ xs) = Every (λ y. number x.0 ≤ number y.0) xs × Ascends xs

below : (n : ℕ) (xs : List (Cause × Bool)) → Every (λ y. n ≤ number y.0) xs → Every (λ y. y.1 ≡ true → n ≤ number y.0) xs
below n [] h = tt
below n (x ∷ xs) h = (λ t. h.0, below n xs h.1)

-- the verdict of a list of causes
abbrev verdict : List (Cause × Bool) → Result Unit Cause
verdict cs = unless cs tt

same_cause : (x e : Cause) → ◌≡◌ {A = Result Unit Cause} (Err x) (Err e) → x ≡ e
same_cause x e h = cc

first_is_least : (cs : List (Cause × Bool)) (e : Cause) → Ascends cs → verdict cs ≡ Err e → LeastCause e cs
first_is_least [] e a h = let z : ◌≡◌ {A = ℕ} 0 1 = cc in absurd (omega arith)
first_is_least (x ∷ xs) e a h = by_test x.1 refl h (first_is_least xs e a.1)
  where
    by_test : (b : Bool) → x.1 ≡ b → cond b (Err x.0) (verdict xs) ≡ Err e → (verdict xs ≡ Err e → LeastCause e xs) → LeastCause e (x ∷ xs)
    by_test true t k rest =
        let is = same_cause x.0 e k in
        record { holds = inl (is, t); least = subst (λ c. Every (λ y. y.1 ≡ true → number c ≤ number y.0) (x ∷ xs)) is (λ u. omega arith, below (number x.0) xs a.0) }
    by_test false t k rest =
        let r = rest k in
        record { holds = inr r.holds; least = (λ u. let z : ◌≡◌ {A = ℕ} 0 1 = cc in absurd (omega arith), r.least) }

-- the causes of every call stand in the order of their numbers
ascending : (d : Day) (c : Call) → Ascends (causes d c)
ascending d (enter e) = ((lit≤ tt, (lit≤ tt, (lit≤ tt, (lit≤ tt, (lit≤ tt, (lit≤ tt, (lit≤ tt, (lit≤ tt, (lit≤ tt, tt))))))))), ((lit≤ tt, (lit≤ tt, (lit≤ tt, (lit≤ tt, (lit≤ tt, (lit≤ tt, (lit≤ tt, (lit≤ tt, tt)))))))), ((lit≤ tt, (lit≤ tt, (lit≤ tt, (lit≤ tt, (lit≤ tt, (lit≤ tt, (lit≤ tt, tt))))))), ((lit≤ tt, (lit≤ tt, (lit≤ tt, (lit≤ tt, (lit≤ tt, (lit≤ tt, tt)))))), ((lit≤ tt, (lit≤ tt, (lit≤ tt, (lit≤ tt, (lit≤ tt, tt))))), ((lit≤ tt, (lit≤ tt, (lit≤ tt, (lit≤ tt, tt)))), ((lit≤ tt, (lit≤ tt, (lit≤ tt, tt))), ((lit≤ tt, (lit≤ tt, tt)), ((lit≤ tt, tt), (tt, tt))))))))))
ascending d (offer o) = ((lit≤ tt, (lit≤ tt, (lit≤ tt, (lit≤ tt, (lit≤ tt, (lit≤ tt, (lit≤ tt, (lit≤ tt, (lit≤ tt, (lit≤ tt, (lit≤ tt, (lit≤ tt, tt)))))))))))), ((lit≤ tt, (lit≤ tt, (lit≤ tt, (lit≤ tt, (lit≤ tt, (lit≤ tt, (lit≤ tt, (lit≤ tt, (lit≤ tt, (lit≤ tt, (lit≤ tt, tt))))))))))), ((lit≤ tt, (lit≤ tt, (lit≤ tt, (lit≤ tt, (lit≤ tt, (lit≤ tt, (lit≤ tt, (lit≤ tt, (lit≤ tt, (lit≤ tt, tt)))))))))), ((lit≤ tt, (lit≤ tt, (lit≤ tt, (lit≤ tt, (lit≤ tt, (lit≤ tt, (lit≤ tt, (lit≤ tt, (lit≤ tt, tt))))))))), ((lit≤ tt, (lit≤ tt, (lit≤ tt, (lit≤ tt, (lit≤ tt, (lit≤ tt, (lit≤ tt, (lit≤ tt, tt)))))))), ((lit≤ tt, (lit≤ tt, (lit≤ tt, (lit≤ tt, (lit≤ tt, (lit≤ tt, (lit≤ tt, tt))))))), ((lit≤ tt, (lit≤ tt, (lit≤ tt, (lit≤ tt, (lit≤ tt, (lit≤ tt, tt)))))), ((lit≤ tt, (lit≤ tt, (lit≤ tt, (lit≤ tt, (lit≤ tt, tt))))), ((lit≤ tt, (lit≤ tt, (lit≤ tt, (lit≤ tt, tt)))), ((lit≤ tt, (lit≤ tt, (lit≤ tt, tt))), ((lit≤ tt, (lit≤ tt, tt)), ((lit≤ tt, tt), (tt, tt)))))))))))))
ascending d (pull u q) = ((lit≤ tt, (lit≤ tt, (lit≤ tt, tt))), ((lit≤ tt, (lit≤ tt, tt)), ((lit≤ tt, tt), (tt, tt))))
ascending d (cancel u n) = ((lit≤ tt, (lit≤ tt, (lit≤ tt, tt))), ((lit≤ tt, (lit≤ tt, tt)), ((lit≤ tt, tt), (tt, tt))))
ascending d (accept a) = ((lit≤ tt, (lit≤ tt, (lit≤ tt, (lit≤ tt, (lit≤ tt, (lit≤ tt, (lit≤ tt, (lit≤ tt, (lit≤ tt, tt))))))))), ((lit≤ tt, (lit≤ tt, (lit≤ tt, (lit≤ tt, (lit≤ tt, (lit≤ tt, (lit≤ tt, (lit≤ tt, tt)))))))), ((lit≤ tt, (lit≤ tt, (lit≤ tt, (lit≤ tt, (lit≤ tt, (lit≤ tt, (lit≤ tt, tt))))))), ((lit≤ tt, (lit≤ tt, (lit≤ tt, (lit≤ tt, (lit≤ tt, (lit≤ tt, tt)))))), ((lit≤ tt, (lit≤ tt, (lit≤ tt, (lit≤ tt, (lit≤ tt, tt))))), ((lit≤ tt, (lit≤ tt, (lit≤ tt, (lit≤ tt, tt)))), ((lit≤ tt, (lit≤ tt, (lit≤ tt, tt))), ((lit≤ tt, (lit≤ tt, tt)), ((lit≤ tt, tt), (tt, tt))))))))))
ascending d (file r) = ((lit≤ tt, tt), (tt, tt))
ascending d (post p) = ((lit≤ tt, (lit≤ tt, (lit≤ tt, tt))), ((lit≤ tt, (lit≤ tt, tt)), ((lit≤ tt, tt), (tt, tt))))
ascending d (move_clock t) = ((lit≤ tt, (lit≤ tt, tt)), ((lit≤ tt, tt), (tt, tt)))
ascending d (ask_price k) = ((lit≤ tt, (lit≤ tt, (lit≤ tt, tt))), ((lit≤ tt, (lit≤ tt, tt)), ((lit≤ tt, tt), (tt, tt))))
ascending d (view u room) = ((lit≤ tt, (lit≤ tt, (lit≤ tt, tt))), ((lit≤ tt, (lit≤ tt, tt)), ((lit≤ tt, tt), (tt, tt))))
ascending d (book u n room) = ((lit≤ tt, (lit≤ tt, (lit≤ tt, (lit≤ tt, tt)))), ((lit≤ tt, (lit≤ tt, (lit≤ tt, tt))), ((lit≤ tt, (lit≤ tt, tt)), ((lit≤ tt, tt), (tt, tt)))))
ascending d close = ((lit≤ tt, tt), (tt, tt))

pub told_causes : ToldCauses
told_causes d c e h = first_is_least (causes d c) e (ascending d c) h
