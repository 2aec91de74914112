-- A page that was written is the model's answer. Assumes nothing.
use Rattle.std.proofs.Common.{◌≡◌, ℕ, Bool, true, false, cond, List, [], ◌∷◌, ◌++◌, length, take, drop, IsErrAnd, None, Ok, Err, Result, sym, ap, ◌∙◌, subst, arith}
use Rattle.std.proofs.lemmas.Result.{err_from_is_err_and}
use Rattle.records.specs.declared.causes.Cause.{Cause}
use Rattle.records.specs.declared.causes.Refusal.{Refusal}
use Rattle.records.specs.Causes.{refusal, unless}
use Rattle.records.proofs.Unless.{verdict, granted, grants}
use Rattle.pages.specs.Paged.{Paged}
use Rattle.venue.specs.Days.{Day}
use Rattle.venue.specs.Calls.{Call, causes}
use Rattle.venue.specs.Model.{judge, a_page, answer_by, apply, next_by, reply}
use Rattle.day.specs.Told.{Shows}

-- what is refused is refused whatever would have been answered
still_refused : {X : Type 0} (cs : List (Cause × Bool)) (x : X) (e : Cause) → Err e ≡ unless cs x → verdict cs ≡ Err e
still_refused [] x e h = let z : ◌≡◌ {A = ℕ} 0 1 = cc in absurd (omega arith)
still_refused {X} (c ∷ cs) x e h =
    elim c.1 as (λ b. Err e ≡ cond b (Err c.0) (unless cs x) → cond b (Err c.0) (verdict cs) ≡ Err e) [
      | true ↦ λ (k : ◌≡◌ {A = Result X Cause} (Err e) (Err c.0)). let same : c.0 ≡ e = cc in ap Err same
      | false ↦ λ k. still_refused cs x e k
    ]
    h

module _ (d : Day) (c : Call) (page before after : List ℕ) (says : reply d c ≡ a_page page) (stays : apply d c ≡ d) where
  pub shows_page : (n : ℕ) → Paged d c page before after (Ok n) → Shows d c before after (Ok n)
  shows_page n w =
      let free = granted (causes d c) (length page) n (sym w.answers) in
      let v : judge d c ≡ Ok tt = grants (causes d c) tt free.0 in
      let answered = ap (answer_by d c) v ∙ says in
      let front = w.front.1 in
      record {
        same_day = sym (ap (next_by d c) answered ∙ stays);
        answers = ap (λ k. Ok (record { number = k; debt = None; page = take n after })) (sym free.1) ∙ ap (λ bs. Ok (record { number = length page; debt = None; page = bs })) front ∙ sym answered;
        buffer = w.buffer ∙ ap (λ bs. bs ++ drop n before) (sym front);
        within = w.front.0;
      }

  shows_refusal : (e : Cause) → Paged d c page before after (Err e) → Shows d c before after (Err (refusal e 0))
  shows_refusal e w =
      let answered = ap (answer_by d c) (still_refused (causes d c) (length page) e w.answers) in
      record {
        same_day = sym (ap (next_by d c) answered);
        answers = sym answered;
        buffer = w.buffer;
        within = tt;
      }

  pub shows_broken : (r : Result ℕ Refusal) (e : Cause) → IsErrAnd r (λ x. x ≡ refusal e 0) → Paged d c page before after (Err e) → Shows d c before after r
  shows_broken r e by w =
      let p = err_from_is_err_and r by in
      subst (λ x. Shows d c before after x) (sym (p.1 ∙ ap Err p.2)) (shows_refusal e w)
