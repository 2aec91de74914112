-- Who names what is not the caller's is answered as with a number never given. Assumes nothing.
use Rattle.std.proofs.Common.{◌≡◌, ℕ, zero, suc, ◌<◌, Bool, false, not, ◌≢◌, List, length, Ok, Err, Result, sym, refl, ap, ◌∙◌, arith}
use Rattle.std.proofs.lemmas.List.{get_or_past}
use Rattle.std.proofs.lemmas.Bool.{both_ways, not_from_false, and_left, and_right, ne_eqb}
use Rattle.records.specs.declared.causes.Cause.{Cause}
use Rattle.records.proofs.Unless.{granted}
use Rattle.venue.specs.declared.rows.Request.{Request}
use Rattle.venue.specs.declared.rows.Quote.{Quote}
use Rattle.venue.specs.Days.{Day, numbered, no_request, no_quote, request_of, quote_of, is_open, owns, quotable, holds}
use Rattle.venue.specs.Calls.{Call, Call.enter, Call.offer, Call.pull, Call.cancel, Call.accept, Call.file, Call.post, Call.move_clock, Call.ask_price, Call.view, Call.book, Call.close, causes}
use Rattle.venue.specs.Model.{judge, answer_by, answer}
use Rattle.venue.specs.TwoDays.{Strange, naming, given_of, StrangersToldNothing}
use Rattle.venue.proofs.Agreeing.{Agree, Agree.test, agreed, alike_for}

never_given : {X : Type 0} (none : X) (xs : List X) (n : ℕ) → length xs < n → numbered none xs n ≡ none
never_given none xs zero h = refl
never_given none xs (suc i) h = get_or_past xs i none (omega arith)

-- a test that has failed on both sides, so that nothing behind it counts
shut : (x : Bool) {A : Type 0} → x ≡ false → not x ≡ false → A
shut x e f = absurd (both_ways (not x) f (not_from_false x e))

module _ (d : Day) where
  -- the causes agree up to the one that stands on both sides
  told : (c c' : Call) → Agree (causes d c) (causes d c') → (judge d c ≡ Ok tt → ⊥) → answer d c ≡ answer d c'
  told c c' a refused = by_verdict (judge d c) refl ∙ ap (answer_by d c') (agreed (causes d c) (causes d c') tt a)
    where
      by_verdict : (v : Result Unit Cause) → judge d c ≡ v → answer_by d c v ≡ answer_by d c' v
      by_verdict (Ok x) g = absurd (refused g)
      by_verdict (Err x) g = refl

  another's : (u n : ℕ) → (request_of d n).requestor ≢ u → owns d u n ≡ false
  another's u n h = and_right (is_open (request_of d n).life) _ (ne_eqb _ u h)

  nobody's : (u m : ℕ) → length d.requests < m → owns d u m ≡ false
  nobody's u m h = and_left _ _ (ap (λ (r : Request). is_open r.life) (never_given no_request d.requests m h))

  as_never : (c : Call) (m : ℕ) → Strange d c → given_of d c < m → answer d c ≡ answer d (naming m c)
  as_never (enter e) m s h = absurd s
  as_never (offer o) m s h =
      let one : quotable d o.user o.request ≡ false = and_right (is_open (request_of d o.request).life) _ s in
      let other : quotable d o.user m ≡ false = and_left _ _ (ap (λ (r : Request). is_open r.life) (never_given no_request d.requests m h)) in
      told (offer o) (naming m (offer o))
      (alike_for 5 _ _ refl
      (test (and_left _ _ one ∙ sym (and_left _ _ other)) (λ _. alike_for 2 _ _ refl (test (ap not (one ∙ sym other)) (shut _ one)))))
      (λ g. shut _ one (granted (causes d (offer o)) tt tt g).0.1.1.1.1.1.1.1.1.0)
  as_never (pull u q) m s h =
      let one : holds d u q ≡ false = and_right (quote_of d q).live _ (ne_eqb _ u s) in
      let other : holds d u m ≡ false = and_left _ _ (ap (λ (x : Quote). x.live) (never_given no_quote d.quotes m h)) in
      told (pull u q) (pull u m) (alike_for 3 _ _ refl (test (ap not (one ∙ sym other)) (shut _ one)))
      (λ g. shut _ one (granted (causes d (pull u q)) tt tt g).0.1.1.1.0)
  as_never (cancel u n) m s h =
      let one = another's u n s in
      told (cancel u n) (cancel u m) (alike_for 3 _ _ refl (test (ap not (one ∙ sym (nobody's u m h))) (shut _ one)))
      (λ g. shut _ one (granted (causes d (cancel u n)) tt tt g).0.1.1.1.0)
  as_never (accept a) m s h =
      let one = another's a.user a.request s in
      told (accept a) (naming m (accept a)) (alike_for 5 _ _ refl (test (ap not (one ∙ sym (nobody's a.user m h))) (shut _ one)))
      (λ g. shut _ one (granted (causes d (accept a)) tt tt g).0.1.1.1.1.1.0)
  as_never (file r) m s h = absurd s
  as_never (post p) m s h = absurd s
  as_never (move_clock t) m s h = absurd s
  as_never (ask_price k) m s h = absurd s
  as_never (view u room) m s h = absurd s
  as_never (book u n room) m s h =
      let one = another's u n s in
      told (book u n room) (book u m room) (alike_for 3 _ _ refl (test (ap not (one ∙ sym (nobody's u m h))) (shut _ one)))
      (λ g. shut _ one (granted (causes d (book u n room)) tt tt g).0.1.1.1.0)
  as_never close m s h = absurd s

pub strangers_told_nothing : StrangersToldNothing
strangers_told_nothing = as_never
