-- Two days whose requests differ only in what they hold back answer alike, and stay so, call by call. Assumes nothing.
use Rattle.std.proofs.Common.{◌≡◌, ℕ, ◌+◌, true, cond, not, ◌&&◌, ◌||◌, eqb, ltb, leb, List, [], ◌∷◌, ◌++◌, length, is_some, Ok, Err, fold, filter, Result, sym, refl, ap, ◌∙◌}
use Rattle.std.specs.List.{flat_map}
use Rattle.std.proofs.lemmas.Bool.{not-false}
use Rattle.records.specs.declared.causes.Cause.{Cause}
use Rattle.records.proofs.Unless.{granted}
use Rattle.ranked.specs.Ranks.{ranked}
use Rattle.venue.specs.declared.rows.Acceptance.{Acceptance}
use Rattle.venue.specs.declared.rows.Candidate.{Candidate}
use Rattle.venue.specs.declared.rows.Offering.{Offering}
use Rattle.venue.specs.declared.rows.Request.{Request}
use Rattle.venue.specs.Days.{Day, symbol_of, request_of, open_of, bit, is_open, buys, shows_minimum, owns}
use Rattle.venue.specs.Trading.{executable, before, candidate, in_order, Filled, turn, total}
use Rattle.venue.specs.Pages.{numbers, whole_line, executable_line, executables, book_page}
use Rattle.venue.specs.Calls.{Call, Call.enter, Call.offer, Call.pull, Call.cancel, Call.accept, Call.file, Call.post, Call.move_clock, Call.ask_price, Call.view, Call.book, Call.close, floor_of, whenever, off_tick, causes, named, once, has_inexecutable, fills_of}
use Rattle.venue.specs.Parts.{against_shown}
use Rattle.venue.specs.Model.{a_number, a_page, a_deal, reply, judge, answer_by, answer}
use Rattle.venue.proofs.Agreeing.{Agree, Agree.over, Agree.test, agreed, alike_for, behind}
use Rattle.venue.proofs.Beside.{as_long, BesideDay, row_at, beside}
use Rattle.venue.proofs.Paging.{place_same, quotable_same, line_same, view_same}

module _ (ns us : List ℕ) (d : Day) (rs : List Request) (os : List ℕ) (b : BesideDay ns us d rs os) where
  abbrev d' : Day
  d' = beside d rs os

  long : length rs ≡ length d.requests
  long = as_long us _ d.requests d.opens rs os b

  owns_same : (u n : ℕ) → owns d' u n ≡ owns d u n
  owns_same u n =
      let h = row_at ns us d rs os b n in
      λ i. is_open (h.life i) && eqb (h.requestor i) u

  against_same : (o : Offering) → against_shown (request_of d' o.request) o ≡ against_shown (request_of d o.request) o
  against_same o =
      let h = row_at ns us d rs os b o.request in
      behind _ _ _ _ (ap (λ s. bit s 0) h.shown) (λ t. ap (λ x. cond (buys x) (is_some o.buying) (is_some o.selling)) (h.side t))

  minimum_same : (n q : ℕ) → (shows_minimum (request_of d' n) && ltb q (request_of d' n).minimum) ≡ (shows_minimum (request_of d n) && ltb q (request_of d n).minimum)
  minimum_same n q =
      let h = row_at ns us d rs os b n in
      behind _ _ _ _ (ap (λ s. bit s 3) h.shown) (λ t. ap (ltb q) (h.minimum t))

  -- the row is the same in both, and what is open of it
  abbrev pub SameAt : ℕ → Type 0
  SameAt n = (request_of d' n ≡ request_of d n) × (open_of d' n ≡ open_of d n)

  module _ (n : ℕ) (e : SameAt n) where
    executable_same : (q : ℕ) → executable d' n q ≡ executable d n q
    executable_same q = rw (e.0, e.1)

    inexecutable_same : (qs : List ℕ) → has_inexecutable d' n qs ≡ has_inexecutable d n qs
    inexecutable_same [] = refl
    inexecutable_same (q ∷ qs) = λ i. not (executable_same q i) || inexecutable_same qs i

    candidate_same : (q : ℕ) → candidate d' n q ≡ candidate d n q
    candidate_same q = rw e.0

    order_same : (qs : List ℕ) → in_order d' n qs ≡ in_order d n qs
    order_same qs = λ i. fold (λ line q. ranked before (candidate_same q i) line) [] qs

    turn_same : (f : Filled) (c : Candidate) → turn d' n f c ≡ turn d n f c
    turn_same f c = rw e.0

    book_same : book_page d' n ≡ book_page d n
    book_same =
        let line : whole_line d' n ≡ whole_line d n = line_same ns us d rs os b n 255 (λ _. ap (λ (r : Request). r.side) e.0) (λ _. e.1) (λ _. ap (λ (r : Request). r.limit) e.0) (λ _. ap (λ (r : Request). r.minimum) e.0) in
        let qs : executables d' n ≡ executables d n = λ i. filter (λ q. executable_same q i) (numbers (length d.quotes)) in
        λ i. line i ++ flat_map executable_line (order_same (qs i) i)

  pub fills_same : (a : Acceptance) → SameAt a.request → fills_of d' a ≡ fills_of d a
  fills_same a e =
      λ i.
      fold (λ f c. turn_same a.request e f c i) (record { open_left = e.1 i; remains = d.remains; trades = [] })
      (order_same a.request e (once (named a.quotes)) i)

  -- what only the requestor of a row may read is read of a row that is the same
  abbrev pub Clear : Call → Type 0
  Clear (enter e) = Unit {0}
  Clear (offer o) = Unit {0}
  Clear (pull u q) = Unit {0}
  Clear (cancel u n) = Unit {0}
  Clear (accept a) = owns d a.user a.request ≡ true → SameAt a.request
  Clear (file r) = Unit {0}
  Clear (post p) = Unit {0}
  Clear (move_clock t) = Unit {0}
  Clear (ask_price k) = Unit {0}
  Clear (view u room) = Unit {0}
  Clear (book u n room) = owns d u n ≡ true → SameAt n
  Clear close = Unit {0}

  agrees : (c : Call) → Clear c → Agree (causes d c) (causes d' c)
  agrees (enter e) k = alike_for 9 _ _ refl (test (ap (leb 128) (sym long)) (λ _. over))
  agrees (offer o) k =
      let sent = sym (quotable_same ns us d rs os b o.user o.request) in
      let place = sym (place_same ns us d rs os b o.request) in
      alike_for 5 _ _ refl
      (test (λ i. sent i && (whenever o.selling (off_tick (symbol_of d (place i)).ticks) || whenever o.buying (off_tick (symbol_of d (place i)).ticks)))
      (λ _. alike_for 2 _ _ refl
      (test (ap not sent)
      (λ _. alike_for 2 _ _ refl
      (test (sym (against_same o))
      (λ _. test (sym (minimum_same o.request o.quantity)) (λ _. over)))))))
  agrees (pull u q) k = alike_for 4 _ _ refl over
  agrees (cancel u n) k = alike_for 3 _ _ refl (test (ap not (sym (owns_same u n))) (λ _. over))
  agrees (accept a) k =
      alike_for 5 _ _ refl
      (test (ap not (sym (owns_same a.user a.request)))
      (λ f.
      let e = k (not-false (owns d a.user a.request) f) in
      let fills = sym (fills_same a e) in
      test (sym (inexecutable_same a.request e (named a.quotes)))
      (λ _. test (λ i. ltb 512 (length d.trades + length (fills i).trades))
      (λ _. alike_for 1 _ _ refl (test (λ i. ltb (total (fills i).trades) (floor_of a.floor)) (λ _. over))))))
  agrees (file r) k = alike_for 2 _ _ refl over
  agrees (post p) k = alike_for 4 _ _ refl over
  agrees (move_clock t) k = alike_for 3 _ _ refl over
  agrees (ask_price p) k = alike_for 4 _ _ refl over
  agrees (view u room) k =
      alike_for 3 _ _ refl (test (ap (λ p. ltb room (length p)) (sym (view_same ns us d rs os b u))) (λ _. over))
  agrees (book u n room) k =
      alike_for 3 _ _ refl
      (test (ap not (sym (owns_same u n)))
      (λ f. test (ap (λ p. ltb room (length p)) (sym (book_same n (k (not-false (owns d u n) f))))) (λ _. over)))
  agrees close k = alike_for 2 _ _ refl over

  judge_same : (c : Call) → Clear c → judge d' c ≡ judge d c
  judge_same c k = sym (agreed (causes d c) (causes d' c) tt (agrees c k))

  reply_same : (c : Call) → Clear c → judge d c ≡ Ok tt → reply d' c ≡ reply d c
  reply_same (enter e) k g = ap (λ m. a_number (m + 1)) long
  reply_same (offer o) k g = refl
  reply_same (pull u q) k g = refl
  reply_same (cancel u n) k g = refl
  reply_same (accept a) k g =
      let own = not-false (owns d a.user a.request) (granted (causes d (accept a)) tt tt g).0.1.1.1.1.1.0 in
      ap (λ (f : Filled). a_deal d f.trades) (fills_same a (k own))
  reply_same (file r) k g = refl
  reply_same (post p) k g = refl
  reply_same (move_clock t) k g = refl
  reply_same (ask_price p) k g = refl
  reply_same (view u room) k g = ap a_page (view_same ns us d rs os b u)
  reply_same (book u n room) k g =
      let own = not-false (owns d u n) (granted (causes d (book u n room)) tt tt g).0.1.1.1.0 in
      ap a_page (book_same n (k own))
  reply_same close k g = refl

  pub answer_same : (c : Call) → Clear c → answer d' c ≡ answer d c
  answer_same c k = ap (answer_by d' c) (judge_same c k) ∙ by_verdict (judge d c) refl
    where
      by_verdict : (v : Result Unit Cause) → judge d c ≡ v → answer_by d' c v ≡ answer_by d c v
      by_verdict (Ok x) g = reply_same c k g
      by_verdict (Err x) g = refl
