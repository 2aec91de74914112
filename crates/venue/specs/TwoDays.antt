-- The law of two days: days whose calls differ only in what entries hold back answer everybody else alike, until one of them
-- trades on such an entry. And within a day: a stranger to a number is answered as if it was never given.
-- Assumes nothing.
use Rattle.std.specs.Prelude.{◌≡◌, ℕ, ◌+◌, ◌<◌, true, false, ◌≢◌, List, [], ◌∷◌, map, length, is_some, Some, None, Ok, Err, Option, Result}
use Rattle.std.specs.Result.{result_ok}
use Rattle.std.specs.List.{AllByRecursion as Every}
use Rattle.records.specs.declared.causes.Refusal.{Refusal}
use Rattle.venue.specs.declared.rows.Entry.{Entry}
use Rattle.venue.specs.declared.rows.Trade.{Trade}
use Rattle.venue.specs.Amounts.{abc, opening, at_number, at_mid, posting}
use Rattle.venue.specs.Days.{Day, request_of, quote_of, bit}
use Rattle.venue.specs.Calls.{Call, Call.enter, Call.offer, Call.pull, Call.cancel, Call.accept, Call.file, Call.post, Call.move_clock, Call.ask_price, Call.view, Call.book, Call.close, shown_of, member, whenever}
use Rattle.venue.specs.Model.{Reply, Opening, open_day, answer, next, after}

-- entries that differ in no more than side, quantity, limit and minimum, and only in those of them that both hold back
pub record HeldBack (e e' : Entry) : Type 0 where
  pub user : e'.user ≡ e.user
  pub name : e'.name ≡ e.name
  pub recipients : e'.recipients ≡ e.recipients
  pub expiry : e'.expiry ≡ e.expiry
  pub shown : e'.shown ≡ e.shown
  pub side : bit (shown_of e.shown) 0 ≡ true → e'.side ≡ e.side
  pub quantity : bit (shown_of e.shown) 1 ≡ true → e'.quantity ≡ e.quantity
  pub limit : bit (shown_of e.shown) 2 ≡ true → e'.limit ≡ e.limit
  pub minimum : bit (shown_of e.shown) 3 ≡ true → e'.minimum ≡ e.minimum

-- one place of the two days: the same call, or an entry that was changed
pub data Place : Type 0 where
  same : Call → Place
  changed : (one other : Entry) → Place

abbrev pub one_call : Place → Call
one_call (same c) = c
one_call (changed e e') = enter e

abbrev pub other_call : Place → Call
other_call (same c) = c
other_call (changed e e') = enter e'

-- from a day on each side: changed entries differ in what they hold back, and are accepted on both sides
abbrev pub AlikeAt : Day → Day → Place → Type 0
AlikeAt d d' (same c) = Unit {0}
AlikeAt d d' (changed e e') =
    HeldBack e e' × ((is_some (result_ok (answer d (enter e))) ≡ true) × (is_some (result_ok (answer d' (enter e'))) ≡ true))

abbrev pub Alike : Day → Day → List Place → Type 0
Alike d d' [] = Unit {0}
Alike d d' (p ∷ ps) = AlikeAt d d' p × Alike (next d (one_call p)) (next d' (other_call p)) ps

-- the numbers that changed entries were given, and who made them
abbrev pub number_at : Day → Place → List ℕ → List ℕ
number_at d (same c) ns = ns
number_at d (changed e e') ns = (length d.requests + 1) ∷ ns

abbrev pub changed_numbers : Day → List Place → List ℕ
changed_numbers d [] = []
changed_numbers d (p ∷ ps) = number_at d p (changed_numbers (next d (one_call p)) ps)

abbrev pub changer_at : Place → List ℕ → List ℕ
changer_at (same c) us = us
changer_at (changed e e') us = e.user ∷ us

abbrev pub changers : List Place → List ℕ
changers [] = []
changers (p ∷ ps) = changer_at p (changers ps)

-- the user who makes a call: none makes a filing, a posting, a clock move, a price question or the close
abbrev pub caller : Call → Option ℕ
caller (enter e) = Some e.user
caller (offer o) = Some o.user
caller (pull u q) = Some u
caller (cancel u n) = Some u
caller (accept a) = Some a.user
caller (file r) = None
caller (post p) = None
caller (move_clock t) = None
caller (ask_price k) = None
caller (view u room) = Some u
caller (book u n room) = Some u
caller close = None

abbrev pub Untraded : List ℕ → List Trade → Type 0
Untraded ns ts = Every (λ t. member t.request ns ≡ false) ts

-- the two days up to a place, and a call there by somebody who made none of the changed entries
pub record TwoDays (start : Day) (ps : List Place) (c : Call) : Type 0 where
  pub alike : Alike start start ps
  pub untraded : Untraded (changed_numbers start ps) (after start (map one_call ps)).trades
  pub untraded_other : Untraded (changed_numbers start ps) (after start (map other_call ps)).trades
  pub uninvolved : whenever (caller c) (λ u. member u (changers ps)) ≡ false

abbrev pub HeldBackStaysHidden : Type 0
HeldBackStaysHidden =
    (o : Opening) (ps : List Place) (c : Call)
    → TwoDays (open_day o) ps c
    → answer (after (open_day o) (map one_call ps)) c ≡ answer (after (open_day o) (map other_call ps)) c

-- what a call names is not the caller's: a quote names a request that was not sent to its caller, a pull another's quote, and
-- a cancel, an acceptance or a book question another's request
abbrev pub Strange : Day → Call → Type 0
Strange d (enter e) = ⊥
Strange d (offer o) = bit (request_of d o.request).recipients o.user ≡ false
Strange d (pull u q) = (quote_of d q).user ≢ u
Strange d (cancel u n) = (request_of d n).requestor ≢ u
Strange d (accept a) = (request_of d a.request).requestor ≢ a.user
Strange d (file r) = ⊥
Strange d (post p) = ⊥
Strange d (move_clock t) = ⊥
Strange d (ask_price k) = ⊥
Strange d (view u room) = ⊥
Strange d (book u n room) = (request_of d n).requestor ≢ u
Strange d close = ⊥

-- the call with another number in its place
abbrev pub naming : ℕ → Call → Call
naming m (enter e) = enter e
naming m (offer o) =
    offer
    (record {
      user = o.user;
      request = m;
      old = o.old;
      quantity = o.quantity;
      selling = o.selling;
      buying = o.buying;
      minimum = o.minimum;
      expiry = o.expiry;
    })
naming m (pull u q) = pull u m
naming m (cancel u n) = cancel u m
naming m (accept a) =
    accept (record { user = a.user; request = m; floor = a.floor; rest = a.rest; quotes = a.quotes })
naming m (file r) = file r
naming m (post p) = post p
naming m (move_clock t) = move_clock t
naming m (ask_price k) = ask_price k
naming m (view u room) = view u room
naming m (book u n room) = book u m room
naming m close = close

-- how many numbers of that kind were given
abbrev pub given_of : Day → Call → ℕ
given_of d (enter e) = length d.requests
given_of d (offer o) = length d.requests
given_of d (pull u q) = length d.quotes
given_of d (cancel u n) = length d.requests
given_of d (accept a) = length d.requests
given_of d (file r) = length d.requests
given_of d (post p) = length d.requests
given_of d (move_clock t) = length d.requests
given_of d (ask_price k) = length d.requests
given_of d (view u room) = length d.requests
given_of d (book u n room) = length d.requests
given_of d close = length d.requests

-- such a call is answered as with a number that was never given
abbrev pub StrangersToldNothing : Type 0
StrangersToldNothing =
    (d : Day) (c : Call) (m : ℕ) → Strange d c → given_of d c < m → answer d c ≡ answer d (naming m c)

-- two such days: a buyer of 10,000 or a seller of 20,000 who shows nothing, a quote with both legs, and a view
abbrev pub a_buyer : Entry
a_buyer =
    record {
      user = 0;
      name = abc;
      recipients = 14;
      side = 66;
      quantity = 10000;
      limit = at_number 1000200;
      minimum = Some 2000;
      expiry = None;
      shown = None;
    }

abbrev pub a_seller : Entry
a_seller =
    record {
      user = 0;
      name = abc;
      recipients = 14;
      side = 83;
      quantity = 20000;
      limit = at_mid;
      minimum = None;
      expiry = None;
      shown = None;
    }

abbrev pub both_legs : Call
both_legs =
    offer
    (record {
      user = 1;
      request = 1;
      old = None;
      quantity = 500;
      selling = Some (at_number 1000200);
      buying = Some at_mid;
      minimum = None;
      expiry = None;
    })

abbrev pub places : List Place
places = same posting ∷ changed a_buyer a_seller ∷ same both_legs ∷ []

abbrev pub its_number : Result Reply Refusal → ℕ
its_number (Ok r) = r.number
its_number (Err e) = 0

-- the premises are met, the view has a request and a quote, and the days do differ
pub record Sample : Type 0 where
  pub two : TwoDays (open_day (opening 1)) places (view 1 200)
  pub seen : its_number (answer (after (open_day (opening 1)) (map one_call places)) (view 1 200)) ≡ 44
  pub apart : a_buyer.side ≢ a_seller.side
