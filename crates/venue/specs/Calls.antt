-- The calls of a day as they are given, and why each is refused.
-- Assumes nothing.
use Rattle.std.specs.Prelude.{ℕ, zero, suc, ◌+◌, ◌-◌, ◌*◌, ◌%◌, Bool, true, false, cond, not, ◌&&◌, ◌||◌, List, [], ◌∷◌, ◌++◌, length, is_some, Some, None, codes, Option, ◌==◌, nat_le, nat_lt, slice_index_or}
use Rattle.std.specs.Option.{unwrap_or}
use Rattle.records.specs.declared.causes.Cause.{Cause}
use Rattle.records.specs.declared.causes.Cause.TheVariants.{FieldAbsent, WrongLetter, OutOfPart, OutOfRange, UnknownUser, UnknownSymbol, WrongRecipients, OffTick, MinimumAboveQuantity, NotAfterClock, RequestNotOpen, QuoteNotLive, DayFull, LegAgainstSide, BelowShownMinimum, NamedTwice, BelowFloor, DebtNotOwed, TradesUnfiled, BufferShort}
use Rattle.records.specs.declared.parts.Price.{Price}
use Rattle.records.specs.declared.parts.Shape.TheVariants.{Priced}
use Rattle.records.specs.declared.parts.Value.TheVariants.{Quoted}
use Rattle.records.specs.Bytes.{one_of, fits}
use Rattle.prices.specs.declared.rows.Ticks.{Ticks}
use Rattle.prices.specs.Prices.{tick_at}
use Rattle.venue.specs.declared.rows.Entry.{Entry}
use Rattle.venue.specs.declared.rows.Offering.{Offering}
use Rattle.venue.specs.declared.rows.Acceptance.{Acceptance}
use Rattle.venue.specs.declared.rows.Posting.{Posting}
use Rattle.venue.specs.declared.rows.PriceQuestion.{PriceQuestion}
use Rattle.venue.specs.declared.rows.Report.{Report}
use Rattle.venue.specs.declared.rows.Trade.{Trade}
use Rattle.venue.specs.Days.{Day, numbered, no_trade, user_of, symbol_of, request_of, quote_of, is_name, place_of, bit, buys, shows_side, shows_minimum, owns, quotable, holds}
use Rattle.venue.specs.Trading.{executable, in_order, Filled, fills, total}
use Rattle.venue.specs.Pages.{view_page, book_page}

-- the calls of a trading day; a view and a book question come with the length of the buffer that is lent
pub data Call : Type 0 where
  enter : Entry → Call
  offer : Offering → Call
  pull : (user quote : ℕ) → Call
  cancel : (user request : ℕ) → Call
  accept : Acceptance → Call
  file : Report → Call
  post : Posting → Call
  move_clock : (time : ℕ) → Call
  ask_price : PriceQuestion → Call
  view : (user room : ℕ) → Call
  book : (user request room : ℕ) → Call
  close : Call

-- what stands for a field that lacks
abbrev pub minimum_of : Option ℕ → ℕ
minimum_of o = unwrap_or o 1

abbrev pub expiry_of : Option ℕ → ℕ
expiry_of o = unwrap_or o 63000000

abbrev pub shown_of : Option ℕ → ℕ
shown_of o = unwrap_or o 0

abbrev pub floor_of : Option ℕ → ℕ
floor_of o = unwrap_or o 1

abbrev pub rest_of : Option ℕ → ℕ
rest_of o = unwrap_or o 67

-- ranges
abbrev pub amount : ℕ → Bool
amount n = nat_le 1 n && nat_le n 99999999

abbrev pub a_price : ℕ → Bool
a_price n = nat_le 1 n && nat_le n 999999999

-- what holds of a value that may lack: nothing is asked of one that does
abbrev pub whenever : {X : Type 0} → Option X → (X → Bool) → Bool
whenever None p = false
whenever (Some x) p = p x

-- a price as it is given: a wrong form, a number out of range, a number off the tick
abbrev pub misformed : Price → Bool
misformed p = not (fits Priced (Quoted p))

abbrev pub beyond : Price → Bool
beyond p = p.letter == 76 && not (a_price p.number)

abbrev pub off_tick : Ticks → Price → Bool
off_tick k p = p.letter == 76 && not (p.number % tick_at k (2 * p.number) == 0)

-- a user who cannot be, and one who could be and was not entered
abbrev pub no_such_user : ℕ → Bool
no_such_user u = nat_lt 63 u

abbrev pub unknown_user : Day → ℕ → Bool
unknown_user d u = nat_le u 63 && not (user_of d u).entered

-- a name that could be a symbol's and is none
abbrev pub unknown_name : Day → List ℕ → Bool
unknown_name d bs = is_name bs && not (is_some (place_of d bs))

-- a set of users has one, below the number n, who was not entered
abbrev pub has_stranger : Day → ℕ → ℕ → Bool
has_stranger d set zero = false
has_stranger d set (suc n) = (bit set n && not (user_of d n).entered) || has_stranger d set n

abbrev pub enter_causes : Day → Entry → List (Cause × Bool)
enter_causes d e =
    (OutOfRange, no_such_user e.user || (not (is_name e.name) || (not (amount e.quantity) || (beyond e.limit || (not (amount (minimum_of e.minimum)) || nat_lt 63000000 (expiry_of e.expiry))))))
    ∷ (UnknownUser, unknown_user d e.user)
    ∷ (UnknownSymbol, unknown_name d e.name)
    ∷ (WrongRecipients, (e.recipients == 0) || (has_stranger d e.recipients 64 || bit e.recipients e.user))
    ∷ (OffTick, whenever (place_of d e.name) (λ p. off_tick (symbol_of d p).ticks e.limit))
    ∷ (MinimumAboveQuantity, nat_lt e.quantity (minimum_of e.minimum))
    ∷ (NotAfterClock, nat_le (expiry_of e.expiry) d.clock)
    ∷ (DayFull, nat_le 128 (length d.requests))
    ∷ []

-- a leg against a side that is shown: one on the same side
abbrev pub against_side : Day → Offering → Bool
against_side d o =
    shows_side (request_of d o.request)
    && cond (buys (request_of d o.request).side) (is_some o.buying) (is_some o.selling)

abbrev pub offer_causes : Day → Offering → List (Cause × Bool)
offer_causes d o =
    (OutOfRange, no_such_user o.user || (not (amount o.quantity) || (whenever o.selling beyond || (whenever o.buying beyond || (not (amount (minimum_of o.minimum)) || nat_lt 63000000 (expiry_of o.expiry))))))
    ∷ (UnknownUser, unknown_user d o.user)
    ∷ (OffTick, quotable d o.user o.request && (whenever o.selling (off_tick (symbol_of d (request_of d o.request).place).ticks) || whenever o.buying (off_tick (symbol_of d (request_of d o.request).place).ticks)))
    ∷ (MinimumAboveQuantity, nat_lt o.quantity (minimum_of o.minimum))
    ∷ (NotAfterClock, nat_le (expiry_of o.expiry) d.clock)
    ∷ (RequestNotOpen, not (quotable d o.user o.request))
    ∷ (QuoteNotLive, whenever o.old (λ q. not (holds d o.user q && (quote_of d q).request == o.request)))
    ∷ (DayFull, nat_le 512 (length d.quotes))
    ∷ (LegAgainstSide, against_side d o)
    ∷ (BelowShownMinimum, shows_minimum (request_of d o.request) && nat_lt o.quantity (request_of d o.request).minimum)
    ∷ []

-- the quotes that an acceptance names, without the gaps, and each once
abbrev pub named : List (Option ℕ) → List ℕ
named [] = []
named (None ∷ qs) = named qs
named (Some q ∷ qs) = q ∷ named qs

abbrev pub member : ℕ → List ℕ → Bool
member q [] = false
member q (p ∷ ps) = q == p || member q ps

abbrev pub once : List ℕ → List ℕ
once [] = []
once (q ∷ qs) = cond (member q qs) (once qs) (q ∷ once qs)

abbrev pub has_double : List ℕ → Bool
has_double [] = false
has_double (q ∷ qs) = member q qs || has_double qs

abbrev pub has_inexecutable : Day → ℕ → List ℕ → Bool
has_inexecutable d n [] = false
has_inexecutable d n (q ∷ qs) = not (executable d n q) || has_inexecutable d n qs

-- the fills of an acceptance, whatever its floor is
abbrev pub fills_of : Day → Acceptance → Filled
fills_of d a = fills d a.request (in_order d a.request (once (named a.quotes)))

abbrev pub accept_causes : Day → Acceptance → List (Cause × Bool)
accept_causes d a =
    (OutOfRange, no_such_user a.user || not (amount (floor_of a.floor)))
    ∷ (UnknownUser, unknown_user d a.user)
    ∷ (RequestNotOpen, not (owns d a.user a.request))
    ∷ (QuoteNotLive, has_inexecutable d a.request (named a.quotes))
    ∷ (DayFull, nat_lt 512 (length d.trades + length (fills_of d a).trades))
    ∷ (NamedTwice, has_double (named a.quotes))
    ∷ (BelowFloor, nat_lt (total (fills_of d a).trades) (floor_of a.floor))
    ∷ []

-- of n trades from a number on, one is not there or is filed
abbrev pub not_owed : List Trade → ℕ → ℕ → Bool
not_owed ts t zero = false
not_owed ts t (suc n) = (t == 0 || (nat_lt (length ts) t || (numbered no_trade ts t).filed)) || not_owed ts (t + 1) n

abbrev pub unfiled : List Trade → Bool
unfiled [] = false
unfiled (t ∷ ts) = not t.filed || unfiled ts

abbrev pub caller_causes : Day → ℕ → List (Cause × Bool)
caller_causes d u = (OutOfRange, no_such_user u) ∷ (UnknownUser, unknown_user d u) ∷ []

-- what is wrong with the form of a call, whatever the day is
abbrev pub form_causes : Call → List (Cause × Bool)
form_causes (enter e) =
    (WrongLetter, not (one_of (codes "BS") e.side) || (misformed e.limit || nat_lt 31 (shown_of e.shown))) ∷ []
form_causes (offer o) =
    (FieldAbsent, not (is_some o.selling) && not (is_some o.buying))
    ∷ (WrongLetter, whenever o.selling misformed || whenever o.buying misformed)
    ∷ []
form_causes (pull u q) = []
form_causes (cancel u n) = []
form_causes (accept a) =
    (FieldAbsent, not (is_some (slice_index_or a.quotes 0 None))) ∷ (WrongLetter, not (one_of (codes "KC") (rest_of a.rest))) ∷ []
form_causes (file r) = []
form_causes (post p) = (FieldAbsent, cond (is_some p.bid) (not (is_some p.offer)) (is_some p.offer)) ∷ []
form_causes (move_clock t) = []
form_causes (ask_price k) = (WrongLetter, not (one_of (codes "BOM") k.letter) || not (one_of (codes "BS") k.leg)) ∷ []
form_causes (view u room) = []
form_causes (book u n room) = []
form_causes close = []

-- what the book has against a call
abbrev pub book_causes : Day → Call → List (Cause × Bool)
book_causes d (enter e) = enter_causes d e
book_causes d (offer o) = offer_causes d o
book_causes d (pull u q) = caller_causes d u ++ (QuoteNotLive, not (holds d u q)) ∷ []
book_causes d (cancel u n) = caller_causes d u ++ (RequestNotOpen, not (owns d u n)) ∷ []
book_causes d (accept a) = accept_causes d a
book_causes d (file r) = (DebtNotOwed, not (r.day == d.number) || not_owed d.trades r.first (r.last + 1 - r.first)) ∷ []
book_causes d (post p) =
    (OutOfRange, not (is_name p.name) || (whenever p.bid (λ n. not (a_price n)) || whenever p.offer (λ n. not (a_price n))))
    ∷ (UnknownSymbol, unknown_name d p.name)
    ∷ []
book_causes d (move_clock t) = (OutOfRange, nat_lt 62999999 t) ∷ (NotAfterClock, nat_lt t d.clock) ∷ []
book_causes d (ask_price k) = (OutOfRange, not (is_name k.name)) ∷ (UnknownSymbol, unknown_name d k.name) ∷ []
book_causes d (view u room) = caller_causes d u ++ (BufferShort, nat_lt room (length (view_page d u))) ∷ []
book_causes d (book u n room) =
    caller_causes d u ++ (RequestNotOpen, not (owns d u n)) ∷ (BufferShort, nat_lt room (length (book_page d n))) ∷ []
book_causes d close = (TradesUnfiled, unfiled d.trades) ∷ []

-- a closed day takes the view alone
abbrev pub is_view : Call → Bool
is_view (enter e) = false
is_view (offer o) = false
is_view (pull u q) = false
is_view (cancel u n) = false
is_view (accept a) = false
is_view (file r) = false
is_view (post p) = false
is_view (move_clock t) = false
is_view (ask_price k) = false
is_view (view u room) = true
is_view (book u n room) = false
is_view close = false

-- the causes of a call, in the order of their numbers
abbrev pub causes : Day → Call → List (Cause × Bool)
causes d c = form_causes c ++ (OutOfPart, d.closed && not (is_view c)) ∷ book_causes d c
