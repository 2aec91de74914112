-- What can be wrong with a call, by name: the parts of the causes against an entry, a quote and a posting.
-- Assumes nothing.
use Rattle.std.specs.Prelude.{Bool, cond, not, ◌&&◌, ◌||◌, List, [], ◌∷◌, length, is_some, codes, ◌==◌, nat_le, nat_lt}
use Rattle.records.specs.declared.causes.Cause.{Cause}
use Rattle.records.specs.declared.causes.Cause.TheVariants.{OutOfRange, UnknownUser, OffTick, MinimumAboveQuantity, NotAfterClock, RequestNotOpen, QuoteNotLive, DayFull, LegAgainstSide, BelowShownMinimum}
use Rattle.records.specs.Bytes.{one_of}
use Rattle.prices.specs.declared.rows.Ticks.{Ticks}
use Rattle.venue.specs.declared.rows.Entry.{Entry}
use Rattle.venue.specs.declared.rows.Offering.{Offering}
use Rattle.venue.specs.declared.rows.Posting.{Posting}
use Rattle.venue.specs.declared.rows.Request.{Request}
use Rattle.venue.specs.Days.{Day, symbol_of, request_of, quote_of, is_name, place_of, bit, buys, shows_side, shows_minimum, quotable, holds}
use Rattle.venue.specs.Calls.{whenever, a_price, amount, minimum_of, expiry_of, shown_of, misformed, beyond, off_tick, no_such_user, unknown_user, has_stranger}

abbrev pub entry_misformed : Entry → Bool
entry_misformed e = not (one_of (codes "BS") e.side) || (misformed e.limit || nat_lt 31 (shown_of e.shown))

-- what can be wrong with an entry
abbrev pub entry_beyond : Entry → Bool
entry_beyond e =
    no_such_user e.user
    || (not (is_name e.name)
    || (not (amount e.quantity)
    || (beyond e.limit
    || (not (amount (minimum_of e.minimum))
    || nat_lt 63000000 (expiry_of e.expiry)))))

abbrev pub wrong_recipients : Day → Entry → Bool
wrong_recipients d e = e.recipients == 0 || (has_stranger d e.recipients 64 || bit e.recipients e.user)

abbrev pub entry_off_tick : Day → Entry → Bool
entry_off_tick d e = whenever (place_of d e.name) (λ p. off_tick (symbol_of d p).ticks e.limit)

-- what can be wrong with a quote
abbrev pub offering_beyond : Offering → Bool
offering_beyond o =
    no_such_user o.user
    || (not (amount o.quantity)
    || (whenever o.selling beyond
    || (whenever o.buying beyond
    || (not (amount (minimum_of o.minimum))
    || nat_lt 63000000 (expiry_of o.expiry)))))

abbrev pub offering_off_tick : Ticks → Offering → Bool
offering_off_tick k o = whenever o.selling (off_tick k) || whenever o.buying (off_tick k)

-- the old quote that it names is no live one of the caller's on that request
abbrev pub old_not_live : Day → Offering → Bool
old_not_live d o = whenever o.old (λ q. not (holds d o.user q && (quote_of d q).request == o.request))

-- a leg against a side that is shown: one on the same side
abbrev pub against_shown : Request → Offering → Bool
against_shown r o = shows_side r && cond (buys r.side) (is_some o.buying) (is_some o.selling)

abbrev pub below_shown : Request → Offering → Bool
below_shown r o = shows_minimum r && nat_lt o.quantity r.minimum

-- what speaks against a quote in its own terms, in where it is to stand, and in what its request shows
abbrev pub term_causes : Day → Offering → List (Cause × Bool)
term_causes d o =
    (OutOfRange, offering_beyond o)
    ∷ (UnknownUser, unknown_user d o.user)
    ∷ (OffTick, quotable d o.user o.request && offering_off_tick (symbol_of d (request_of d o.request).place).ticks o)
    ∷ (MinimumAboveQuantity, nat_lt o.quantity (minimum_of o.minimum))
    ∷ (NotAfterClock, nat_le (expiry_of o.expiry) d.clock)
    ∷ []

abbrev pub place_causes : Day → Offering → List (Cause × Bool)
place_causes d o =
    (RequestNotOpen, not (quotable d o.user o.request))
    ∷ (QuoteNotLive, old_not_live d o)
    ∷ (DayFull, nat_le 512 (length d.quotes))
    ∷ []

abbrev pub shown_causes : Request → Offering → List (Cause × Bool)
shown_causes r o = (LegAgainstSide, against_shown r o) ∷ (BelowShownMinimum, below_shown r o) ∷ []

abbrev pub posting_beyond : Posting → Bool
posting_beyond p =
    not (is_name p.name) || (whenever p.bid (λ n. not (a_price n)) || whenever p.offer (λ n. not (a_price n)))
