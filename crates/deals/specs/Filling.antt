-- What the fills leave of the quantities, and the trades that they make.
-- Assumes nothing.
use Rattle.std.specs.Prelude.{◌≡◌, ℕ, ◌+◌, Bool, List, [], ◌∷◌, length, take, drop, Ok, Err, Result, nat_lt}
use Rattle.tables.specs.declared.table.Table.{Table}
use Rattle.tables.specs.Used.{used}
use Rattle.records.specs.declared.causes.Cause.{Cause}
use Rattle.records.specs.declared.causes.Cause.TheVariants.{DayFull, NamedTwice, BelowFloor}
use Rattle.prices.specs.Rows.{bare}
use Rattle.venue.specs.declared.rows.Acceptance.{Acceptance}
use Rattle.venue.specs.declared.rows.Trade.{Trade}
use Rattle.venue.specs.Calls.{floor_of, has_double, named}
use Rattle.venue.specs.Days.{Day, open_of}
use Rattle.venue.specs.Trading.{Filled, renumbered, total}
use Rattle.venue.specs.Model.{opened, with_tables}
use Rattle.deals.specs.declared.terms.Terms.{Terms}

-- the day of the rows that the fills go by, with these quantities, and with nothing else
abbrev pub live_day : Terms → List ℕ → Day
live_day k quantities =
    with_tables (opened 0 [] [] [] bare) k.requests.now (take (length k.requests.now) quantities) k.quotes.now (take (length k.quotes.now) (drop 128 quantities)) k.trades.now

-- and with no quantities, for what does not depend on them
abbrev pub terms_day : Terms → Day
terms_day k = live_day k []

-- how far fills have come: what is left of the request, what remains of the quotes, and the trades made
abbrev pub so_far : ℕ → List ℕ → List Trade → Filled
so_far left remains made = record { open_left = left; remains = remains; trades = made }

-- the same of the fills on request n of a day
abbrev pub filled_on : Day → ℕ → List Trade → Filled
filled_on d n made = so_far (open_of d n) d.remains made

-- what can be wrong with the fills
abbrev pub fill_causes : Day → Acceptance → List Trade → List (Cause × Bool)
fill_causes d a made =
    (DayFull, nat_lt 512 (length d.trades + length made))
    ∷ (NamedTwice, has_double (named a.quotes))
    ∷ (BelowFloor, nat_lt (total made) (floor_of a.floor))
    ∷ []

abbrev pub verdict : {X : Type 0} → Result X Cause → Result Unit Cause
verdict (Ok x) = Ok tt
verdict (Err e) = Err e

-- granted, the fills are done, and no other open quantity has changed; refused, every quantity is what it was
abbrev pub Leaves : Terms → Filled → List ℕ → List ℕ → Result (Table Trade 8) Cause → Type 0
Leaves k f old new (Ok made) =
    (filled_on (live_day k new) k.call.now.request (used made) ≡ f)
    × ((live_day k new).opens ≡ renumbered (live_day k old).opens k.call.now.request f.open_left)
Leaves k f old new (Err e) = new ≡ old
