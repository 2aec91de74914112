-- Where the rows of a day stand.
-- Assumes nothing.
use Rattle.std.specs.Prelude.{◌≡◌, ℕ, ◌<◌, length, slice_index_or}
use Rattle.venue.specs.Days.{Day, no_request}

-- every request stands on a symbol of the day, and a day without symbols has no trades
abbrev pub Placed : Day → Type 0
Placed d =
    ((i : ℕ) → i < length d.requests → (slice_index_or d.requests i no_request).place < length d.symbols)
    × (length d.symbols ≡ 0 → length d.trades ≡ 0)
