-- The day that the tables stand for.
-- Assumes nothing.
use Rattle.std.specs.Prelude.{ℕ, min, Bool, false, ◌&&◌, List, [], length, take, drop, ◌==◌}
use Rattle.prices.specs.declared.rows.Row.{Row}
use Rattle.prices.specs.Rows.{Screen, bare}
use Rattle.venue.specs.Days.{Day, request_of, quote_of, open_of, remaining_of, is_open}
use Rattle.venue.specs.Setting.{Setting}
use Rattle.venue.specs.Trading.{meets}
use Rattle.tables.specs.declared.inner.Tables.{Tables}
use Rattle.tables.specs.Used.{used}

-- over a source with these rows and this screen
abbrev pub day_of : Tables → List Row → Screen → Day
day_of t rows screen =
    record {
      number = t.number;
      clock = t.clock;
      closed = false;
      users = t.users;
      symbols = used t.symbols;
      requests = used t.requests;
      opens = take (length (used t.requests)) t.quantities;
      quotes = used t.quotes;
      remains = take (length (used t.quotes)) (drop 128 t.quantities);
      trades = used t.trades;
      rows = rows;
      screen = screen;
    }

-- and over one that was never posted to, for what does not depend on prices
abbrev pub bare_day : Tables → Day
bare_day t = day_of t [] bare

-- what was entered before the day opened
abbrev pub setting_of : Tables → Setting
setting_of t = record { users = t.users; symbols = used t.symbols }

-- two parts of what makes a quote executable: the request is open and the quote a live one on it, and the smaller of what is
-- open and what remains meets both minimums
abbrev pub live_on : Day → ℕ → ℕ → Bool
live_on d n q = is_open (request_of d n).life && ((quote_of d q).live && (quote_of d q).request == n)

abbrev pub enough_on : Day → ℕ → ℕ → Bool
enough_on d n q = meets (min (open_of d n) (remaining_of d q)) (request_of d n).minimum (quote_of d q).minimum
