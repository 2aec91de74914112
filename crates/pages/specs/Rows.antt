-- The rows of a page, and their lines.
-- Assumes nothing.
use Rattle.std.specs.Prelude.{◌≡◌, ℕ, ◌+◌, ◌-◌, ◌<◌, Bool, true, false, cond, ◌||◌, ◌==◌, List, [], ◌∷◌, ◌++◌, Some, None, Option, map, length, nat_lt, slice_index_or}
use Rattle.std.specs.List.{flat_map}
use Rattle.tables.specs.declared.inner.Tables.{Tables}
use Rattle.tables.specs.Tabled.{bare_day}
use Rattle.venue.specs.declared.rows.Candidate.{Candidate}
use Rattle.venue.specs.declared.rows.Side.TheVariants.{Buy}
use Rattle.venue.specs.Days.{Day, holds, trade_of}
use Rattle.venue.specs.Pages.{executable_line, own_quotes, own_trades, quote_line, shown_line, trade_line, whole_line}
use Rattle.pages.specs.declared.rows.Content.{Content}
use Rattle.pages.specs.declared.rows.Content.TheVariants.{View, Book}
use Rattle.pages.specs.declared.rows.Listed.{Listed}
use Rattle.pages.specs.declared.rows.Row.{Row}
use Rattle.pages.specs.declared.rows.Row.TheVariants.{Shown, Whole, Quote, Trade, Executable}
use Rattle.pages.specs.Seats.{Seated}

-- what a user is told in the line of a row
abbrev pub line_of : Day → ℕ → Row → List ℕ
line_of d u (Shown n) = shown_line d n
line_of d u (Whole n) = whole_line d n
line_of d u (Quote q) = quote_line d q
line_of d u (Trade n) = trade_line d u n
line_of d u (Executable c) = executable_line c

abbrev pub lines_of : Day → ℕ → List Row → List ℕ
lines_of d u rows = flat_map (line_of d u) rows

-- whether the line of a row names a symbol, and that there are symbols if it does
abbrev pub names : Row → Bool
names (Shown n) = true
names (Whole n) = true
names (Quote q) = false
names (Trade n) = true
names (Executable c) = false

abbrev pub Named : Tables → Row → Type 0
Named t row = names row ≡ true → Seated t

-- the rows of a page, by what it lists: a view, or the answer to a book question
abbrev pub rows_of : Day → ℕ → Content → List Row
rows_of d u (View seen) = map (λ (x : Listed). Shown x.number) seen.now ++ (map Quote (own_quotes d u) ++ map Trade (own_trades d u))
rows_of d u (Book n line) = Whole n ∷ map Executable line.now

-- and the same by number: a quote or a trade that is not the user's own has a number and no row
abbrev pub places : Day → Content → ℕ
places d (View seen) = length seen.now + (length d.quotes + length d.trades)
places d (Book n line) = 1 + length line.now

abbrev pub row_if : Bool → Row → Option Row
row_if b row = cond b (Some row) None

abbrev pub own_row : Day → ℕ → ℕ → Option Row
own_row d u n =
    cond (nat_lt (length d.quotes) n)
    (row_if (((trade_of d (n - length d.quotes)).buyer == u) || (trade_of d (n - length d.quotes)).seller == u) (Trade (n - length d.quotes)))
    (row_if (holds d u n) (Quote n))

-- what is read behind the last row of a list
abbrev pub no_listed : Listed
no_listed = record { name = []; number = 0 }

abbrev pub no_candidate : Candidate
no_candidate = record { side = Buy; price = 0; rank = 0; remaining = 0; quote = 0 }

abbrev pub row_at : Day → ℕ → Content → ℕ → Option Row
row_at d u (View seen) n =
    cond (nat_lt (length seen.now) n) (own_row d u (n - length seen.now)) (Some (Shown (slice_index_or seen.now (n - 1) no_listed).number))
row_at d u (Book m line) n = cond (nat_lt 1 n) (Some (Executable (slice_index_or line.now (n - 2) no_candidate))) (Some (Whole m))

-- the bytes of a row, if there is one
abbrev pub row_bytes : Day → ℕ → Option Row → List ℕ
row_bytes d u None = []
row_bytes d u (Some row) = line_of d u row

-- how many rows can name a symbol, and that there are symbols where any can
abbrev pub naming : Day → Content → ℕ
naming d (View seen) = length seen.now + length d.trades
naming d (Book n line) = 1

abbrev pub Tellable : Tables → Content → Type 0
Tellable t c = 0 < naming (bare_day t) c → Seated t
