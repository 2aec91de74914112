-- What a view and a book question write: records, one after another.
-- Assumes nothing.
use Rattle.std.specs.Prelude.{ℕ, zero, suc, ◌+◌, ◌*◌, Bool, cond, ◌||◌, List, [], ◌∷◌, ◌++◌, length, is_some, codes, fold, filter, Option, ◌==◌}
use Rattle.std.specs.List.{flat_map}
use Rattle.std.specs.Option.{unwrap_or}
use Rattle.records.specs.declared.parts.Field.TheVariants as field
use Rattle.records.specs.declared.parts.Value.TheVariants.{Number, Letter, Quoted, Name, Letters}
use Rattle.records.specs.Fields.{blank, put}
use Rattle.records.specs.Writing.{encode}
use Rattle.prices.specs.declared.rows.Leg.{Leg}
use Rattle.prices.specs.declared.rows.Leg.TheVariants.{Selling, Buying}
use Rattle.ranked.specs.Ranks.{ranked}
use Rattle.venue.specs.declared.rows.Side.{Side}
use Rattle.venue.specs.declared.rows.Side.TheVariants.{Buy, Sell}
use Rattle.venue.specs.declared.rows.Candidate.{Candidate}
use Rattle.venue.specs.Days.{Day, symbol_of, request_of, quote_of, trade_of, open_of, remaining_of, quotable, holds, name_before}
use Rattle.venue.specs.Trading.{leg_of, had_now, executable, then_by, lowest, in_order, is_late}

-- the numbers from 1 to n
abbrev pub numbers : ℕ → List ℕ
numbers zero = []
numbers (suc n) = numbers n ++ suc n ∷ []

-- B or S
abbrev pub side_letter : Side → ℕ
side_letter Buy = 66
side_letter Sell = 83

abbrev pub name_of : Day → ℕ → List ℕ
name_of d n = (symbol_of d (request_of d n).place).name

-- r: a request, with the fields of the bit map
abbrev pub request_line : Day → ℕ → ℕ → List ℕ
request_line d m n =
    encode 114
    (put field.Request (Number n)
    (put field.Name (Name (name_of d n))
    (put field.Expiry (Number (request_of d n).expiry)
    (put field.Side (Letter (side_letter (request_of d n).side))
    (put field.Open (Number (open_of d n))
    (put field.Limit (Quoted (request_of d n).limit)
    (put field.Minimum (Number (request_of d n).minimum)
    (put field.Requestor (Number (request_of d n).requestor) (blank m)))))))))

-- with what is shown, and with everything
abbrev pub shown_line : Day → ℕ → List ℕ
shown_line d n = request_line d (7 + 8 * (request_of d n).shown) n

abbrev pub whole_line : Day → ℕ → List ℕ
whole_line d n = request_line d 255 n

-- the price now of a leg of quote q
abbrev pub leg_now : Day → Leg → ℕ → Option ℕ
leg_now d leg q = had_now d (request_of d (quote_of d q).request).place leg (leg_of leg (quote_of d q))

-- q: a quote, with the price of each leg that can be had now
abbrev pub quote_line : Day → ℕ → List ℕ
quote_line d q =
    encode 113
    (put field.Quote (Number q)
    (put field.Request (Number (quote_of d q).request)
    (put field.Remaining (Number (remaining_of d q))
    (put field.Sells (Number (unwrap_or (leg_now d Selling q) 0))
    (put field.Buys (Number (unwrap_or (leg_now d Buying q) 0))
    (put field.Minimum (Number (quote_of d q).minimum)
    (put field.Expiry (Number (quote_of d q).expiry)
    (blank (103 + cond (is_some (leg_now d Selling q)) 8 0 + cond (is_some (leg_now d Buying q)) 16 0)))))))))

-- t: a trade, with the user's own side, and LRGS where it is late
abbrev pub trade_line : Day → ℕ → ℕ → List ℕ
trade_line d u t =
    encode 116
    (put field.Trade (Number t)
    (put field.Name (Name (name_of d (trade_of d t).request))
    (put field.Side (Letter (cond ((trade_of d t).buyer == u) 66 83))
    (put field.Quantity (Number (trade_of d t).quantity)
    (put field.Price (Number (trade_of d t).price)
    (put field.Flag (Letters (codes "LRGS")) (blank (31 + cond (is_late d (trade_of d t)) 32 0))))))))

-- e: an executable quote
abbrev pub executable_line : Candidate → List ℕ
executable_line c =
    encode 101
    (put field.Quote (Number c.quote) (put field.Remaining (Number c.remaining) (put field.Price (Number c.price) (blank 7))))

-- requests by name, then by number
abbrev pub request_before : Day → ℕ → ℕ → Bool
request_before d = then_by (λ m n. name_before (name_of d m) (name_of d n)) (lowest (λ n. n))

abbrev pub seen_requests : Day → ℕ → List ℕ
seen_requests d u =
    fold (λ line n. ranked (request_before d) n line) [] (filter (λ n. quotable d u n) (numbers (length d.requests)))

abbrev pub own_quotes : Day → ℕ → List ℕ
own_quotes d u = filter (λ q. holds d u q) (numbers (length d.quotes))

abbrev pub own_trades : Day → ℕ → List ℕ
own_trades d u = filter (λ t. ((trade_of d t).buyer == u) || (trade_of d t).seller == u) (numbers (length d.trades))

-- a view: the open requests sent to the user, its live quotes, its trades
abbrev pub view_page : Day → ℕ → List ℕ
view_page d u =
    flat_map (shown_line d) (seen_requests d u) ++ (flat_map (quote_line d) (own_quotes d u) ++ flat_map (trade_line d u) (own_trades d u))

-- a book question: the request with everything, and its executable quotes in order
abbrev pub executables : Day → ℕ → List ℕ
executables d n = filter (λ q. executable d n q) (numbers (length d.quotes))

abbrev pub book_page : Day → ℕ → List ℕ
book_page d n = whole_line d n ++ flat_map executable_line (in_order d n (executables d n))
