-- A day of the venue: its tables as lists, and what is looked up in them.
-- Assumes nothing.
use Rattle.std.specs.Prelude.{ℕ, zero, suc, ◌+◌, ◌/◌, ◌^◌, Bool, true, false, cond, ◌&&◌, ◌||◌, List, [], ◌∷◌, Some, None, Option, ◌==◌, nat_le, nat_lt, slice_index, slice_index_or}
use Rattle.std.specs.Str.{bytes_eq}
use Rattle.records.specs.Bytes.{odd}
use Rattle.records.specs.Fields.{no_price}
use Rattle.prices.specs.declared.rows.Row.{Row}
use Rattle.prices.specs.Rows.{Screen}
use Rattle.venue.specs.declared.rows.User.{User}
use Rattle.venue.specs.declared.rows.Symbol.{Symbol}
use Rattle.venue.specs.declared.rows.Side.{Side}
use Rattle.venue.specs.declared.rows.Side.TheVariants.{Buy, Sell}
use Rattle.venue.specs.declared.rows.Life.{Life}
use Rattle.venue.specs.declared.rows.Life.TheVariants as life
use Rattle.venue.specs.declared.rows.Request.{Request}
use Rattle.venue.specs.declared.rows.Quote.{Quote}
use Rattle.venue.specs.declared.rows.Trade.{Trade}

-- users by number; symbols by place, in the order of entry; requests, quotes and trades from number 1 on, in the order of
-- acceptance; beside the requests what is open of each, beside the quotes what remains of each; and the source's meaning
pub record Day : Type 0 where
  pub number : ℕ
  pub clock : ℕ
  pub closed : Bool
  pub users : List User
  pub symbols : List Symbol
  pub requests : List Request
  pub opens : List ℕ
  pub quotes : List Quote
  pub remains : List ℕ
  pub trades : List Trade
  pub rows : List Row
  pub screen : Screen

-- the rows that stand for nobody and nothing
abbrev pub no_user : User
no_user = record { entered = false; rank = 0; late = false }

abbrev pub no_symbol : Symbol
no_symbol = record { name = []; ticks = record { tick = 0 }; large = 0 }

abbrev pub no_request : Request
no_request =
    record {
      requestor = 0;
      place = 0;
      recipients = 0;
      side = Buy;
      quantity = 0;
      limit = no_price;
      minimum = 0;
      expiry = 0;
      shown = 0;
      life = life.Absent;
    }

abbrev pub no_quote : Quote
no_quote =
    record {
      user = 0;
      request = 0;
      quantity = 0;
      selling = None;
      buying = None;
      minimum = 0;
      expiry = 0;
      live = false;
    }

abbrev pub no_trade : Trade
no_trade = record { request = 0; quote = 0; buyer = 0; seller = 0; quantity = 0; price = 0; filed = false }

-- the row with a number: there is none with number 0
abbrev pub numbered : {X : Type 0} → X → List X → ℕ → X
numbered none xs zero = none
numbered none xs (suc n) = slice_index_or xs n none

abbrev pub user_of : Day → ℕ → User
user_of d u = slice_index_or d.users u no_user

abbrev pub symbol_of : Day → ℕ → Symbol
symbol_of d p = slice_index_or d.symbols p no_symbol

abbrev pub request_of : Day → ℕ → Request
request_of d n = numbered no_request d.requests n

abbrev pub quote_of : Day → ℕ → Quote
quote_of d n = numbered no_quote d.quotes n

abbrev pub trade_of : Day → ℕ → Trade
trade_of d n = numbered no_trade d.trades n

-- the open quantity of a request and the remaining quantity of a quote
abbrev pub open_of : Day → ℕ → ℕ
open_of d n = numbered 0 d.opens n

abbrev pub remaining_of : Day → ℕ → ℕ
remaining_of d n = numbered 0 d.remains n

-- a name: letters A to Z and digits, at least one, and then spaces
abbrev pub sign : ℕ → Bool
sign b = (nat_le 65 b && nat_le b 90) || (nat_le 48 b && nat_le b 57)

abbrev pub blanks : List ℕ → Bool
blanks [] = true
blanks (b ∷ bs) = b == 32 && blanks bs

abbrev pub padded : List ℕ → Bool
padded [] = true
padded (b ∷ bs) = (sign b && padded bs) || (b == 32 && blanks bs)

abbrev pub is_name : List ℕ → Bool
is_name bs = sign (slice_index bs 0) && padded bs

-- by the first byte that differs
abbrev pub name_before : List ℕ → List ℕ → Bool
name_before [] ys = false
name_before (x ∷ xs) [] = false
name_before (x ∷ xs) (y ∷ ys) = cond (nat_lt x y) true (cond (nat_lt y x) false (name_before xs ys))

-- the place of the symbol with a name, from a place on
abbrev pub place_from : ℕ → List Symbol → List ℕ → Option ℕ
place_from i [] bs = None
place_from i (s ∷ ss) bs = cond (bytes_eq s.name bs) (Some i) (place_from (i + 1) ss bs)

abbrev pub place_of : Day → List ℕ → Option ℕ
place_of d bs = place_from 0 d.symbols bs

-- a bit of a set
abbrev pub bit : ℕ → ℕ → Bool
bit set i = odd (set / 2 ^ i)

abbrev pub is_open : Life → Bool
is_open life.Absent = false
is_open life.Open = true
is_open life.Cancelled = false
is_open life.Expired = false
is_open life.Accepted = false
is_open life.Closed = false

abbrev pub buys : Side → Bool
buys Buy = true
buys Sell = false

-- what a recipient is shown of a request
abbrev pub shows_side : Request → Bool
shows_side r = bit r.shown 0

abbrev pub shows_minimum : Request → Bool
shows_minimum r = bit r.shown 3

-- a request that is open and the user's own, and one that is open and was sent to the user
abbrev pub owns : Day → ℕ → ℕ → Bool
owns d u n = is_open (request_of d n).life && (request_of d n).requestor == u

abbrev pub quotable : Day → ℕ → ℕ → Bool
quotable d u n = is_open (request_of d n).life && bit (request_of d n).recipients u

-- a live quote of the user's
abbrev pub holds : Day → ℕ → ℕ → Bool
holds d u q = (quote_of d q).live && (quote_of d q).user == u
