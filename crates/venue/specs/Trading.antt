-- Which quotes are executable, in which order an acceptance takes them, and what it fills.
-- Assumes nothing.
use Rattle.std.specs.Prelude.{ℕ, zero, suc, ◌+◌, ◌-◌, ◌*◌, min, Bool, true, false, cond, ◌&&◌, ◌||◌, List, [], ◌∷◌, ◌++◌, Some, None, fold, Option, Result, ◌==◌, nat_le, nat_lt, slice_set}
use Rattle.std.specs.Option.{unwrap_or}
use Rattle.std.specs.Result.{result_ok}
use Rattle.records.specs.declared.causes.Refusal.{Refusal}
use Rattle.records.specs.declared.parts.Price.{Price}
use Rattle.prices.specs.declared.rows.Leg.{Leg}
use Rattle.prices.specs.declared.rows.Leg.TheVariants.{Selling, Buying}
use Rattle.prices.specs.Prices.{price_of}
use Rattle.prices.specs.Rows.{read_answer}
use Rattle.ranked.specs.Ranks.{ranked}
use Rattle.venue.specs.declared.rows.Side.{Side}
use Rattle.venue.specs.declared.rows.Side.TheVariants.{Buy, Sell}
use Rattle.venue.specs.declared.rows.Quote.{Quote}
use Rattle.venue.specs.declared.rows.Trade.{Trade}
use Rattle.venue.specs.declared.rows.Candidate.{Candidate}
use Rattle.venue.specs.Days.{Day, numbered, user_of, symbol_of, request_of, quote_of, open_of, remaining_of, is_open, buys}

-- what a leg, or a limit that meets it, comes to now, for the symbol at a place
abbrev pub price_now : Day → ℕ → Leg → Price → Result ℕ Refusal
price_now d place leg p =
    price_of (read_answer d.rows d.screen place d.clock) (symbol_of d place).ticks leg place p

-- the leg that a side meets: a buyer a selling one, a seller a buying one
abbrev pub met_by : Side → Leg
met_by Buy = Selling
met_by Sell = Buying

abbrev pub leg_of : Leg → Quote → Option Price
leg_of Selling q = q.selling
leg_of Buying q = q.buying

-- a price that is there and can be had now
abbrev pub had_now : Day → ℕ → Leg → Option Price → Option ℕ
had_now d place leg None = None
had_now d place leg (Some p) = result_ok (price_now d place leg p)

-- the price now of the leg of quote q that request n meets, and of the request's limit
abbrev pub quote_price : Day → ℕ → ℕ → Option ℕ
quote_price d n q =
    had_now d (request_of d n).place (met_by (request_of d n).side) (leg_of (met_by (request_of d n).side) (quote_of d q))

abbrev pub limit_price : Day → ℕ → Option ℕ
limit_price d n = had_now d (request_of d n).place (met_by (request_of d n).side) (Some (request_of d n).limit)

-- at most a buyer's limit, at least a seller's; both can be had
abbrev pub within_limit : Side → Option ℕ → Option ℕ → Bool
within_limit side None limit = false
within_limit side (Some p) None = false
within_limit side (Some p) (Some limit) = cond (buys side) (nat_le p limit) (nat_le limit p)

-- a fill meets both minimums
abbrev pub meets : ℕ → ℕ → ℕ → Bool
meets fill least own = nat_le least fill && nat_le own fill

-- quote q can be traded on request n now
abbrev pub executable : Day → ℕ → ℕ → Bool
executable d n q =
    (is_open (request_of d n).life && ((quote_of d q).live && (quote_of d q).request == n))
    && (within_limit (request_of d n).side (quote_price d n q) (limit_price d n)
    && meets (min (open_of d n) (remaining_of d q)) (request_of d n).minimum (quote_of d q).minimum)

-- by one order, and where neither comes first by another
abbrev pub then_by : {X : Type 0} → (X → X → Bool) → (X → X → Bool) → X → X → Bool
then_by p q x y = cond (p x y) true (cond (p y x) false (q x y))

abbrev pub lowest : {X : Type 0} → (X → ℕ) → X → X → Bool
lowest f x y = nat_lt (f x) (f y)

abbrev pub largest : {X : Type 0} → (X → ℕ) → X → X → Bool
largest f x y = nat_lt (f y) (f x)

-- the lower, the better for the requestor: the price for a buyer, and what it lacks to the end of prices for a seller
abbrev pub cost : Candidate → ℕ
cost c = cond (buys c.side) c.price (1000000000 - c.price)

-- best price, lowest rank, largest remaining quantity, lowest number
abbrev pub before : Candidate → Candidate → Bool
before = then_by (lowest cost) (then_by (lowest (λ c. c.rank)) (then_by (largest (λ c. c.remaining)) (lowest (λ c. c.quote))))

abbrev pub candidate : Day → ℕ → ℕ → Candidate
candidate d n q =
    record {
      side = (request_of d n).side;
      price = unwrap_or (quote_price d n q) 0;
      rank = (user_of d (quote_of d q).user).rank;
      remaining = remaining_of d q;
      quote = q;
    }

-- quotes of a request in that order
abbrev pub in_order : Day → ℕ → List ℕ → List Candidate
in_order d n qs = fold (λ line q. ranked before (candidate d n q) line) [] qs

-- what is open of the request and what remains of the quotes after some fills, and the trades that they made
pub record Filled : Type 0 where
  pub open_left : ℕ
  pub remains : List ℕ
  pub trades : List Trade

-- the list with another value at a number
abbrev pub renumbered : {X : Type 0} → List X → ℕ → X → List X
renumbered xs zero x = xs
renumbered xs (suc n) x = slice_set xs n x

abbrev pub trade_of_fill : Day → ℕ → Candidate → ℕ → Trade
trade_of_fill d n c fill =
    record {
      request = n;
      quote = c.quote;
      buyer = cond (buys (request_of d n).side) (request_of d n).requestor (quote_of d c.quote).user;
      seller = cond (buys (request_of d n).side) (quote_of d c.quote).user (request_of d n).requestor;
      quantity = fill;
      price = c.price;
      filed = false;
    }

-- the turn of one quote: the smaller of what is open and what remains, passed over where that is below a minimum
abbrev pub filled_by : Day → ℕ → Filled → Candidate → ℕ → Filled
filled_by d n f c fill =
    cond (meets fill (request_of d n).minimum (quote_of d c.quote).minimum)
    (record {
      open_left = f.open_left - fill;
      remains = renumbered f.remains c.quote (numbered 0 f.remains c.quote - fill);
      trades = f.trades ++ trade_of_fill d n c fill ∷ [];
    })
    f

abbrev pub turn : Day → ℕ → Filled → Candidate → Filled
turn d n f c = filled_by d n f c (min f.open_left (numbered 0 f.remains c.quote))

abbrev pub fills : Day → ℕ → List Candidate → Filled
fills d n line = fold (turn d n) (record { open_left = open_of d n; remains = d.remains; trades = [] }) line

abbrev pub total : List Trade → ℕ
total [] = 0
total (t ∷ ts) = t.quantity + total ts

-- late: the value reaches the symbol's large value, and the buyer or the seller has the letter Y
abbrev pub is_late : Day → Trade → Bool
is_late d t =
    nat_le (symbol_of d (request_of d t.request).place).large (t.quantity * t.price)
    && ((user_of d t.buyer).late || (user_of d t.seller).late)
