-- What a leg or a limit comes to.
-- Assumes nothing.
use Rattle.std.specs.Prelude.{ℕ, ◌+◌, ◌-◌, ◌*◌, ◌/◌, cond, ◌&&◌, Ok, Err, Result, ◌==◌, nat_le}
use Rattle.records.specs.declared.causes.Cause.TheVariants.{WrongLetter, OutOfPrice}
use Rattle.records.specs.declared.causes.Refusal.{Refusal}
use Rattle.records.specs.declared.parts.Price.{Price}
use Rattle.records.specs.Causes.{refusal}
use Rattle.prices.specs.declared.rows.Leg.{Leg}
use Rattle.prices.specs.declared.rows.Leg.TheVariants.{Selling, Buying}
use Rattle.prices.specs.declared.rows.Ticks.{Ticks}
use Rattle.prices.specs.Rows.{Reading}

-- the tick of a symbol at a price, which is given twofold, since a mid may lie between two numbers
abbrev pub tick_at : Ticks → ℕ → ℕ
tick_at k twice = k.tick

-- the least multiple of k at or above half of s, and the greatest at or below it
abbrev pub round_up : ℕ → ℕ → ℕ
round_up s k = (s + (2 * k - 1)) / (2 * k) * k

abbrev pub round_down : ℕ → ℕ → ℕ
round_down s k = s / (2 * k) * k

-- the mid of a leg, rounded to the tick: bid and offer are never halved before
abbrev pub mid : Leg → Ticks → ℕ → ℕ → ℕ
mid Selling k bid offer = round_up (bid + offer) (tick_at k (bid + offer))
mid Buying k bid offer = round_down (bid + offer) (tick_at k (bid + offer))

-- a number as a price, if it is one
abbrev pub as_price : ℕ → ℕ → Result ℕ Refusal
as_price place n = cond (nat_le 1 n && nat_le n 999999999) (Ok n) (Err (refusal OutOfPrice place))

-- a price that is taken from what is read, or the source's refusal
abbrev pub from_reading : ℕ → (ℕ → ℕ → ℕ) → Reading → Result ℕ Refusal
from_reading place f (Ok q) = as_price place (f q.0 q.1)
from_reading place f (Err e) = Err e

-- what a leg or a limit at a price comes to, given what is read: at L the number, at B the bid, at O the offer, at M the mid
abbrev pub price_of : Reading → Ticks → Leg → ℕ → Price → Result ℕ Refusal
price_of q k leg place p =
    cond (p.letter == 76) (as_price place p.number)
    (cond (p.letter == 66) (from_reading place (λ bid offer. bid) q)
    (cond (p.letter == 79) (from_reading place (λ bid offer. offer) q)
    (cond (p.letter == 77) (from_reading place (mid leg k) q)
    (Err (refusal WrongLetter 0)))))
