-- What rounding a mid means, and the worked amounts.
-- Assumes nothing.
use Rattle.std.specs.Prelude.{◌≡◌, ℕ, ◌+◌, ◌*◌, ◌<◌, ◌≤◌, Ok, Err, Result}
use Rattle.records.specs.declared.causes.Cause.TheVariants.{OutOfPrice, TooOld}
use Rattle.records.specs.declared.causes.Refusal.{Refusal}
use Rattle.records.specs.Causes.{refusal}
use Rattle.prices.specs.declared.rows.Leg.{Leg}
use Rattle.prices.specs.declared.rows.Leg.TheVariants.{Selling, Buying}
use Rattle.prices.specs.declared.rows.Row.TheVariants.{Posted}
use Rattle.prices.specs.declared.rows.Ticks.{Ticks}
use Rattle.prices.specs.Rows.{Reading, bare, fresh}
use Rattle.prices.specs.Prices.{tick_at, mid, price_of}

abbrev pub Multiple : ℕ → ℕ → Type 0
Multiple k m = (j : ℕ) × (m ≡ j * k)

-- m is the least multiple of k at or above half of s
abbrev pub Least : ℕ → ℕ → ℕ → Type 0
Least s k m = Multiple k m × (s ≤ 2 * m) × ((n : ℕ) → Multiple k n → s ≤ 2 * n → m ≤ n)

-- m is the greatest multiple of k at or below half of s
abbrev pub Greatest : ℕ → ℕ → ℕ → Type 0
Greatest s k m = Multiple k m × (2 * m ≤ s) × ((n : ℕ) → Multiple k n → 2 * n ≤ s → n ≤ m)

-- a selling leg at the mid has the least multiple of the tick at or above the exact mid, a buying leg the greatest at or
-- below it
abbrev pub Rounds : Type 0
Rounds =
    (k : Ticks) (bid offer : ℕ)
    → 0 < tick_at k (bid + offer)
    → Least (bid + offer) (tick_at k (bid + offer)) (mid Selling k bid offer)
    × Greatest (bid + offer) (tick_at k (bid + offer)) (mid Buying k bid offer)

-- what a leg at M comes to at a pair and a tick, for the symbol at place 0
abbrev pub at_mid : Leg → ℕ → ℕ → ℕ → Result ℕ Refusal
at_mid leg bid offer tick = price_of (Ok (bid, offer, 0)) record { tick = tick } leg 0 record { letter = 77; number = 0 }

-- what the age screen over the sheet gives of a pair
abbrev pub aged : ℕ → ℕ → ℕ → Reading
aged limit posted time = fresh limit bare 0 (Posted (record { bid = 1000100; offer = 1000200 }) posted) time

-- the amounts worked out by hand
pub record Amounts : Type 0 where
  pub between : (at_mid Selling 1000100 1000200 100 ≡ Ok 1000200) × (at_mid Buying 1000100 1000200 100 ≡ Ok 1000100)
  pub equal : (at_mid Selling 1000100 1000100 100 ≡ Ok 1000100) × (at_mid Buying 1000100 1000100 100 ≡ Ok 1000100)
  pub low : (at_mid Selling 3 4 5 ≡ Ok 5) × (at_mid Buying 3 4 5 ≡ Err (refusal OutOfPrice 0))
  pub high : (at_mid Selling 999999999 999999999 2 ≡ Err (refusal OutOfPrice 0)) × (at_mid Buying 999999999 999999999 2 ≡ Ok 999999998)
  pub unhalved : at_mid Selling 5 6 5 ≡ Ok 10
  pub age : (aged 60000 27000000 27060000 ≡ Ok (1000100, 1000200, 27000000)) × (aged 60000 27000000 27060001 ≡ Err (refusal TooOld 0))
