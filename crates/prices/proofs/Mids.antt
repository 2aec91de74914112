-- Rounded mids, and the worked amounts. Assumes nothing.
use Rattle.std.proofs.Common.{◌≡◌, ℕ, ◌+◌, ◌-◌, ◌*◌, ◌/◌, ◌%◌, min, ◌<◌, ◌≤◌, refl, ap, ◌∙◌, mul-le-mul_right, div-lt_iff_lt-mul, add-mul, one-mul, le-div_iff_mul-le, div-mul-le_self, mul_left_comm, arith}
use Rattle.std.proofs.lemmas.Grind.{div_ceil_times}
use Rattle.prices.specs.Prices.{tick_at, round_up, round_down}
use Rattle.prices.specs.Rounding.{Least, Greatest, Rounds, Amounts}

-- twice a multiple of k is a multiple of twice k
twice : (j k : ℕ) → 2 * (j * k) ≡ j * (2 * k)
twice j k = mul_left_comm 2 j k

one_more : (j w : ℕ) → (j + 1) * w ≡ j * w + w
one_more j w = add-mul j 1 w ∙ ap (λ n. j * w + n) (one-mul w)

-- the library's dividing upwards is dividing what is one short of a divisor more
pub ceil : (s w : ℕ) → 0 < w → s / w + min 1 (s % w) ≡ (s + (w - 1)) / w
ceil s w h =
    let q = s / w + min 1 (s % w) in
    let b = div_ceil_times s w h in
    let o = one_more q w in
    let low : q ≤ (s + (w - 1)) / w = (le-div_iff_mul-le h).1 (omega arith) in
    let high : (s + (w - 1)) / w < q + 1 = (div-lt_iff_lt-mul h).1 (omega arith) in
    omega arith

module _ (s k : ℕ) (h : 0 < k) where
  wide : 0 < 2 * k
  wide = omega arith

  greatest : Greatest s k (round_down s k)
  greatest =
      let q = s / (2 * k) in
      let under : q * (2 * k) ≤ s = div-mul-le_self s (2 * k) in
      let low : 2 * (q * k) ≤ s = let t = twice q k in omega arith in (
        (q, refl),
        low,
        λ n m e.
            let j = m.0 in
            let t = twice j k in
            let is = m.1 in
            let fit : j * (2 * k) ≤ s = omega arith in
            let most = mul-le-mul_right k ((le-div_iff_mul-le wide).1 fit) in
            omega arith,
      )

  least : Least s k (round_up s k)
  least =
      let x = s + (2 * k - 1) in
      let q = x / (2 * k) in
      let over : x < (q + 1) * (2 * k) = (div-lt_iff_lt-mul wide).0 (omega arith) in
      let o = one_more q (2 * k) in
      let high : s ≤ 2 * (q * k) = let t = twice q k in omega arith in (
        (q, refl),
        high,
        λ n m e.
            let j = m.0 in
            let t = twice j k in
            let is = m.1 in
            let p = one_more j (2 * k) in
            let fit : x < (j + 1) * (2 * k) = omega arith in
            let below : q < j + 1 = (div-lt_iff_lt-mul wide).1 fit in
            let most : q * k ≤ j * k = mul-le-mul_right k (omega arith) in
            omega arith,
      )

pub rounds : Rounds
rounds k bid offer h = (least (bid + offer) (tick_at k (bid + offer)) h, greatest (bid + offer) (tick_at k (bid + offer)) h)

pub amounts : Amounts
amounts =
    record {
      between = (refl, refl);
      equal = (refl, refl);
      low = (refl, refl);
      high = (refl, refl);
      unhalved = refl;
      age = (refl, refl);
    }
