-- The premises of the law of two days can be met. Assumes nothing.
use Rattle.std.proofs.Common.{◌≡◌, ℕ, refl, arith}
use Rattle.venue.specs.TwoDays.{HeldBack, Sample, a_buyer, a_seller}

held : HeldBack a_buyer a_seller
held =
    record {
      user = refl;
      name = refl;
      recipients = refl;
      expiry = refl;
      shown = refl;
      side = λ t. let z : ◌≡◌ {A = ℕ} 0 1 = cc in absurd (omega arith);
      quantity = λ t. let z : ◌≡◌ {A = ℕ} 0 1 = cc in absurd (omega arith);
      limit = λ t. let z : ◌≡◌ {A = ℕ} 0 1 = cc in absurd (omega arith);
      minimum = λ t. let z : ◌≡◌ {A = ℕ} 0 1 = cc in absurd (omega arith);
    }

pub sample : Sample
sample =
    record {
      two = record { alike = (tt, ((held, (refl, refl)), (tt, tt))); untraded = tt; untraded_other = tt; uninvolved = refl };
      seen = refl;
      apart = λ e. omega arith;
    }
