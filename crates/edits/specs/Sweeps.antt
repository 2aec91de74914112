-- What a sweep does to one row. Assumes nothing.
use Rattle.std.specs.Prelude.{◌≡◌, ℕ, cond, not, ◌||◌, List, nat_le}
use Rattle.std.specs.Borrow.{MutBor}
use Rattle.std.specs.Fn.{Shared}
use Rattle.venue.specs.declared.rows.Life.TheVariants.{Expired}
use Rattle.venue.specs.declared.rows.Quote.{Quote}
use Rattle.venue.specs.declared.rows.Request.{Request}
use Rattle.venue.specs.Days.{no_request, numbered, is_open}
use Rattle.venue.specs.Model.{ended_as, ended_if}

-- a call of f at a row x may leave y there
pub record Leaves {F R : Type 0} (g : Shared F (MutBor R × Unit {0}) (Unit {0} × (MutBor R × Unit {0}))) (f : F) (x y : R) : Type 0 where
  pub lent : MutBor R
  pub lends : lent.now ≡ x
  pub left : MutBor R
  pub met : g.post f (lent, tt) (tt, (left, tt))
  pub leaves : left.now ≡ y

abbrev pub expired_row : ℕ → Request → Request
expired_row t r = cond (nat_le r.expiry t) (ended_as Expired r) r

abbrev pub expired_quote : ℕ → List Request → Quote → Quote
expired_quote t rs q = ended_if (nat_le q.expiry t || not (is_open (numbered no_request rs q.request).life)) q
