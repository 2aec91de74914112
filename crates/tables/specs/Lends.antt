-- What the rows end as, where the one with a number is lent. Assumes nothing.
use Rattle.std.specs.Prelude.{◌≡◌, ℕ, List, Option}
use Rattle.std.specs.Borrow.{Array, LendsIf, LendsSo, Fml, RattleType, MutBor}
use Rattle.tables.specs.contracts.table.Table.{the_row}
use Rattle.tables.specs.Used.{spare, used}
use Rattle.venue.specs.Trading.{renumbered}

-- of a table: once the borrow r ends, the number has the last value written through r, and the array behind the rows is what it was; at
-- `None` the table stays as it is
abbrev pub lends_numbered : (T CAP : RattleType) → MutBor (the_row T CAP).Denot → ℕ → Option (MutBor T.Denot) → Fml
lends_numbered T CAP t n r =
    LendsSo (the_row T CAP) T t r (λ after w. (used after ≡ renumbered (used t.now) n w) × (spare after ≡ spare t.now)) (λ after. after ≡ t.now)

-- and of a slice
abbrev pub lends_row_numbered : (T : RattleType) → MutBor (List T.Denot) → ℕ → Option (MutBor T.Denot) → Fml
lends_row_numbered T rows n r = LendsIf (Array T 0) T rows r (renumbered rows.now n) rows.now
