use Rattle.std.proofs.Common.{◌≡◌, suc, refl, sym, arith}
use Rattle.std.proofs.lemmas.List.{drop-set-lt, length-take-le}
use Rattle.tables.specs.Used.{used}
use Rattle.venue.specs.Trading.{renumbered}
use Rattle.tables.proofs.Lent.{front_read, front_written, written_behind}
use Rattle.tables.proofs.rows.numbered_mut.Goals as goal

pub returns-then-place-rows : goal.returns-then-place-rows
unfolding used
returns-then-place-rows g c =
    let t = c.args.rows.now in
    let place = c.in_ok-place.place in
    let is : c.args.n ≡ suc place = omega arith in (
      (refl, (λ w. (front_written t.rows t.len c.args.n place is c.if-place-rows.true w, drop-set-lt t.len t.rows place w c.if-place-rows.true)), refl),
      record { writes_back = tt; row = λ none. front_read t.rows t.len c.args.n place is c.if-place-rows.true (omega (arith, t.few, t.whole)) _ none; absent = tt },
    )

pub returns-else-place-rows : goal.returns-else-place-rows
unfolding used
returns-else-place-rows g c =
    let t = c.args.rows.now in
    let long = length-take-le t.len t.rows (omega (arith, t.few, t.whole)) in
    let stays : (row : g.row.R.Denot) → renumbered (used t) c.args.n row ≡ used t = λ row. written_behind (used t) c.args.n row (λ h. omega (arith, long)) in
    ((refl, (λ w. (sym (stays w), refl)), refl), record { writes_back = tt; row = tt; absent = stays })
