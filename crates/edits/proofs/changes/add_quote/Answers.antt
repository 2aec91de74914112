use Rattle.std.proofs.Common.{◌≡◌, ◌+◌, ◌<◌, length, drop, rules, arith}
use Rattle.std.proofs.lemmas.List.{take_more_set, take-set-le, drop-set-add, length-drop}
use Rattle.tables.specs.Used.{used}
use Rattle.tables.proofs.Room.{used_few}
use Rattle.venue.specs.Model.{without_old}
use Rattle.edits.proofs.changes.add_quote.Goals as goal

pub returns : goal.returns
returns c =
    let t = c.args.t.now in
    let o = c.args.offering.now in
    let n = length (used t.quotes) in
    let count = c.edit.ensures.len in
    let ended : used c.edit.new.self ≡ without_old o.old (used t.quotes) = search rules in
    let opens = take-set-le (length (used t.requests)) t.quantities (128 + n) o.quantity (omega (arith, used_few t.requests)) in
    let place = drop-set-add 128 t.quantities n o.quantity in
    let room : n < length (drop 128 t.quantities) = omega (arith, length-drop 128 t.quantities) in
    let remains = take_more_set (drop 128 t.quantities) n o.quantity room in
    cc
