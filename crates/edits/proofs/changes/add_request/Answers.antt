use Rattle.std.proofs.Common.{length, arith}
use Rattle.std.proofs.lemmas.List.{take_more_set, drop-set-lt}
use Rattle.tables.specs.Used.{used}
use Rattle.edits.proofs.changes.add_request.Goals as goal

pub returns : goal.returns
returns c =
    let quantities = c.args.t.now.quantities in
    let n = length (used c.args.t.now.requests) in
    let opens = take_more_set quantities n c.args.entry.now.quantity (omega arith) in
    let remains = drop-set-lt 128 quantities n c.args.entry.now.quantity (omega arith) in
    cc
