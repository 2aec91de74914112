use Rattle.std.proofs.Common.{ap, rules}
use Rattle.records.specs.Reading.{no_kind}
use Rattle.records.proofs.Widths.{known_byte}
use Rattle.records.proofs.heads.Head.bytes.Goals as goal

pub returns : goal.returns
returns c =
    let byte = known_byte c.args.self.letter (ap no_kind c.args.self.known) in
    search rules
