use Rattle.std.proofs.Common.{arith}
use Rattle.pages.specs.Told.{told}
use Rattle.pages.proofs.Putting.{stands}
use Rattle.pages.proofs.rows.Page.write.Goals as goal

pub returns : goal.returns
returns g c =
    let page = told g.S.Source.rows g.S.Source.screen c.args.self.now in
    stands page c.args.out.now _ c.len-len.result c.put.ensures c.len-len.ensures (omega arith)
