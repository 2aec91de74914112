use Rattle.std.proofs.Common.{◌-◌, take, drop, replicate, ap, ◌∙◌, arith}
use Rattle.records.specs.Fields.{blank}
use Rattle.listing.specs.Listing.{same_again}
use Rattle.listing.proofs.Again.{written_again}
use Rattle.listing.proofs.texts.written_back.Goals as goal

pub returns : goal.returns
returns c =
    let s = c.args.bytes.now in
    let n = c.args.next - c.args.at in
    c.same_again.ensures
    ∙ ap (λ r. same_again (take n (drop c.args.at s)) c.args.kind r (replicate 256 0)) c.requires.fields
    ∙ written_again s c.args.at c.args.kind c.args.next (blank 0) (replicate 256 0) (λ i. let h = c.type_inv.bytes i in omega arith) c.requires.answer c.requires.within.1 (omega arith)
