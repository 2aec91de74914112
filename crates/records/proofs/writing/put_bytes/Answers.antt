use Rattle.std.proofs.Common.{◌+◌, ◌-◌, length, ap, ◌∙◌, arith}
use borrow.Rule.Slice.PartMut.{put_mid}
use Rattle.records.proofs.Over.{over_mid}
use Rattle.records.proofs.writing.put_bytes.Goals as goal

pub returns : goal.returns
returns c =
    let at = c.args.at in
    let out = c.args.out.now in
    let bytes = c.args.bytes.now in
    let k = at + length bytes - at in
    record {
      after = ap (put_mid at k out) c.copy_from_slice.ensures.after ∙ over_mid out bytes at k (omega arith) (omega arith);
      value = omega arith;
    }
