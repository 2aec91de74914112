use Rattle.std.proofs.Common.{◌≡◌, Some, Ok, Err, sym, ap, ◌∙◌}
use Rattle.std.proofs.lemmas.Result.{err_from_is_err_and}
use Rattle.records.specs.Layout.{kind_of}
use Rattle.records.specs.Reading.{kind_in}
use Rattle.records.proofs.Layers.{known_from}
use Rattle.records.proofs.reading.read_front.Goals as goal

pub returns-in_err-len-clause-value : goal.returns-in_err-len-clause-value
returns-in_err-len-clause-value c =
    let s = c.args.bytes.now in
    let h = c.in_ok-head in
    let kind : kind_in s ≡ Some h.head.kind = ap kind_of (sym h.ensures.letter) ∙ h.head.known in
    let p = err_from_is_err_and c.from_residual-in_err-len.result c.from_residual-in_err-len.ensures.1 in
    p.1 ∙ ap (λ x. Err x) p.2 ∙ known_from s h.head.kind h.head.letter h.head.map h.rest.now (Err c.in_err-len.field-0.0) h.ensures.long kind h.ensures.letter h.ensures.map h.ensures.rest c.in_err-len.ensures.value

pub returns-clause-value : goal.returns-clause-value
returns-clause-value c =
    let s = c.args.bytes.now in
    let h = c.in_ok-head in
    let q = c.in_ok-len in
    let kind : kind_in s ≡ Some h.head.kind = ap kind_of (sym h.ensures.letter) ∙ h.head.known in
    known_from s h.head.kind h.head.letter h.head.map h.rest.now (Ok (q.len, q.fields)) h.ensures.long kind h.ensures.letter h.ensures.map h.ensures.rest q.ensures.value
