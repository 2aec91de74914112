use Rattle.std.proofs.Common.{◌≡◌, ◌++◌, ◌≤◌, length, take, drop, ap, ◌∙◌, arith, length-append, length-drop}
use Rattle.std.proofs.lemmas.List.{length-take-le, take-take}
use Rattle.tables.specs.Used.{used}
use Rattle.venue.specs.Days.{numbered}
use Rattle.venue.specs.Trading.{Filled, renumbered}
use Rattle.deals.proofs.Turning.{filled_parts, numbered_put, opens_of, turns_all}
use Rattle.deals.proofs.terms.Terms.turns.Goals as goal

pub returns : goal.returns
returns c =
    let k = c.args.self.now in
    let n = k.call.now.request in
    let held = length k.requests.now in
    let live = c.args.live.now in
    let opens = c.split_at_mut-opens.result.0.now in
    let remains = c.split_at_mut-opens.result.1.now in
    let split = c.split_at_mut-opens.ensures in
    let left = c.loop-row.left in
    let rows = c.renumber.new.rows in
    let long = c.renumber.auto.rows ∙ length-take-le held opens (omega (arith, split.front_len, k.few_requests)) in
    let front : length (rows ++ drop held opens) ≡ 128 = omega (arith, length-append rows (drop held opens), length-drop held opens, long, split.front_len, k.few_requests) in
    let back = c.loop-row.auto.remains ∙ length-take-le (length k.quotes.now) remains (omega (arith, split.back_len, k.few_quotes)) in
    let same : take held opens ≡ take held live = ap (take held) split.front ∙ take-take held 128 live k.few_requests in
    let less : left ≤ numbered 0 (take held opens) n = rw same c.loop-row.invariant.1 in
    let put : numbered 0 rows n ≡ left = ap (λ l. numbered 0 l n) c.renumber.ensures ∙ numbered_put (take held opens) n left less in
    let past : length (used c.args.line.now) ≤ c.loop-row.row-index = omega (arith, ap length c.as_slice-row-items.ensures.value, c.loop-row-test.false) in
    let all = turns_all k live (used c.args.line.now) c.loop-row.row-index _ past c.loop-row.invariant.0 in
    record {
      filled = filled_parts k rows _ c.loop-row.remains _ left _ long front back put ∙ all;
      opens =
          opens_of rows _ c.loop-row.remains _ _ long
          ∙ c.renumber.ensures
          ∙ ap (λ l. renumbered l n left) same
          ∙ ap (λ (f : Filled). renumbered (take held live) n f.open_left) all;
    }
