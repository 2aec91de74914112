use Rattle.std.proofs.Common.{length, ◌≡◌, ◌≤◌, [], take, fold}
use Rattle.tables.specs.Used.{used}
use Rattle.venue.specs.Days.{open_of}
use Rattle.venue.specs.Trading.{turn}
use Rattle.deals.specs.Filling.{filled_on, live_day, so_far, terms_day}
use Rattle.deals.proofs.terms.Terms.turns.Given as goal

-- the turns so far
abbrev pub invariant-loop-row : goal.invariant-loop-row
invariant-loop-row l =
    (so_far l.left l.remains (used l.made)
    ≡ fold (turn (terms_day l.self) l.self.call.now.request) (filled_on (live_day l.self l.fn.live) l.self.call.now.request []) (take l.row-index (used l.line)))
    × (l.left ≤ open_of (live_day l.self l.fn.live) l.self.call.now.request)
    × (length (used l.made) ≤ l.row-index)
