use Rattle.std.proofs.Common.{◌≡◌, ◌++◌, take, drop}
use Rattle.venue.specs.Model.{settled_quotes}
use Rattle.deals.proofs.settle.end_quotes.Given as goal

-- the rows that are written, and then what the others will be, are all of them settled
abbrev pub invariant-loop-i : goal.invariant-loop-i
invariant-loop-i l =
    (take l.i l.quotes ++ settled_quotes l.n l.over (drop l.i l.initial.quotes) (drop l.i l.remains) ≡ settled_quotes l.n l.over l.initial.quotes l.remains)
    × (drop l.i l.quotes ≡ drop l.i l.initial.quotes)
