use Rattle.venue.proofs.Sorting.{sorted_quotes}
use Rattle.venue.proofs.theorems.quotes_are_sorted.Goals as goal

pub returns : goal.returns
returns c = sorted_quotes
