use Rattle.std.proofs.Common.{rules}
use Rattle.listing.proofs.Parts.{shown_is}
use Rattle.listing.proofs.lines.add_shown.Goals as goal

pub returns : goal.returns
returns c = let is = shown_is c.args.text.now.items c.args.shown in search (rules, is)
