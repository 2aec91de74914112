use Rattle.std.proofs.Common.{◌≡◌, ◌-◌, ◌/◌, ◌^◌, ◌++◌, vec_items}
use Rattle.listing.specs.Lines.{users_from}
use Rattle.listing.proofs.lines.add_users.Given as goal

abbrev pub invariant-loop-user : goal.invariant-loop-user
invariant-loop-user l =
    vec_items l.initial.text ++ users_from 0 64 l.users ≡ vec_items l.text ++ users_from l.user-counter (64 - l.user-counter) (l.users / 2 ^ l.user-counter)
