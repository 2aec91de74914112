-- Setting a day up: its users and symbols, and why one is refused.
-- Assumes nothing.
use Rattle.std.specs.Prelude.{ℕ, Bool, true, not, ◌&&◌, ◌||◌, List, [], ◌∷◌, ◌++◌, length, replicate, is_some, Ok, Err, codes, Result, ◌==◌, nat_le, nat_lt, slice_index_or, slice_set}
use Rattle.records.specs.declared.causes.Cause.{Cause}
use Rattle.records.specs.declared.causes.Cause.TheVariants.{WrongLetter, OutOfRange, EnteredBefore, DayFull}
use Rattle.records.specs.declared.causes.Refusal.{Refusal}
use Rattle.records.specs.Bytes.{one_of}
use Rattle.records.specs.Causes.{refusal, unless}
use Rattle.prices.specs.declared.rows.Row.{Row}
use Rattle.prices.specs.Rows.{Screen}
use Rattle.venue.specs.declared.rows.User.{User}
use Rattle.venue.specs.declared.rows.Symbol.{Symbol}
use Rattle.venue.specs.declared.rows.NewUser.{NewUser}
use Rattle.venue.specs.declared.rows.NewSymbol.{NewSymbol}
use Rattle.venue.specs.Days.{no_user, is_name, place_from}
use Rattle.venue.specs.Model.{Opening}

-- what was entered so far: 64 places for users, by number, and the symbols in the order of entry
pub record Setting : Type 0 where
  pub users : List User
  pub symbols : List Symbol

abbrev pub nothing_set : Setting
nothing_set = record { users = replicate 64 no_user; symbols = [] }

pub data SetupCall : Type 0 where
  add_user : NewUser → SetupCall
  add_symbol : NewSymbol → SetupCall

abbrev pub setup_causes : Setting → SetupCall → List (Cause × Bool)
setup_causes s (add_user u) =
    (WrongLetter, not (one_of (codes "YN") u.late))
    ∷ (OutOfRange, nat_lt 63 u.user)
    ∷ (EnteredBefore, (slice_index_or s.users u.user no_user).entered)
    ∷ []
setup_causes s (add_symbol y) =
    (OutOfRange, not (is_name y.name) || (not (nat_le 1 y.tick && nat_le y.tick 10000000) || not (nat_le 1 y.large && nat_le y.large 100000000000000000)))
    ∷ (EnteredBefore, is_some (place_from 0 s.symbols y.name))
    ∷ (DayFull, nat_le 64 (length s.symbols))
    ∷ []

abbrev pub new_user : NewUser → User
new_user u = record { entered = true; rank = u.rank; late = (u.late == 89) }

abbrev pub new_symbol : NewSymbol → Symbol
new_symbol y = record { name = y.name; ticks = record { tick = y.tick }; large = y.large }

abbrev pub setup_apply : Setting → SetupCall → Setting
setup_apply s (add_user u) = record { users = slice_set s.users u.user (new_user u); symbols = s.symbols }
setup_apply s (add_symbol y) = record { users = s.users; symbols = s.symbols ++ new_symbol y ∷ [] }

-- the answer, and what is set up afterwards: the smallest number that has a cause, with place 0, or nothing to say
abbrev pub setup_judge : Setting → SetupCall → Result Unit Cause
setup_judge s c = unless (setup_causes s c) tt

abbrev pub setup_answer_by : Result Unit Cause → Result Unit Refusal
setup_answer_by (Ok x) = Ok x
setup_answer_by (Err e) = Err (refusal e 0)

abbrev pub setup_answer : Setting → SetupCall → Result Unit Refusal
setup_answer s c = setup_answer_by (setup_judge s c)

abbrev pub setup_next_by : Setting → SetupCall → Result Unit Cause → Setting
setup_next_by s c (Ok x) = setup_apply s c
setup_next_by s c (Err e) = s

abbrev pub setup_next : Setting → SetupCall → Setting
setup_next s c = setup_next_by s c (setup_judge s c)

-- the opening of a day that was so set up, with a day number, over a source
abbrev pub opening_of : Setting → ℕ → List Row → Screen → Opening
opening_of s day rows screen =
    record { number = day; users = s.users; symbols = s.symbols; rows = rows; screen = screen }
