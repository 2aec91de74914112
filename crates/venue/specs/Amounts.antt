-- The amounts worked out by hand, as runs of calls.
-- Assumes nothing.
use Rattle.std.specs.Prelude.{◌≡◌, ℕ, true, false, List, [], ◌∷◌, replicate, Some, None, Ok, Err, codes, Option, Result}
use Rattle.records.specs.declared.causes.Cause.TheVariants.{BelowFloor}
use Rattle.records.specs.declared.causes.Refusal.{Refusal}
use Rattle.records.specs.declared.parts.Price.{Price}
use Rattle.records.specs.Causes.{refusal}
use Rattle.prices.specs.declared.rows.Row.TheVariants.{Never}
use Rattle.prices.specs.Rounding.{Amounts as Prices}
use Rattle.prices.specs.Rows.{bare, fresh, uncrossed}
use Rattle.venue.specs.declared.rows.User.{User}
use Rattle.venue.specs.declared.rows.Trade.{Trade}
use Rattle.venue.specs.Days.{Day, no_user}
use Rattle.venue.specs.Calls.{Call, Call.enter, Call.offer, Call.accept, Call.post}
use Rattle.venue.specs.Model.{Reply, Opening, open_day, after, answer, next}

abbrev pub abc : List ℕ
abc = codes "ABC     "

abbrev pub user : ℕ → User
user rank = record { entered = true; rank = rank; late = false }

-- users 0 to 3, of whom 0 asks; one symbol with tick 100; the program's stack of screens over an empty sheet
abbrev pub opening : ℕ → Opening
opening n =
    record {
      number = n;
      users = user 9 ∷ user 1 ∷ user 0 ∷ user 5 ∷ replicate 60 no_user;
      symbols = record { name = abc; ticks = record { tick = 100 }; large = 1 } ∷ [];
      rows = replicate 64 Never;
      screen = uncrossed (fresh 60000 bare);
    }

abbrev pub morning : Day
morning = open_day (opening 1)

abbrev pub at_number : ℕ → Price
at_number n = record { letter = 76; number = n }

abbrev pub at_mid : Price
at_mid = record { letter = 77; number = 0 }

abbrev pub posting : Call
posting = post (record { name = abc; bid = Some 1000100; offer = Some 1000200 })

-- a buyer of so many, limit 1,000,200, minimum 2,000
abbrev pub buying : ℕ → Call
buying n =
    enter
    (record {
      user = 0;
      name = abc;
      recipients = 14;
      side = 66;
      quantity = n;
      limit = at_number 1000200;
      minimum = Some 2000;
      expiry = None;
      shown = None;
    })

abbrev pub selling : ℕ → ℕ → Price → Option ℕ → Call
selling u n p least =
    offer (record { user = u; request = 1; old = None; quantity = n; selling = Some p; buying = None; minimum = least; expiry = None })

-- a request and three quotes, and the day with them
abbrev pub quoting : ℕ → List Call
quoting n =
    posting
    ∷ buying n
    ∷ selling 1 6000 at_mid None
    ∷ selling 2 3000 (at_number 1000200) None
    ∷ selling 3 4000 (at_number 1000100) (Some 3000)
    ∷ []

abbrev pub ready : ℕ → Day
ready n = after morning (quoting n)

abbrev pub accept_all : Option ℕ → Call
accept_all floor =
    accept
    (record {
      user = 0;
      request = 1;
      floor = floor;
      rest = None;
      quotes = Some 1 ∷ Some 2 ∷ Some 3 ∷ None ∷ None ∷ None ∷ None ∷ None ∷ [];
    })

abbrev pub bought : ℕ → ℕ → ℕ → ℕ → Trade
bought q u n p =
    record { request = 1; quote = q; buyer = 0; seller = u; quantity = n; price = p; filed = false }

abbrev pub owing : ℕ → Result Reply Refusal
owing n = Ok (record { number = n; debt = Some (record { day = 1; first = 1; last = n }); page = [] })

pub record Amounts : Type 0 where
  pub prices : Prices
  pub three : (answer (ready 10000) (accept_all None) ≡ owing 3) × ((next (ready 10000) (accept_all None)).trades ≡ bought 3 3 4000 1000100 ∷ bought 2 2 3000 1000200 ∷ bought 1 1 3000 1000200 ∷ [])
  pub two : (answer (ready 8500) (accept_all (Some 7000)) ≡ owing 2) × ((next (ready 8500) (accept_all (Some 7000))).trades ≡ bought 3 3 4000 1000100 ∷ bought 2 2 3000 1000200 ∷ [])
  pub none : answer (ready 8500) (accept_all (Some 7001)) ≡ Err (refusal BelowFloor 0)
