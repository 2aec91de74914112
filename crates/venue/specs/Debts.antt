-- The law of debts: over several days with different numbers, calls on any of them, and debts that are presented to any of
-- them, the unfiled trades are exactly those on the debts that are out, each on one.
-- Assumes nothing.
use Rattle.std.specs.Prelude.{◌≡◌, ℕ, zero, suc, ◌+◌, Bool, true, false, cond, ◌&&◌, ◌≢◌, List, [], ◌∷◌, ◌++◌, map, Some, None, Ok, Err, Option, Result, ◌==◌, nat_le, slice_set}
use Rattle.std.specs.List.{AllByRecursion as Every}
use Rattle.records.specs.declared.causes.Refusal.{Refusal}
use Rattle.venue.specs.declared.rows.Report.{Report}
use Rattle.venue.specs.declared.rows.Trade.{Trade}
use Rattle.venue.specs.Days.{Day, numbered}
use Rattle.venue.specs.Calls.{Call, Call.enter, Call.offer, Call.pull, Call.cancel, Call.accept, Call.file, Call.post, Call.move_clock, Call.ask_price, Call.view, Call.book, Call.close}
use Rattle.venue.specs.Amounts.{opening, quoting, accept_all}
use Rattle.venue.specs.Model.{Reply, Opening, open_day, answer, next}

-- the days, and the debts that were handed out and not brought back
pub record World : Type 0 where
  pub days : List Day
  pub debts : List Report

-- a call on one of the days, which is no filing; or a debt, one of those that are out, presented to one of the days
pub data Event : Type 0 where
  call_on : (day : ℕ) → Call → Event
  present : (debt day : ℕ) → Event

-- the day at a place, if there is one
abbrev pub nth : {X : Type 0} → List X → ℕ → Option X
nth [] i = None
nth (x ∷ xs) zero = Some x
nth (x ∷ xs) (suc i) = nth xs i

abbrev pub without : {X : Type 0} → List X → ℕ → List X
without [] i = []
without (x ∷ xs) zero = xs
without (x ∷ xs) (suc i) = x ∷ without xs i

-- the debt that an answer hands out
abbrev pub debt_in : Option Report → List Report
debt_in None = []
debt_in (Some r) = r ∷ []

abbrev pub handed : Result Reply Refusal → List Report
handed (Ok r) = debt_in r.debt
handed (Err e) = []

abbrev pub is_filing : Call → Bool
is_filing (enter e) = false
is_filing (offer o) = false
is_filing (pull u q) = false
is_filing (cancel u n) = false
is_filing (accept a) = false
is_filing (file r) = true
is_filing (post p) = false
is_filing (move_clock t) = false
is_filing (ask_price k) = false
is_filing (view u room) = false
is_filing (book u n room) = false
is_filing close = false

-- the world after a call on the day at a place: what it owes is handed out
abbrev pub called : World → ℕ → Call → Option Day → World
called w i c None = w
called w i c (Some d) = record { days = slice_set w.days i (next d c); debts = w.debts ++ handed (answer d c) }

-- after a debt was presented: a filing that is carried out brings it back, any other leaves it out
abbrev pub brought : World → ℕ → ℕ → Day → Report → Result Reply Refusal → World
brought w k i d r (Ok x) = record { days = slice_set w.days i (next d (file r)); debts = without w.debts k }
brought w k i d r (Err e) = w

abbrev pub presented : World → ℕ → ℕ → Option Report → Option Day → World
presented w k i None o = w
presented w k i (Some r) None = w
presented w k i (Some r) (Some d) = brought w k i d r (answer d (file r))

abbrev pub step : World → Event → World
step w (call_on i c) = cond (is_filing c) w (called w i c (nth w.days i))
step w (present k i) = presented w k i (nth w.debts k) (nth w.days i)

abbrev pub steps : World → List Event → World
steps w [] = w
steps w (e ∷ es) = steps (step w e) es

-- 1 at each number of an unfiled trade, and 0 at any other
abbrev pub marks : List Trade → List ℕ
marks ts = map (λ t. cond t.filed 0 1) ts

abbrev pub unfiled_at : Day → ℕ → ℕ
unfiled_at d t = numbered 0 (marks d.trades) t

-- how many debts name a day and have a trade in their range
abbrev pub covers : Report → ℕ → ℕ → ℕ
covers r day t = cond (r.day == day && (nat_le r.first t && nat_le t r.last)) 1 0

abbrev pub covered : List Report → ℕ → ℕ → ℕ
covered [] day t = 0
covered (r ∷ rs) day t = covers r day t + covered rs day t

-- no two with the same number
abbrev pub Different : List Day → Type 0
Different [] = Unit {0}
Different (d ∷ ds) = Every (λ e. e.number ≢ d.number) ds × Different ds

-- each unfiled trade is on one debt that is out, and no other number is on any
abbrev pub Balanced : List Report → Day → Type 0
Balanced debts d = (t : ℕ) → covered debts d.number t ≡ unfiled_at d t

abbrev pub Debts : Type 0
Debts =
    (os : List Opening)
    → Different (map open_day os)
    → (es : List Event)
    → let w : World = steps (record { days = map open_day os; debts = [] }) es in Every (Balanced w.debts) w.days

-- two days of which the first trades three times: the debt is refused by the second day and stays out, and is brought back
-- by the first
abbrev pub two_days : World
two_days = record { days = map open_day (opening 1 ∷ opening 2 ∷ []); debts = [] }

abbrev pub traded : World
traded = steps two_days (map (call_on 0) (quoting 10000 ++ accept_all None ∷ []))

abbrev pub filed_twice : World
filed_twice = steps traded (present 0 1 ∷ present 0 0 ∷ present 0 0 ∷ [])

pub record Sample : Type 0 where
  pub apart : Different two_days.days
  pub out : traded.debts ≡ record { day = 1; first = 1; last = 3 } ∷ []
  pub kept : (steps traded (present 0 1 ∷ [])).debts ≡ record { day = 1; first = 1; last = 3 } ∷ []
  pub back : filed_twice.debts ≡ []
  pub unfiled_then : map (λ d. unfiled_at d 2) traded.days ≡ 1 ∷ 0 ∷ []
  pub filed_now : map (λ d. unfiled_at d 2) filed_twice.days ≡ 0 ∷ 0 ∷ []
