-- What a source means: its rows, and its screen, which says what a row gives at a time.
-- Assumes nothing.
use Rattle.std.specs.Prelude.{ℕ, ◌-◌, cond, List, Some, None, Ok, Err, Option, Result, nat_lt, slice_index_or, slice_set}
use Rattle.records.specs.declared.causes.Cause.TheVariants.{NoSuchPlace, NeverPosted, PriceGone, CrossedPair, TooOld}
use Rattle.records.specs.declared.causes.Refusal.{Refusal}
use Rattle.records.specs.Causes.{refusal}
use Rattle.prices.specs.declared.rows.Pair.{Pair}
use Rattle.prices.specs.declared.rows.Row.{Row}
use Rattle.prices.specs.declared.rows.Row.TheVariants.{Never, Gone, Posted}

-- a reading: bid, offer and posting time, or a refusal
abbrev pub Reading : Type 0
Reading = Result (ℕ × ℕ × ℕ) Refusal

-- what the row at a place gives at a time; the place is there for the refusal to name
abbrev pub Screen : Type 0
Screen = ℕ → Row → ℕ → Reading

-- the row that a posting leaves: the pair with its time, or gone
abbrev pub row_of : Option Pair → ℕ → Row
row_of None t = Gone
row_of (Some p) t = Posted p t

-- what a posting answers
abbrev pub post_answer : ℕ → Result Unit Refusal
post_answer p = cond (nat_lt p 64) (Ok tt) (Err (refusal NoSuchPlace p))

-- the rows after a posting: one is replaced
abbrev pub post_rows : List Row → ℕ → Row → List Row
post_rows rs p row = cond (nat_lt p 64) (slice_set rs p row) rs

-- what a reading answers: the screen's word on the row
abbrev pub read_answer : List Row → Screen → ℕ → ℕ → Reading
read_answer rs s p t = cond (nat_lt p 64) (s p (slice_index_or rs p Never) t) (Err (refusal NoSuchPlace p))

-- the screen of the sheet
abbrev pub bare : Screen
bare p Never t = Err (refusal NeverPosted p)
bare p Gone t = Err (refusal PriceGone p)
bare p (Posted q posted) t = Ok (q.bid, q.offer, posted)

abbrev pub pass_uncrossed : ℕ → Reading → Reading
pass_uncrossed p (Ok q) = cond (nat_lt q.1 q.0) (Err (refusal CrossedPair p)) (Ok q)
pass_uncrossed p (Err e) = Err e

-- the crossed screen: no pair whose offer is below its bid
abbrev pub uncrossed : Screen → Screen
uncrossed s p row t = pass_uncrossed p (s p row t)

abbrev pub pass_fresh : ℕ → ℕ → ℕ → Reading → Reading
pass_fresh limit p t (Ok q) = cond (nat_lt limit (t - q.2)) (Err (refusal TooOld p)) (Ok q)
pass_fresh limit p t (Err e) = Err e

-- the age screen: no pair that is older than the limit; one from a later time has age 0
abbrev pub fresh : ℕ → Screen → Screen
fresh limit s p row t = pass_fresh limit p t (s p row t)

-- what is read of a row that was just posted
abbrev pub echo : Screen → ℕ → Row → ℕ → Reading
echo s p row t = cond (nat_lt p 64) (s p row t) (Err (refusal NoSuchPlace p))
