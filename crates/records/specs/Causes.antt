-- The number and the layer letter of each cause of refusal, how a refusal is written, and which of several causes is given.
-- Assumes nothing.
use Rattle.std.specs.Prelude.{ℕ, Bool, cond, List, [], ◌∷◌, ◌++◌, Ok, Err, Result, codes, decimal, encode_utf8}
use Rattle.records.specs.declared.causes.Cause.{Cause}
use Rattle.records.specs.declared.causes.Cause.TheVariants.{UnknownKind, CutShort, ForeignBit, FieldAbsent, WrongLetter, OutOfPart, OutOfRange, EnteredBefore, UnknownUser, UnknownSymbol, WrongRecipients, OffTick, MinimumAboveQuantity, NotAfterClock, RequestNotOpen, QuoteNotLive, DayFull, LegAgainstSide, BelowShownMinimum, NamedTwice, BelowFloor, DebtNotOwed, TradesUnfiled, BufferShort, NoSuchPlace, NeverPosted, PriceGone, CrossedPair, TooOld, OutOfPrice}
use Rattle.records.specs.declared.causes.Refusal.{Refusal}

abbrev pub number : Cause → ℕ
number UnknownKind = 1
number CutShort = 2
number ForeignBit = 3
number FieldAbsent = 4
number WrongLetter = 5
number OutOfPart = 6
number OutOfRange = 10
number EnteredBefore = 11
number UnknownUser = 12
number UnknownSymbol = 13
number WrongRecipients = 14
number OffTick = 15
number MinimumAboveQuantity = 16
number NotAfterClock = 17
number RequestNotOpen = 18
number QuoteNotLive = 19
number DayFull = 20
number LegAgainstSide = 21
number BelowShownMinimum = 22
number NamedTwice = 23
number BelowFloor = 24
number DebtNotOwed = 25
number TradesUnfiled = 26
number BufferShort = 27
number NoSuchPlace = 13
number NeverPosted = 30
number PriceGone = 31
number CrossedPair = 32
number TooOld = 33
number OutOfPrice = 34

-- R, B and P
abbrev pub layer : Cause → ℕ
layer UnknownKind = 82
layer CutShort = 82
layer ForeignBit = 82
layer FieldAbsent = 82
layer WrongLetter = 82
layer OutOfPart = 82
layer OutOfRange = 66
layer EnteredBefore = 66
layer UnknownUser = 66
layer UnknownSymbol = 66
layer WrongRecipients = 66
layer OffTick = 66
layer MinimumAboveQuantity = 66
layer NotAfterClock = 66
layer RequestNotOpen = 66
layer QuoteNotLive = 66
layer DayFull = 66
layer LegAgainstSide = 66
layer BelowShownMinimum = 66
layer NamedTwice = 66
layer BelowFloor = 66
layer DebtNotOwed = 66
layer TradesUnfiled = 66
layer BufferShort = 66
layer NoSuchPlace = 80
layer NeverPosted = 80
layer PriceGone = 80
layer CrossedPair = 80
layer TooOld = 80
layer OutOfPrice = 80

abbrev pub refusal : Cause → ℕ → Refusal
refusal e p = record { cause = e; place = p }

-- the answer x, unless one of the causes holds: then the first in the list that does
abbrev pub unless : {X : Type 0} → List (Cause × Bool) → X → Result X Cause
unless [] x = Ok x
unless (c ∷ cs) x = cond c.1 (Err c.0) (unless cs x)

-- how a refusal is written: `no`, the number, the layer letter and the place
abbrev pub refusal_text : Refusal → List ℕ
refusal_text e = codes "no " ++ (decimal (number e.cause) ++ (codes " " ++ (encode_utf8 (layer e.cause) ++ (codes " " ++ decimal e.place))))
