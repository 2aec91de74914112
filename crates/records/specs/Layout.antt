-- The kinds of record by their letters, the fields of each in bit order, and how each field stands as bytes.
-- Assumes nothing.
use Rattle.std.specs.Prelude.{ℕ, Bool, true, false, cond, List, [], ◌∷◌, Some, None, Option, ◌==◌}
use Rattle.records.specs.declared.parts.Field.{Field}
use Rattle.records.specs.declared.parts.Field.TheVariants.{User, Rank, Late, Name, Tick, Large, Day, Recipients, Side, Quantity, Limit, Minimum, Expiry, Shown, Request, Old, Selling, Buying, Quote, Floor, Rest, Second, Third, Fourth, Fifth, Sixth, Seventh, Eighth, Time, Bid, Offer, Letter, Leg, Open, Requestor, Remaining, Sells, Buys, Trade, Price, Flag}
use Rattle.records.specs.declared.parts.Shape.{Shape}
use Rattle.records.specs.declared.parts.Shape.TheVariants.{Byte, Two, Four, Eight, Users, Set, YesNo, BuySell, KeepCancel, Reference, Priced, Text, Mark}
use Rattle.records.specs.declared.parts.Slot.{Slot}
use Rattle.records.specs.declared.parts.Slot.TheVariants.{Must, May}
use Rattle.records.specs.declared.parts.Kind.{Kind}
use Rattle.records.specs.declared.parts.Kind.TheVariants.{NewUser, NewSymbol, Opening, Entry, Quoting, Pull, Cancel, Acceptance, Clock, Posting, PriceQuestion, ViewQuestion, BookQuestion, Closing, RequestLine, QuoteLine, TradeLine, ExecutableLine}

-- the kind of a letter
abbrev pub kind_of : ℕ → Option Kind
kind_of c =
    cond (c == 85) (Some NewUser) (
    cond (c == 83) (Some NewSymbol) (
    cond (c == 79) (Some Opening) (
    cond (c == 82) (Some Entry) (
    cond (c == 81) (Some Quoting) (
    cond (c == 80) (Some Pull) (
    cond (c == 88) (Some Cancel) (
    cond (c == 65) (Some Acceptance) (
    cond (c == 84) (Some Clock) (
    cond (c == 77) (Some Posting) (
    cond (c == 75) (Some PriceQuestion) (
    cond (c == 86) (Some ViewQuestion) (
    cond (c == 66) (Some BookQuestion) (
    cond (c == 67) (Some Closing) (
    cond (c == 114) (Some RequestLine) (
    cond (c == 113) (Some QuoteLine) (
    cond (c == 116) (Some TradeLine) (
    cond (c == 101) (Some ExecutableLine) (
    None))))))))))))))))))

abbrev pub field_of : Slot → Field
field_of (Must f) = f
field_of (May f) = f

abbrev pub may_lack : Slot → Bool
may_lack (Must f) = false
may_lack (May f) = true

-- the fields of a kind, from the lowest bit up
abbrev pub layout : Kind → List Slot
layout NewUser = Must User ∷ Must Rank ∷ Must Late ∷ []
layout NewSymbol = Must Name ∷ Must Tick ∷ Must Large ∷ []
layout Opening = Must Day ∷ []
layout Entry = Must User ∷ Must Name ∷ Must Recipients ∷ Must Side ∷ Must Quantity ∷ Must Limit ∷ May Minimum ∷ May Expiry ∷ May Shown ∷ []
layout Quoting = Must User ∷ Must Request ∷ May Old ∷ Must Quantity ∷ May Selling ∷ May Buying ∷ May Minimum ∷ May Expiry ∷ []
layout Pull = Must User ∷ Must Quote ∷ []
layout Cancel = Must User ∷ Must Request ∷ []
layout Acceptance = Must User ∷ Must Request ∷ May Floor ∷ May Rest ∷ Must Quote ∷ May Second ∷ May Third ∷ May Fourth ∷ May Fifth ∷ May Sixth ∷ May Seventh ∷ May Eighth ∷ []
layout Clock = Must Time ∷ []
layout Posting = Must Name ∷ May Bid ∷ May Offer ∷ []
layout PriceQuestion = Must Name ∷ Must Letter ∷ Must Leg ∷ []
layout ViewQuestion = Must User ∷ []
layout BookQuestion = Must User ∷ Must Request ∷ []
layout Closing = []
layout RequestLine = Must Request ∷ Must Name ∷ Must Expiry ∷ May Side ∷ May Open ∷ May Limit ∷ May Minimum ∷ May Requestor ∷ []
layout QuoteLine = Must Quote ∷ Must Request ∷ Must Remaining ∷ May Sells ∷ May Buys ∷ Must Minimum ∷ Must Expiry ∷ []
layout TradeLine = Must Trade ∷ Must Name ∷ Must Side ∷ Must Quantity ∷ Must Price ∷ May Flag ∷ []
layout ExecutableLine = Must Quote ∷ Must Remaining ∷ Must Price ∷ []

abbrev pub shape : Field → Shape
shape User = Byte
shape Rank = Byte
shape Late = YesNo
shape Name = Text
shape Tick = Four
shape Large = Eight
shape Day = Four
shape Recipients = Users
shape Side = BuySell
shape Quantity = Four
shape Limit = Priced
shape Minimum = Four
shape Expiry = Four
shape Shown = Set
shape Request = Two
shape Old = Two
shape Selling = Priced
shape Buying = Priced
shape Quote = Two
shape Floor = Four
shape Rest = KeepCancel
shape Second = Two
shape Third = Two
shape Fourth = Two
shape Fifth = Two
shape Sixth = Two
shape Seventh = Two
shape Eighth = Two
shape Time = Four
shape Bid = Four
shape Offer = Four
shape Letter = Reference
shape Leg = BuySell
shape Open = Four
shape Requestor = Byte
shape Remaining = Four
shape Sells = Four
shape Buys = Four
shape Trade = Two
shape Price = Four
shape Flag = Mark
