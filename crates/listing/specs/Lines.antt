-- The line of a record: its count, its place, its kind and its fields by name as a person reads them; and the line of a
-- refusal, with its number, its layer and its place.
-- Assumes nothing.
use Rattle.std.specs.Prelude.{ℕ, zero, suc, ◌+◌, ◌/◌, ◌%◌, Bool, cond, not, ◌&&◌, List, [], ◌∷◌, ◌++◌, codes, decimal, ◌==◌, nat_le, nat_lt, encode_utf8}
use Rattle.std.specs.List.{flat_map}
use Rattle.records.specs.declared.causes.Refusal.{Refusal}
use Rattle.records.specs.declared.parts.Field.{Field}
use Rattle.records.specs.declared.parts.Field.TheVariants as field
use Rattle.records.specs.declared.parts.Price.{Price}
use Rattle.records.specs.declared.parts.Record.{Record}
use Rattle.records.specs.declared.parts.Shape.{Shape}
use Rattle.records.specs.declared.parts.Shape.TheVariants.{Byte, Two, Four, Eight, Users, Set, YesNo, BuySell, KeepCancel, Reference, Priced, Text, Mark}
use Rattle.records.specs.declared.parts.Value.{Value}
use Rattle.records.specs.declared.parts.Value.TheVariants.{Number, Letter, Quoted, Name, Letters}
use Rattle.records.specs.Bytes.{odd}
use Rattle.records.specs.Causes.{number, layer}
use Rattle.records.specs.Fields.{value}
use Rattle.records.specs.Layout.{shape}
use Rattle.records.specs.Writing.{fields_of}

abbrev pub label : Field → List ℕ
label field.User = codes "user"
label field.Rank = codes "rank"
label field.Late = codes "late"
label field.Name = codes "name"
label field.Tick = codes "tick"
label field.Large = codes "large"
label field.Day = codes "day"
label field.Recipients = codes "recipients"
label field.Side = codes "side"
label field.Quantity = codes "quantity"
label field.Limit = codes "limit"
label field.Minimum = codes "minimum"
label field.Expiry = codes "expiry"
label field.Shown = codes "shown"
label field.Request = codes "request"
label field.Old = codes "old"
label field.Selling = codes "selling"
label field.Buying = codes "buying"
label field.Quote = codes "quote"
label field.Floor = codes "floor"
label field.Rest = codes "rest"
label field.Second = codes "second"
label field.Third = codes "third"
label field.Fourth = codes "fourth"
label field.Fifth = codes "fifth"
label field.Sixth = codes "sixth"
label field.Seventh = codes "seventh"
label field.Eighth = codes "eighth"
label field.Time = codes "time"
label field.Bid = codes "bid"
label field.Offer = codes "offer"
label field.Letter = codes "letter"
label field.Leg = codes "leg"
label field.Open = codes "open"
label field.Requestor = codes "requestor"
label field.Remaining = codes "remaining"
label field.Sells = codes "sells"
label field.Buys = codes "buys"
label field.Trade = codes "trade"
label field.Price = codes "price"
label field.Flag = codes "flag"

-- a text that stands only if its bit does
abbrev pub only : Bool → List ℕ → List ℕ
only b t = cond b t []

-- the users of a set, from the number i up
unfoldable pub users_from : ℕ → ℕ → ℕ → List ℕ
users_from i zero n = []
users_from i (suc k) n = only (odd n) (codes " " ++ decimal i) ++ users_from (i + 1) k (n / 2)

abbrev pub users_text : ℕ → List ℕ
users_text n = codes "{" ++ (users_from 0 64 n ++ codes " }")

-- the names whose bits stand, in bit order
abbrev pub names_from : List (List ℕ) → ℕ → List ℕ
names_from [] n = []
names_from (w ∷ ws) n = only (odd n) (codes " " ++ w) ++ names_from ws (n / 2)

-- the fields of a request that are shown
abbrev pub shown_text : ℕ → List ℕ
shown_text n =
    codes "{"
    ++ (only (odd n) (codes " side")
    ++ (only (odd (n / 2)) (codes " quantity")
    ++ (only (odd (n / 4)) (codes " limit")
    ++ (only (odd (n / 8)) (codes " minimum")
    ++ (only (odd (n / 16)) (codes " requestor") ++ codes " }")))))

abbrev pub number_text : Shape → ℕ → List ℕ
number_text Byte n = decimal n
number_text Two n = decimal n
number_text Four n = decimal n
number_text Eight n = decimal n
number_text Users n = users_text n
number_text Set n = shown_text n
number_text YesNo n = decimal n
number_text BuySell n = decimal n
number_text KeepCancel n = decimal n
number_text Reference n = decimal n
number_text Priced n = decimal n
number_text Text n = decimal n
number_text Mark n = decimal n

-- the letter, and the number where that is L
abbrev pub price_text : Price → List ℕ
price_text p = encode_utf8 p.letter ++ only (p.letter == 76) (decimal p.number)

abbrev pub digit : ℕ → ℕ
digit d = cond (nat_lt d 10) (48 + d) (87 + d)

-- a byte by its two hexadecimal digits
abbrev pub hex : ℕ → List ℕ
hex b = digit (b / 16) ∷ digit (b % 16) ∷ []

-- a byte that a line may show as it is: none of the double quote, the backslash and what has no sign
abbrev pub plain : ℕ → Bool
plain b = nat_le 32 b && (nat_le b 126 && (not (b == 34) && not (b == 92)))

abbrev pub sign : ℕ → List ℕ
sign b = cond (plain b) (b ∷ []) (codes "\\x" ++ digit (b / 16) ∷ digit (b % 16) ∷ [])

abbrev pub name_text : List ℕ → List ℕ
name_text bs = 34 ∷ (flat_map sign bs ++ 34 ∷ [])

abbrev pub value_text : Shape → Value → List ℕ
value_text s (Number n) = number_text s n
value_text s (Letter c) = encode_utf8 c
value_text s (Quoted p) = price_text p
value_text s (Name bs) = name_text bs
value_text s (Letters bs) = bs

abbrev pub field_text : Record → Field → List ℕ
field_text r f = codes " " ++ (label f ++ (codes "=" ++ value_text (shape f) (value f r)))

abbrev pub head_text : ℕ → ℕ → ℕ → List ℕ
head_text count at k = decimal count ++ (codes " " ++ (decimal at ++ (codes " " ++ encode_utf8 k)))

-- the line of a record that was read, with the fields that stand in it
abbrev pub record_line : ℕ → ℕ → ℕ → Record → List ℕ
record_line count at k r = head_text count at k ++ (flat_map (field_text r) (fields_of k r) ++ 10 ∷ [])

abbrev pub cause_text : Refusal → List ℕ
cause_text e =
    codes " no "
    ++ (decimal (number e.cause) ++ (codes " " ++ (encode_utf8 (layer e.cause) ++ (codes " " ++ (decimal e.place ++ codes "\n")))))

-- the line of a refusal
abbrev pub refusal_line : ℕ → ℕ → ℕ → Refusal → List ℕ
refusal_line count at k e = head_text count at k ++ cause_text e
