-- How the fields of a record stand as bytes: its kind letter, its bit map, lower byte first, and then the fields whose
-- bits stand, in bit order.
-- Assumes nothing.
use Rattle.std.specs.Prelude.{ℕ, ◌+◌, ◌/◌, ◌%◌, ◌^◌, Bool, true, false, cond, not, ◌&&◌, ◌||◌, List, [], ◌∷◌, length, take, codes, ◌==◌, nat_le, slice_index}
use Rattle.records.specs.declared.parts.Record.{Record}
use Rattle.records.specs.declared.parts.Field.{Field}
use Rattle.records.specs.declared.parts.Slot.{Slot}
use Rattle.records.specs.declared.parts.Kind.{Kind}
use Rattle.records.specs.declared.parts.Kind.TheVariants as kind
use Rattle.records.specs.declared.parts.Value.{Value}
use Rattle.records.specs.declared.parts.Value.TheVariants.{Number, Letter, Quoted, Name, Letters}
use Rattle.records.specs.declared.parts.Shape.{Shape}
use Rattle.records.specs.declared.parts.Shape.TheVariants.{Byte, Two, Four, Eight, Users, Set, YesNo, BuySell, KeepCancel, Reference, Priced, Text, Mark}
use Rattle.records.specs.Layout.{field_of, layout, may_lack, shape}
use Rattle.records.specs.Fields.{value}

-- how many bytes a field takes
abbrev pub width : Shape → ℕ
width Byte = 1
width Two = 2
width Four = 4
width Eight = 8
width Users = 8
width Set = 1
width YesNo = 1
width BuySell = 1
width KeepCancel = 1
width Reference = 1
width Priced = 5
width Text = 8
width Mark = 4

-- a number, lower byte first
abbrev pub number_bytes : ℕ → List ℕ
number_bytes n =
    n % 256 ∷ n / 256 % 256 ∷ n / 65536 % 256 ∷ n / 16777216 % 256 ∷ n / 4294967296 % 256 ∷ n / 1099511627776 % 256
    ∷ n / 281474976710656 % 256
    ∷ n / 72057594037927936 % 256
    ∷ []

-- a letter is its code, of which a byte holds the low part
abbrev pub value_bytes : Shape → Value → List ℕ
value_bytes s (Number n) = take (width s) (number_bytes n)
value_bytes s (Letter c) = c % 256 ∷ []
value_bytes s (Quoted p) = (p.letter % 256) ∷ take 4 (number_bytes p.number)
value_bytes s (Name bs) = bs
value_bytes s (Letters bs) = bs

abbrev pub field_bytes : Record → Field → List ℕ
field_bytes r f = value_bytes (shape f) (value f r)

abbrev pub odd : ℕ → Bool
odd m = m % 2 == 1

-- the fields whose bits stand
abbrev pub standing : List Slot → ℕ → List Field
standing [] m = []
standing (s ∷ ss) m = cond (odd m) (field_of s ∷ standing ss (m / 2)) (standing ss (m / 2))

-- how many bytes a field takes, given the map from its bit up
abbrev pub taken : Slot → ℕ → ℕ
taken s m = cond (odd m) (width (shape (field_of s))) 0

-- how many bytes the fields take
abbrev pub size : List Field → ℕ
size [] = 0
size (f ∷ fs) = width (shape f) + size fs

-- a bit stands that no field has
abbrev pub foreign : List Slot → ℕ → Bool
foreign ss m = not (m / 2 ^ length ss == 0)

-- a field lacks that must stand
abbrev pub missing : List Slot → ℕ → Bool
missing [] m = false
missing (s ∷ ss) m = (not (may_lack s) && not (odd m)) || missing ss (m / 2)

-- beyond single fields: a quote has neither leg, or a posting one of its two prices without the other
abbrev pub incomplete : Kind → ℕ → Bool
incomplete kind.NewUser m = false
incomplete kind.NewSymbol m = false
incomplete kind.Opening m = false
incomplete kind.Entry m = false
incomplete kind.Quoting m = not (odd (m / 16)) && not (odd (m / 32))
incomplete kind.Pull m = false
incomplete kind.Cancel m = false
incomplete kind.Acceptance m = false
incomplete kind.Clock m = false
incomplete kind.Posting m = not (m / 2 % 2 == m / 4 % 2)
incomplete kind.PriceQuestion m = false
incomplete kind.ViewQuestion m = false
incomplete kind.BookQuestion m = false
incomplete kind.Closing m = false
incomplete kind.RequestLine m = false
incomplete kind.QuoteLine m = false
incomplete kind.TradeLine m = false
incomplete kind.ExecutableLine m = false

abbrev pub absent : Kind → ℕ → Bool
absent k m = missing (layout k) m || incomplete k m

abbrev pub one_of : List ℕ → ℕ → Bool
one_of [] c = false
one_of (x ∷ xs) c = c == x || one_of xs c

-- the letters that a field may have
abbrev pub letters : Shape → List ℕ
letters Byte = []
letters Two = []
letters Four = []
letters Eight = []
letters Users = []
letters Set = []
letters YesNo = codes "YN"
letters BuySell = codes "BS"
letters KeepCancel = codes "KC"
letters Reference = codes "BOM"
letters Priced = codes "LBOM"
letters Text = []
letters Mark = []

-- the highest number that a field may have, where the bytes do not say it
abbrev pub number_fits : Shape → ℕ → Bool
number_fits Byte n = true
number_fits Two n = true
number_fits Four n = true
number_fits Eight n = true
number_fits Users n = true
number_fits Set n = nat_le n 31
number_fits YesNo n = true
number_fits BuySell n = true
number_fits KeepCancel n = true
number_fits Reference n = true
number_fits Priced n = true
number_fits Text n = true
number_fits Mark n = true

abbrev pub lrgs : List ℕ → Bool
lrgs bs = slice_index bs 0 == 76 && (slice_index bs 1 == 82 && (slice_index bs 2 == 71 && slice_index bs 3 == 83))

-- a letter is one of those allowed, a price has a number only at L, a shown set has no bit above 4
abbrev pub fits : Shape → Value → Bool
fits s (Number n) = number_fits s n
fits s (Letter c) = one_of (letters s) c
fits s (Quoted p) = one_of (letters Priced) p.letter && (p.letter == 76 || p.number == 0)
fits s (Name bs) = true
fits s (Letters bs) = lrgs bs

abbrev pub wrong : Record → List Field → Bool
wrong r [] = false
wrong r (f ∷ fs) = not (fits (shape f) (value f r)) || wrong r fs
