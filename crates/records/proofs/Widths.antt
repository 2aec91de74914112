-- How long the bytes of fields are, and which letters kinds have. Assumes nothing.
use Rattle.std.proofs.Common.{◌≡◌, ℕ, ◌<◌, ◌≤◌, true, false, eqb, ltb, List, [], ◌∷◌, length, None, refl, ap, ⊎_elim, arith, lit<, length-append, ltb-false, ltb-true}
use Rattle.std.specs.List.{flat_map}
use Rattle.std.proofs.lemmas.Bool.{cases_Bool}
use Rattle.std.proofs.lemmas.Bool.Decides.{nat_tests}
use Rattle.records.specs.declared.parts.Field.{Field}
use Rattle.records.specs.declared.parts.Field.TheVariants as field
use Rattle.records.specs.declared.parts.Record.{Record}
use Rattle.records.specs.Layout.{kind_of, shape}
use Rattle.records.specs.Bytes.{field_bytes, width, size}
use Rattle.records.specs.Reading.{no_kind}

-- a number that is none of the letters
other : (c x : ℕ) → 256 ≤ c → x < 256 → eqb c x ≡ false
other c x h k = grind (arith, nat_tests)

-- what is above a byte is no letter of a kind
none : (c : ℕ) → 256 ≤ c → kind_of c ≡ None
none c h =
    let no : (x : ℕ) → x < 256 → eqb c x ≡ false = λ x k. other c x h k in
    rw (no 85 (lit< tt), no 83 (lit< tt), no 79 (lit< tt), no 82 (lit< tt), no 81 (lit< tt), no 80 (lit< tt), no 88 (lit< tt), no 65 (lit< tt), no 84 (lit< tt), no 77 (lit< tt), no 75 (lit< tt), no 86 (lit< tt), no 66 (lit< tt), no 67 (lit< tt), no 114 (lit< tt), no 113 (lit< tt), no 116 (lit< tt), no 101 (lit< tt))

-- a known letter is one byte
pub known_byte : (c : ℕ) → no_kind (kind_of c) ≡ false → c < 256
known_byte c e =
    ⊎_elim (λ (t : ltb c 256 ≡ true). ltb-true c 256 t)
    (λ (f : ltb c 256 ≡ false).
    let k = ap no_kind (none c (ltb-false c 256 f)) in
    let z : ◌≡◌ {A = ℕ} 0 1 = cc in absurd (omega arith))
    (cases_Bool (ltb c 256))

-- the bytes of a field are as many as it takes, since a name has eight and a flag four
pub field_width : (r : Record) → length r.name ≡ 8 → length r.flag ≡ 4 → (f : Field) → length (field_bytes r f) ≡ width (shape f)
field_width r hn hf field.User = refl
field_width r hn hf field.Rank = refl
field_width r hn hf field.Late = refl
field_width r hn hf field.Name = hn
field_width r hn hf field.Tick = refl
field_width r hn hf field.Large = refl
field_width r hn hf field.Day = refl
field_width r hn hf field.Recipients = refl
field_width r hn hf field.Side = refl
field_width r hn hf field.Quantity = refl
field_width r hn hf field.Limit = refl
field_width r hn hf field.Minimum = refl
field_width r hn hf field.Expiry = refl
field_width r hn hf field.Shown = refl
field_width r hn hf field.Request = refl
field_width r hn hf field.Old = refl
field_width r hn hf field.Selling = refl
field_width r hn hf field.Buying = refl
field_width r hn hf field.Quote = refl
field_width r hn hf field.Floor = refl
field_width r hn hf field.Rest = refl
field_width r hn hf field.Second = refl
field_width r hn hf field.Third = refl
field_width r hn hf field.Fourth = refl
field_width r hn hf field.Fifth = refl
field_width r hn hf field.Sixth = refl
field_width r hn hf field.Seventh = refl
field_width r hn hf field.Eighth = refl
field_width r hn hf field.Time = refl
field_width r hn hf field.Bid = refl
field_width r hn hf field.Offer = refl
field_width r hn hf field.Letter = refl
field_width r hn hf field.Leg = refl
field_width r hn hf field.Open = refl
field_width r hn hf field.Requestor = refl
field_width r hn hf field.Remaining = refl
field_width r hn hf field.Sells = refl
field_width r hn hf field.Buys = refl
field_width r hn hf field.Trade = refl
field_width r hn hf field.Price = refl
field_width r hn hf field.Flag = hf

pub joined_size : (r : Record) → length r.name ≡ 8 → length r.flag ≡ 4 → (fs : List Field) → length (flat_map (field_bytes r) fs) ≡ size fs
joined_size r hn hf [] = refl
joined_size r hn hf (f ∷ fs) =
    let long = length-append (field_bytes r f) (flat_map (field_bytes r) fs) in
    let here = field_width r hn hf f in
    let rest = joined_size r hn hf fs in
    omega arith
