-- The bytes of one field, there and back. Assumes nothing.
use Rattle.std.proofs.Common.{◌≡◌, ℕ, ◌+◌, ◌*◌, ◌/◌, ◌%◌, ◌<◌, ◌≤◌, true, List, [], ◌∷◌, ◌++◌, length, take, sym, refl, ap, ◌∙◌, arith}
use native.Mathlib.Nat.{div-div-eq-div-mul}
use Rattle.std.proofs.lemmas.Bool.{and_parts}
use Rattle.std.proofs.lemmas.Bool.Decides.{nat_tests}
use Rattle.records.specs.declared.parts.Field.{Field}
use Rattle.records.specs.declared.parts.Field.TheVariants as field
use Rattle.records.specs.declared.parts.Price.{Price}
use Rattle.records.specs.declared.parts.Record.{Record}
use Rattle.records.specs.declared.parts.Shape.{Shape}
use Rattle.records.specs.declared.parts.Shape.TheVariants as form
use Rattle.records.specs.declared.parts.Value.TheVariants.{Number, Letter, Quoted, Name, Letters}
use Rattle.records.specs.Layout.{shape}
use Rattle.records.specs.Fields.{value, byte, two, four, eight, text, mark, price, decoded}
use Rattle.records.specs.Bytes.{width, number_bytes, value_bytes, field_bytes, one_of, letters, fits}
use Rattle.records.specs.Trips.{Bytes, Sized}

-- the low byte and the rest of a number, and the rest of the rest
split : (n : ℕ) → n % 256 + n / 256 * 256 ≡ n
split n = omega arith

split_more : (n p : ℕ) → n / (p * 256) ≡ n / p / 256
split_more n p = sym (div-div-eq-div-mul n p 256)

four_parts : (a b c d p q r n : ℕ) → a + p * 256 ≡ n → b + q * 256 ≡ p → c + r * 256 ≡ q → d ≡ r → a + b * 256 + c * 65536 + d * 16777216 ≡ n
four_parts a b c d p q r n e1 e2 e3 e4 = omega arith

eight_parts : (a b c d e f g h p1 p2 p3 p4 p5 p6 p7 n : ℕ) → a + p1 * 256 ≡ n → b + p2 * 256 ≡ p1 → c + p3 * 256 ≡ p2 → d + p4 * 256 ≡ p3 → e + p5 * 256 ≡ p4 → f + p6 * 256 ≡ p5 → g + p7 * 256 ≡ p6 → h ≡ p7 → a + b * 256 + c * 65536 + d * 16777216 + e * 4294967296 + f * 1099511627776 + g * 281474976710656 + h * 72057594037927936 ≡ n
eight_parts a b c d e f g h p1 p2 p3 p4 p5 p6 p7 n e1 e2 e3 e4 e5 e6 e7 e8 = omega arith

-- a number from its bytes
module _ (n : ℕ) (rest : List ℕ) where
  byte_back : n < 256 → byte (take 1 (number_bytes n) ++ rest) ≡ n
  byte_back h = omega arith

  two_back : n < 65536 → two (take 2 (number_bytes n) ++ rest) ≡ n
  two_back h = omega arith

  four_back : n < 4294967296 → four (take 4 (number_bytes n) ++ rest) ≡ n
  four_back h =
      let d2 = split_more n 256 in
      let d3 = split_more n 65536 in
      let s1 : n / 256 % 256 + n / 65536 * 256 ≡ n / 256 = ap (λ q. n / 256 % 256 + q * 256) d2 ∙ split (n / 256) in
      let s2 : n / 65536 % 256 + n / 16777216 * 256 ≡ n / 65536 = ap (λ q. n / 65536 % 256 + q * 256) d3 ∙ split (n / 65536) in
      let top : n / 16777216 % 256 ≡ n / 16777216 = omega arith in
      four_parts (n % 256) (n / 256 % 256) (n / 65536 % 256) (n / 16777216 % 256) (n / 256) (n / 65536) (n / 16777216) n (split n) s1 s2 top

  eight_back : n < 18446744073709551616 → eight (take 8 (number_bytes n) ++ rest) ≡ n
  eight_back h =
      let s1 : n / 256 % 256 + n / 65536 * 256 ≡ n / 256 = ap (λ q. n / 256 % 256 + q * 256) (split_more n 256) ∙ split (n / 256) in
      let s2 : n / 65536 % 256 + n / 16777216 * 256 ≡ n / 65536 = ap (λ q. n / 65536 % 256 + q * 256) (split_more n 65536) ∙ split (n / 65536) in
      let s3 : n / 16777216 % 256 + n / 4294967296 * 256 ≡ n / 16777216 = ap (λ q. n / 16777216 % 256 + q * 256) (split_more n 16777216) ∙ split (n / 16777216) in
      let s4 : n / 4294967296 % 256 + n / 1099511627776 * 256 ≡ n / 4294967296 = ap (λ q. n / 4294967296 % 256 + q * 256) (split_more n 4294967296) ∙ split (n / 4294967296) in
      let s5 : n / 1099511627776 % 256 + n / 281474976710656 * 256 ≡ n / 1099511627776 = ap (λ q. n / 1099511627776 % 256 + q * 256) (split_more n 1099511627776) ∙ split (n / 1099511627776) in
      let s6 : n / 281474976710656 % 256 + n / 72057594037927936 * 256 ≡ n / 281474976710656 = ap (λ q. n / 281474976710656 % 256 + q * 256) (split_more n 281474976710656) ∙ split (n / 281474976710656) in
      let top : n / 72057594037927936 % 256 ≡ n / 72057594037927936 = omega arith in
      eight_parts (n % 256) (n / 256 % 256) (n / 65536 % 256) (n / 16777216 % 256) (n / 4294967296 % 256) (n / 1099511627776 % 256) (n / 281474976710656 % 256) (n / 72057594037927936 % 256) (n / 256) (n / 65536) (n / 16777216) (n / 4294967296) (n / 1099511627776) (n / 281474976710656) (n / 72057594037927936) n (split n) s1 s2 s3 s4 s5 s6 top

-- a letter that is allowed is one byte
letter_low : (s : Shape) (c : ℕ) → one_of (letters s) c ≡ true → c % 256 ≡ c
letter_low form.Byte c e = grind (arith, nat_tests)
letter_low form.Two c e = grind (arith, nat_tests)
letter_low form.Four c e = grind (arith, nat_tests)
letter_low form.Eight c e = grind (arith, nat_tests)
letter_low form.Users c e = grind (arith, nat_tests)
letter_low form.Set c e = grind (arith, nat_tests)
letter_low form.YesNo c e = grind (arith, nat_tests)
letter_low form.BuySell c e = grind (arith, nat_tests)
letter_low form.KeepCancel c e = grind (arith, nat_tests)
letter_low form.Reference c e = grind (arith, nat_tests)
letter_low form.Priced c e = grind (arith, nat_tests)
letter_low form.Text c e = grind (arith, nat_tests)
letter_low form.Mark c e = grind (arith, nat_tests)

price_back : (p : Price) (rest : List ℕ) → p.number < 4294967296 → fits form.Priced (Quoted p) ≡ true → price (value_bytes form.Priced (Quoted p) ++ rest) ≡ p
price_back p rest h e =
    let l = letter_low form.Priced p.letter (and_parts _ _ e).0 in
    let n = four_back p.number rest h in
    λ i. record { letter = l i; number = n i }

eight_long : (bs rest : List ℕ) → length bs ≡ 8 → text (bs ++ rest) ≡ bs
eight_long ([]) rest h = absurd (omega arith)
eight_long (a ∷ []) rest h = absurd (omega arith)
eight_long (a ∷ b ∷ []) rest h = absurd (omega arith)
eight_long (a ∷ b ∷ c ∷ []) rest h = absurd (omega arith)
eight_long (a ∷ b ∷ c ∷ d ∷ []) rest h = absurd (omega arith)
eight_long (a ∷ b ∷ c ∷ d ∷ e ∷ []) rest h = absurd (omega arith)
eight_long (a ∷ b ∷ c ∷ d ∷ e ∷ f ∷ []) rest h = absurd (omega arith)
eight_long (a ∷ b ∷ c ∷ d ∷ e ∷ f ∷ g ∷ []) rest h = absurd (omega arith)
eight_long (a ∷ b ∷ c ∷ d ∷ e ∷ f ∷ g ∷ h ∷ []) rest k = refl
eight_long (a ∷ b ∷ c ∷ d ∷ e ∷ f ∷ g ∷ h ∷ i ∷ bs) rest k = absurd (omega arith)

four_long : (bs rest : List ℕ) → length bs ≡ 4 → mark (bs ++ rest) ≡ bs
four_long ([]) rest h = absurd (omega arith)
four_long (a ∷ []) rest h = absurd (omega arith)
four_long (a ∷ b ∷ []) rest h = absurd (omega arith)
four_long (a ∷ b ∷ c ∷ []) rest h = absurd (omega arith)
four_long (a ∷ b ∷ c ∷ d ∷ []) rest k = refl
four_long (a ∷ b ∷ c ∷ d ∷ e ∷ bs) rest k = absurd (omega arith)

-- what was written of a field is read as what it holds
pub field_back : (r : Record) (rest : List ℕ) (f : Field) → Sized (shape f) (value f r) → fits (shape f) (value f r) ≡ true → value f (decoded (field_bytes r f ++ rest)) ≡ value f r
field_back r rest field.User h e = ap (λ n. Number n) (byte_back r.user rest h)
field_back r rest field.Rank h e = ap (λ n. Number n) (byte_back r.rank rest h)
field_back r rest field.Late h e = ap (λ n. Letter n) (letter_low form.YesNo r.late e)
field_back r rest field.Name h e = ap (λ bs. Name bs) (eight_long r.name rest h)
field_back r rest field.Tick h e = ap (λ n. Number n) (four_back r.tick rest h)
field_back r rest field.Large h e = ap (λ n. Number n) (eight_back r.large rest h)
field_back r rest field.Day h e = ap (λ n. Number n) (four_back r.day rest h)
field_back r rest field.Recipients h e = ap (λ n. Number n) (eight_back r.recipients rest h)
field_back r rest field.Side h e = ap (λ n. Letter n) (letter_low form.BuySell r.side e)
field_back r rest field.Quantity h e = ap (λ n. Number n) (four_back r.quantity rest h)
field_back r rest field.Limit h e = ap (λ p. Quoted p) (price_back r.limit rest h e)
field_back r rest field.Minimum h e = ap (λ n. Number n) (four_back r.minimum rest h)
field_back r rest field.Expiry h e = ap (λ n. Number n) (four_back r.expiry rest h)
field_back r rest field.Shown h e = ap (λ n. Number n) (byte_back r.shown rest h)
field_back r rest field.Request h e = ap (λ n. Number n) (two_back r.request rest h)
field_back r rest field.Old h e = ap (λ n. Number n) (two_back r.old rest h)
field_back r rest field.Selling h e = ap (λ p. Quoted p) (price_back r.selling rest h e)
field_back r rest field.Buying h e = ap (λ p. Quoted p) (price_back r.buying rest h e)
field_back r rest field.Quote h e = ap (λ n. Number n) (two_back r.quote rest h)
field_back r rest field.Floor h e = ap (λ n. Number n) (four_back r.floor rest h)
field_back r rest field.Rest h e = ap (λ n. Letter n) (letter_low form.KeepCancel r.rest e)
field_back r rest field.Second h e = ap (λ n. Number n) (two_back r.second rest h)
field_back r rest field.Third h e = ap (λ n. Number n) (two_back r.third rest h)
field_back r rest field.Fourth h e = ap (λ n. Number n) (two_back r.fourth rest h)
field_back r rest field.Fifth h e = ap (λ n. Number n) (two_back r.fifth rest h)
field_back r rest field.Sixth h e = ap (λ n. Number n) (two_back r.sixth rest h)
field_back r rest field.Seventh h e = ap (λ n. Number n) (two_back r.seventh rest h)
field_back r rest field.Eighth h e = ap (λ n. Number n) (two_back r.eighth rest h)
field_back r rest field.Time h e = ap (λ n. Number n) (four_back r.time rest h)
field_back r rest field.Bid h e = ap (λ n. Number n) (four_back r.bid rest h)
field_back r rest field.Offer h e = ap (λ n. Number n) (four_back r.offer rest h)
field_back r rest field.Letter h e = ap (λ n. Letter n) (letter_low form.Reference r.letter e)
field_back r rest field.Leg h e = ap (λ n. Letter n) (letter_low form.BuySell r.leg e)
field_back r rest field.Open h e = ap (λ n. Number n) (four_back r.«open» rest h)
field_back r rest field.Requestor h e = ap (λ n. Number n) (byte_back r.requestor rest h)
field_back r rest field.Remaining h e = ap (λ n. Number n) (four_back r.remaining rest h)
field_back r rest field.Sells h e = ap (λ n. Number n) (four_back r.sells rest h)
field_back r rest field.Buys h e = ap (λ n. Number n) (four_back r.buys rest h)
field_back r rest field.Trade h e = ap (λ n. Number n) (two_back r.trade rest h)
field_back r rest field.Price h e = ap (λ n. Number n) (four_back r.price rest h)
field_back r rest field.Flag h e = ap (λ bs. Letters bs) (four_long r.flag rest h)

-- bytes from their number
one_bytes : (s : List ℕ) → Bytes s → 1 ≤ length s → byte s % 256 ∷ [] ≡ take 1 s
one_bytes [] b h = absurd (omega arith)
one_bytes (x ∷ s) b h = let x0 = b 0 in let e : x % 256 ≡ x = omega arith in ap (λ y. y ∷ []) e

two_bytes : (s : List ℕ) → Bytes s → 2 ≤ length s → take 2 (number_bytes (two s)) ≡ take 2 s
two_bytes [] b h = absurd (omega arith)
two_bytes (x ∷ []) b h = absurd (omega arith)
two_bytes (x ∷ y ∷ s) b h =
    let x0 = b 0 in
    let y0 = b 1 in
    let q1 : (x + y * 256) / 256 ≡ y = omega arith in
    let ex : (x + y * 256) % 256 ≡ x = omega arith in
    let ey : (x + y * 256) / 256 % 256 ≡ y = rw q1 (omega arith) in
    λ i. ex i ∷ ey i ∷ []

module _ (x y z w : ℕ) (x0 : x < 256) (y0 : y < 256) (z0 : z < 256) (w0 : w < 256) where
  abbrev whole : ℕ
  whole = x + y * 256 + z * 65536 + w * 16777216

  four_digits : take 4 (number_bytes whole) ≡ x ∷ y ∷ z ∷ w ∷ []
  four_digits =
      let q1 : whole / 256 ≡ y + z * 256 + w * 65536 = omega arith in
      let d2 = div-div-eq-div-mul whole 256 256 in
      let q2 : whole / 65536 ≡ z + w * 256 = sym d2 ∙ rw q1 (omega arith) in
      let d3 = div-div-eq-div-mul whole 65536 256 in
      let q3 : whole / 16777216 ≡ w = sym d3 ∙ rw q2 (omega arith) in
      let ex : whole % 256 ≡ x = omega arith in
      let ey : whole / 256 % 256 ≡ y = rw q1 (omega arith) in
      let ez : whole / 65536 % 256 ≡ z = rw q2 (omega arith) in
      let ew : whole / 16777216 % 256 ≡ w = rw q3 (omega arith) in
      λ i. ex i ∷ ey i ∷ ez i ∷ ew i ∷ []

four_bytes : (s : List ℕ) → Bytes s → 4 ≤ length s → take 4 (number_bytes (four s)) ≡ take 4 s
four_bytes ([]) b h = absurd (omega arith)
four_bytes (x ∷ []) b h = absurd (omega arith)
four_bytes (x ∷ y ∷ []) b h = absurd (omega arith)
four_bytes (x ∷ y ∷ z ∷ []) b h = absurd (omega arith)
four_bytes (x ∷ y ∷ z ∷ w ∷ s) b h = four_digits x y z w (b 0) (b 1) (b 2) (b 3)

price_bytes : (s : List ℕ) → Bytes s → 5 ≤ length s → value_bytes form.Priced (Quoted (price s)) ≡ take 5 s
price_bytes ([]) b h = absurd (omega arith)
price_bytes (l ∷ []) b h = absurd (omega arith)
price_bytes (l ∷ x ∷ []) b h = absurd (omega arith)
price_bytes (l ∷ x ∷ y ∷ []) b h = absurd (omega arith)
price_bytes (l ∷ x ∷ y ∷ z ∷ []) b h = absurd (omega arith)
price_bytes (l ∷ x ∷ y ∷ z ∷ w ∷ s) b h =
    let l0 = b 0 in
    let el : l % 256 ≡ l = omega arith in
    let n = four_digits x y z w (b 1) (b 2) (b 3) (b 4) in
    λ i. el i ∷ n i

mark_bytes : (s : List ℕ) → 4 ≤ length s → mark s ≡ take 4 s
mark_bytes ([]) h = absurd (omega arith)
mark_bytes (x ∷ []) h = absurd (omega arith)
mark_bytes (x ∷ y ∷ []) h = absurd (omega arith)
mark_bytes (x ∷ y ∷ z ∷ []) h = absurd (omega arith)
mark_bytes (x ∷ y ∷ z ∷ w ∷ s) h = refl

text_bytes : (s : List ℕ) → 8 ≤ length s → text s ≡ take 8 s
text_bytes ([]) h = absurd (omega arith)
text_bytes (a ∷ []) h = absurd (omega arith)
text_bytes (a ∷ b ∷ []) h = absurd (omega arith)
text_bytes (a ∷ b ∷ c ∷ []) h = absurd (omega arith)
text_bytes (a ∷ b ∷ c ∷ d ∷ []) h = absurd (omega arith)
text_bytes (a ∷ b ∷ c ∷ d ∷ e ∷ []) h = absurd (omega arith)
text_bytes (a ∷ b ∷ c ∷ d ∷ e ∷ f ∷ []) h = absurd (omega arith)
text_bytes (a ∷ b ∷ c ∷ d ∷ e ∷ f ∷ g ∷ []) h = absurd (omega arith)
text_bytes (a ∷ b ∷ c ∷ d ∷ e ∷ f ∷ g ∷ h ∷ s) k = refl

module _ (a b c d e f g h : ℕ) (a0 : a < 256) (b0 : b < 256) (c0 : c < 256) (d0 : d < 256) (e0 : e < 256) (f0 : f < 256) (g0 : g < 256) (h0 : h < 256) where
  abbrev long : ℕ
  long =
      a + b * 256 + c * 65536 + d * 16777216 + e * 4294967296 + f * 1099511627776 + g * 281474976710656 + h * 72057594037927936

  eight_digits : number_bytes long ≡ a ∷ b ∷ c ∷ d ∷ e ∷ f ∷ g ∷ h ∷ []
  eight_digits =
      let q1 : long / 256 ≡ b + c * 256 + d * 65536 + e * 16777216 + f * 4294967296 + g * 1099511627776 + h * 281474976710656 = omega arith in
      let q2 : long / 65536 ≡ c + d * 256 + e * 65536 + f * 16777216 + g * 4294967296 + h * 1099511627776 = sym (div-div-eq-div-mul long 256 256) ∙ rw q1 (omega arith) in
      let q3 : long / 16777216 ≡ d + e * 256 + f * 65536 + g * 16777216 + h * 4294967296 = sym (div-div-eq-div-mul long 65536 256) ∙ rw q2 (omega arith) in
      let q4 : long / 4294967296 ≡ e + f * 256 + g * 65536 + h * 16777216 = sym (div-div-eq-div-mul long 16777216 256) ∙ rw q3 (omega arith) in
      let q5 : long / 1099511627776 ≡ f + g * 256 + h * 65536 = sym (div-div-eq-div-mul long 4294967296 256) ∙ rw q4 (omega arith) in
      let q6 : long / 281474976710656 ≡ g + h * 256 = sym (div-div-eq-div-mul long 1099511627776 256) ∙ rw q5 (omega arith) in
      let q7 : long / 72057594037927936 ≡ h = sym (div-div-eq-div-mul long 281474976710656 256) ∙ rw q6 (omega arith) in
      let ea : long % 256 ≡ a = omega arith in
      let eb : long / 256 % 256 ≡ b = rw q1 (omega arith) in
      let ec : long / 65536 % 256 ≡ c = rw q2 (omega arith) in
      let ed : long / 16777216 % 256 ≡ d = rw q3 (omega arith) in
      let ee : long / 4294967296 % 256 ≡ e = rw q4 (omega arith) in
      let ef : long / 1099511627776 % 256 ≡ f = rw q5 (omega arith) in
      let eg : long / 281474976710656 % 256 ≡ g = rw q6 (omega arith) in
      let eh : long / 72057594037927936 % 256 ≡ h = rw q7 (omega arith) in
      λ i. ea i ∷ eb i ∷ ec i ∷ ed i ∷ ee i ∷ ef i ∷ eg i ∷ eh i ∷ []

eight_bytes : (s : List ℕ) → Bytes s → 8 ≤ length s → take 8 (number_bytes (eight s)) ≡ take 8 s
eight_bytes ([]) b h = absurd (omega arith)
eight_bytes (a ∷ []) b h = absurd (omega arith)
eight_bytes (a ∷ c ∷ []) b h = absurd (omega arith)
eight_bytes (a ∷ c ∷ d ∷ []) b h = absurd (omega arith)
eight_bytes (a ∷ c ∷ d ∷ e ∷ []) b h = absurd (omega arith)
eight_bytes (a ∷ c ∷ d ∷ e ∷ f ∷ []) b h = absurd (omega arith)
eight_bytes (a ∷ c ∷ d ∷ e ∷ f ∷ g ∷ []) b h = absurd (omega arith)
eight_bytes (a ∷ c ∷ d ∷ e ∷ f ∷ g ∷ i ∷ []) b h = absurd (omega arith)
eight_bytes (a ∷ c ∷ d ∷ e ∷ f ∷ g ∷ i ∷ j ∷ s) b h = eight_digits a c d e f g i j (b 0) (b 1) (b 2) (b 3) (b 4) (b 5) (b 6) (b 7)

-- what was read of a field is written as the bytes that it was read from
pub bytes_back : (s : List ℕ) → Bytes s → (f : Field) → width (shape f) ≤ length s → field_bytes (decoded s) f ≡ take (width (shape f)) s
bytes_back s b field.User h = one_bytes s b h
bytes_back s b field.Rank h = one_bytes s b h
bytes_back s b field.Late h = one_bytes s b h
bytes_back s b field.Name h = text_bytes s h
bytes_back s b field.Tick h = four_bytes s b h
bytes_back s b field.Large h = eight_bytes s b h
bytes_back s b field.Day h = four_bytes s b h
bytes_back s b field.Recipients h = eight_bytes s b h
bytes_back s b field.Side h = one_bytes s b h
bytes_back s b field.Quantity h = four_bytes s b h
bytes_back s b field.Limit h = price_bytes s b h
bytes_back s b field.Minimum h = four_bytes s b h
bytes_back s b field.Expiry h = four_bytes s b h
bytes_back s b field.Shown h = one_bytes s b h
bytes_back s b field.Request h = two_bytes s b h
bytes_back s b field.Old h = two_bytes s b h
bytes_back s b field.Selling h = price_bytes s b h
bytes_back s b field.Buying h = price_bytes s b h
bytes_back s b field.Quote h = two_bytes s b h
bytes_back s b field.Floor h = four_bytes s b h
bytes_back s b field.Rest h = one_bytes s b h
bytes_back s b field.Second h = two_bytes s b h
bytes_back s b field.Third h = two_bytes s b h
bytes_back s b field.Fourth h = two_bytes s b h
bytes_back s b field.Fifth h = two_bytes s b h
bytes_back s b field.Sixth h = two_bytes s b h
bytes_back s b field.Seventh h = two_bytes s b h
bytes_back s b field.Eighth h = two_bytes s b h
bytes_back s b field.Time h = four_bytes s b h
bytes_back s b field.Bid h = four_bytes s b h
bytes_back s b field.Offer h = four_bytes s b h
bytes_back s b field.Letter h = one_bytes s b h
bytes_back s b field.Leg h = one_bytes s b h
bytes_back s b field.Open h = four_bytes s b h
bytes_back s b field.Requestor h = one_bytes s b h
bytes_back s b field.Remaining h = four_bytes s b h
bytes_back s b field.Sells h = four_bytes s b h
bytes_back s b field.Buys h = four_bytes s b h
bytes_back s b field.Trade h = two_bytes s b h
bytes_back s b field.Price h = four_bytes s b h
bytes_back s b field.Flag h = mark_bytes s h
