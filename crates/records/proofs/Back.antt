-- What was written is read, and what was read is written. Assumes nothing.
use Rattle.std.proofs.Common.{◌≡◌, ℕ, ◌+◌, ◌-◌, ◌*◌, ◌/◌, ◌%◌, ◌≤◌, Bool, true, false, cond, ◌&&◌, ◌||◌, ltb, List, [], ◌∷◌, ◌++◌, length, get_or, take, drop, Some, None, Ok, Err, Option, Result, sym, refl, ap, ◌∙◌, subst, arith, length-append, length-drop, take-add, ltb-false, le-ltb}
use Rattle.std.specs.List.{flat_map, AllByRecursion as Every}
use Rattle.std.proofs.lemmas.List.{get_or-drop}
use Rattle.std.proofs.lemmas.Bool.{cond-true, or_parts, or_from, and_right, lt-ltb}
use Rattle.records.specs.declared.causes.Cause.{Cause}
use Rattle.records.specs.declared.causes.Cause.TheVariants.{UnknownKind, CutShort, ForeignBit, FieldAbsent, WrongLetter}
use Rattle.records.specs.declared.parts.Field.{Field}
use Rattle.records.specs.declared.parts.Field.TheVariants as field
use Rattle.records.specs.declared.parts.Kind.{Kind}
use Rattle.records.specs.declared.parts.Kind.TheVariants as kind
use Rattle.records.specs.declared.parts.Record.{Record}
use Rattle.records.specs.declared.parts.Slot.{Slot}
use Rattle.records.specs.Layout.{field_of, kind_of, layout}
use Rattle.records.specs.Fields.{value, blank, same}
use Rattle.records.specs.Bytes.{field_bytes, odd, standing, size, foreign, wrong}
use Rattle.records.specs.Reading.{fill, slots_of, absent_of, no_kind, kind_in, map_in, fields_in, record_in, length_in, parse, answer_of, record_of, read_record}
use Rattle.records.specs.Writing.{encode, fields_of, length_of, over, judge_write, placed, buffer_of, write_answer, write_buffer}
use Rattle.records.specs.Trips.{Bytes, Typed, among, settled, WriteRead, ReadWrite}
use Rattle.records.proofs.Filled.{fill_map, filled, wrong_like, all_among, Apart, packed}
use Rattle.records.proofs.Named.{same_record, value_kept}
use Rattle.records.proofs.Over.{drop_over}
use Rattle.records.proofs.Records.{write_granted, causes}
use Rattle.records.proofs.Unless.{granted, grants}
use Rattle.records.proofs.Widths.{joined_size}

-- the fields of a kind are apart, and so are those that stand
abbrev among_slots : List Slot → Field → Bool
among_slots [] h = false
among_slots (s ∷ ss) h = same (field_of s) h || among_slots ss h

abbrev Clear : List Slot → Type 0
Clear [] = Unit {0}
Clear (s ∷ ss) = (among_slots ss (field_of s) ≡ false) × Clear ss

clear : (k : Kind) → Clear (layout k)
clear kind.NewUser = (refl, (refl, (refl, tt)))
clear kind.NewSymbol = (refl, (refl, (refl, tt)))
clear kind.Opening = (refl, tt)
clear kind.Entry = (refl, (refl, (refl, (refl, (refl, (refl, (refl, (refl, (refl, tt)))))))))
clear kind.Quoting = (refl, (refl, (refl, (refl, (refl, (refl, (refl, (refl, tt))))))))
clear kind.Pull = (refl, (refl, tt))
clear kind.Cancel = (refl, (refl, tt))
clear kind.Acceptance = (refl, (refl, (refl, (refl, (refl, (refl, (refl, (refl, (refl, (refl, (refl, (refl, tt))))))))))))
clear kind.Clock = (refl, tt)
clear kind.Posting = (refl, (refl, (refl, tt)))
clear kind.PriceQuestion = (refl, (refl, (refl, tt)))
clear kind.ViewQuestion = (refl, tt)
clear kind.BookQuestion = (refl, (refl, tt))
clear kind.Closing = tt
clear kind.RequestLine = (refl, (refl, (refl, (refl, (refl, (refl, (refl, (refl, tt))))))))
clear kind.QuoteLine = (refl, (refl, (refl, (refl, (refl, (refl, (refl, tt)))))))
clear kind.TradeLine = (refl, (refl, (refl, (refl, (refl, (refl, tt))))))
clear kind.ExecutableLine = (refl, (refl, (refl, tt)))

not_among : (ss : List Slot) (m : ℕ) (h : Field) → among_slots ss h ≡ false → among (standing ss m) h ≡ false
not_among [] m h e = refl
not_among (s ∷ ss) m h e =
    let no = or_parts (same (field_of s) h) (among_slots ss h) e in
    by_bit (odd m) no.0 (not_among ss (m / 2) h no.1)
  where
    by_bit : (b : Bool) → same (field_of s) h ≡ false → among (standing ss (m / 2)) h ≡ false → among (cond b (field_of s ∷ standing ss (m / 2)) (standing ss (m / 2))) h ≡ false
    by_bit true n rest = or_from _ _ n rest
    by_bit false n rest = rest

standing_apart : (ss : List Slot) (m : ℕ) → Clear ss → Apart (standing ss m)
standing_apart [] m c = tt
standing_apart (s ∷ ss) m c = by_bit (odd m) (not_among ss (m / 2) (field_of s) c.0) (standing_apart ss (m / 2) c.1)
  where
    by_bit : (b : Bool) → among (standing ss (m / 2)) (field_of s) ≡ false → Apart (standing ss (m / 2)) → Apart (cond b (field_of s ∷ standing ss (m / 2)) (standing ss (m / 2)))
    by_bit true n rest = (n, rest)
    by_bit false n rest = rest

slots_clear : (o : Option Kind) → Clear (slots_of o)
slots_clear None = tt
slots_clear (Some k) = clear k

-- what bytes may be read as, with no cause against it
abbrev pub tests : List ℕ → List (Cause × Bool)
tests s =
    (UnknownKind, ltb 0 (length s) && no_kind (kind_in s))
    ∷ (CutShort, ltb (length s) (length_in s))
    ∷ (ForeignBit, foreign (slots_of (kind_in s)) (map_in s))
    ∷ (FieldAbsent, absent_of (kind_in s) (map_in s))
    ∷ (WrongLetter, wrong (record_in s) (fields_in s))
    ∷ []

module _ (k : ℕ) (r : Record) (tail : List ℕ) (typed : Typed r) (known : no_kind (kind_of k) ≡ false) (own : foreign (slots_of (kind_of k)) r.map ≡ false) (there : absent_of (kind_of k) r.map ≡ false) (right : wrong r (fields_of k r) ≡ false) where
  abbrev s : List ℕ
  s = encode k r ++ tail

  abbrev fs : List Field
  fs = fields_of k r

  map_back : map_in s ≡ r.map
  map_back = let m = typed.0 in omega arith

  fields_back : fields_in s ≡ fs
  fields_back = ap (standing (slots_of (kind_of k))) map_back

  record_back : record_in s ≡ settled k r
  record_back =
      ap (λ m. fill (standing (slots_of (kind_of k)) m) (flat_map (field_bytes r) fs ++ tail) (blank m)) map_back
      ∙ same_record _ (settled k r) (fill_map fs (flat_map (field_bytes r) fs ++ tail) (blank r.map))
      (λ f. filled r typed fs tail (blank r.map) f right ∙ sym (value_kept (among fs) r (blank r.map) f))

  right_back : wrong (settled k r) fs ≡ false
  right_back =
      wrong_like (settled k r) r fs
      (all_among (λ f. value f (settled k r) ≡ value f r) fs fs (λ h e. e) (λ h e. value_kept (among fs) r (blank r.map) h ∙ cond-true _ _ _ e))
      ∙ right

  long_back : length_in s ≤ length s
  long_back =
      let same = ap size fields_back in
      let whole = length-append (flat_map (field_bytes r) fs) tail in
      let long = joined_size r (typed.1 field.Name) (typed.1 field.Flag) fs in
      omega arith

  pub read_back : parse s ≡ Ok (k, length_of k r, settled k r)
  read_back =
      grants (tests s) (k, length_in s, record_in s) (
        and_right (ltb 0 (length s)) (no_kind (kind_of k)) known,
        (
          le-ltb (length s) (length_in s) long_back,
          (
            ap (foreign (slots_of (kind_of k))) map_back ∙ own,
            (
              ap (absent_of (kind_of k)) map_back ∙ there,
              (ap (λ x. wrong x (fields_in s)) record_back ∙ ap (wrong (settled k r)) fields_back ∙ right_back, tt),
            ),
          ),
        ),
      )
      ∙ ap (λ n. Ok (k, 3 + size n, record_in s)) fields_back
      ∙ ap (λ x. Ok (k, length_of k r, x)) record_back

placed_ok : (at next : ℕ) (q : Result ℕ Cause) → placed at q ≡ Ok next → q ≡ Ok next
placed_ok at next (Ok n) e = cc
placed_ok at next (Err c) e = let z : ◌≡◌ {A = ℕ} 0 1 = cc in absurd (omega arith)

pub write_read : WriteRead
write_read k r old out at next typed e =
    let j = placed_ok at next (judge_write k r (length out) at) e in
    let g = write_granted k r (length out) at next j in
    let buffer = ap (buffer_of out at (encode k r)) j in
    let size_is = joined_size r (typed.1 field.Name) (typed.1 field.Flag) (fields_of k r) in
    let room : at + length (encode k r) ≤ length out = let f = g.fits in omega arith in
    let there = drop_over out at (encode k r) room in
    let got : parse (drop at (write_buffer k r out at)) ≡ Ok (k, length_of k r, settled k r) =
    ap (λ b. parse (drop at b)) buffer ∙ ap parse there ∙ read_back k r _ typed g.kind g.foreign_not g.absent_not g.wrong_not
    in
    (ap (answer_of at) got ∙ ap (λ n. Ok (k, n)) g.next_is, ap (record_of old) got)

-- the record that was read, whatever was lent for it
pub opened : (q : Result (ℕ × ℕ × Record) Cause) (at k next : ℕ) (old : Record) → answer_of at q ≡ Ok (k, next) → (n : ℕ) × (q ≡ Ok (k, n, record_of old q)) × (next ≡ at + n)
opened (Ok q) at k next old e =
    let pair : ◌≡◌ {A = ℕ × ℕ} (q.0, at + q.1) (k, next) = cc in
    (q.1, ap (λ (p : ℕ × ℕ). Ok (p.0, q.1, q.2)) pair, sym (ap (λ (p : ℕ × ℕ). p.1) pair))
opened (Err c) at k next old e = let z : ◌≡◌ {A = ℕ} 0 1 = cc in absurd (omega arith)

-- the kind and the map as bytes
head_back : (t xs : List ℕ) → Bytes t → 3 ≤ length t → get_or t 0 0 ∷ map_in t % 256 ∷ map_in t / 256 % 256 ∷ xs ≡ take 3 t ++ xs
head_back [] xs b h = absurd (omega arith)
head_back (x ∷ []) xs b h = absurd (omega arith)
head_back (x ∷ y ∷ []) xs b h = absurd (omega arith)
head_back (x ∷ y ∷ z ∷ t) xs b h =
    let y0 = b 1 in
    let z0 = b 2 in
    let q : (y + z * 256) / 256 ≡ z = omega arith in
    let ey : (y + z * 256) % 256 ≡ y = omega arith in
    let ez : (y + z * 256) / 256 % 256 ≡ z = rw q (omega arith) in
    λ i. x ∷ ey i ∷ ez i ∷ xs

module _ (t : List ℕ) (bytes : Bytes t) (fine : Every (λ c. c.1 ≡ false) (tests t)) where
  abbrev k₀ : ℕ
  k₀ = get_or t 0 0

  abbrev r₀ : Record
  r₀ = record_in t

  map_is : r₀.map ≡ map_in t
  map_is = fill_map (fields_in t) (drop 3 t) (blank (map_in t))

  fields_are : fields_of k₀ r₀ ≡ fields_in t
  fields_are = ap (standing (slots_of (kind_in t))) map_is

  enough : length_in t ≤ length t
  enough = ltb-false (length t) (length_in t) fine.1.0

  encoded : encode k₀ r₀ ≡ take (length_in t) t
  encoded =
      let fs = fields_in t in
      let rest = length-drop 3 t in
      let e = enough in
      let apart = standing_apart (slots_of (kind_in t)) (map_in t) (slots_clear (kind_in t)) in
      ap (λ m. k₀ ∷ m % 256 ∷ m / 256 % 256 ∷ flat_map (field_bytes r₀) (fields_of k₀ r₀)) map_is
      ∙ ap (λ fs. k₀ ∷ map_in t % 256 ∷ map_in t / 256 % 256 ∷ flat_map (field_bytes r₀) fs) fields_are
      ∙ ap (λ xs. k₀ ∷ map_in t % 256 ∷ map_in t / 256 % 256 ∷ xs) (packed fs (drop 3 t) (blank (map_in t)) (λ i. rw (get_or-drop 3 t i 0) (bytes (3 + i))) apart (omega arith))
      ∙ head_back t (take (size fs) (drop 3 t)) bytes (omega arith)
      ∙ sym (take-add 3 (size fs) t)

  judged : (room to : ℕ) → to + length_in t ≤ room → judge_write k₀ r₀ room to ≡ Ok (to + length_in t)
  judged room to h =
      let e = enough in
      let some = lt-ltb 0 (length t) (omega arith) in
      let long = ap size fields_are in
      grants (causes k₀ r₀ room to) (to + length_of k₀ r₀) (
        sym (ap (λ b. b && no_kind (kind_in t)) some) ∙ fine.0,
        (
          ap (foreign (slots_of (kind_in t))) map_is ∙ fine.1.1.0,
          (
            ap (absent_of (kind_in t)) map_is ∙ fine.1.1.1.0,
            (
              ap (wrong r₀) fields_are ∙ fine.1.1.1.1.0,
              (le-ltb room (to + length_of k₀ r₀) (omega arith), tt),
            ),
          ),
        ),
      )
      ∙ ap (λ fs. Ok (to + (3 + size fs))) fields_are

-- what is written of a kind letter, a length and a record that were read from t
abbrev Rewritten : List ℕ → ℕ × ℕ × Record → Type 0
Rewritten t q =
    (out : List ℕ) (to : ℕ)
    → to + q.1 ≤ length out
    → (write_answer q.0 q.2 (length out) to ≡ Ok (to + q.1)) × (write_buffer q.0 q.2 out to ≡ over out to (take q.1 t))

rewritten : (t : List ℕ) (q : ℕ × ℕ × Record) → Bytes t → parse t ≡ Ok q → Rewritten t q
rewritten t q bytes e =
    let g = granted (tests t) (get_or t 0 0, length_in t, record_in t) q e in
    let base : Rewritten t (get_or t 0 0, length_in t, record_in t) =
    λ out to h.
    let j = judged t bytes g.0 (length out) to h in
    (ap (placed to) j, ap (buffer_of out to (encode (get_or t 0 0) (record_in t))) j ∙ ap (over out to) (encoded t bytes g.0))
    in
    subst (Rewritten t) g.1 base

pub read_write : ReadWrite
read_write s at k next old bytes e out to h =
    let o = opened (parse (drop at s)) at k next old e in
    let n : next - at ≡ o.0 = let p = o.2 in omega arith in
    let done = rewritten (drop at s) (k, o.0, read_record s at old) (λ i. rw (get_or-drop at s i 0) (bytes (at + i))) o.1 out to (omega arith) in
    rw n done
