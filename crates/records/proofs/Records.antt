-- The bytes of a whole record from those of its parts. Assumes nothing.
use Rattle.std.proofs.Common.{◌≡◌, ℕ, ◌+◌, ◌/◌, ◌%◌, ◌≤◌, Bool, false, ltb, List, [], ◌∷◌, length, Some, Ok, sym, ap, ◌∙◌, arith, ltb-false}
use Rattle.std.specs.List.{flat_map}
use Rattle.records.specs.declared.causes.Cause.{Cause}
use Rattle.records.specs.declared.causes.Cause.TheVariants.{UnknownKind, ForeignBit, FieldAbsent, WrongLetter, BufferShort}
use Rattle.records.specs.declared.parts.Kind.{Kind}
use Rattle.records.specs.declared.parts.Record.{Record}
use Rattle.records.specs.Layout.{kind_of, layout}
use Rattle.records.specs.Bytes.{field_bytes, standing, foreign, wrong}
use Rattle.records.specs.Reading.{slots_of, absent_of, no_kind}
use Rattle.records.specs.Writing.{encode, fields_of, length_of, over, judge_write}
use Rattle.records.proofs.Over.{over_then}
use Rattle.records.proofs.Unless.{granted}
use Rattle.records.proofs.Widths.{joined_size}

-- what is known where a record may be written
pub record Granted (k : ℕ) (r : Record) (room at next : ℕ) : Type 0 where
  pub kind : no_kind (kind_of k) ≡ false
  pub foreign_not : foreign (slots_of (kind_of k)) r.map ≡ false
  pub absent_not : absent_of (kind_of k) r.map ≡ false
  pub wrong_not : wrong r (fields_of k r) ≡ false
  pub fits : at + length_of k r ≤ room
  pub next_is : at + length_of k r ≡ next

abbrev pub causes : ℕ → Record → ℕ → ℕ → List (Cause × Bool)
causes k r room at =
    (UnknownKind, no_kind (kind_of k))
    ∷ (ForeignBit, foreign (slots_of (kind_of k)) r.map)
    ∷ (FieldAbsent, absent_of (kind_of k) r.map)
    ∷ (WrongLetter, wrong r (fields_of k r))
    ∷ (BufferShort, ltb room (at + length_of k r))
    ∷ []

pub write_granted : (k : ℕ) (r : Record) (room at next : ℕ) → judge_write k r room at ≡ Ok next → Granted k r room at next
write_granted k r room at next e =
    let g = granted (causes k r room at) (at + length_of k r) next e in
    record {
      kind = g.0.0;
      foreign_not = g.0.1.0;
      absent_not = g.0.1.1.0;
      wrong_not = g.0.1.1.1.0;
      fits = ltb-false room (at + length_of k r) g.0.1.1.1.1.0;
      next_is = g.1;
    }

-- the bytes are as many as the record's length says
pub encoded_long : (k : ℕ) (r : Record) → length r.name ≡ 8 → length r.flag ≡ 4 → length (encode k r) ≡ length_of k r
encoded_long k r hn hf = let long = joined_size r hn hf (fields_of k r) in omega arith

module _ (k : ℕ) (r : Record) (kind : Kind) (known : kind_of k ≡ Some kind) where
  pub same_fields : standing (layout kind) r.map ≡ fields_of k r
  same_fields = ap (λ o. standing (slots_of o) r.map) (sym known)

  -- the head, and then the fields
  pub all_written : (out mid now : List ℕ) (at p : ℕ) → mid ≡ over out at (k ∷ r.map % 256 ∷ r.map / 256 % 256 ∷ []) → p ≡ at + 3 → now ≡ over mid p (flat_map (field_bytes r) (standing (layout kind) r.map)) → now ≡ over out at (encode k r)
  all_written out mid now at p first place second =
      let front : List ℕ = k ∷ r.map % 256 ∷ r.map / 256 % 256 ∷ [] in
      over_then out at front (flat_map (field_bytes r) (standing (layout kind) r.map)) mid now p first place second
      ∙ ap (λ fs. over out at (k ∷ r.map % 256 ∷ r.map / 256 % 256 ∷ flat_map (field_bytes r) fs)) same_fields
