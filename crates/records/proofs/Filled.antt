-- The fields of a record that bytes were filled into. Assumes nothing.
use Rattle.std.proofs.Common.{◌≡◌, ℕ, ◌+◌, ◌≤◌, Bool, true, false, cond, not, ◌||◌, List, [], ◌∷◌, ◌++◌, length, take, drop, sym, refl, ap, ◌∙◌, subst, append_assoc, arith, length-drop, take-add}
use Rattle.std.specs.List.{flat_map, AllByRecursion as Every}
use Rattle.std.proofs.lemmas.List.{drop_at, get_or-drop}
use Rattle.std.proofs.lemmas.Bool.{cond-true, cond-false, not-false, or_parts, or_left, or_right}
use Rattle.records.specs.declared.parts.Field.{Field}
use Rattle.records.specs.declared.parts.Field.TheVariants as field
use Rattle.records.specs.declared.parts.Record.{Record}
use Rattle.records.specs.declared.parts.Value.{Value}
use Rattle.records.specs.Layout.{shape}
use Rattle.records.specs.Fields.{value, decoded, kept, same}
use Rattle.records.specs.Bytes.{width, field_bytes, value_bytes, size, fits, wrong}
use Rattle.records.specs.Reading.{fill}
use Rattle.records.specs.Trips.{Bytes, Typed, among}
use Rattle.records.proofs.Named.{same_is, same_self, value_kept}
use Rattle.records.proofs.Spelled.{field_back, bytes_back}
use Rattle.records.proofs.Widths.{field_width}

-- filling leaves the map
pub fill_map : (fs : List Field) (s : List ℕ) (b : Record) → (fill fs s b).map ≡ b.map
fill_map [] s b = refl
fill_map (f ∷ fs) s b = fill_map fs (drop (width (shape f)) s) (kept (same f) (decoded s) b)

-- a field that is not among those filled is left
pub fill_leaves : (fs : List Field) (s : List ℕ) (b : Record) (h : Field) → among fs h ≡ false → value h (fill fs s b) ≡ value h b
fill_leaves [] s b h e = refl
fill_leaves (f ∷ fs) s b h e =
    let no = or_parts (same f h) (among fs h) e in
    fill_leaves fs (drop (width (shape f)) s) (kept (same f) (decoded s) b) h no.1
    ∙ value_kept (same f) (decoded s) b h
    ∙ cond-false _ _ _ no.0

-- what may be written: every field fits
wrong_parts : (r : Record) (f : Field) (fs : List Field) → wrong r (f ∷ fs) ≡ false → (fits (shape f) (value f r) ≡ true) × (wrong r fs ≡ false)
wrong_parts r f fs e = let p = or_parts (not (fits (shape f) (value f r))) (wrong r fs) e in (not-false (fits (shape f) (value f r)) p.0, p.1)

-- a field that was just set, among those that are set after it
pick : (x y : Bool) (vr vd vb : Value) → (x ≡ true → vd ≡ vr) → cond y vr (cond x vd vb) ≡ cond (x || y) vr vb
pick true true vr vd vb e = refl
pick true false vr vd vb e = e refl
pick false true vr vd vb e = refl
pick false false vr vd vb e = refl

module _ (r : Record) (typed : Typed r) where
  -- what was written of the fields is read as what they hold, and each other field is left
  pub filled : (fs : List Field) (tail : List ℕ) (b : Record) (h : Field) → wrong r fs ≡ false → value h (fill fs (flat_map (field_bytes r) fs ++ tail) b) ≡ cond (among fs h) (value h r) (value h b)
  filled [] tail b h w = refl
  filled (f ∷ fs) tail b h w =
      let right = wrong_parts r f fs w in
      let rest = flat_map (field_bytes r) fs ++ tail in
      let s = field_bytes r f ++ rest in
      let b' = kept (same f) (decoded s) b in
      let whole = append_assoc (field_bytes r f) (flat_map (field_bytes r) fs) tail in
      let past = drop_at (field_bytes r f) rest (width (shape f)) (field_width r (typed.1 field.Name) (typed.1 field.Flag) f) in
      let here : same f h ≡ true → value h (decoded s) ≡ value h r = λ e. subst (λ (g : Field). value g (decoded s) ≡ value g r) (same_is f h e) (field_back r rest f (typed.1 f) right.0) in
      ap (λ x. value h (fill fs (drop (width (shape f)) x) (kept (same f) (decoded x) b))) whole
      ∙ ap (λ x. value h (fill fs x b')) past
      ∙ filled fs tail b' h right.1
      ∙ ap (cond (among fs h) (value h r)) (value_kept (same f) (decoded s) b h)
      ∙ pick (same f h) (among fs h) (value h r) (value h (decoded s)) (value h b) here

-- records with the same fields are right or wrong alike
pub wrong_like : (a b : Record) (fs : List Field) → Every (λ f. value f a ≡ value f b) fs → wrong a fs ≡ wrong b fs
wrong_like a b [] h = refl
wrong_like a b (f ∷ fs) h =
    ap (λ v. not (fits (shape f) v) || wrong a fs) h.0 ∙ ap (λ w. not (fits (shape f) (value f b)) || w) (wrong_like a b fs h.1)

-- what holds of the fields among a list holds of all of it
pub all_among : (P : Field → Type 0) (fs gs : List Field) → ((h : Field) → among fs h ≡ true → among gs h ≡ true) → ((h : Field) → among gs h ≡ true → P h) → Every P fs
all_among P [] gs i p = tt
all_among P (f ∷ fs) gs i p =
    (p f (i f (or_left (same f f) (among fs f) (same_self f))), all_among P fs gs (λ h e. i h (or_right (same f h) (among fs h) e)) p)

-- no field stands twice
abbrev pub Apart : List Field → Type 0
Apart [] = Unit {0}
Apart (f ∷ fs) = (among fs f ≡ false) × Apart fs

-- the fields that were filled from bytes are written as those bytes
pub packed : (fs : List Field) (s : List ℕ) (b : Record) → Bytes s → Apart fs → size fs ≤ length s → flat_map (field_bytes (fill fs s b)) fs ≡ take (size fs) s
packed [] s b bytes apart h = refl
packed (f ∷ fs) s b bytes apart h =
    let n = width (shape f) in
    let b' = kept (same f) (decoded s) b in
    let r = fill fs (drop n s) b' in
    let long = length-drop n s in
    let left = fill_leaves fs (drop n s) b' f apart.0 ∙ value_kept (same f) (decoded s) b f ∙ cond-true _ _ _ (same_self f) in
    let here = ap (value_bytes (shape f)) left ∙ bytes_back s bytes f (omega arith) in
    let rest = packed fs (drop n s) b' (λ i. rw (get_or-drop n s i 0) (bytes (n + i))) apart.1 (omega arith) in
    ap (λ x. x ++ flat_map (field_bytes r) fs) here ∙ ap (λ x. take n s ++ x) rest ∙ sym (take-add n (size fs) s)
