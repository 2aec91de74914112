-- Where a run ends, and what each part of the day takes. Assumes nothing.
use Rattle.std.proofs.Common.{◌≡◌, ℕ, ◌+◌, Bool, true, false, cond, ◌&&◌, eqb, ltb, List, [], ◌∷◌, length, get_or, drop, Some, None, codes, Option, sym, refl, ap, ◌∙◌, subst, eqb-true}
use Rattle.std.proofs.lemmas.Bool.{true≢false}
use Rattle.records.specs.declared.causes.Cause.{Cause}
use Rattle.records.specs.declared.causes.Cause.TheVariants.{UnknownKind, CutShort, ForeignBit, FieldAbsent, WrongLetter}
use Rattle.records.specs.declared.parts.Kind.{Kind}
use Rattle.records.specs.declared.parts.Kind.TheVariants as kind
use Rattle.records.specs.declared.parts.Record.{Record}
use Rattle.records.specs.Bytes.{foreign, one_of, wrong}
use Rattle.records.specs.Causes.{unless}
use Rattle.records.specs.Fields.{blank}
use Rattle.records.specs.Layout.{kind_of}
use Rattle.records.specs.Reading.{absent_of, answer_of, end_of, fields_in, kind_in, length_in, map_in, no_kind, read_record, record_in, slots_of}
use Rattle.listing.specs.Listing.{next_by}
use Rattle.transcript.specs.Runs.{State, State.setting, State.running, Done, done, out_of_part}
use Rattle.transcript.specs.Texts.{asked_by, turn_by}
use Rattle.transcript.specs.Laws.{ends_run, GoesOn, takes, Parts}

-- the reader's causes, and the first three of them, which leave the end of a record unknown
abbrev all_five : Bool → Bool → Bool → Bool → Bool → List (Cause × Bool)
all_five a b c d e = (UnknownKind, a) ∷ (CutShort, b) ∷ (ForeignBit, c) ∷ (FieldAbsent, d) ∷ (WrongLetter, e) ∷ []

abbrev first_three : Bool → Bool → Bool → List (Cause × Bool)
first_three a b c = (UnknownKind, a) ∷ (CutShort, b) ∷ (ForeignBit, c) ∷ []

by_tests : (a b c d e : Bool) (at k n : ℕ) (r : Record) → next_by (answer_of at (unless (all_five a b c d e) (k, n, r))) (end_of at (unless (first_three a b c) n)) ≡ cond (ends_run (answer_of at (unless (all_five a b c d e) (k, n, r)))) None (Some (at + n))
by_tests true b c d e at k n r = refl
by_tests false true c d e at k n r = refl
by_tests false false true d e at k n r = refl
by_tests false false false true e at k n r = refl
by_tests false false false false true at k n r = refl
by_tests false false false false false at k n r = refl

pub goes_on : GoesOn
goes_on s at =
    let t = drop at s in
    by_tests (ltb 0 (length t) && no_kind (kind_in t)) (ltb (length t) (length_in t)) (foreign (slots_of (kind_in t)) (map_in t)) (absent_of (kind_in t) (map_in t)) (wrong (record_in t) (fields_in t)) at (get_or t 0 0) (length_in t) (record_in t)

-- the letter of a kind
abbrev letter : Kind → ℕ
letter kind.NewUser = 85
letter kind.NewSymbol = 83
letter kind.Opening = 79
letter kind.Entry = 82
letter kind.Quoting = 81
letter kind.Pull = 80
letter kind.Cancel = 88
letter kind.Acceptance = 65
letter kind.Clock = 84
letter kind.Posting = 77
letter kind.PriceQuestion = 75
letter kind.ViewQuestion = 86
letter kind.BookQuestion = 66
letter kind.Closing = 67
letter kind.RequestLine = 114
letter kind.QuoteLine = 113
letter kind.TradeLine = 116
letter kind.ExecutableLine = 101

abbrev kinds : List Kind
kinds =
    kind.NewUser
    ∷ kind.NewSymbol
    ∷ kind.Opening
    ∷ kind.Entry
    ∷ kind.Quoting
    ∷ kind.Pull
    ∷ kind.Cancel
    ∷ kind.Acceptance
    ∷ kind.Clock
    ∷ kind.Posting
    ∷ kind.PriceQuestion
    ∷ kind.ViewQuestion
    ∷ kind.BookQuestion
    ∷ kind.Closing
    ∷ kind.RequestLine
    ∷ kind.QuoteLine
    ∷ kind.TradeLine
    ∷ kind.ExecutableLine
    ∷ []

abbrev found : List Kind → ℕ → Option Kind
found [] c = None
found (k ∷ ks) c = cond (eqb c (letter k)) (Some k) (found ks c)

-- what holds of each kind with its letter holds of the kind that a letter finds
each : (P : ℕ → Option Kind → Type 0) → ((k : Kind) → P (letter k) (Some k)) → (ks : List Kind) (c : ℕ) → P c None → P c (found ks c)
each P h [] c none = none
each P h (k ∷ ks) c none = by_test (eqb c (letter k)) refl (each P h ks c none)
  where
    by_test : (b : Bool) → eqb c (letter k) ≡ b → P c (found ks c) → P c (cond b (Some k) (found ks c))
    by_test true e rest = subst (λ (n : ℕ). P n (Some k)) (sym (eqb-true c (letter k) e)) (h k)
    by_test false e rest = rest

-- true is not false
never : {X : Type 0} → true ≡ false → X
never h = absurd (true≢false h)

-- the letters of a trading day
abbrev trading : List ℕ
trading = codes "RQPXATMKVBC"

-- a call other than a view is out of its part on a closed day, and only there
by_closed : (b : Bool) (x y : Done) (c : ℕ) → one_of trading c ≡ true → one_of (cond b (codes "V") trading) c ≡ false → cond (b && true) x y ≡ x
by_closed true x y c t h = refl
by_closed false x y c t h = never (sym t ∙ h)

by_acceptance : (b : Bool) (x y : Done) → one_of (cond b (codes "V") trading) 65 ≡ false → cond b x y ≡ x
by_acceptance true x y h = refl
by_acceptance false x y h = never h

-- a view never is
by_view : {X : Type 0} (b : Bool) → one_of (cond b (codes "V") trading) 86 ≡ false → X
by_view true h = never h
by_view false h = never h

-- a letter that the part of the day does not take asks for what is out of its part
module _ (room at : ℕ) (r : Record) where
  abbrev Refused : State → ℕ → Option Kind → Type 0
  Refused st c k = one_of (takes st) c ≡ false → done at st (asked_by room k r) ≡ out_of_part at st

  of_kind : (st : State) (k : Kind) → Refused st (letter k) (Some k)
  of_kind (setting s rows screen) kind.NewUser h = never h
  of_kind (setting s rows screen) kind.NewSymbol h = never h
  of_kind (setting s rows screen) kind.Opening h = never h
  of_kind (setting s rows screen) kind.Entry h = refl
  of_kind (setting s rows screen) kind.Quoting h = refl
  of_kind (setting s rows screen) kind.Pull h = refl
  of_kind (setting s rows screen) kind.Cancel h = refl
  of_kind (setting s rows screen) kind.Acceptance h = refl
  of_kind (setting s rows screen) kind.Clock h = refl
  of_kind (setting s rows screen) kind.Posting h = refl
  of_kind (setting s rows screen) kind.PriceQuestion h = refl
  of_kind (setting s rows screen) kind.ViewQuestion h = refl
  of_kind (setting s rows screen) kind.BookQuestion h = refl
  of_kind (setting s rows screen) kind.Closing h = refl
  of_kind (setting s rows screen) kind.RequestLine h = refl
  of_kind (setting s rows screen) kind.QuoteLine h = refl
  of_kind (setting s rows screen) kind.TradeLine h = refl
  of_kind (setting s rows screen) kind.ExecutableLine h = refl
  of_kind (running d) kind.NewUser h = refl
  of_kind (running d) kind.NewSymbol h = refl
  of_kind (running d) kind.Opening h = refl
  of_kind (running d) kind.Entry h = by_closed d.closed _ _ 82 refl h
  of_kind (running d) kind.Quoting h = by_closed d.closed _ _ 81 refl h
  of_kind (running d) kind.Pull h = by_closed d.closed _ _ 80 refl h
  of_kind (running d) kind.Cancel h = by_closed d.closed _ _ 88 refl h
  of_kind (running d) kind.Acceptance h = by_acceptance d.closed _ _ h
  of_kind (running d) kind.Clock h = by_closed d.closed _ _ 84 refl h
  of_kind (running d) kind.Posting h = by_closed d.closed _ _ 77 refl h
  of_kind (running d) kind.PriceQuestion h = by_closed d.closed _ _ 75 refl h
  of_kind (running d) kind.ViewQuestion h = by_view d.closed h
  of_kind (running d) kind.BookQuestion h = by_closed d.closed _ _ 66 refl h
  of_kind (running d) kind.Closing h = by_closed d.closed _ _ 67 refl h
  of_kind (running d) kind.RequestLine h = refl
  of_kind (running d) kind.QuoteLine h = refl
  of_kind (running d) kind.TradeLine h = refl
  of_kind (running d) kind.ExecutableLine h = refl

  other : (st : State) (c : ℕ) → Refused st c (kind_of c)
  other st c = each (Refused st) (of_kind st) kinds c (no_letter st)
    where
      no_letter : (st : State) → Refused st c None
      no_letter (setting s rows screen) h = refl
      no_letter (running d) h = refl

pub parts : Parts
parts =
    record {
      other = λ room s at k next st e h. ap (turn_by room s at st) e ∙ other room at (read_record s at (blank 0)) st k h;
      unread = λ room s at e st h. ap (turn_by room s at st) h;
    }
