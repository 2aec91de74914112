-- A view of two days whose requests differ only in what they hold back is the same. Assumes nothing.
use Rattle.std.proofs.Common.{◌≡◌, ℕ, ◌+◌, ◌*◌, ◌/◌, ◌%◌, ◌^◌, Bool, true, false, cond, ◌&&◌, List, [], ◌∷◌, ◌++◌, fold, filter, refl, ap, ◌∙◌, arith}
use Rattle.std.specs.List.{flat_map}
use Rattle.records.specs.declared.parts.Field.{Field}
use Rattle.records.specs.declared.parts.Kind.TheVariants.{RequestLine}
use Rattle.records.specs.declared.parts.Record.{Record}
use Rattle.records.specs.declared.parts.Slot.{Slot}
use Rattle.records.specs.declared.parts.Value.TheVariants.{Number, Letter, Quoted, Name}
use Rattle.records.specs.Bytes.{odd, standing, field_bytes, value_bytes}
use Rattle.records.specs.Fields.{value}
use Rattle.records.specs.Layout.{field_of, layout, shape}
use Rattle.ranked.specs.Ranks.{ranked}
use Rattle.venue.specs.declared.rows.Request.{Request}
use Rattle.venue.specs.Days.{Day, symbol_of, request_of, quote_of, trade_of, open_of, bit, is_open, quotable, name_before}
use Rattle.venue.specs.Trading.{then_by, lowest}
use Rattle.venue.specs.Pages.{numbers, side_letter, name_of, request_line, shown_line, quote_line, trade_line, request_before, seen_requests, own_quotes, own_trades, view_page}
use Rattle.venue.proofs.Beside.{as_long, BesideDay, row_at, beside}

-- records whose standing fields are alike, and their bytes
data SameFields (r r' : Record) : List Slot → ℕ → Type 0 where
  no_more : {m : ℕ} → SameFields r r' [] m
  alike : {s : Slot} {ss : List Slot} {m : ℕ} → (odd m ≡ true → value (field_of s) r ≡ value (field_of s) r') → SameFields r r' ss (m / 2) → SameFields r r' (s ∷ ss) m

same_bytes : (r r' : Record) (ss : List Slot) (m : ℕ) → SameFields r r' ss m → flat_map (field_bytes r) (standing ss m) ≡ flat_map (field_bytes r') (standing ss m)
same_bytes r r' ss m no_more = refl
same_bytes r r' ss m (alike {s = s} {ss = more} h rest) = by_test (odd m) h (same_bytes r r' more (m / 2) rest)
  where
    fs : List Field
    fs = standing more (m / 2)

    by_test : (b : Bool) → (b ≡ true → value (field_of s) r ≡ value (field_of s) r') → flat_map (field_bytes r) fs ≡ flat_map (field_bytes r') fs → flat_map (field_bytes r) (cond b (field_of s ∷ fs) fs) ≡ flat_map (field_bytes r') (cond b (field_of s ∷ fs) fs)
    by_test true k same = λ i. value_bytes (shape (field_of s)) (k refl i) ++ same i
    by_test false k same = same

module _ (ns us : List ℕ) (d : Day) (rs : List Request) (os : List ℕ) (b : BesideDay ns us d rs os) where
  abbrev d' : Day
  d' = beside d rs os

  pub place_same : (n : ℕ) → (request_of d' n).place ≡ (request_of d n).place
  place_same n = (row_at ns us d rs os b n).place

  name_same : (n : ℕ) → name_of d' n ≡ name_of d n
  name_same n = ap (λ p. (symbol_of d p).name) (place_same n)

  pub quotable_same : (u n : ℕ) → quotable d' u n ≡ quotable d u n
  quotable_same u n =
      let h = row_at ns us d rs os b n in
      λ i. is_open (h.life i) && bit (h.recipients i) u

  -- with what stands by a bit map of the four that may be held back
  pub line_same : (n m : ℕ) → (odd (m / 2 / 2 / 2) ≡ true → (request_of d' n).side ≡ (request_of d n).side) → (odd (m / 2 / 2 / 2 / 2) ≡ true → open_of d' n ≡ open_of d n) → (odd (m / 2 / 2 / 2 / 2 / 2) ≡ true → (request_of d' n).limit ≡ (request_of d n).limit) → (odd (m / 2 / 2 / 2 / 2 / 2 / 2) ≡ true → (request_of d' n).minimum ≡ (request_of d n).minimum) → request_line d' m n ≡ request_line d m n
  line_same n m side left limit minimum =
      let h = row_at ns us d rs os b n in
      ap (λ l. 114 ∷ m % 256 ∷ m / 256 % 256 ∷ l)
      (same_bytes _ _ (layout RequestLine) m
      (alike (λ _. refl)
      (alike (λ _. ap Name (name_same n))
      (alike (λ _. ap Number h.expiry)
      (alike (λ t. ap (λ x. Letter (side_letter x)) (side t))
      (alike (λ t. ap Number (left t))
      (alike (λ t. ap Quoted (limit t))
      (alike (λ t. ap Number (minimum t))
      (alike (λ _. ap Number h.requestor) no_more)))))))))

  -- the bit map has 3 bits that always stand, and then those of what is shown
  shown_line_same : (n : ℕ) → shown_line d' n ≡ shown_line d n
  shown_line_same n =
      let h = row_at ns us d rs os b n in
      let s = (request_of d n).shown in
      let m = 7 + 8 * s in
      let e0 : s / 2 ^ 0 ≡ m / 2 / 2 / 2 = omega arith in
      let e1 : s / 2 ^ 1 ≡ m / 2 / 2 / 2 / 2 = omega arith in
      let e2 : s / 2 ^ 2 ≡ m / 2 / 2 / 2 / 2 / 2 = omega arith in
      let e3 : s / 2 ^ 3 ≡ m / 2 / 2 / 2 / 2 / 2 / 2 = omega arith in
      ap (λ k. request_line d' (7 + 8 * k) n) h.shown
      ∙ line_same n m (λ t. h.side (ap odd e0 ∙ t)) (λ t. h.left (ap odd e1 ∙ t)) (λ t. h.limit (ap odd e2 ∙ t)) (λ t. h.minimum (ap odd e3 ∙ t))

  quote_line_same : (q : ℕ) → quote_line d' q ≡ quote_line d q
  quote_line_same q = rw (place_same (quote_of d q).request)

  trade_line_same : (u t : ℕ) → trade_line d' u t ≡ trade_line d u t
  trade_line_same u t = rw (name_same (trade_of d t).request, place_same (trade_of d t).request)

  seen_same : (u : ℕ) → seen_requests d' u ≡ seen_requests d u
  seen_same u =
      let first : request_before d' ≡ request_before d = λ i. then_by (λ m n. name_before (name_same m i) (name_same n i)) (lowest (λ n. n)) in
      let long = as_long us _ d.requests d.opens rs os b in
      λ i. fold (λ line n. ranked (first i) n line) [] (filter (λ n. quotable_same u n i) (numbers (long i)))

  pub view_same : (u : ℕ) → view_page d' u ≡ view_page d u
  view_same u =
      λ i.
      flat_map (λ n. shown_line_same n i) (seen_same u i)
      ++ (flat_map (λ q. quote_line_same q i) (own_quotes d u) ++ flat_map (λ t. trade_line_same u t i) (own_trades d u))
