-- A page that lists what a user sees, or the executable quotes of a request, is the view or the answer to a book question; where
-- its lines name symbols, there are symbols; and it has no more rows than places. Assumes nothing.
use Rattle.std.proofs.Common.{◌≡◌, ℕ, zero, suc, ◌+◌, ◌<◌, ◌≤◌, Bool, true, ◌||◌, ◌==◌, Bor, List, [], ◌∷◌, ◌++◌, map, length, fold, filter, refl, ap, ◌∙◌, arith}
use Rattle.std.specs.List.{All, flat_map}
use Rattle.std.specs.Cmp.{first_so}
use Rattle.std.proofs.lemmas.List.Elements.{All-append, All-cons, All-map}
use Rattle.std.proofs.lemmas.List.Folds.{flat_map-map}
use Rattle.std.proofs.lemmas.List.Sums.{count_by-le-length, length-filter}
use Rattle.std.proofs.lemmas.List.{length-append, length-map}
use Rattle.ranked.specs.Ranks.{ranked}
use Rattle.tables.specs.declared.inner.Tables.{Tables}
use Rattle.tables.specs.Tabled.{bare_day}
use Rattle.tables.specs.Used.{used}
use Rattle.tables.proofs.Room.{used_few}
use Rattle.venue.specs.declared.rows.Candidate.{Candidate}
use Rattle.venue.specs.declared.rows.Request.{Request}
use Rattle.venue.specs.Days.{Day, holds, is_open, no_request, numbered, owns, quotable, trade_of}
use Rattle.venue.specs.Pages.{book_page, executable_line, executables, numbers, own_quotes, own_trades, quote_line, request_before, seen_requests, shown_line, trade_line, view_page, whole_line}
use Rattle.venue.specs.Places.{Placed}
use Rattle.venue.specs.Trading.{in_order}
use Rattle.pages.specs.declared.rows.Content.{Content}
use Rattle.pages.specs.declared.rows.Content.TheVariants.{View, Book}
use Rattle.pages.specs.declared.rows.Listed.{Listed}
use Rattle.pages.specs.declared.rows.Row.TheVariants.{Shown, Quote, Trade, Whole, Executable}
use Rattle.pages.specs.Listing.{listed}
use Rattle.pages.specs.Rows.{Named, Tellable, line_of, lines_of, places, rows_of}
use Rattle.pages.specs.Seats.{Seated}
use Rattle.pages.proofs.Told.{view_told}

pub few_places : (t : Tables) (seen : Bor (List Listed)) → length seen.now ≤ 128 → places (bare_day t) (View seen) ≤ 1152
few_places t seen h = omega (arith, used_few t.quotes, used_few t.trades)

module _ (d : Day) (u : ℕ) where
  -- what is listed of a user's requests, and then its own, is its view
  pub view_lines : (seen : Bor (List Listed)) → seen.now ≡ map (listed d) (seen_requests d u) → lines_of d u (rows_of d u (View seen)) ≡ view_page d u
  view_lines seen is =
      view_told d u seen.now
      ∙ ap (λ l. flat_map (λ (x : Listed). shown_line d x.number) l ++ (flat_map (quote_line d) (own_quotes d u) ++ flat_map (trade_line d u) (own_trades d u))) is
      ∙ ap (λ l. l ++ (flat_map (quote_line d) (own_quotes d u) ++ flat_map (trade_line d u) (own_trades d u))) (flat_map-map (λ (x : Listed). shown_line d x.number) (listed d) (seen_requests d u))

  pub book_lines : (n : ℕ) (line : Bor (List Candidate)) → line.now ≡ in_order d n (executables d n) → lines_of d u (rows_of d u (Book n line)) ≡ book_page d n
  book_lines n line is =
      ap (λ l. whole_line d n ++ l) (flat_map-map (line_of d u) Executable line.now ∙ ap (flat_map executable_line) is)

-- among no numbers none passes
some_among : (into : List ℕ → List ℕ) (p : ℕ → Bool) (n k : ℕ) → into [] ≡ [] → k < length (into (filter p (numbers n))) → 0 < n
some_among into p zero k none h = let nothing = ap length none in absurd (omega arith)
some_among into p (suc n) k none h = omega arith

some_then : (m n : ℕ) → (n ≡ 0 → m ≡ 0) → 0 < m → 0 < n
some_then m zero none h = let nothing = none refl in absurd (omega arith)
some_then m (suc n) none h = omega arith

open_among : (rows : List Request) (n : ℕ) → is_open (numbered no_request rows n).life ≡ true → 0 < length rows
open_among [] zero h = cc
open_among [] (suc n) h = cc
open_among (row ∷ rows) n h = omega arith

module _ (t : Tables) (placed : Placed (bare_day t)) where
  by_request : 0 < length (used t.requests) → Seated t
  by_request some = let first = placed.0 0 some in (placed, omega arith)

  by_trade : 0 < length (used t.trades) → Seated t
  by_trade some = (placed, some_then (length (used t.trades)) (length (used t.symbols)) placed.1 some)

  pub view_tellable : (u : ℕ) (seen : Bor (List Listed)) → seen.now ≡ map (listed (bare_day t)) (seen_requests (bare_day t) u) → Tellable t (View seen)
  view_tellable u seen is some = by_test (length seen.now) refl some
    where
      by_test : (n : ℕ) → n ≡ length seen.now → 0 < n + length (used t.trades) → Seated t
      by_test zero e h = by_trade (omega arith)
      by_test (suc n) e h =
          let into : List ℕ → List ℕ = λ ns. fold (λ line n. ranked (request_before (bare_day t)) n line) [] ns in
          let long = ap length is in
          let some_seen : 0 < length (map (listed (bare_day t)) (seen_requests (bare_day t) u)) = omega arith in
          let one : 0 < length (into (filter (λ k. quotable (bare_day t) u k) (numbers (length (used t.requests))))) = omega (arith, length-map (seen_requests (bare_day t) u) (listed (bare_day t))) in
          by_request (some_among into (λ k. quotable (bare_day t) u k) (length (used t.requests)) 0 refl one)

  pub book_tellable : (u n : ℕ) (line : Bor (List Candidate)) → owns (bare_day t) u n ≡ true → Tellable t (Book n line)
  book_tellable u n line own some = by_request (open_among (used t.requests) n (first_so _ _ own))

length_numbers : (n : ℕ) → length (numbers n) ≡ n
length_numbers zero = refl
length_numbers (suc n) = let before = length_numbers n in omega (arith, length-append (numbers n) (suc n ∷ []))

-- no more numbers pass a test than there are
few_among : (p : ℕ → Bool) (n : ℕ) → length (filter p (numbers n)) ≤ n
few_among p n = omega (arith, length-filter p (numbers n), count_by-le-length p (numbers n), length_numbers n)

-- a page has no more rows than places
pub few_rows : (d : Day) (u : ℕ) (c : Content) → length (rows_of d u c) ≤ places d c
few_rows d u (View seen) =
    omega (
      arith,
      length-append (map (λ (x : Listed). Shown x.number) seen.now) (map Quote (own_quotes d u) ++ map Trade (own_trades d u)),
      length-append (map Quote (own_quotes d u)) (map Trade (own_trades d u)),
      length-map seen.now (λ (x : Listed). Shown x.number),
      length-map (own_quotes d u) Quote,
      length-map (own_trades d u) Trade,
      few_among (λ q. holds d u q) (length d.quotes),
      few_among (λ k. ((trade_of d k).buyer == u) || (trade_of d k).seller == u) (length d.trades),
    )
few_rows d u (Book n line) = omega (arith, length-map line.now Executable)

module _ (t : Tables) where
  -- whatever row of a page names a symbol, there are symbols
  pub named_rows : (u : ℕ) (c : Content) → Tellable t c → All (Named t) (rows_of (bare_day t) u c)
  named_rows u (View seen) told =
      let d = bare_day t in
      All-append (Named t) (map (λ (x : Listed). Shown x.number) seen.now) (map Quote (own_quotes d u) ++ map Trade (own_trades d u))
      (All-map (Named t) (λ (x : Listed). Shown x.number) seen.now (λ k _ h _. told (omega arith)))
      (All-append (Named t) (map Quote (own_quotes d u)) (map Trade (own_trades d u))
      (All-map (Named t) Quote (own_quotes d u) (λ _ _ _ h. cc))
      (All-map (Named t) Trade (own_trades d u) (λ k _ h _. let some : 0 < length (used t.trades) = some_among (λ ns. ns) _ _ k refl h in told (omega arith))))
  named_rows u (Book n line) told =
      All-cons (Named t) (Whole n) (map Executable line.now) (λ _. told (omega arith))
      (All-map (Named t) Executable line.now (λ _ _ _ h. cc))

  -- so it is in a view, and in the answer to a book question
  module _ (placed : Placed (bare_day t)) where
    pub named_view : (u : ℕ) (seen : Bor (List Listed)) → seen.now ≡ map (listed (bare_day t)) (seen_requests (bare_day t) u) → All (Named t) (rows_of (bare_day t) u (View seen))
    named_view u seen is = named_rows u (View seen) (view_tellable t placed u seen is)

    pub named_book : (u n : ℕ) (line : Bor (List Candidate)) → owns (bare_day t) u n ≡ true → All (Named t) (rows_of (bare_day t) u (Book n line))
    named_book u n line own = named_rows u (Book n line) (book_tellable t placed u n line own)
