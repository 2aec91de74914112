-- What a page tells, row by number. Assumes nothing.
use Rattle.std.proofs.Common.{◌≡◌, ℕ, suc, ◌+◌, ◌-◌, ◌≤◌, Bool, true, false, cond, ltb, eqb, ◌||◌, List, [], ◌++◌, Option, Some, map, length, get_or, refl, sym, ap, ◌∙◌, append-nil, arith}
use Rattle.std.specs.List.{flat_map}
use Rattle.std.proofs.lemmas.Bool.{cond-true, cond-false, lt-ltb, le-ltb}
use Rattle.std.proofs.lemmas.Grind.{flat_map-append}
use Rattle.std.proofs.lemmas.List.Folds.{flat_map-map}
use Rattle.prices.specs.declared.rows.Row.{Row as SheetRow}
use Rattle.prices.specs.Rows.{Screen}
use Rattle.tables.specs.declared.inner.Market.{Market}
use Rattle.tables.specs.Priced.{market_day}
use Rattle.venue.specs.declared.rows.Candidate.{Candidate}
use Rattle.venue.specs.Days.{Day, holds, trade_of}
use Rattle.venue.specs.Pages.{executable_line, own_quotes, own_trades, quote_line, shown_line, trade_line, whole_line}
use Rattle.pages.specs.declared.rows.Content.{Content}
use Rattle.pages.specs.declared.rows.Content.TheVariants.{View, Book}
use Rattle.pages.specs.declared.rows.Listed.{Listed}
use Rattle.pages.specs.declared.rows.Page.{Page}
use Rattle.pages.specs.declared.rows.Row.{Row}
use Rattle.pages.specs.declared.rows.Row.TheVariants.{Shown, Whole, Quote, Trade, Executable}
use Rattle.pages.specs.Rows.{line_of, lines_of, no_candidate, no_listed, own_row, places, row_at, row_bytes, row_if, rows_of}
use Rattle.pages.specs.Told.{told}
use Rattle.pages.proofs.ByNumber.{lines_rows, lines_shown, lines_then, lines_to}

module _ (d : Day) (u : ℕ) where
  abbrev bytes : Option Row → List ℕ
  bytes = row_bytes d u

  shown_if : (b : Bool) (row : Row) → bytes (row_if b row) ≡ cond b (line_of d u row) []
  shown_if true row = refl
  shown_if false row = refl

  abbrev side : ℕ → Bool
  side n = eqb (trade_of d n).buyer u || eqb (trade_of d n).seller u

  -- the user's own quotes and trades
  own_lines : lines_to (λ n. bytes (own_row d u n)) (length d.quotes + length d.trades) ≡ flat_map (quote_line d) (own_quotes d u) ++ flat_map (trade_line d u) (own_trades d u)
  own_lines =
      let q = length d.quotes in
      let quotes : ℕ → List ℕ = λ n. cond (holds d u n) (quote_line d n) [] in
      let trades : ℕ → List ℕ = λ n. cond (side n) (trade_line d u n) [] in
      let first : (k : ℕ) → 1 ≤ k → k ≤ q → bytes (own_row d u k) ≡ quotes k = λ k a b. ap bytes (cond-false _ _ _ (le-ltb q k b)) ∙ shown_if (holds d u k) (Quote k) in
      let second : (k : ℕ) → bytes (own_row d u (suc (q + k))) ≡ trades (suc k) = λ k.
      let place : suc (q + k) - q ≡ suc k = omega arith in
      ap bytes (cond-true _ _ _ (lt-ltb q (suc (q + k)) (omega arith)))
      ∙ ap (λ n. bytes (row_if (side n) (Trade n))) place
      ∙ shown_if (side (suc k)) (Trade (suc k)) in
      lines_then (λ n. bytes (own_row d u n)) quotes trades q first second (length d.trades)
      ∙ ap (λ l. l ++ lines_to trades (length d.trades)) (lines_shown (quote_line d) (λ n. holds d u n) q)
      ∙ ap (λ l. flat_map (quote_line d) (own_quotes d u) ++ l) (lines_shown (trade_line d u) side (length d.trades))

  module _ (seen : List Listed) where
    abbrev pub listing : Listed → List ℕ
    listing x = shown_line d x.number

    view_numbers : (c : Content) (row : ℕ → Option Row) → ((n : ℕ) → row n ≡ cond (ltb (length seen) n) (own_row d u (n - length seen)) (Some (Shown (get_or seen (n - 1) no_listed).number))) → lines_to (λ n. bytes (row n)) (length seen + (length d.quotes + length d.trades)) ≡ flat_map listing seen ++ (flat_map (quote_line d) (own_quotes d u) ++ flat_map (trade_line d u) (own_trades d u))
    view_numbers c row is =
        let m = length seen in
        let seen_line : ℕ → List ℕ = λ k. listing (get_or seen (k - 1) no_listed) in
        let first : (k : ℕ) → 1 ≤ k → k ≤ m → bytes (row k) ≡ seen_line k = λ k a b. ap bytes (is k ∙ cond-false _ _ _ (le-ltb m k b)) in
        let second : (k : ℕ) → bytes (row (suc (m + k))) ≡ bytes (own_row d u (suc k)) = λ k.
        let place : suc (m + k) - m ≡ suc k = omega arith in
        ap bytes (is (suc (m + k)) ∙ cond-true _ _ _ (lt-ltb m (suc (m + k)) (omega arith))) ∙ ap (λ n. bytes (own_row d u n)) place in
        lines_then (λ n. bytes (row n)) seen_line (λ n. bytes (own_row d u n)) m first second (length d.quotes + length d.trades)
        ∙ ap (λ l. l ++ lines_to (λ n. bytes (own_row d u n)) (length d.quotes + length d.trades)) (lines_rows listing no_listed seen)
        ∙ ap (λ l. flat_map listing seen ++ l) own_lines

    pub view_told : lines_of d u (map (λ (x : Listed). Shown x.number) seen ++ (map Quote (own_quotes d u) ++ map Trade (own_trades d u))) ≡ flat_map listing seen ++ (flat_map (quote_line d) (own_quotes d u) ++ flat_map (trade_line d u) (own_trades d u))
    view_told =
        flat_map-append (line_of d u) (map (λ (x : Listed). Shown x.number) seen) (map Quote (own_quotes d u) ++ map Trade (own_trades d u))
        ∙ ap (λ l. l ++ lines_of d u (map Quote (own_quotes d u) ++ map Trade (own_trades d u))) (flat_map-map (line_of d u) (λ (x : Listed). Shown x.number) seen)
        ∙ ap (λ l. flat_map listing seen ++ l) (flat_map-append (line_of d u) (map Quote (own_quotes d u)) (map Trade (own_trades d u)))
        ∙ ap (λ l. flat_map listing seen ++ (l ++ lines_of d u (map Trade (own_trades d u)))) (flat_map-map (line_of d u) Quote (own_quotes d u))
        ∙ ap (λ l. flat_map listing seen ++ (flat_map (quote_line d) (own_quotes d u) ++ l)) (flat_map-map (line_of d u) Trade (own_trades d u))

  book_numbers : (m : ℕ) (line : List Candidate) (row : ℕ → Option Row) → ((n : ℕ) → row n ≡ cond (ltb 1 n) (Some (Executable (get_or line (n - 2) no_candidate))) (Some (Whole m))) → lines_to (λ n. bytes (row n)) (1 + length line) ≡ whole_line d m ++ flat_map executable_line line
  book_numbers m line row is =
      let rest : ℕ → List ℕ = λ k. executable_line (get_or line (k - 1) no_candidate) in
      let first : (k : ℕ) → 1 ≤ k → k ≤ 1 → bytes (row k) ≡ whole_line d m = λ k a b. ap bytes (is k ∙ cond-false _ _ _ (le-ltb 1 k b)) in
      let second : (k : ℕ) → bytes (row (suc (1 + k))) ≡ rest (suc k) = λ k.
      let place : suc (1 + k) - 2 ≡ suc k - 1 = omega arith in
      ap bytes (is (suc (1 + k)) ∙ cond-true _ _ _ (lt-ltb 1 (suc (1 + k)) (omega arith))) ∙ ap (λ n. executable_line (get_or line n no_candidate)) place in
      lines_then (λ n. bytes (row n)) (λ _. whole_line d m) rest 1 first second (length line)
      ∙ ap (λ l. l ++ lines_to rest (length line)) (append-nil (whole_line d m))
      ∙ ap (λ l. whole_line d m ++ l) (lines_rows executable_line no_candidate line)

  -- the rows by number are the rows
  pub told_by_number : (c : Content) → lines_to (λ n. row_bytes d u (row_at d u c n)) (places d c) ≡ lines_of d u (rows_of d u c)
  told_by_number (View seen) = view_numbers seen.now (View seen) (row_at d u (View seen)) (λ n. refl) ∙ sym (view_told seen.now)
  told_by_number (Book m line) =
      book_numbers m line.now (row_at d u (Book m line)) (λ n. refl)
      ∙ sym (ap (λ l. whole_line d m ++ l) (flat_map-map (line_of d u) Executable line.now))

-- a page by its parts
pub page_is : {S : Type 0} (rows : S → List SheetRow) (screen : S → Screen) (p : Page S) (m : Market S) (u : ℕ) (c : Content) → p.market.now ≡ m → p.user ≡ u → p.content ≡ c → told rows screen p ≡ lines_of (market_day rows screen m) u (rows_of (market_day rows screen m) u c)
page_is rows screen p m u c a b e =
    ap (λ k. lines_of (market_day rows screen k) p.user (rows_of (market_day rows screen k) p.user p.content)) a
    ∙ ap (λ v. lines_of (market_day rows screen m) v (rows_of (market_day rows screen m) v p.content)) b
    ∙ ap (λ k. lines_of (market_day rows screen m) u (rows_of (market_day rows screen m) u k)) e
