-- The requests of two days and what is open of them, row by row: rows that are the same, and rows that differ only in what
-- they hold back. Assumes nothing.
use Rattle.std.proofs.Common.{◌≡◌, ℕ, zero, suc, Bool, true, false, cond, ◌⊎◌, List, [], ◌∷◌, ◌++◌, map, length, get_or, set, sym, refl, ap, subst, inl, inr, ⊎_elim}
use Rattle.venue.specs.declared.rows.Life.{Life}
use Rattle.venue.specs.declared.rows.Request.{Request}
use Rattle.venue.specs.Days.{Day, numbered, no_request, request_of, open_of, bit, is_open}
use Rattle.venue.specs.Calls.{member}
use Rattle.venue.specs.Model.{with_tables, ended_as}

-- us: who made the entries that were changed
module _ (us : List ℕ) where
  -- two rows, with what is open of each; hid: the row is of an entry that was changed
  pub record Row (hid : Bool) (r : Request) (o : ℕ) (r' : Request) (o' : ℕ) : Type 0 where
    pub requestor : r'.requestor ≡ r.requestor
    pub place : r'.place ≡ r.place
    pub recipients : r'.recipients ≡ r.recipients
    pub expiry : r'.expiry ≡ r.expiry
    pub shown : r'.shown ≡ r.shown
    pub life : r'.life ≡ r.life
    pub side : bit r.shown 0 ≡ true → r'.side ≡ r.side
    pub left : bit r.shown 1 ≡ true → o' ≡ o
    pub limit : bit r.shown 2 ≡ true → r'.limit ≡ r.limit
    pub minimum : bit r.shown 3 ≡ true → r'.minimum ≡ r.minimum
    pub whole : ((r' ≡ r) × (o' ≡ o)) ⊎ ((hid ≡ true) × (member r.requestor us ≡ true))

  pub same_row : (hid : Bool) (r : Request) (o : ℕ) (r' : Request) (o' : ℕ) → r' ≡ r → o' ≡ o → Row hid r o r' o'
  same_row hid r o r' o' e k =
      record {
        requestor = ap (λ (x : Request). x.requestor) e;
        place = ap (λ (x : Request). x.place) e;
        recipients = ap (λ (x : Request). x.recipients) e;
        expiry = ap (λ (x : Request). x.expiry) e;
        shown = ap (λ (x : Request). x.shown) e;
        life = ap (λ (x : Request). x.life) e;
        side = λ _. ap (λ (x : Request). x.side) e;
        left = λ _. k;
        limit = λ _. ap (λ (x : Request). x.limit) e;
        minimum = λ _. ap (λ (x : Request). x.minimum) e;
        whole = inl (e, k);
      }

  -- an end looks at nothing that is held back
  pub ended_row : (l : Life) (hid : Bool) (r : Request) (o : ℕ) (r' : Request) (o' : ℕ) → Row hid r o r' o' → Row hid (ended_as l r) o (ended_as l r') o'
  ended_row l hid r o r' o' h =
      record {
        requestor = h.requestor;
        place = h.place;
        recipients = h.recipients;
        expiry = h.expiry;
        shown = h.shown;
        life = ap (λ x. cond (is_open x) l x) h.life;
        side = h.side;
        left = h.left;
        limit = h.limit;
        minimum = h.minimum;
        whole = ⊎_elim (λ e. inl (ap (ended_as l) e.0, e.1)) inr h.whole;
      }

  pub ended_maybe : (b b' : Bool) (l : Life) (hid : Bool) (r : Request) (o : ℕ) (r' : Request) (o' : ℕ) → b' ≡ b → Row hid r o r' o' → Row hid (cond b (ended_as l r) r) o (cond b' (ended_as l r') r') o'
  ended_maybe b b' l hid r o r' o' e h = subst (λ x. Row hid (cond b (ended_as l r) r) o (cond x (ended_as l r') r') o') (sym e) (both b)
    where
      both : (x : Bool) → Row hid (cond x (ended_as l r) r) o (cond x (ended_as l r') r') o'
      both true = ended_row l hid r o r' o' h
      both false = h

  -- hid: of each place, whether its entry was changed
  pub data Beside : (ℕ → Bool) → List Request → List ℕ → List Request → List ℕ → Type 0 where
    no_rows : (hid : ℕ → Bool) → Beside hid [] [] [] []
    a_row : (hid : ℕ → Bool) (r : Request) (o : ℕ) (r' : Request) (o' : ℕ) (rs : List Request) (os : List ℕ) (rs' : List Request) (os' : List ℕ) → Row (hid 0) r o r' o' → Beside (λ i. hid (suc i)) rs os rs' os' → Beside hid (r ∷ rs) (o ∷ os) (r' ∷ rs') (o' ∷ os')

  pub as_long : (hid : ℕ → Bool) (rs : List Request) (os : List ℕ) (rs' : List Request) (os' : List ℕ) → Beside hid rs os rs' os' → length rs' ≡ length rs
  as_long hid rs os rs' os' (no_rows _) = refl
  as_long hid rs os rs' os' (a_row _ _ _ _ _ _ _ _ _ h t) = ap suc (as_long _ _ _ _ _ t)

  pub row_in : (hid : ℕ → Bool) (rs : List Request) (os : List ℕ) (rs' : List Request) (os' : List ℕ) → Beside hid rs os rs' os' → (i : ℕ) → Row (hid i) (get_or rs i no_request) (get_or os i 0) (get_or rs' i no_request) (get_or os' i 0)
  row_in hid rs os rs' os' (no_rows _) i = same_row (hid i) no_request 0 no_request 0 refl refl
  row_in hid rs os rs' os' (a_row _ _ _ _ _ _ _ _ _ h t) zero = h
  row_in hid rs os rs' os' (a_row _ _ _ _ _ _ _ _ _ h t) (suc i) = row_in _ _ _ _ _ t i

  -- a row more, one other row, and each row
  pub row_pushed : (hid : ℕ → Bool) (rs : List Request) (os : List ℕ) (rs' : List Request) (os' : List ℕ) → Beside hid rs os rs' os' → (r : Request) (o : ℕ) (r' : Request) (o' : ℕ) → Row (hid (length rs)) r o r' o' → Beside hid (rs ++ r ∷ []) (os ++ o ∷ []) (rs' ++ r' ∷ []) (os' ++ o' ∷ [])
  row_pushed hid rs os rs' os' (no_rows _) r o r' o' k = a_row hid r o r' o' [] [] [] [] k (no_rows _)
  row_pushed hid rs os rs' os' (a_row _ _ _ _ _ _ _ _ _ h t) r o r' o' k = a_row _ _ _ _ _ _ _ _ _ h (row_pushed _ _ _ _ _ t r o r' o' k)

  pub row_set : (hid : ℕ → Bool) (rs : List Request) (os : List ℕ) (rs' : List Request) (os' : List ℕ) → Beside hid rs os rs' os' → (i : ℕ) (r : Request) (o : ℕ) (r' : Request) (o' : ℕ) → Row (hid i) r o r' o' → Beside hid (set rs i r) (set os i o) (set rs' i r') (set os' i o')
  row_set hid rs os rs' os' (no_rows _) i r o r' o' k = no_rows _
  row_set hid rs os rs' os' (a_row _ _ _ _ _ _ _ _ _ h t) zero r o r' o' k = a_row _ _ _ _ _ _ _ _ _ k t
  row_set hid rs os rs' os' (a_row _ _ _ _ _ _ _ _ _ h t) (suc i) r o r' o' k = a_row _ _ _ _ _ _ _ _ _ h (row_set _ _ _ _ _ t i r o r' o' k)

  pub rows_mapped : (f : Request → Request) → ((hid : Bool) (r : Request) (o : ℕ) (r' : Request) (o' : ℕ) → Row hid r o r' o' → Row hid (f r) o (f r') o') → (hid : ℕ → Bool) (rs : List Request) (os : List ℕ) (rs' : List Request) (os' : List ℕ) → Beside hid rs os rs' os' → Beside hid (map f rs) os (map f rs') os'
  rows_mapped f g hid rs os rs' os' (no_rows _) = no_rows _
  rows_mapped f g hid rs os rs' os' (a_row _ _ _ _ _ _ _ _ _ h t) = a_row _ _ _ _ _ _ _ _ _ (g _ _ _ _ _ h) (rows_mapped f g _ _ _ _ _ t)

-- ns: the numbers of the entries that were changed
abbrev pub hidden_at : List ℕ → ℕ → Bool
hidden_at ns i = member (suc i) ns

module _ (ns us : List ℕ) where
  abbrev pub Tables : List Request → List ℕ → List Request → List ℕ → Type 0
  Tables rs os rs' os' = Beside us (hidden_at ns) rs os rs' os'

  -- a day whose requests stand beside others
  abbrev pub BesideDay : Day → List Request → List ℕ → Type 0
  BesideDay d rs os = Tables d.requests d.opens rs os

  pub row_at : (d : Day) (rs : List Request) (os : List ℕ) → BesideDay d rs os → (n : ℕ) → Row us (member n ns) (request_of d n) (open_of d n) (numbered no_request rs n) (numbered 0 os n)
  row_at d rs os b zero = same_row us (member 0 ns) no_request 0 no_request 0 refl refl
  row_at d rs os b (suc i) = row_in us (hidden_at ns) d.requests d.opens rs os b i

-- the day with those in their place
abbrev pub beside : Day → List Request → List ℕ → Day
beside d rs os = with_tables d rs os d.quotes d.remains d.trades
