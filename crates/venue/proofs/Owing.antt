-- The law of debts. Assumes nothing.
use Rattle.std.proofs.Common.{◌≡◌, ℕ, zero, suc, ◌+◌, ◌-◌, ◌<◌, Bool, true, false, cond, not, ◌&&◌, ◌||◌, eqb, ltb, leb, ◌≢◌, List, [], ◌∷◌, ◌++◌, map, length, get_or, set, Some, None, Ok, Err, Option, Result, sym, refl, ap, ◌∙◌, subst, arith, get_or-set_other, ltb-false, eqb-true}
use Rattle.std.specs.List.{AllByRecursion as Every}
use Rattle.std.proofs.lemmas.Bool.{cond-false, or_parts, not-false, and_left}
use Rattle.std.proofs.lemmas.Bool.Decides.{nat_tests}
use Rattle.records.specs.declared.causes.Refusal.{Refusal}
use Rattle.records.proofs.Unless.{granted}
use Rattle.venue.specs.declared.rows.Report.{Report}
use Rattle.venue.specs.declared.rows.Trade.{Trade}
use Rattle.venue.specs.Days.{Day, numbered, no_trade}
use Rattle.venue.specs.Trading.{renumbered, in_order}
use Rattle.venue.specs.Calls.{Call, Call.enter, Call.offer, Call.pull, Call.cancel, Call.accept, Call.file, Call.post, Call.move_clock, Call.ask_price, Call.view, Call.book, Call.close, not_owed, causes, named, once, fills_of}
use Rattle.venue.specs.Model.{Reply, judge, reply, answer, apply, next_by, next, filed, filed_trade, Opening, open_day}
use Rattle.venue.specs.declared.rows.Candidate.{Candidate}
use Rattle.venue.specs.Laws.{Turns, Turns.finished, Turns.passed, Turns.traded}
use Rattle.venue.proofs.Filling.{fills_by_turns}
use Rattle.venue.proofs.Replies.{replied, judged, reply_is, priced_only, length_renumbered}
use Rattle.venue.specs.Debts.{World, Event, Event.call_on, Event.present, nth, without, debt_in, handed, is_filing, called, brought, presented, step, steps, marks, unfiled_at, covers, covered, Different, Balanced, Debts, Sample}

-- debts put together, and one taken out
covered_append : (xs ys : List Report) (n t : ℕ) → covered (xs ++ ys) n t ≡ covered xs n t + covered ys n t
covered_append [] ys n t = omega arith
covered_append (x ∷ xs) ys n t = let r = covered_append xs ys n t in omega arith

covered_without : (rs : List Report) (k : ℕ) (r : Report) (n t : ℕ) → nth rs k ≡ Some r → covered rs n t ≡ covers r n t + covered (without rs k) n t
covered_without [] k r n t e = let z : ◌≡◌ {A = ℕ} 0 1 = cc in absurd (omega arith)
covered_without (x ∷ rs) zero r n t e = let is : x ≡ r = cc in ap (λ y. covers y n t + covered rs n t) is
covered_without (x ∷ rs) (suc k) r n t e = let m = covered_without rs k r n t e in omega arith

-- a debt of another day covers nothing of this one
other_day : (r : Report) (n t : ℕ) → r.day ≢ n → covers r n t ≡ 0
other_day r n t h = let no : eqb r.day n ≡ false = grind (arith, nat_tests) in cond-false _ _ _ (and_left (eqb r.day n) _ no)

-- a list with ones behind it
ones_at : (ys : List ℕ) (k : ℕ) → Every (λ y. y ≡ 1) ys → get_or ys k 0 ≡ cond (ltb k (length ys)) 1 0
ones_at [] k h = grind (arith, nat_tests)
ones_at (y ∷ ys) zero h = let e = h.0 in grind (arith, nat_tests)
ones_at (y ∷ ys) (suc k) h = let e = ones_at ys k h.1 in grind (arith, nat_tests)

ones_behind : (xs ys : List ℕ) (k : ℕ) → Every (λ y. y ≡ 1) ys → get_or (xs ++ ys) k 0 ≡ get_or xs k 0 + cond (leb (length xs) k && ltb k (length xs + length ys)) 1 0
ones_behind [] ys k h = let e = ones_at ys k h in grind (arith, nat_tests)
ones_behind (x ∷ xs) ys zero h = grind (arith, nat_tests)
ones_behind (x ∷ xs) ys (suc k) h = let e = ones_behind xs ys k h in grind (arith, nat_tests)

appended : (xs ys : List ℕ) (t : ℕ) → Every (λ y. y ≡ 1) ys → numbered 0 (xs ++ ys) t ≡ numbered 0 xs t + cond (leb (length xs + 1) t && leb t (length xs + length ys)) 1 0
appended xs ys zero h = grind (arith, nat_tests)
appended xs ys (suc k) h = let e = ones_behind xs ys k h in grind (arith, nat_tests)

-- one taken away
zeroed : (xs : List ℕ) (i k : ℕ) → get_or xs i 0 ≡ 1 → get_or xs k 0 ≡ get_or (set xs i 0) k 0 + cond (eqb k i) 1 0
zeroed [] i k h = absurd (omega arith)
zeroed (x ∷ xs) zero zero h = grind (arith, nat_tests)
zeroed (x ∷ xs) zero (suc k) h = grind (arith, nat_tests)
zeroed (x ∷ xs) (suc i) zero h = grind (arith, nat_tests)
zeroed (x ∷ xs) (suc i) (suc k) h = let e = zeroed xs i k h in grind (arith, nat_tests)

zeroed_number : (xs : List ℕ) (i t : ℕ) → numbered 0 xs i ≡ 1 → numbered 0 xs t ≡ numbered 0 (renumbered xs i 0) t + cond (eqb t i) 1 0
zeroed_number xs zero t h = absurd (omega arith)
zeroed_number xs (suc i) zero h = grind (arith, nat_tests)
zeroed_number xs (suc i) (suc k) h = let e = zeroed xs i k h in grind (arith, nat_tests)

-- the marks of lists of trades
marks_append : (xs ys : List Trade) → marks (xs ++ ys) ≡ marks xs ++ marks ys
marks_append [] ys = refl
marks_append (x ∷ xs) ys = ap (λ l. cond x.filed 0 1 ∷ l) (marks_append xs ys)

length_marks : (ts : List Trade) → length (marks ts) ≡ length ts
length_marks [] = refl
length_marks (t ∷ ts) = ap suc (length_marks ts)

marks_set : (ts : List Trade) (i : ℕ) (x : Trade) → x.filed ≡ true → marks (set ts i x) ≡ set (marks ts) i 0
marks_set [] i x h = refl
marks_set (t ∷ ts) zero x h = ap (λ b. cond b 0 1 ∷ marks ts) h
marks_set (t ∷ ts) (suc i) x h = ap (λ l. cond t.filed 0 1 ∷ l) (marks_set ts i x h)

marks_renumbered : (ts : List Trade) (i : ℕ) (x : Trade) → x.filed ≡ true → marks (renumbered ts i x) ≡ renumbered (marks ts) i 0
marks_renumbered ts zero x h = refl
marks_renumbered ts (suc i) x h = marks_set ts i x h

mark_at : (ts : List Trade) (i : ℕ) → i < length ts → (get_or ts i no_trade).filed ≡ false → get_or (marks ts) i 0 ≡ 1
mark_at [] i h e = absurd (omega arith)
mark_at (t ∷ ts) zero h e = cond-false _ _ _ e
mark_at (t ∷ ts) (suc i) h e = mark_at ts i (omega arith) e

-- a trade that is there and unfiled has the mark 1
owed_mark : (ts : List Trade) (t : ℕ) → (eqb t 0 || (ltb (length ts) t || (numbered no_trade ts t).filed)) ≡ false → numbered 0 (marks ts) t ≡ 1
owed_mark ts zero e = let z : ◌≡◌ {A = ℕ} 0 1 = cc in absurd (omega arith)
owed_mark ts (suc i) e =
    let p = or_parts (eqb (suc i) 0) _ e in
    let q = or_parts (ltb (length ts) (suc i)) _ p.1 in
    let h = ltb-false (length ts) (suc i) q.0 in
    mark_at ts i (omega arith) q.1

-- marking other trades does not touch those that come later
numbered_other : {X : Type 0} (none : X) (xs : List X) (i t : ℕ) (x : X) → i < t → numbered none (renumbered xs i x) t ≡ numbered none xs t
numbered_other none xs zero t x h = refl
numbered_other none xs (suc i) zero x h = refl
numbered_other none xs (suc i) (suc t) x h = let ne : t ≢ i = λ e. omega arith in rw get_or-set_other

later_owed : (n : ℕ) (ts : List Trade) (i t : ℕ) (x : Trade) → i < t → not_owed (renumbered ts i x) t n ≡ not_owed ts t n
later_owed zero ts i t x h = refl
later_owed (suc n) ts i t x h =
    ap (λ k. (eqb t 0 || (ltb k t || (numbered no_trade (renumbered ts i x) t).filed)) || not_owed (renumbered ts i x) (t + 1) n) (length_renumbered ts i x)
    ∙ ap (λ (y : Trade). (eqb t 0 || (ltb (length ts) t || y.filed)) || not_owed (renumbered ts i x) (t + 1) n) (numbered_other no_trade ts i t x h)
    ∙ ap (λ b. (eqb t 0 || (ltb (length ts) t || (numbered no_trade ts t).filed)) || b) (later_owed n ts i (t + 1) x (omega arith))

-- filing n trades takes their marks away, and no others
filed_marks : (n : ℕ) (ts : List Trade) (first t : ℕ) → not_owed ts first n ≡ false → numbered 0 (marks ts) t ≡ numbered 0 (marks (filed ts first n)) t + cond (leb first t && ltb t (first + n)) 1 0
filed_marks zero ts first t h = grind (arith, nat_tests)
filed_marks (suc n) ts first t h =
    let p = or_parts (eqb first 0 || (ltb (length ts) first || (numbered no_trade ts first).filed)) (not_owed ts (first + 1) n) h in
    let x = filed_trade (numbered no_trade ts first) in
    let ts' = renumbered ts first x in
    let one = zeroed_number (marks ts) first t (owed_mark ts first p.0) in
    let same = ap (λ l. numbered 0 l t) (marks_renumbered ts first x refl) in
    let rest = filed_marks n ts' (first + 1) t (later_owed n ts first (first + 1) x (omega arith) ∙ p.1) in
    let here : cond (eqb t first) 1 0 + cond (leb (first + 1) t && ltb t (first + 1 + n)) 1 0 ≡ cond (leb first t && ltb t (first + suc n)) 1 0 = grind (arith, nat_tests) in
    omega arith

-- the range of a debt, by its last trade
in_range : (first last t : ℕ) → ◌≡◌ {A = ℕ} (cond (leb first t && ltb t (first + (last + 1 - first))) 1 0) (cond (leb first t && leb t last) 1 0)
in_range first last t = grind (arith, nat_tests)

-- the trades of fills are unfiled
unfiled_turns : (d : Day) (n o : ℕ) (rs : List ℕ) (cs : List Candidate) (ts : List Trade) (o' : ℕ) (rs' : List ℕ) → Turns d n o rs cs ts o' rs' → Every (λ m. m ≡ 1) (marks ts)
unfiled_turns d n o rs cs ts o' rs' (finished _ _) = tt
unfiled_turns d n o rs cs ts o' rs' (passed _ _ c cs' _ _ _ h t) = unfiled_turns d n o rs cs' ts o' rs' t
unfiled_turns d n o rs cs ts o' rs' (traded _ _ c cs' ts' _ _ h k t) = (refl, unfiled_turns d n _ _ cs' ts' o' rs' t)

-- what a call that is carried out, and is no filing, does to a day's trades and to what is owed
pub record Owes (d : Day) (d' : Day) (debts : List Report) : Type 0 where
  pub number : d'.number ≡ d.number
  pub more : (t : ℕ) → unfiled_at d' t ≡ unfiled_at d t + covered debts d.number t
  pub others : (n t : ℕ) → n ≢ d.number → covered debts n t ≡ 0

owes_nothing : (d d' : Day) (debts : List Report) → d'.number ≡ d.number → d'.trades ≡ d.trades → debts ≡ [] → Owes d d' debts
owes_nothing d d' debts n ts none =
    record {
      number = n;
      more = λ t. let c = ap (λ ds. covered ds d.number t) none in let m = ap (λ us. numbered 0 (marks us) t) ts in omega arith;
      others = λ m t ne. ap (λ ds. covered ds m t) none;
    }

abbrev owed_for : Day → List Trade → Report
owed_for d ts = record { day = d.number; first = length d.trades + 1; last = length d.trades + length ts }

covers_own : (d : Day) (ts : List Trade) (t : ℕ) → covers (owed_for d ts) d.number t ≡ cond (leb (length d.trades + 1) t && leb t (length d.trades + length ts)) 1 0
covers_own d ts t =
    let own : eqb d.number d.number ≡ true = grind (arith, nat_tests) in
    ap (λ b. cond (b && (leb (length d.trades + 1) t && leb t (length d.trades + length ts))) 1 0) own

owes_debt : (d d' : Day) (ts : List Trade) (debts : List Report) → d'.number ≡ d.number → d'.trades ≡ d.trades ++ ts → Every (λ m. m ≡ 1) (marks ts) → debts ≡ owed_for d ts ∷ [] → Owes d d' debts
owes_debt d d' ts debts n is ones owed =
    record {
      number = n;
      more = λ t.
          let was = unfiled_at d t in
          let c = ap (λ ds. covered ds d.number t) owed in
          let m = ap (λ us. numbered 0 (marks us) t) is ∙ ap (λ l. numbered 0 l t) (marks_append d.trades ts) in
          let a = appended (marks d.trades) (marks ts) t ones
          ∙ ap (λ x. was + cond (leb (x + 1) t && leb t (x + length (marks ts))) 1 0) (length_marks d.trades)
          ∙ ap (λ y. was + cond (leb (length d.trades + 1) t && leb t (length d.trades + y)) 1 0) (length_marks ts) in
          let o = covers_own d ts t in
          let whole = m ∙ a in
          omega arith;
      others = λ m t ne. let z = other_day (owed_for d ts) m t (λ e. ne (sym e)) in ap (λ ds. covered ds m t) owed ∙ omega arith;
    }

no_debt : (r s : Reply) → s.debt ≡ None → ◌≡◌ {A = Result Reply Refusal} (Ok s) (Ok r) → debt_in r.debt ≡ []
no_debt r s n e = ap (λ (x : Reply). debt_in x.debt) (reply_is s r e) ∙ ap debt_in n

replied_owes : (d : Day) (c : Call) (r : Reply) → is_filing c ≡ false → reply d c ≡ Ok r → Owes d (apply d c) (debt_in r.debt)
replied_owes d (enter e) r f h = owes_nothing d _ _ refl refl (no_debt r _ refl h)
replied_owes d (offer o) r f h = owes_nothing d _ _ refl refl (no_debt r _ refl h)
replied_owes d (pull u q) r f h = owes_nothing d _ _ refl refl (no_debt r _ refl h)
replied_owes d (cancel u n) r f h = owes_nothing d _ _ refl refl (no_debt r _ refl h)
replied_owes d (accept a) r f h =
    owes_debt d _ (fills_of d a).trades _ refl refl
    (unfiled_turns d _ _ _ _ _ _ _ (fills_by_turns d a.request (in_order d a.request (once (named a.quotes)))))
    (ap (λ (x : Reply). debt_in x.debt) (reply_is _ r h))
replied_owes d (file p) r f h = let z : ◌≡◌ {A = ℕ} 0 1 = cc in absurd (omega arith)
replied_owes d (post p) r f h = owes_nothing d _ _ refl refl (no_debt r _ refl h)
replied_owes d (move_clock t) r f h = owes_nothing d _ _ refl refl (no_debt r _ refl h)
replied_owes d (ask_price k) r f h = owes_nothing d _ _ refl refl (ap debt_in (priced_only _ r h))
replied_owes d (view u room) r f h = owes_nothing d _ _ refl refl (no_debt r _ refl h)
replied_owes d (book u n room) r f h = owes_nothing d _ _ refl refl (no_debt r _ refl h)
replied_owes d close r f h = owes_nothing d _ _ refl refl (no_debt r _ refl h)

answered_owes : (d : Day) (c : Call) (q : Result Reply Refusal) → is_filing c ≡ false → answer d c ≡ q → Owes d (next_by d c q) (handed q)
answered_owes d c (Ok r) f e = replied_owes d c r f (replied d c (judge d c) r e)
answered_owes d c (Err x) f e = owes_nothing d d [] refl refl refl

pub call_owes : (d : Day) (c : Call) → is_filing c ≡ false → Owes d (next d c) (handed (answer d c))
call_owes d c f = answered_owes d c (answer d c) f refl

-- what a filing that is carried out does
pub record Brings (d : Day) (d' : Day) (r : Report) : Type 0 where
  pub number : d'.number ≡ d.number
  pub own : r.day ≡ d.number
  pub fewer : (t : ℕ) → unfiled_at d t ≡ unfiled_at d' t + covers r d.number t

filing_brings : (d : Day) (r : Report) (x : Reply) → answer d (file r) ≡ Ok x → Brings d (next d (file r)) r
filing_brings d r x e =
    let g = granted (causes d (file r)) tt tt (judged d (file r) (judge d (file r)) x e) in
    let p = or_parts (not (eqb r.day d.number)) (not_owed d.trades r.first (r.last + 1 - r.first)) g.0.1.0 in
    let own = not-false (eqb r.day d.number) p.0 in
    let after = ap (next_by d (file r)) e in
    record {
      number = ap (λ (f : Day). f.number) after;
      own = eqb-true r.day d.number own;
      fewer = λ t.
          let m = filed_marks (r.last + 1 - r.first) d.trades r.first t p.1 in
          let i = in_range r.first r.last t in
          let c : covers r d.number t ≡ cond (leb r.first t && leb t r.last) 1 0 = ap (λ b. cond (b && (leb r.first t && leb t r.last)) 1 0) own in
          let u = ap (λ (f : Day). unfiled_at f t) after in
          omega arith;
    }

-- one day of several is replaced, and the debts change for it alone
module _ (old new : List Report) (d d' : Day) (same : d'.number ≡ d.number) (here : Balanced old d → Balanced new d') (there : (n t : ℕ) → n ≢ d.number → covered new n t ≡ covered old n t) where
  -- the days that are not d
  others : (ds : List Day) → Every (λ e. e.number ≢ d.number) ds → Every (Balanced old) ds → Every (Balanced new) ds
  others [] ne b = tt
  others (e ∷ ds) ne b = (λ t. there e.number t ne.0 ∙ b.0 t, others ds ne.1 b.1)

  not_nth : (ds : List Day) (i : ℕ) (e : Day) → nth ds i ≡ Some d → Every (λ f. f.number ≢ e.number) ds → e.number ≢ d.number
  not_nth [] i e n h = let z : ◌≡◌ {A = ℕ} 0 1 = cc in absurd (omega arith)
  not_nth (f ∷ ds) zero e n h = λ k. h.0 (let is : f ≡ d = cc in ap (λ (g : Day). g.number) is ∙ sym k)
  not_nth (f ∷ ds) (suc i) e n h = not_nth ds i e n h.1

  balanced_set : (ds : List Day) (i : ℕ) → nth ds i ≡ Some d → Different ds → Every (Balanced old) ds → Every (Balanced new) (set ds i d')
  balanced_set [] i n f b = tt
  balanced_set (e ∷ ds) zero n f b =
      let is : e ≡ d = cc in
      (here (subst (Balanced old) is b.0), others ds (subst (λ (g : Day). Every (λ h. h.number ≢ g.number) ds) is f.0) b.1)
  balanced_set (e ∷ ds) (suc i) n f b =
      (λ t. there e.number t (not_nth ds i e n f.0) ∙ b.0 t, balanced_set ds i n f.1 b.1)

  -- the numbers stay different
  still_other : (ds : List Day) (i : ℕ) (m : ℕ) → nth ds i ≡ Some d → Every (λ e. e.number ≢ m) ds → Every (λ e. e.number ≢ m) (set ds i d')
  still_other [] i m n h = tt
  still_other (e ∷ ds) zero m n h = (λ k. h.0 (let is : e ≡ d = cc in ap (λ (g : Day). g.number) is ∙ sym same ∙ k), h.1)
  still_other (e ∷ ds) (suc i) m n h = (h.0, still_other ds i m n h.1)

  different_set : (ds : List Day) (i : ℕ) → nth ds i ≡ Some d → Different ds → Different (set ds i d')
  different_set [] i n f = tt
  different_set (e ∷ ds) zero n f =
      let is : e ≡ d = cc in
      (subst (λ m. Every (λ h. h.number ≢ m) ds) (ap (λ (g : Day). g.number) is ∙ sym same) f.0, f.1)
  different_set (e ∷ ds) (suc i) n f = (still_other ds i e.number n f.0, different_set ds i n f.1)

-- the law is kept by every event
pub record Sound (w : World) : Type 0 where
  pub apart : Different w.days
  pub balanced : Every (Balanced w.debts) w.days

call_sound : (w : World) (i : ℕ) (c : Call) (o : Option Day) → nth w.days i ≡ o → is_filing c ≡ false → Sound w → Sound (called w i c o)
call_sound w i c None n f s = s
call_sound w i c (Some d) n f s =
    let old = w.debts in
    let more = handed (answer d c) in
    let w' = call_owes d c f in
    let here : Balanced old d → Balanced (old ++ more) (next d c) = λ b t.
    let a = covered_append old more (next d c).number t in
    let k = ap (λ m. covered (old ++ more) m t) w'.number in
    let a' = covered_append old more d.number t in
    let was = b t in
    let now = w'.more t in
    omega arith
    in
    let there : (m t : ℕ) → m ≢ d.number → covered (old ++ more) m t ≡ covered old m t = λ m t ne.
    let a = covered_append old more m t in
    let z = w'.others m t ne in
    omega arith
    in
    record {
      apart = different_set old (old ++ more) d (next d c) w'.number here there w.days i n s.apart;
      balanced = balanced_set old (old ++ more) d (next d c) w'.number here there w.days i n s.apart s.balanced;
    }

brought_sound : (w : World) (k i : ℕ) (d : Day) (r : Report) (q : Result Reply Refusal) → nth w.debts k ≡ Some r → nth w.days i ≡ Some d → answer d (file r) ≡ q → Sound w → Sound (brought w k i d r q)
brought_sound w k i d r (Err e) nk ni a s = s
brought_sound w k i d r (Ok x) nk ni a s =
    let old = w.debts in
    let new = without old k in
    let br = filing_brings d r x a in
    let here : Balanced old d → Balanced new (next d (file r)) = λ b t.
    let k' = ap (λ m. covered new m t) br.number in
    let c = covered_without old k r d.number t nk in
    let was = b t in
    let f = br.fewer t in
    omega arith
    in
    let there : (m t : ℕ) → m ≢ d.number → covered new m t ≡ covered old m t = λ m t ne.
    let c = covered_without old k r m t nk in
    let z = other_day r m t (λ e. ne (sym e ∙ br.own)) in
    omega arith
    in
    record {
      apart = different_set old new d (next d (file r)) br.number here there w.days i ni s.apart;
      balanced = balanced_set old new d (next d (file r)) br.number here there w.days i ni s.apart s.balanced;
    }

presented_sound : (w : World) (k i : ℕ) (o : Option Report) (p : Option Day) → nth w.debts k ≡ o → nth w.days i ≡ p → Sound w → Sound (presented w k i o p)
presented_sound w k i None p nk ni s = s
presented_sound w k i (Some r) None nk ni s = s
presented_sound w k i (Some r) (Some d) nk ni s = brought_sound w k i d r (answer d (file r)) nk ni refl s

called_sound : (w : World) (i : ℕ) (c : Call) (b : Bool) → is_filing c ≡ b → Sound w → Sound (cond b w (called w i c (nth w.days i)))
called_sound w i c true f s = s
called_sound w i c false f s = call_sound w i c (nth w.days i) refl f s

step_sound : (w : World) (e : Event) → Sound w → Sound (step w e)
step_sound w (call_on i c) s = called_sound w i c (is_filing c) refl s
step_sound w (present k i) s = presented_sound w k i (nth w.debts k) (nth w.days i) refl refl s

steps_sound : (es : List Event) (w : World) → Sound w → Sound (steps w es)
steps_sound [] w s = s
steps_sound (e ∷ es) w s = steps_sound es (step w e) (step_sound w e s)

-- a day that opens owes nothing
opened_balanced : (os : List Opening) → Every (Balanced []) (map open_day os)
opened_balanced [] = tt
opened_balanced (o ∷ os) = (none, opened_balanced os)
  where
    none : (t : ℕ) → ◌≡◌ {A = ℕ} 0 (numbered 0 [] t)
    none zero = refl
    none (suc t) = refl

pub debts : Debts
debts os apart es = (steps_sound es _ (record { apart = apart; balanced = opened_balanced os })).balanced

pub sample : Sample
sample =
    record {
      apart = ((λ e. omega arith, tt), (tt, tt));
      out = refl;
      kept = refl;
      back = refl;
      unfiled_then = refl;
      filed_now = refl;
    }
