-- Numbers count up. Assumes nothing.
use Rattle.std.proofs.Common.{◌≡◌, ℕ, zero, suc, ◌+◌, ◌-◌, Bool, true, false, cond, List, [], ◌∷◌, ◌++◌, map, length, Some, None, Ok, Err, Option, Result, unwrap_or, sym, refl, ap, ◌∙◌, append_assoc, append-nil, add-zero, arith, length-append}
use Rattle.records.specs.declared.causes.Refusal.{Refusal}
use Rattle.venue.specs.declared.rows.Quote.{Quote}
use Rattle.venue.specs.declared.rows.Trade.{Trade}
use Rattle.venue.specs.Days.{Day, place_of}
use Rattle.venue.specs.Trading.{price_now}
use Rattle.venue.specs.Pages.{numbers}
use Rattle.venue.specs.Calls.{Call, Call.enter, Call.offer, Call.pull, Call.cancel, Call.accept, Call.file, Call.post, Call.move_clock, Call.ask_price, Call.view, Call.book, Call.close, fills_of}
use Rattle.venue.specs.Model.{Reply, judge, reply, answer, apply, next_by, next, after, settled_quotes, is_over, without_old, filed, entered, offered, open_day, leg_asked}
use Rattle.venue.proofs.Replies.{replied, reply_is, priced_only, length_renumbered}
use Rattle.venue.specs.Numbers.{range, request_given, quote_given, trades_owed, trades_given, given_by, all_given, NumbersCountUp}

-- the numbers up to n and then those of a range of m
numbers_on : (n m : ℕ) → numbers n ++ range (n + 1) m ≡ numbers (n + m)
numbers_on n zero = append-nil (numbers n) ∙ ap numbers (sym (add-zero n))
numbers_on n (suc m) =
    let one : suc n ≡ n + 1 = omega arith in
    let on : suc n + m ≡ n + suc m = omega arith in
    sym (append_assoc (numbers n) ((n + 1) ∷ []) (range (n + 1 + 1) m))
    ∙ ap (λ k. (numbers n ++ k ∷ []) ++ range (n + 1 + 1) m) (sym one)
    ∙ ap (λ k. numbers (suc n) ++ range (k + 1) m) (sym one)
    ∙ numbers_on (suc n) m
    ∙ ap numbers on

numbers_one : (n k : ℕ) → k ≡ n + 1 → numbers n ++ k ∷ [] ≡ numbers k
numbers_one n k e = ap (λ i. numbers n ++ i ∷ []) e ∙ numbers_on n 1 ∙ ap numbers (sym e)

none_given : (n m : ℕ) → m ≡ n → numbers n ++ [] ≡ numbers m
none_given n m e = append-nil (numbers n) ∙ ap numbers (sym e)

module _ (f : Call → Reply → List ℕ) (len : Day → ℕ) (one : (d : Day) (c : Call) (r : Reply) → reply d c ≡ Ok r → numbers (len d) ++ f c r ≡ numbers (len (apply d c))) where
  step_by : (d : Day) (c : Call) (q : Result Reply Refusal) → answer d c ≡ q → numbers (len d) ++ given_by (f c) q ≡ numbers (len (next_by d c q))
  step_by d c (Ok r) e = one d c r (replied d c (judge d c) r e)
  step_by d c (Err x) e = append-nil (numbers (len d))

  pub run : (cs : List Call) (d : Day) → numbers (len d) ++ all_given f d cs ≡ numbers (len (after d cs))
  run [] d = append-nil (numbers (len d))
  run (c ∷ cs) d =
      sym (append_assoc (numbers (len d)) (given_by (f c) (answer d c)) (all_given f (next d c) cs))
      ∙ ap (λ l. l ++ all_given f (next d c) cs) (step_by d c (answer d c) refl)
      ∙ run cs (next d c)

length_mapped : {X Y : Type 0} (f : X → Y) (xs : List X) → length (map f xs) ≡ length xs
length_mapped f [] = refl
length_mapped f (x ∷ xs) = ap suc (length_mapped f xs)

length_cond : {X : Type 0} (b : Bool) (xs ys : List X) → length xs ≡ length ys → length (cond b xs ys) ≡ length ys
length_cond true xs ys e = e
length_cond false xs ys e = refl

length_settled : (n : ℕ) (b : Bool) (qs : List Quote) (ms : List ℕ) → length (settled_quotes n b qs ms) ≡ length qs
length_settled n b [] ms = refl
length_settled n b (q ∷ qs) [] = ap suc (length_settled n b qs [])
length_settled n b (q ∷ qs) (m ∷ ms) = ap suc (length_settled n b qs ms)

pub length_without_old : (o : Option ℕ) (qs : List Quote) → length (without_old o qs) ≡ length qs
length_without_old None qs = refl
length_without_old (Some q) qs = length_renumbered qs q _

pub length_filed : (n : ℕ) (ts : List Trade) (t : ℕ) → length (filed ts t n) ≡ length ts
length_filed zero ts t = refl
length_filed (suc n) ts t = length_filed n _ (t + 1) ∙ length_renumbered ts t _

-- each call gives one request, one quote or its trades more, or nothing
requests_one : (d : Day) (c : Call) (r : Reply) → reply d c ≡ Ok r → numbers (length d.requests) ++ request_given c r ≡ numbers (length (apply d c).requests)
requests_one d (enter e) r h =
    let n = ap (λ (s : Reply). s.number) (reply_is _ r h) in
    let m = length-append d.requests (entered d e ∷ []) in
    numbers_one (length d.requests) r.number n ∙ ap numbers (n ∙ sym m)
requests_one d (offer o) r h = none_given (length d.requests) (length d.requests) refl
requests_one d (pull u q) r h = none_given (length d.requests) (length d.requests) refl
requests_one d (cancel u n) r h = none_given (length d.requests) _ (length_renumbered d.requests n _)
requests_one d (accept a) r h = none_given (length d.requests) _ (length_cond (is_over a (fills_of d a)) _ d.requests (length_renumbered d.requests a.request _))
requests_one d (file p) r h = none_given (length d.requests) (length d.requests) refl
requests_one d (post p) r h = none_given (length d.requests) (length d.requests) refl
requests_one d (move_clock t) r h = none_given (length d.requests) _ (length_mapped _ d.requests)
requests_one d (ask_price k) r h = none_given (length d.requests) (length d.requests) refl
requests_one d (view u room) r h = none_given (length d.requests) (length d.requests) refl
requests_one d (book u n room) r h = none_given (length d.requests) (length d.requests) refl
requests_one d close r h = none_given (length d.requests) _ (length_mapped _ d.requests)

quotes_one : (d : Day) (c : Call) (r : Reply) → reply d c ≡ Ok r → numbers (length d.quotes) ++ quote_given c r ≡ numbers (length (apply d c).quotes)
quotes_one d (enter e) r h = none_given (length d.quotes) (length d.quotes) refl
quotes_one d (offer o) r h =
    let n = ap (λ (s : Reply). s.number) (reply_is _ r h) in
    let m = length-append (without_old o.old d.quotes) (offered o ∷ []) in
    let k = length_without_old o.old d.quotes in
    let all : r.number ≡ length (without_old o.old d.quotes ++ offered o ∷ []) = omega arith in
    numbers_one (length d.quotes) r.number n ∙ ap numbers all
quotes_one d (pull u q) r h = none_given (length d.quotes) _ (length_renumbered d.quotes q _)
quotes_one d (cancel u n) r h = none_given (length d.quotes) _ (length_mapped _ d.quotes)
quotes_one d (accept a) r h = none_given (length d.quotes) _ (length_settled a.request (is_over a (fills_of d a)) d.quotes (fills_of d a).remains)
quotes_one d (file p) r h = none_given (length d.quotes) (length d.quotes) refl
quotes_one d (post p) r h = none_given (length d.quotes) (length d.quotes) refl
quotes_one d (move_clock t) r h = none_given (length d.quotes) _ (length_mapped _ d.quotes)
quotes_one d (ask_price k) r h = none_given (length d.quotes) (length d.quotes) refl
quotes_one d (view u room) r h = none_given (length d.quotes) (length d.quotes) refl
quotes_one d (book u n room) r h = none_given (length d.quotes) (length d.quotes) refl
quotes_one d close r h = none_given (length d.quotes) _ (length_mapped _ d.quotes)

owes_none : (n m : ℕ) (r : Reply) → r.debt ≡ None → m ≡ n → numbers n ++ trades_owed r.debt ≡ numbers m
owes_none n m r e k = ap (λ o. numbers n ++ trades_owed o) e ∙ none_given n m k

trades_one : (d : Day) (c : Call) (r : Reply) → reply d c ≡ Ok r → numbers (length d.trades) ++ trades_given c r ≡ numbers (length (apply d c).trades)
trades_one d (enter e) r h = owes_none (length d.trades) (length d.trades) r (ap (λ (s : Reply). s.debt) (reply_is _ r h)) refl
trades_one d (offer o) r h = owes_none (length d.trades) (length d.trades) r (ap (λ (s : Reply). s.debt) (reply_is _ r h)) refl
trades_one d (pull u q) r h = owes_none (length d.trades) (length d.trades) r (ap (λ (s : Reply). s.debt) (reply_is _ r h)) refl
trades_one d (cancel u n) r h = owes_none (length d.trades) (length d.trades) r (ap (λ (s : Reply). s.debt) (reply_is _ r h)) refl
trades_one d (accept a) r h =
    let was = length d.trades in
    let ts = (fills_of d a).trades in
    let owed = ap (λ (s : Reply). trades_owed s.debt) (reply_is _ r h) in
    let many : was + length ts + 1 - (was + 1) ≡ length ts = omega arith in
    ap (λ l. numbers was ++ l) owed ∙ ap (λ k. numbers was ++ range (was + 1) k) many ∙ numbers_on was (length ts) ∙ ap numbers (sym (length-append d.trades ts))
trades_one d (file p) r h = owes_none (length d.trades) _ r (ap (λ (s : Reply). s.debt) (reply_is _ r h)) (length_filed (p.last + 1 - p.first) d.trades p.first)
trades_one d (post p) r h = owes_none (length d.trades) (length d.trades) r (ap (λ (s : Reply). s.debt) (reply_is _ r h)) refl
trades_one d (move_clock t) r h = owes_none (length d.trades) (length d.trades) r (ap (λ (s : Reply). s.debt) (reply_is _ r h)) refl
trades_one d (ask_price k) r h = owes_none (length d.trades) (length d.trades) r (priced_only (price_now d (unwrap_or (place_of d k.name) 0) (leg_asked k.leg) (record { letter = k.letter; number = 0 })) r h) refl
trades_one d (view u room) r h = owes_none (length d.trades) (length d.trades) r (ap (λ (s : Reply). s.debt) (reply_is _ r h)) refl
trades_one d (book u n room) r h = owes_none (length d.trades) (length d.trades) r (ap (λ (s : Reply). s.debt) (reply_is _ r h)) refl
trades_one d close r h = owes_none (length d.trades) (length d.trades) r (ap (λ (s : Reply). s.debt) (reply_is _ r h)) refl

pub numbers_count_up : NumbersCountUp
numbers_count_up o cs =
    let d = open_day o in
    record {
      requests = run request_given (λ e. length e.requests) requests_one cs d;
      quotes = run quote_given (λ e. length e.quotes) quotes_one cs d;
      trades = run trades_given (λ e. length e.trades) trades_one cs d;
    }
