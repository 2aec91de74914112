-- What an acceptance leaves. Assumes nothing.
use Rattle.std.proofs.Common.{◌≡◌, ℕ, zero, suc, ◌+◌, Bool, cond, List, ◌++◌, length, refl, sym, ap, ◌∙◌}
use Rattle.std.proofs.lemmas.List.{set-get_or, set-set}
use Rattle.venue.specs.declared.rows.Acceptance.{Acceptance}
use Rattle.venue.specs.declared.rows.Report.{Report}
use Rattle.venue.specs.declared.rows.Life.TheVariants.{Accepted}
use Rattle.venue.specs.declared.rows.Quote.{Quote}
use Rattle.venue.specs.declared.rows.Request.{Request}
use Rattle.venue.specs.declared.rows.Trade.{Trade}
use Rattle.venue.specs.Days.{Day, numbered, request_of}
use Rattle.venue.specs.Trading.{Filled, renumbered}
use Rattle.venue.specs.Model.{with_tables, ended_as, is_over, settled, settled_quotes}
use Rattle.tables.specs.declared.inner.Tables.{Tables}
use Rattle.tables.specs.Tabled.{bare_day}
use Rattle.tables.specs.Used.{used}
use Rattle.deals.specs.Dealing.{report_of}
use Rattle.deals.specs.Filling.{filled_on}

-- one write after another at the same number
renumbered_twice : {X : Type 0} (xs : List X) (n : ℕ) (x y : X) → renumbered (renumbered xs n x) n y ≡ renumbered xs n y
renumbered_twice xs zero x y = refl
renumbered_twice xs (suc n) x y = set-set xs n x y

-- a row written over itself
renumbered_same : {X : Type 0} (xs : List X) (none : X) (n : ℕ) → renumbered xs n (numbered none xs n) ≡ xs
renumbered_same xs none zero = refl
renumbered_same xs none (suc n) = set-get_or xs n none

-- the day once its tables are settled
pub settled_day : (d : Day) (a : Acceptance) (made : List Trade) (over : Bool) {requests : List Request} {opens : List ℕ} {quotes : List Quote} {remains : List ℕ} {trades : List Trade} → over ≡ is_over a (filled_on d a.request made) → requests ≡ cond over (renumbered d.requests a.request (ended_as Accepted (request_of d a.request))) d.requests → opens ≡ d.opens → quotes ≡ settled_quotes a.request over d.quotes d.remains → remains ≡ d.remains → trades ≡ d.trades ++ made → with_tables d requests opens quotes remains trades ≡ settled d a (filled_on d a.request made)
settled_day d a made over {opens = opens} {quotes = quotes} {remains = remains} {trades = trades} e r o q m t =
    let s = settled d a (filled_on d a.request made) in
    let ended = r ∙ ap (λ b. cond b (renumbered d.requests a.request (ended_as Accepted (request_of d a.request))) d.requests) e in
    let swept = q ∙ ap (λ b. settled_quotes a.request b d.quotes d.remains) e in
    ap (λ l. with_tables d l opens quotes remains trades) ended
    ∙ ap (λ l. with_tables d s.requests l quotes remains trades) (o ∙ sym (renumbered_same d.opens 0 a.request))
    ∙ ap (λ l. with_tables d s.requests s.opens l remains trades) swept
    ∙ ap (λ l. with_tables d s.requests s.opens s.quotes l trades) m
    ∙ ap (with_tables d s.requests s.opens s.quotes d.remains) t

-- settled after the fills, as if the open quantities were still what they were
pub settled_late : (d : Day) (a : Acceptance) (f g : Filled) (opens remains : List ℕ) → g ≡ f → opens ≡ renumbered d.opens a.request f.open_left → settled (with_tables d d.requests opens d.quotes remains d.trades) a g ≡ settled d a f
settled_late d a f g opens remains e o =
    let s = settled d a f in
    ap (settled (with_tables d d.requests opens d.quotes remains d.trades) a) e
    ∙ ap (λ l. with_tables d s.requests l s.quotes s.remains s.trades) (ap (λ l. renumbered l a.request f.open_left) o ∙ renumbered_twice d.opens a.request f.open_left f.open_left)

pub reported : (t : Tables) (f : Filled) (p : Report) {n : ℕ} → p ≡ record { day = t.number; first = length (used t.trades) + 1; last = length (used t.trades) + n } → n ≡ length f.trades → p ≡ report_of (bare_day t) f
reported t f p e long = e ∙ ap (λ k. record { day = t.number; first = length (used t.trades) + 1; last = length (used t.trades) + k }) long
