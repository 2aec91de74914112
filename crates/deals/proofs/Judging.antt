-- From the verdicts of the parts to that of the whole. Assumes nothing.
use Rattle.std.proofs.Common.{◌≡◌, ◌+◌, ◌-◌, List, [], length, take, drop, Some, Ok, Err, Result, sym, ap, ◌∙◌, arith}
use Rattle.records.specs.declared.causes.Cause.{Cause}
use Rattle.records.specs.Causes.{unless}
use Rattle.records.proofs.Unless.{unless_next}
use Rattle.prices.specs.declared.rows.Row.{Row}
use Rattle.prices.specs.Rows.{Screen}
use Rattle.venue.specs.declared.rows.Acceptance.{Acceptance}
use Rattle.venue.specs.declared.rows.Report.{Report}
use Rattle.venue.specs.Days.{Day}
use Rattle.venue.specs.Calls.{Call.accept, accept_causes, causes, fills_of, form_causes}
use Rattle.venue.specs.Model.{Reply, judge, answer_by, next_by}
use Rattle.tables.specs.declared.inner.Tables.{Tables}
use Rattle.tables.specs.Tabled.{bare_day, day_of}
use Rattle.deals.specs.Dealing.{Deals, Settles, report_of}
use Rattle.deals.specs.Filling.{fill_causes, verdict}

module _ (t : Tables) (rows : List Row) (screen : Screen) (a : Acceptance) where
  abbrev d : Day
  d = day_of t rows screen

  -- what is left to judge once the form and the caller were
  pub left_to : Ok (tt {0}) ≡ unless (form_causes (accept a)) (tt {0}) → Ok (tt {0}) ≡ unless (take 3 (accept_causes d a)) (tt {0}) → unless (take 7 (causes d (accept a))) (tt {0}) ≡ unless (take 1 (drop 3 (accept_causes d a))) (tt {0})
  left_to form caller =
      unless_next (form_causes (accept a)) (take 5 (drop 2 (causes d (accept a)))) form
      ∙ unless_next (take 3 (accept_causes d a)) (take 1 (drop 3 (accept_causes d a))) caller

  -- what an acceptance was judged to be, and what it did
  pub deals : (t' : Tables) (r : Result Report Cause) → verdict r ≡ judge d (accept a) → Settles a (fills_of d a) t t' r → Deals d a t t' r
  deals t' (Ok p) v s =
      let trades = (fills_of d a).trades in
      let count : p.last + 1 - p.first ≡ length trades = omega (arith, ap (λ (q : Report). q.last) s.0, ap (λ (q : Report). q.first) s.0) in
      let debt : ◌≡◌ {A = Reply} (record { number = p.last + 1 - p.first; debt = Some p; page = [] }) (record { number = length trades; debt = Some (report_of d (fills_of d a)); page = [] }) =
      ap (λ n. record { number = n; debt = Some p; page = [] }) count ∙ ap (λ q. record { number = length trades; debt = Some q; page = [] }) s.0 in
      let answers = ap Ok debt ∙ ap (answer_by d (accept a)) v in
      record {
        judged = v;
        answers = answers;
        next_day = s.1 rows screen ∙ ap (next_by d (accept a)) (ap (answer_by d (accept a)) v);
        kept = tt;
      }
  deals t' (Err e) v s =
      let answers = ap (answer_by d (accept a)) v in
      record {
        judged = v;
        answers = answers;
        next_day = ap (λ (u : Tables). day_of u rows screen) s ∙ ap (next_by d (accept a)) answers;
        kept = s;
      }

  -- the same after what was judged before any fill
  pub dealt : (t' : Tables) (r : Result Report Cause) → Ok (tt {0}) ≡ unless (take 7 (causes d (accept a))) (tt {0}) → verdict r ≡ unless (fill_causes (bare_day t) a (fills_of d a).trades) (tt {0}) → Settles a (fills_of d a) t t' r → Deals d a t t' r
  dealt t' r before v s =
      let cs = causes d (accept a) in
      deals t' r (v ∙ sym (unless_next (take 7 cs) (drop 7 cs) before)) s
