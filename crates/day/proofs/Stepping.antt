-- A call that was judged does and answers what the model has for it. Assumes nothing.
use Rattle.std.proofs.Common.{◌≡◌, List, Ok, Result, sym, ap, ◌∙◌}
use Rattle.records.specs.declared.causes.Refusal.{Refusal}
use Rattle.prices.specs.declared.rows.Row.{Row}
use Rattle.prices.specs.Rows.{Screen}
use Rattle.venue.specs.Days.{Day}
use Rattle.venue.specs.Calls.{Call}
use Rattle.venue.specs.Model.{Reply, judge, answer_by, apply, next_by, reply}
use Rattle.day.specs.Told.{Steps}

-- the day over another source
abbrev pub over_source : List Row → Screen → Day → Day
over_source rs s d =
    record {
      number = d.number;
      clock = d.clock;
      closed = d.closed;
      users = d.users;
      symbols = d.symbols;
      requests = d.requests;
      opens = d.opens;
      quotes = d.quotes;
      remains = d.remains;
      trades = d.trades;
      rows = rs;
      screen = s;
    }

module _ (d : Day) (c : Call) (d' : Day) where
  pub when_granted : (a : Result Reply Refusal) (r : Reply) → Ok tt ≡ judge d c → reply d c ≡ Ok r → d' ≡ apply d c → a ≡ Ok r → Steps d c d' a
  when_granted a r v says does tells =
      let answered = ap (answer_by d c) (sym v) ∙ says in
      record { next_day = does ∙ sym (ap (next_by d c) answered); answers = tells ∙ sym answered }
