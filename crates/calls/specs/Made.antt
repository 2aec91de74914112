-- The call that a record of each kind makes. A field that may lack and whose bit does not stand lacks in the call.
-- Assumes nothing.
use Rattle.std.specs.Prelude.{ℕ, cond, List, [], ◌∷◌, Some, None, Option}
use Rattle.records.specs.declared.parts.Record.{Record}
use Rattle.venue.specs.declared.rows.NewUser.{NewUser}
use Rattle.venue.specs.declared.rows.NewSymbol.{NewSymbol}
use Rattle.venue.specs.declared.rows.Entry.{Entry}
use Rattle.venue.specs.declared.rows.Offering.{Offering}
use Rattle.venue.specs.declared.rows.Acceptance.{Acceptance}
use Rattle.venue.specs.declared.rows.Posting.{Posting}
use Rattle.venue.specs.declared.rows.PriceQuestion.{PriceQuestion}
use Rattle.venue.specs.Days.{bit}

-- a value, where bit i of the map stands
abbrev pub where_stands : {X : Type 0} → ℕ → ℕ → X → Option X
where_stands m i x = cond (bit m i) (Some x) None

abbrev pub new_user_of : Record → NewUser
new_user_of r = record { user = r.user; rank = r.rank; late = r.late }

abbrev pub new_symbol_of : Record → NewSymbol
new_symbol_of r = record { name = r.name; tick = r.tick; large = r.large }

abbrev pub entry_of : Record → Entry
entry_of r =
    record {
      user = r.user;
      name = r.name;
      recipients = r.recipients;
      side = r.side;
      quantity = r.quantity;
      limit = r.limit;
      minimum = where_stands r.map 6 r.minimum;
      expiry = where_stands r.map 7 r.expiry;
      shown = where_stands r.map 8 r.shown;
    }

abbrev pub offering_of : Record → Offering
offering_of r =
    record {
      user = r.user;
      request = r.request;
      old = where_stands r.map 2 r.old;
      quantity = r.quantity;
      selling = where_stands r.map 4 r.selling;
      buying = where_stands r.map 5 r.buying;
      minimum = where_stands r.map 6 r.minimum;
      expiry = where_stands r.map 7 r.expiry;
    }

-- the quotes that an acceptance names, in the order of their bits
abbrev pub quotes_of : Record → List (Option ℕ)
quotes_of r =
    where_stands r.map 4 r.quote
    ∷ where_stands r.map 5 r.second
    ∷ where_stands r.map 6 r.third
    ∷ where_stands r.map 7 r.fourth
    ∷ where_stands r.map 8 r.fifth
    ∷ where_stands r.map 9 r.sixth
    ∷ where_stands r.map 10 r.seventh
    ∷ where_stands r.map 11 r.eighth
    ∷ []

abbrev pub acceptance_of : Record → Acceptance
acceptance_of r =
    record {
      user = r.user;
      request = r.request;
      floor = where_stands r.map 2 r.floor;
      rest = where_stands r.map 3 r.rest;
      quotes = quotes_of r;
    }

abbrev pub posting_of : Record → Posting
posting_of r =
    record {
      name = r.name;
      bid = where_stands r.map 1 r.bid;
      offer = where_stands r.map 2 r.offer;
    }

abbrev pub price_question_of : Record → PriceQuestion
price_question_of r = record { name = r.name; letter = r.letter; leg = r.leg }
