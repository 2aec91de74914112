-- What is known of the tables where a call was granted. Assumes nothing.
use Rattle.std.proofs.Common.{◌≡◌, ℕ, ◌<◌, ◌≤◌, List, [], ◌∷◌, length, Ok, unwrap_or, sym, arith, lit<}
use Rattle.std.proofs.lemmas.Bool.{leb-false}
use Rattle.records.proofs.Unless.{granted}
use Rattle.venue.specs.declared.rows.Entry.{Entry}
use Rattle.venue.specs.declared.rows.Offering.{Offering}
use Rattle.venue.specs.declared.rows.Symbol.{Symbol}
use Rattle.venue.specs.Days.{place_from, place_of}
use Rattle.venue.specs.Calls.{Call.enter, Call.offer, causes}
use Rattle.venue.specs.Model.{judge}
use Rattle.venue.proofs.Placing.{place_below}
use Rattle.tables.specs.declared.inner.Tables.{Tables}
use Rattle.tables.specs.Tabled.{bare_day}
use Rattle.tables.specs.Used.{used}
use Rattle.tables.proofs.Room.{used_few}

module _ (t : Tables) where
  pub room_for_request : (e : Entry) → Ok tt ≡ judge (bare_day t) (enter e) → length (used t.requests) < 128
  room_for_request e v =
      let free = (granted (causes (bare_day t) (enter e)) tt tt (sym v)).0.1.1.1.1.1.1.1.1.1.0 in
      omega (arith, leb-false 128 (length (bare_day t).requests) free)

  pub room_for_quote : (o : Offering) → Ok tt ≡ judge (bare_day t) (offer o) → length (used t.quotes) < 512
  room_for_quote o v =
      let free = (granted (causes (bare_day t) (offer o)) tt tt (sym v)).0.1.1.1.1.1.1.1.1.1.1.0 in
      omega (arith, leb-false 512 (length (bare_day t).quotes) free)

-- the place of a symbol is one of a source's
by_count : (ss : List Symbol) (bs : List ℕ) → length ss ≤ 64 → unwrap_or (place_from 0 ss bs) 0 < 64
by_count [] bs e = lit< tt
by_count (s ∷ ss) bs e = let here = place_below 0 (s ∷ ss) bs (omega arith) in omega arith

pub place_within : (t : Tables) (bs : List ℕ) → unwrap_or (place_of (bare_day t) bs) 0 < 64
place_within t bs = by_count (used t.symbols) bs (used_few t.symbols)
