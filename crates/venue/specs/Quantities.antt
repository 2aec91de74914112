-- The law of quantities: what is open and what was traded make up what was entered, and every trade is a good one.
-- Assumes nothing.
use Rattle.std.specs.Prelude.{◌≡◌, ℕ, ◌+◌, ◌≤◌, true, false, cond, List, [], ◌∷◌, ◌++◌, map, length, Some, None, Ok, ◌==◌}
use Rattle.std.specs.List.{AllByRecursion as Every}
use Rattle.venue.specs.declared.rows.Acceptance.{Acceptance}
use Rattle.venue.specs.declared.rows.Entry.{Entry}
use Rattle.venue.specs.declared.rows.Life.TheVariants.{Open}
use Rattle.venue.specs.declared.rows.Offering.{Offering}
use Rattle.venue.specs.declared.rows.Quote.{Quote}
use Rattle.venue.specs.declared.rows.Request.{Request}
use Rattle.venue.specs.declared.rows.Side.{Side}
use Rattle.venue.specs.declared.rows.Side.TheVariants.{Buy, Sell}
use Rattle.venue.specs.declared.rows.Trade.{Trade}
use Rattle.venue.specs.Amounts.{morning, quoting}
use Rattle.venue.specs.Days.{Day, request_of, quote_of, open_of, remaining_of, is_open}
use Rattle.venue.specs.Trading.{quote_price, limit_price}
use Rattle.venue.specs.Calls.{Call, Call.enter, Call.offer, Call.accept}
use Rattle.venue.specs.Model.{Reply, Opening, open_day, entered, offered, answer, next, after}

-- what was traded on a request, and with a quote
abbrev pub sum_of : (Trade → ℕ) → List Trade → ℕ
sum_of f [] = 0
sum_of f (t ∷ ts) = f t + sum_of f ts

abbrev pub on_request : ℕ → Trade → ℕ
on_request n t = cond (t.request == n) t.quantity 0

abbrev pub with_quote : ℕ → Trade → ℕ
with_quote q t = cond (t.quote == q) t.quantity 0

abbrev pub traded_on : ℕ → List Trade → ℕ
traded_on n ts = sum_of (on_request n) ts

abbrev pub traded_with : ℕ → List Trade → ℕ
traded_with q ts = sum_of (with_quote q) ts

-- at every point of every run, for every request and every quote
pub record Summed (d : Day) : Type 0 where
  pub requests : (n : ℕ) → open_of d n + traded_on n d.trades ≡ (request_of d n).quantity
  pub quotes : (q : ℕ) → remaining_of d q + traded_with q d.trades ≡ (quote_of d q).quantity

abbrev pub QuantitiesAddUp : Type 0
QuantitiesAddUp = (o : Opening) (cs : List Call) → Summed (after (open_day o) cs)

-- a request and a quote as they were made, whatever became of them
abbrev pub as_entered : Request → Request
as_entered r =
    record {
      requestor = r.requestor;
      place = r.place;
      recipients = r.recipients;
      side = r.side;
      quantity = r.quantity;
      limit = r.limit;
      minimum = r.minimum;
      expiry = r.expiry;
      shown = r.shown;
      life = Open;
    }

abbrev pub as_offered : Quote → Quote
as_offered q =
    record {
      user = q.user;
      request = q.request;
      quantity = q.quantity;
      selling = q.selling;
      buying = q.buying;
      minimum = q.minimum;
      expiry = q.expiry;
      live = true;
    }

-- whatever calls follow, the row with a number says what the call said that was given this number
abbrev pub EntriesStay : Type 0
EntriesStay =
    (d : Day) (e : Entry) (r : Reply) (later : List Call)
    → answer d (enter e) ≡ Ok r
    → as_entered (request_of (after (next d (enter e)) later) r.number) ≡ entered d e

abbrev pub OffersStay : Type 0
OffersStay =
    (d : Day) (o : Offering) (r : Reply) (later : List Call)
    → answer d (offer o) ≡ Ok r
    → as_offered (quote_of (after (next d (offer o)) later) r.number) ≡ offered o

-- a buyer pays at most the limit, a seller gets at least it
abbrev pub Within : Side → ℕ → ℕ → Type 0
Within Buy price limit = price ≤ limit
Within Sell price limit = limit ≤ price

-- who buys and who sells, by the side of the one who asked
abbrev pub Between : Side → (asker quoter buyer seller : ℕ) → Type 0
Between Buy asker quoter buyer seller = (buyer ≡ asker) × (seller ≡ quoter)
Between Sell asker quoter buyer seller = (buyer ≡ quoter) × (seller ≡ asker)

-- whatever calls follow, a request that has ended is not open again, and a quote that has ended is not live again
pub record Rest (d : Day) (later : List Call) : Type 0 where
  pub requests : (n : ℕ) → n ≤ length d.requests → is_open (request_of d n).life ≡ false → is_open (request_of (after d later) n).life ≡ false
  pub quotes : (q : ℕ) → q ≤ length d.quotes → (quote_of d q).live ≡ false → (quote_of (after d later) q).live ≡ false

abbrev pub EndedRests : Type 0
EndedRests = (d : Day) (later : List Call) → Rest d later

-- a trade that an acceptance may make now: on the caller's own open request and a live quote for it, at least both minimums, at
-- what the quote's leg comes to now, within what the limit comes to now
pub record Good (d : Day) (a : Acceptance) (t : Trade) : Type 0 where
  pub on : t.request ≡ a.request
  pub own : (request_of d a.request).requestor ≡ a.user
  pub open_then : is_open (request_of d a.request).life ≡ true
  pub live : (quote_of d t.quote).live ≡ true
  pub quoted : (quote_of d t.quote).request ≡ a.request
  pub least : (request_of d a.request).minimum ≤ t.quantity
  pub quote_least : (quote_of d t.quote).minimum ≤ t.quantity
  pub priced : quote_price d a.request t.quote ≡ Some t.price
  pub limit : ℕ
  pub limited : limit_price d a.request ≡ Some limit
  pub within : Within (request_of d a.request).side t.price limit
  pub between : Between (request_of d a.request).side a.user (quote_of d t.quote).user t.buyer t.seller

-- a trade of a run was made by an acceptance among its calls, which was carried out, and was good then
pub record Made (start : Day) (cs : List Call) (t : Trade) : Type 0 where
  pub before : List Call
  pub deal : Acceptance
  pub later : List Call
  pub calls : cs ≡ before ++ accept deal ∷ later
  pub reply : Reply
  pub granted : answer (after start before) (accept deal) ≡ Ok reply
  pub good : Good (after start before) deal t

abbrev pub TradesAreGood : Type 0
TradesAreGood = (o : Opening) (cs : List Call) → Every (Made (open_day o) cs) (after (open_day o) cs).trades

-- a request of 8,500 of which 7,000 are traded with two of three quotes, and what is left is open
abbrev pub keep_rest : Call
keep_rest =
    accept
    (record {
      user = 0;
      request = 1;
      floor = Some 7000;
      rest = Some 75;
      quotes = Some 1 ∷ Some 2 ∷ Some 3 ∷ None ∷ None ∷ None ∷ None ∷ None ∷ [];
    })

abbrev pub evening : Day
evening = after morning (quoting 8500 ++ keep_rest ∷ [])

pub record Sample : Type 0 where
  pub open_now : open_of evening 1 ≡ 1500
  pub traded_now : traded_on 1 evening.trades ≡ 7000
  pub remaining_now : map (remaining_of evening) (1 ∷ 2 ∷ 3 ∷ []) ≡ 6000 ∷ 0 ∷ 0 ∷ []
  pub trades_now : map (λ t. t.quote) evening.trades ≡ 3 ∷ 2 ∷ []
