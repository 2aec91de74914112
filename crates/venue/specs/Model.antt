-- What each call does to a day and answers, and whole days.
-- Assumes nothing.
use Rattle.std.specs.Prelude.{ℕ, zero, suc, ◌+◌, ◌-◌, Bool, true, false, cond, not, ◌&&◌, ◌||◌, List, [], ◌∷◌, ◌++◌, map, length, Some, None, Ok, Err, Option, Result, ◌==◌, nat_le}
use Rattle.std.specs.Option.{unwrap_or}
use Rattle.records.specs.declared.causes.Cause.{Cause}
use Rattle.records.specs.declared.causes.Refusal.{Refusal}
use Rattle.records.specs.Causes.{refusal, unless}
use Rattle.prices.specs.declared.rows.Leg.{Leg}
use Rattle.prices.specs.declared.rows.Leg.TheVariants.{Selling, Buying}
use Rattle.prices.specs.declared.rows.Pair.{Pair}
use Rattle.prices.specs.declared.rows.Row.{Row}
use Rattle.prices.specs.Rows.{Screen, post_rows, row_of}
use Rattle.venue.specs.declared.rows.User.{User}
use Rattle.venue.specs.declared.rows.Symbol.{Symbol}
use Rattle.venue.specs.declared.rows.Side.{Side}
use Rattle.venue.specs.declared.rows.Side.TheVariants.{Buy, Sell}
use Rattle.venue.specs.declared.rows.Life.{Life}
use Rattle.venue.specs.declared.rows.Life.TheVariants as life
use Rattle.venue.specs.declared.rows.Request.{Request}
use Rattle.venue.specs.declared.rows.Quote.{Quote}
use Rattle.venue.specs.declared.rows.Trade.{Trade}
use Rattle.venue.specs.declared.rows.Entry.{Entry}
use Rattle.venue.specs.declared.rows.Offering.{Offering}
use Rattle.venue.specs.declared.rows.Acceptance.{Acceptance}
use Rattle.venue.specs.declared.rows.Report.{Report}
use Rattle.venue.specs.Days.{Day, numbered, no_request, no_quote, no_trade, request_of, place_of, is_open}
use Rattle.venue.specs.Trading.{Filled, renumbered, price_now}
use Rattle.venue.specs.Pages.{view_page, book_page}
use Rattle.venue.specs.Calls.{Call, Call.enter, Call.offer, Call.pull, Call.cancel, Call.accept, Call.file, Call.post, Call.move_clock, Call.ask_price, Call.view, Call.book, Call.close, minimum_of, expiry_of, shown_of, rest_of, fills_of, causes}

-- the day with another clock, and with other requests, quotes and trades
abbrev pub with_clock : Day → ℕ → Day
with_clock d t =
    record {
      number = d.number;
      clock = t;
      closed = d.closed;
      users = d.users;
      symbols = d.symbols;
      requests = d.requests;
      opens = d.opens;
      quotes = d.quotes;
      remains = d.remains;
      trades = d.trades;
      rows = d.rows;
      screen = d.screen;
    }

abbrev pub with_rows : Day → List Row → Day
with_rows d rs =
    record {
      number = d.number;
      clock = d.clock;
      closed = d.closed;
      users = d.users;
      symbols = d.symbols;
      requests = d.requests;
      opens = d.opens;
      quotes = d.quotes;
      remains = d.remains;
      trades = d.trades;
      rows = rs;
      screen = d.screen;
    }

abbrev pub with_tables : Day → List Request → List ℕ → List Quote → List ℕ → List Trade → Day
with_tables d requests opens quotes remains trades =
    record {
      number = d.number;
      clock = d.clock;
      closed = d.closed;
      users = d.users;
      symbols = d.symbols;
      requests = requests;
      opens = opens;
      quotes = quotes;
      remains = remains;
      trades = trades;
      rows = d.rows;
      screen = d.screen;
    }

abbrev pub shut : Day → Day
shut d =
    record {
      number = d.number;
      clock = d.clock;
      closed = true;
      users = d.users;
      symbols = d.symbols;
      requests = d.requests;
      opens = d.opens;
      quotes = d.quotes;
      remains = d.remains;
      trades = d.trades;
      rows = d.rows;
      screen = d.screen;
    }

-- how an open request ends, and a quote
abbrev pub ended_as : Life → Request → Request
ended_as l r =
    record {
      requestor = r.requestor;
      place = r.place;
      recipients = r.recipients;
      side = r.side;
      quantity = r.quantity;
      limit = r.limit;
      minimum = r.minimum;
      expiry = r.expiry;
      shown = r.shown;
      life = cond (is_open r.life) l r.life;
    }

abbrev pub ended : Quote → Quote
ended q =
    record {
      user = q.user;
      request = q.request;
      quantity = q.quantity;
      selling = q.selling;
      buying = q.buying;
      minimum = q.minimum;
      expiry = q.expiry;
      live = false;
    }

abbrev pub ended_if : Bool → Quote → Quote
ended_if b q = cond b (ended q) q

-- the quotes after the end of a request, and after the end of one quote
abbrev pub without_request : ℕ → List Quote → List Quote
without_request n qs = map (λ q. ended_if (q.request == n) q) qs

abbrev pub without_quote : ℕ → List Quote → List Quote
without_quote q qs = renumbered qs q (ended (numbered no_quote qs q))

abbrev pub without_old : Option ℕ → List Quote → List Quote
without_old None qs = qs
without_old (Some q) qs = without_quote q qs

-- what an entry and a quote leave
abbrev pub side_of : ℕ → Side
side_of c = cond (c == 66) Buy Sell

abbrev pub entered : Day → Entry → Request
entered d e =
    record {
      requestor = e.user;
      place = unwrap_or (place_of d e.name) 0;
      recipients = e.recipients;
      side = side_of e.side;
      quantity = e.quantity;
      limit = e.limit;
      minimum = minimum_of e.minimum;
      expiry = expiry_of e.expiry;
      shown = shown_of e.shown;
      life = life.Open;
    }

abbrev pub offered : Offering → Quote
offered o =
    record {
      user = o.user;
      request = o.request;
      quantity = o.quantity;
      selling = o.selling;
      buying = o.buying;
      minimum = minimum_of o.minimum;
      expiry = expiry_of o.expiry;
      live = true;
    }

-- what a clock move ends: everything with an expiry at or before the time, and the quotes of ended requests
abbrev pub expired : ℕ → List Request → List Request
expired t rs = map (λ r. cond (nat_le r.expiry t) (ended_as life.Expired r) r) rs

abbrev pub expired_quotes : ℕ → List Request → List Quote → List Quote
expired_quotes t rs qs =
    map (λ q. ended_if (nat_le q.expiry t || not (is_open (numbered no_request rs q.request).life)) q) qs

-- after an acceptance: with C or with nothing open the request ends and its quotes with it, else those of its quotes end
-- that have nothing remaining
abbrev pub is_over : Acceptance → Filled → Bool
is_over a f = rest_of a.rest == 67 || f.open_left == 0

abbrev pub settled_quotes : ℕ → Bool → List Quote → List ℕ → List Quote
settled_quotes n over [] remains = []
settled_quotes n over (q ∷ qs) [] = ended_if (q.request == n && over) q ∷ settled_quotes n over qs []
settled_quotes n over (q ∷ qs) (m ∷ ms) = ended_if (q.request == n && (over || m == 0)) q ∷ settled_quotes n over qs ms

abbrev pub settled : Day → Acceptance → Filled → Day
settled d a f =
    with_tables d
    (cond (is_over a f) (renumbered d.requests a.request (ended_as life.Accepted (request_of d a.request))) d.requests)
    (renumbered d.opens a.request f.open_left)
    (settled_quotes a.request (is_over a f) d.quotes f.remains)
    f.remains
    (d.trades ++ f.trades)

-- the trades with n of them, from a number on, marked as filed
abbrev pub filed_trade : Trade → Trade
filed_trade t =
    record {
      request = t.request;
      quote = t.quote;
      buyer = t.buyer;
      seller = t.seller;
      quantity = t.quantity;
      price = t.price;
      filed = true;
    }

abbrev pub filed : List Trade → ℕ → ℕ → List Trade
filed ts t zero = ts
filed ts t (suc n) =
    filed (renumbered ts t (filed_trade (numbered no_trade ts t))) (t + 1) n

-- a posting's pair
abbrev pub pair_of : Option ℕ → Option ℕ → Option Pair
pair_of None o = None
pair_of (Some b) None = None
pair_of (Some b) (Some o) = Some (record { bid = b; offer = o })

-- the day after a call that is carried out
abbrev pub apply : Day → Call → Day
apply d (enter e) =
    with_tables d (d.requests ++ entered d e ∷ []) (d.opens ++ e.quantity ∷ []) d.quotes d.remains d.trades
apply d (offer o) =
    with_tables d d.requests d.opens (without_old o.old d.quotes ++ offered o ∷ []) (d.remains ++ o.quantity ∷ []) d.trades
apply d (pull u q) = with_tables d d.requests d.opens (without_quote q d.quotes) d.remains d.trades
apply d (cancel u n) =
    with_tables d (renumbered d.requests n (ended_as life.Cancelled (request_of d n))) d.opens (without_request n d.quotes) d.remains d.trades
apply d (accept a) = settled d a (fills_of d a)
apply d (file r) =
    with_tables d d.requests d.opens d.quotes d.remains (filed d.trades r.first (r.last + 1 - r.first))
apply d (post p) =
    with_rows d (post_rows d.rows (unwrap_or (place_of d p.name) 0) (row_of (pair_of p.bid p.offer) d.clock))
apply d (move_clock t) =
    with_clock (with_tables d (expired t d.requests) d.opens (expired_quotes t (expired t d.requests) d.quotes) d.remains d.trades) t
apply d (ask_price k) = d
apply d (view u room) = d
apply d (book u n room) = d
apply d close =
    shut (with_tables d (map (ended_as life.Closed) d.requests) d.opens (map ended d.quotes) d.remains d.trades)

-- what a call answers: a number, a report debt where it traded, and the bytes that it wrote
pub record Reply : Type 0 where
  pub number : ℕ
  pub debt : Option Report
  pub page : List ℕ

abbrev pub a_number : ℕ → Result Reply Refusal
a_number n = Ok (record { number = n; debt = None; page = [] })

abbrev pub a_page : List ℕ → Result Reply Refusal
a_page bs = Ok (record { number = length bs; debt = None; page = bs })

abbrev pub a_price_of : Result ℕ Refusal → Result Reply Refusal
a_price_of (Ok n) = a_number n
a_price_of (Err e) = Err e

-- the number of trades, and the debt for them: the day, the first and the last
abbrev pub a_deal : Day → List Trade → Result Reply Refusal
a_deal d ts =
    Ok (record {
      number = length ts;
      debt = Some (record { day = d.number; first = length d.trades + 1; last = length d.trades + length ts });
      page = [];
    })

abbrev pub leg_asked : ℕ → Leg
leg_asked c = cond (c == 83) Selling Buying

-- what a call answers that no cause forbids; a price question may still be refused by the source or for want of a price
abbrev pub reply : Day → Call → Result Reply Refusal
reply d (enter e) = a_number (length d.requests + 1)
reply d (offer o) = a_number (length d.quotes + 1)
reply d (pull u q) = a_number 0
reply d (cancel u n) = a_number 0
reply d (accept a) = a_deal d (fills_of d a).trades
reply d (file r) = a_number 0
reply d (post p) = a_number 0
reply d (move_clock t) = a_number 0
reply d (ask_price k) =
    a_price_of (price_now d (unwrap_or (place_of d k.name) 0) (leg_asked k.leg) (record { letter = k.letter; number = 0 }))
reply d (view u room) = a_page (view_page d u)
reply d (book u n room) = a_page (book_page d n)
reply d close = a_number 0

-- the whole answer, and the day afterwards: the smallest number that has a cause, with place 0, or what is answered
abbrev pub answer_by : Day → Call → Result Unit Cause → Result Reply Refusal
answer_by d c (Ok x) = reply d c
answer_by d c (Err e) = Err (refusal e 0)

abbrev pub judge : Day → Call → Result Unit Cause
judge d c = unless (causes d c) tt

abbrev pub answer : Day → Call → Result Reply Refusal
answer d c = answer_by d c (judge d c)

abbrev pub next_by : Day → Call → Result Reply Refusal → Day
next_by d c (Ok r) = apply d c
next_by d c (Err e) = d

abbrev pub next : Day → Call → Day
next d c = next_by d c (answer d c)

-- a day after a list of calls, and their answers
abbrev pub after : Day → List Call → Day
after d [] = d
after d (c ∷ cs) = after (next d c) cs

abbrev pub answers : Day → List Call → List (Result Reply Refusal)
answers d [] = []
answers d (c ∷ cs) = answer d c ∷ answers (next d c) cs

-- a day that opens: its number, its users and symbols, and the meaning of its source
abbrev pub opened : ℕ → List User → List Symbol → List Row → Screen → Day
opened n users symbols rows screen =
    record {
      number = n;
      clock = 27000000;
      closed = false;
      users = users;
      symbols = symbols;
      requests = [];
      opens = [];
      quotes = [];
      remains = [];
      trades = [];
      rows = rows;
      screen = screen;
    }

-- what a day opens with
pub record Opening : Type 0 where
  pub number : ℕ
  pub users : List User
  pub symbols : List Symbol
  pub rows : List Row
  pub screen : Screen

abbrev pub open_day : Opening → Day
open_day o = opened o.number o.users o.symbols o.rows o.screen
