-- What each field of a record holds, the record that bytes begin with, and the fields of one record among those of another.
-- Assumes nothing.
use Rattle.std.specs.Prelude.{ℕ, ◌+◌, ◌*◌, Bool, cond, List, [], ◌∷◌, ◌==◌, slice_index}
use Rattle.records.specs.declared.parts.Price.{Price}
use Rattle.records.specs.declared.parts.Record.{Record}
use Rattle.records.specs.declared.parts.Field.{Field}
use Rattle.records.specs.declared.parts.Field.TheVariants as field
use Rattle.records.specs.declared.parts.Value.{Value}
use Rattle.records.specs.declared.parts.Value.TheVariants.{Number, Letter, Quoted, Name, Letters}

abbrev pub value : Field → Record → Value
value field.User r = Number r.user
value field.Rank r = Number r.rank
value field.Late r = Letter r.late
value field.Name r = Name r.name
value field.Tick r = Number r.tick
value field.Large r = Number r.large
value field.Day r = Number r.day
value field.Recipients r = Number r.recipients
value field.Side r = Letter r.side
value field.Quantity r = Number r.quantity
value field.Limit r = Quoted r.limit
value field.Minimum r = Number r.minimum
value field.Expiry r = Number r.expiry
value field.Shown r = Number r.shown
value field.Request r = Number r.request
value field.Old r = Number r.old
value field.Selling r = Quoted r.selling
value field.Buying r = Quoted r.buying
value field.Quote r = Number r.quote
value field.Floor r = Number r.floor
value field.Rest r = Letter r.rest
value field.Second r = Number r.second
value field.Third r = Number r.third
value field.Fourth r = Number r.fourth
value field.Fifth r = Number r.fifth
value field.Sixth r = Number r.sixth
value field.Seventh r = Number r.seventh
value field.Eighth r = Number r.eighth
value field.Time r = Number r.time
value field.Bid r = Number r.bid
value field.Offer r = Number r.offer
value field.Letter r = Letter r.letter
value field.Leg r = Letter r.leg
value field.Open r = Number r.«open»
value field.Requestor r = Number r.requestor
value field.Remaining r = Number r.remaining
value field.Sells r = Number r.sells
value field.Buys r = Number r.buys
value field.Trade r = Number r.trade
value field.Price r = Number r.price
value field.Flag r = Letters r.flag

-- the number, letter, name or price that bytes begin with, lower byte first
abbrev pub byte : List ℕ → ℕ
byte s = slice_index s 0

abbrev pub two : List ℕ → ℕ
two s = slice_index s 0 + slice_index s 1 * 256

abbrev pub four : List ℕ → ℕ
four s = slice_index s 0 + slice_index s 1 * 256 + slice_index s 2 * 65536 + slice_index s 3 * 16777216

abbrev pub eight : List ℕ → ℕ
eight s =
    slice_index s 0 + slice_index s 1 * 256 + slice_index s 2 * 65536 + slice_index s 3 * 16777216 + slice_index s 4 * 4294967296
    + slice_index s 5 * 1099511627776 + slice_index s 6 * 281474976710656 + slice_index s 7 * 72057594037927936

abbrev pub text : List ℕ → List ℕ
text s = slice_index s 0 ∷ slice_index s 1 ∷ slice_index s 2 ∷ slice_index s 3 ∷ slice_index s 4 ∷ slice_index s 5 ∷ slice_index s 6 ∷ slice_index s 7 ∷ []

abbrev pub mark : List ℕ → List ℕ
mark s = slice_index s 0 ∷ slice_index s 1 ∷ slice_index s 2 ∷ slice_index s 3 ∷ []

abbrev pub price : List ℕ → Price
price s =
    record {
      letter = slice_index s 0;
      number = slice_index s 1 + slice_index s 2 * 256 + slice_index s 3 * 65536 + slice_index s 4 * 16777216;
    }

-- every field as the bytes would give it
abbrev pub decoded : List ℕ → Record
decoded s =
    record {
      map = two s;
      user = byte s;
      rank = byte s;
      late = byte s;
      name = text s;
      tick = four s;
      large = eight s;
      day = four s;
      recipients = eight s;
      side = byte s;
      quantity = four s;
      limit = price s;
      minimum = four s;
      expiry = four s;
      shown = byte s;
      request = two s;
      old = two s;
      selling = price s;
      buying = price s;
      quote = two s;
      floor = four s;
      rest = byte s;
      second = two s;
      third = two s;
      fourth = two s;
      fifth = two s;
      sixth = two s;
      seventh = two s;
      eighth = two s;
      time = four s;
      bid = four s;
      offer = four s;
      letter = byte s;
      leg = byte s;
      «open» = four s;
      requestor = byte s;
      remaining = four s;
      sells = four s;
      buys = four s;
      trade = two s;
      price = four s;
      flag = mark s;
    }

-- the fields that the test names as in a, the others as in b
abbrev pub kept : (Field → Bool) → Record → Record → Record
kept t a b =
    record {
      map = b.map;
      user = cond (t field.User) a.user b.user;
      rank = cond (t field.Rank) a.rank b.rank;
      late = cond (t field.Late) a.late b.late;
      name = cond (t field.Name) a.name b.name;
      tick = cond (t field.Tick) a.tick b.tick;
      large = cond (t field.Large) a.large b.large;
      day = cond (t field.Day) a.day b.day;
      recipients = cond (t field.Recipients) a.recipients b.recipients;
      side = cond (t field.Side) a.side b.side;
      quantity = cond (t field.Quantity) a.quantity b.quantity;
      limit = cond (t field.Limit) a.limit b.limit;
      minimum = cond (t field.Minimum) a.minimum b.minimum;
      expiry = cond (t field.Expiry) a.expiry b.expiry;
      shown = cond (t field.Shown) a.shown b.shown;
      request = cond (t field.Request) a.request b.request;
      old = cond (t field.Old) a.old b.old;
      selling = cond (t field.Selling) a.selling b.selling;
      buying = cond (t field.Buying) a.buying b.buying;
      quote = cond (t field.Quote) a.quote b.quote;
      floor = cond (t field.Floor) a.floor b.floor;
      rest = cond (t field.Rest) a.rest b.rest;
      second = cond (t field.Second) a.second b.second;
      third = cond (t field.Third) a.third b.third;
      fourth = cond (t field.Fourth) a.fourth b.fourth;
      fifth = cond (t field.Fifth) a.fifth b.fifth;
      sixth = cond (t field.Sixth) a.sixth b.sixth;
      seventh = cond (t field.Seventh) a.seventh b.seventh;
      eighth = cond (t field.Eighth) a.eighth b.eighth;
      time = cond (t field.Time) a.time b.time;
      bid = cond (t field.Bid) a.bid b.bid;
      offer = cond (t field.Offer) a.offer b.offer;
      letter = cond (t field.Letter) a.letter b.letter;
      leg = cond (t field.Leg) a.leg b.leg;
      «open» = cond (t field.Open) a.«open» b.«open»;
      requestor = cond (t field.Requestor) a.requestor b.requestor;
      remaining = cond (t field.Remaining) a.remaining b.remaining;
      sells = cond (t field.Sells) a.sells b.sells;
      buys = cond (t field.Buys) a.buys b.buys;
      trade = cond (t field.Trade) a.trade b.trade;
      price = cond (t field.Price) a.price b.price;
      flag = cond (t field.Flag) a.flag b.flag;
    }

abbrev pub no_price : Price
no_price = record { letter = 0; number = 0 }

-- what a field holds that lacks: a minimum and a floor 1, an expiry 63,000,000, a rest C, all others nothing
abbrev pub blank : ℕ → Record
blank m =
    record {
      map = m;
      user = 0;
      rank = 0;
      late = 0;
      name = 0 ∷ 0 ∷ 0 ∷ 0 ∷ 0 ∷ 0 ∷ 0 ∷ 0 ∷ [];
      tick = 0;
      large = 0;
      day = 0;
      recipients = 0;
      side = 0;
      quantity = 0;
      limit = no_price;
      minimum = 1;
      expiry = 63000000;
      shown = 0;
      request = 0;
      old = 0;
      selling = no_price;
      buying = no_price;
      quote = 0;
      floor = 1;
      rest = 67;
      second = 0;
      third = 0;
      fourth = 0;
      fifth = 0;
      sixth = 0;
      seventh = 0;
      eighth = 0;
      time = 0;
      bid = 0;
      offer = 0;
      letter = 0;
      leg = 0;
      «open» = 0;
      requestor = 0;
      remaining = 0;
      sells = 0;
      buys = 0;
      trade = 0;
      price = 0;
      flag = 0 ∷ 0 ∷ 0 ∷ 0 ∷ [];
    }

abbrev pub index : Field → ℕ
index field.User = 0
index field.Rank = 1
index field.Late = 2
index field.Name = 3
index field.Tick = 4
index field.Large = 5
index field.Day = 6
index field.Recipients = 7
index field.Side = 8
index field.Quantity = 9
index field.Limit = 10
index field.Minimum = 11
index field.Expiry = 12
index field.Shown = 13
index field.Request = 14
index field.Old = 15
index field.Selling = 16
index field.Buying = 17
index field.Quote = 18
index field.Floor = 19
index field.Rest = 20
index field.Second = 21
index field.Third = 22
index field.Fourth = 23
index field.Fifth = 24
index field.Sixth = 25
index field.Seventh = 26
index field.Eighth = 27
index field.Time = 28
index field.Bid = 29
index field.Offer = 30
index field.Letter = 31
index field.Leg = 32
index field.Open = 33
index field.Requestor = 34
index field.Remaining = 35
index field.Sells = 36
index field.Buys = 37
index field.Trade = 38
index field.Price = 39
index field.Flag = 40

abbrev pub same : Field → Field → Bool
same f g = index f == index g

-- the number, letter, price, name or flag that a value is; nothing where it is of another kind
abbrev pub number_in : Value → ℕ
number_in (Number n) = n
number_in (Letter c) = 0
number_in (Quoted p) = 0
number_in (Name bs) = 0
number_in (Letters bs) = 0

abbrev pub letter_in : Value → ℕ
letter_in (Number n) = 0
letter_in (Letter c) = c
letter_in (Quoted p) = 0
letter_in (Name bs) = 0
letter_in (Letters bs) = 0

abbrev pub price_in : Value → Price
price_in (Number n) = no_price
price_in (Letter c) = no_price
price_in (Quoted p) = p
price_in (Name bs) = no_price
price_in (Letters bs) = no_price

abbrev pub name_in : Value → List ℕ
name_in (Number n) = []
name_in (Letter c) = []
name_in (Quoted p) = []
name_in (Name bs) = bs
name_in (Letters bs) = []

abbrev pub flag_in : Value → List ℕ
flag_in (Number n) = []
flag_in (Letter c) = []
flag_in (Quoted p) = []
flag_in (Name bs) = []
flag_in (Letters bs) = bs

-- every field as the value would give it
abbrev pub holding : Value → Record
holding v =
    record {
      map = 0;
      user = number_in v;
      rank = number_in v;
      late = letter_in v;
      name = name_in v;
      tick = number_in v;
      large = number_in v;
      day = number_in v;
      recipients = number_in v;
      side = letter_in v;
      quantity = number_in v;
      limit = price_in v;
      minimum = number_in v;
      expiry = number_in v;
      shown = number_in v;
      request = number_in v;
      old = number_in v;
      selling = price_in v;
      buying = price_in v;
      quote = number_in v;
      floor = number_in v;
      rest = letter_in v;
      second = number_in v;
      third = number_in v;
      fourth = number_in v;
      fifth = number_in v;
      sixth = number_in v;
      seventh = number_in v;
      eighth = number_in v;
      time = number_in v;
      bid = number_in v;
      offer = number_in v;
      letter = letter_in v;
      leg = letter_in v;
      «open» = number_in v;
      requestor = number_in v;
      remaining = number_in v;
      sells = number_in v;
      buys = number_in v;
      trade = number_in v;
      price = number_in v;
      flag = flag_in v;
    }

-- the record with another value in one field
abbrev pub put : Field → Value → Record → Record
put f v r = kept (same f) (holding v) r
