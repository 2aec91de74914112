-- The fields of a record, by name and by place, and as bytes there and back. Assumes nothing.
use Rattle.std.proofs.Common.{◌≡◌, ℕ, Bool, true, false, cond, List, [], ◌∷◌, get_or, sym, refl, ap, ◌∙◌, eqb-true}
use Rattle.records.specs.declared.parts.Field.{Field}
use Rattle.records.specs.declared.parts.Field.TheVariants as field
use Rattle.records.specs.declared.parts.Price.{Price}
use Rattle.records.specs.declared.parts.Record.{Record}
use Rattle.records.specs.declared.parts.Value.TheVariants.{Number, Letter, Quoted, Name, Letters}
use Rattle.records.specs.Fields.{value, kept, index, same}

-- two names with one place are one name
abbrev every : List Field
every = field.User ∷ field.Rank ∷ field.Late ∷ field.Name ∷ field.Tick ∷ field.Large ∷ field.Day ∷ field.Recipients ∷ field.Side ∷ field.Quantity ∷ field.Limit ∷ field.Minimum ∷ field.Expiry ∷ field.Shown ∷ field.Request ∷ field.Old ∷ field.Selling ∷ field.Buying ∷ field.Quote ∷ field.Floor ∷ field.Rest ∷ field.Second ∷ field.Third ∷ field.Fourth ∷ field.Fifth ∷ field.Sixth ∷ field.Seventh ∷ field.Eighth ∷ field.Time ∷ field.Bid ∷ field.Offer ∷ field.Letter ∷ field.Leg ∷ field.Open ∷ field.Requestor ∷ field.Remaining ∷ field.Sells ∷ field.Buys ∷ field.Trade ∷ field.Price ∷ field.Flag ∷ []

found : (f : Field) → get_or every (index f) field.User ≡ f
found field.User = refl
found field.Rank = refl
found field.Late = refl
found field.Name = refl
found field.Tick = refl
found field.Large = refl
found field.Day = refl
found field.Recipients = refl
found field.Side = refl
found field.Quantity = refl
found field.Limit = refl
found field.Minimum = refl
found field.Expiry = refl
found field.Shown = refl
found field.Request = refl
found field.Old = refl
found field.Selling = refl
found field.Buying = refl
found field.Quote = refl
found field.Floor = refl
found field.Rest = refl
found field.Second = refl
found field.Third = refl
found field.Fourth = refl
found field.Fifth = refl
found field.Sixth = refl
found field.Seventh = refl
found field.Eighth = refl
found field.Time = refl
found field.Bid = refl
found field.Offer = refl
found field.Letter = refl
found field.Leg = refl
found field.Open = refl
found field.Requestor = refl
found field.Remaining = refl
found field.Sells = refl
found field.Buys = refl
found field.Trade = refl
found field.Price = refl
found field.Flag = refl

pub same_is : (f h : Field) → same f h ≡ true → f ≡ h
same_is f h e = sym (found f) ∙ ap (λ i. get_or every i field.User) (eqb-true (index f) (index h) e) ∙ found h

pub same_self : (f : Field) → same f f ≡ true
same_self field.User = refl
same_self field.Rank = refl
same_self field.Late = refl
same_self field.Name = refl
same_self field.Tick = refl
same_self field.Large = refl
same_self field.Day = refl
same_self field.Recipients = refl
same_self field.Side = refl
same_self field.Quantity = refl
same_self field.Limit = refl
same_self field.Minimum = refl
same_self field.Expiry = refl
same_self field.Shown = refl
same_self field.Request = refl
same_self field.Old = refl
same_self field.Selling = refl
same_self field.Buying = refl
same_self field.Quote = refl
same_self field.Floor = refl
same_self field.Rest = refl
same_self field.Second = refl
same_self field.Third = refl
same_self field.Fourth = refl
same_self field.Fifth = refl
same_self field.Sixth = refl
same_self field.Seventh = refl
same_self field.Eighth = refl
same_self field.Time = refl
same_self field.Bid = refl
same_self field.Offer = refl
same_self field.Letter = refl
same_self field.Leg = refl
same_self field.Open = refl
same_self field.Requestor = refl
same_self field.Remaining = refl
same_self field.Sells = refl
same_self field.Buys = refl
same_self field.Trade = refl
same_self field.Price = refl
same_self field.Flag = refl

ap_cond : {X Y : Type 0} (g : X → Y) (b : Bool) (x y : X) → g (cond b x y) ≡ cond b (g x) (g y)
ap_cond g true x y = refl
ap_cond g false x y = refl

-- a field of two records joined is the field of the one or of the other
pub value_kept : (t : Field → Bool) (a b : Record) (f : Field) → value f (kept t a b) ≡ cond (t f) (value f a) (value f b)
value_kept t a b field.User = ap_cond (λ n. Number n) (t field.User) a.user b.user
value_kept t a b field.Rank = ap_cond (λ n. Number n) (t field.Rank) a.rank b.rank
value_kept t a b field.Late = ap_cond (λ n. Letter n) (t field.Late) a.late b.late
value_kept t a b field.Name = ap_cond (λ bs. Name bs) (t field.Name) a.name b.name
value_kept t a b field.Tick = ap_cond (λ n. Number n) (t field.Tick) a.tick b.tick
value_kept t a b field.Large = ap_cond (λ n. Number n) (t field.Large) a.large b.large
value_kept t a b field.Day = ap_cond (λ n. Number n) (t field.Day) a.day b.day
value_kept t a b field.Recipients = ap_cond (λ n. Number n) (t field.Recipients) a.recipients b.recipients
value_kept t a b field.Side = ap_cond (λ n. Letter n) (t field.Side) a.side b.side
value_kept t a b field.Quantity = ap_cond (λ n. Number n) (t field.Quantity) a.quantity b.quantity
value_kept t a b field.Limit = ap_cond (λ p. Quoted p) (t field.Limit) a.limit b.limit
value_kept t a b field.Minimum = ap_cond (λ n. Number n) (t field.Minimum) a.minimum b.minimum
value_kept t a b field.Expiry = ap_cond (λ n. Number n) (t field.Expiry) a.expiry b.expiry
value_kept t a b field.Shown = ap_cond (λ n. Number n) (t field.Shown) a.shown b.shown
value_kept t a b field.Request = ap_cond (λ n. Number n) (t field.Request) a.request b.request
value_kept t a b field.Old = ap_cond (λ n. Number n) (t field.Old) a.old b.old
value_kept t a b field.Selling = ap_cond (λ p. Quoted p) (t field.Selling) a.selling b.selling
value_kept t a b field.Buying = ap_cond (λ p. Quoted p) (t field.Buying) a.buying b.buying
value_kept t a b field.Quote = ap_cond (λ n. Number n) (t field.Quote) a.quote b.quote
value_kept t a b field.Floor = ap_cond (λ n. Number n) (t field.Floor) a.floor b.floor
value_kept t a b field.Rest = ap_cond (λ n. Letter n) (t field.Rest) a.rest b.rest
value_kept t a b field.Second = ap_cond (λ n. Number n) (t field.Second) a.second b.second
value_kept t a b field.Third = ap_cond (λ n. Number n) (t field.Third) a.third b.third
value_kept t a b field.Fourth = ap_cond (λ n. Number n) (t field.Fourth) a.fourth b.fourth
value_kept t a b field.Fifth = ap_cond (λ n. Number n) (t field.Fifth) a.fifth b.fifth
value_kept t a b field.Sixth = ap_cond (λ n. Number n) (t field.Sixth) a.sixth b.sixth
value_kept t a b field.Seventh = ap_cond (λ n. Number n) (t field.Seventh) a.seventh b.seventh
value_kept t a b field.Eighth = ap_cond (λ n. Number n) (t field.Eighth) a.eighth b.eighth
value_kept t a b field.Time = ap_cond (λ n. Number n) (t field.Time) a.time b.time
value_kept t a b field.Bid = ap_cond (λ n. Number n) (t field.Bid) a.bid b.bid
value_kept t a b field.Offer = ap_cond (λ n. Number n) (t field.Offer) a.offer b.offer
value_kept t a b field.Letter = ap_cond (λ n. Letter n) (t field.Letter) a.letter b.letter
value_kept t a b field.Leg = ap_cond (λ n. Letter n) (t field.Leg) a.leg b.leg
value_kept t a b field.Open = ap_cond (λ n. Number n) (t field.Open) a.«open» b.«open»
value_kept t a b field.Requestor = ap_cond (λ n. Number n) (t field.Requestor) a.requestor b.requestor
value_kept t a b field.Remaining = ap_cond (λ n. Number n) (t field.Remaining) a.remaining b.remaining
value_kept t a b field.Sells = ap_cond (λ n. Number n) (t field.Sells) a.sells b.sells
value_kept t a b field.Buys = ap_cond (λ n. Number n) (t field.Buys) a.buys b.buys
value_kept t a b field.Trade = ap_cond (λ n. Number n) (t field.Trade) a.trade b.trade
value_kept t a b field.Price = ap_cond (λ n. Number n) (t field.Price) a.price b.price
value_kept t a b field.Flag = ap_cond (λ bs. Letters bs) (t field.Flag) a.flag b.flag

number_of : (m n : ℕ) → Number m ≡ Number n → m ≡ n
number_of m n e = cc

letter_of : (m n : ℕ) → Letter m ≡ Letter n → m ≡ n
letter_of m n e = cc

price_of : (p q : Price) → Quoted p ≡ Quoted q → p ≡ q
price_of p q e = cc

name_of : (xs ys : List ℕ) → Name xs ≡ Name ys → xs ≡ ys
name_of xs ys e = cc

mark_of : (xs ys : List ℕ) → Letters xs ≡ Letters ys → xs ≡ ys
mark_of xs ys e = cc

-- two records with the same map and the same fields are one
pub same_record : (a b : Record) → a.map ≡ b.map → ((f : Field) → value f a ≡ value f b) → a ≡ b
same_record a b m e =
    λ i.
    record {
      map = m i;
      user = number_of a.user b.user (e field.User) i;
      rank = number_of a.rank b.rank (e field.Rank) i;
      late = letter_of a.late b.late (e field.Late) i;
      name = name_of a.name b.name (e field.Name) i;
      tick = number_of a.tick b.tick (e field.Tick) i;
      large = number_of a.large b.large (e field.Large) i;
      day = number_of a.day b.day (e field.Day) i;
      recipients = number_of a.recipients b.recipients (e field.Recipients) i;
      side = letter_of a.side b.side (e field.Side) i;
      quantity = number_of a.quantity b.quantity (e field.Quantity) i;
      limit = price_of a.limit b.limit (e field.Limit) i;
      minimum = number_of a.minimum b.minimum (e field.Minimum) i;
      expiry = number_of a.expiry b.expiry (e field.Expiry) i;
      shown = number_of a.shown b.shown (e field.Shown) i;
      request = number_of a.request b.request (e field.Request) i;
      old = number_of a.old b.old (e field.Old) i;
      selling = price_of a.selling b.selling (e field.Selling) i;
      buying = price_of a.buying b.buying (e field.Buying) i;
      quote = number_of a.quote b.quote (e field.Quote) i;
      floor = number_of a.floor b.floor (e field.Floor) i;
      rest = letter_of a.rest b.rest (e field.Rest) i;
      second = number_of a.second b.second (e field.Second) i;
      third = number_of a.third b.third (e field.Third) i;
      fourth = number_of a.fourth b.fourth (e field.Fourth) i;
      fifth = number_of a.fifth b.fifth (e field.Fifth) i;
      sixth = number_of a.sixth b.sixth (e field.Sixth) i;
      seventh = number_of a.seventh b.seventh (e field.Seventh) i;
      eighth = number_of a.eighth b.eighth (e field.Eighth) i;
      time = number_of a.time b.time (e field.Time) i;
      bid = number_of a.bid b.bid (e field.Bid) i;
      offer = number_of a.offer b.offer (e field.Offer) i;
      letter = letter_of a.letter b.letter (e field.Letter) i;
      leg = letter_of a.leg b.leg (e field.Leg) i;
      «open» = number_of a.«open» b.«open» (e field.Open) i;
      requestor = number_of a.requestor b.requestor (e field.Requestor) i;
      remaining = number_of a.remaining b.remaining (e field.Remaining) i;
      sells = number_of a.sells b.sells (e field.Sells) i;
      buys = number_of a.buys b.buys (e field.Buys) i;
      trade = number_of a.trade b.trade (e field.Trade) i;
      price = number_of a.price b.price (e field.Price) i;
      flag = mark_of a.flag b.flag (e field.Flag) i;
    }
