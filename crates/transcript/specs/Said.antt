-- The line of a record: its count, its kind, and "ok" with the number given and the bytes of a page, or "no" with the
-- refusal. Each byte is a space and two hexadecimal digits; all else is decimal.
-- Assumes nothing.
use Rattle.std.specs.Prelude.{ℕ, ◌≤◌, List, ◌++◌, length, Ok, Err, codes, decimal, Result, encode_utf8}
use Rattle.std.specs.List.{flat_map}
use Rattle.records.specs.declared.causes.Refusal.{Refusal}
use Rattle.venue.specs.Model.{Reply, a_number}
use Rattle.day.specs.Told.{told_page}
use Rattle.listing.specs.Lines.{cause_text, hex}
use Rattle.transcript.specs.declared.lines.Given.{Given}
use Rattle.transcript.specs.declared.lines.Given.TheVariants as given

abbrev pub byte_text : ℕ → List ℕ
byte_text b = codes " " ++ hex b

abbrev pub page_text : List ℕ → List ℕ
page_text bs = flat_map byte_text bs

abbrev pub head_text : ℕ → ℕ → List ℕ
head_text count k = decimal count ++ (codes " " ++ encode_utf8 k)

abbrev pub given_text : ℕ → List ℕ → List ℕ
given_text n page = codes " ok " ++ (decimal n ++ (page_text page ++ codes "\n"))

abbrev pub said_text : Result Reply Refusal → List ℕ
said_text (Ok r) = given_text r.number r.page
said_text (Err e) = cause_text e

-- the line of the record with a count and a kind letter, which was so answered
abbrev pub line : ℕ → ℕ → Result Reply Refusal → List ℕ
line count k a = head_text count k ++ said_text a

-- what a call gives, as a reply of the model, where a page stands at the front of a buffer; no line speaks of a debt
abbrev pub told : List ℕ → Result Given Refusal → Result Reply Refusal
told buffer (Ok (given.Number n)) = a_number n
told buffer (Ok (given.Page n)) = told_page buffer (Ok n)
told buffer (Err e) = Err e

-- a page is no longer than the buffer
abbrev pub Within : List ℕ → Result Given Refusal → Type 0
Within buffer (Ok (given.Number n)) = Unit {0}
Within buffer (Ok (given.Page n)) = n ≤ length buffer
Within buffer (Err e) = Unit {0}
