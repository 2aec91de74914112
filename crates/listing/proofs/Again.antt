-- A record that was read is written back as the same bytes, into any buffer that has room for the longest. Assumes nothing.
use Rattle.std.proofs.Common.{◌≡◌, ℕ, ◌+◌, ◌-◌, ◌≤◌, true, List, length, take, drop, Ok, refl, ap, ◌∙◌, arith, length-drop}
use Rattle.std.specs.Str.{bytes_eq}
use Rattle.std.proofs.lemmas.Slice.Eq.{bytes_eq-Decides}
use Rattle.std.proofs.lemmas.List.{length-take-le, take_at}
use Rattle.records.specs.declared.parts.Record.{Record}
use Rattle.records.specs.Reading.{read_answer, read_record}
use Rattle.records.specs.Trips.{Bytes}
use Rattle.records.specs.Writing.{over, write_buffer}
use Rattle.records.proofs.Back.{read_write}
use Rattle.records.proofs.Ends.{read_ends}
use Rattle.records.proofs.Over.{over_start}
use Rattle.listing.specs.Listing.{same_by, same_again}

same_self : (bs : List ℕ) → bytes_eq bs bs ≡ true
same_self bs = (bytes_eq-Decides bs bs).1 refl

front : (out bs : List ℕ) (n : ℕ) → length bs ≡ n → n ≤ length out → take n (over out 0 bs) ≡ bs
front out bs n e h = ap (take n) (over_start out bs (omega arith)) ∙ take_at bs (drop (length bs) out) n e

pub written_again : (s : List ℕ) (at k next : ℕ) (old : Record) (out : List ℕ) → Bytes s → read_answer s at ≡ Ok (k, next) → next ≤ length s → 131 ≤ length out → same_again (take (next - at) (drop at s)) k (read_record s at old) out ≡ true
written_again s at k next old out bytes e inside room =
    let ends = read_ends s at k next e in
    let n = next - at in
    let bs = take n (drop at s) in
    let rest = length-drop at s in
    let long : length bs ≡ n = length-take-le n (drop at s) (omega arith) in
    let trip = read_write s at k next old bytes e out 0 (omega arith) in
    let zero : 0 + n ≡ n = omega arith in
    ap (same_by bs (write_buffer k (read_record s at old) out 0)) trip.0
    ∙ ap (λ b. same_by bs b (Ok (0 + n))) trip.1
    ∙ ap (λ m. bytes_eq (take m (over out 0 bs)) bs) zero
    ∙ ap (λ b. bytes_eq b bs) (front out bs n long (omega arith))
    ∙ same_self bs
