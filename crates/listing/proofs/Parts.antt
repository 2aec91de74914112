-- One part more of a text. Assumes nothing.
use Rattle.std.proofs.Common.{◌≡◌, ℕ, suc, ◌+◌, ◌-◌, ◌/◌, ◌^◌, ◌<◌, ◌≤◌, List, [], ◌∷◌, ◌++◌, length, get_or, drop, codes, decimal, sym, refl, ap, ◌∙◌, append_assoc, append-nil, arith}
use Rattle.std.proofs.lemmas.List.{at_drop_more}
use Rattle.std.proofs.lemmas.Nat.{shr-shr}
use Rattle.records.specs.Bytes.{odd}
use Rattle.listing.specs.Lines.{names_from, only, shown_text, users_from}

-- one user more of a set
pub users_more : (i n : ℕ) (text now : List ℕ) → i < 64 → now ≡ text ++ only (odd (n / 2 ^ i)) (codes " " ++ decimal i) → text ++ users_from i (64 - i) (n / 2 ^ i) ≡ now ++ users_from (i + 1) (64 - (i + 1)) (n / 2 ^ (i + 1))
unfolding users_from
users_more i n text now h e =
    let more : 64 - i ≡ suc (64 - (i + 1)) = omega arith in
    let here = only (odd (n / 2 ^ i)) (codes " " ++ decimal i) in
    let rest = users_from (i + 1) (64 - (i + 1)) (n / 2 ^ i / 2) in
    ap (λ k. text ++ users_from i k (n / 2 ^ i)) more ∙ sym (append_assoc text here rest) ∙ ap (λ t. t ++ rest) (sym e)
    ∙ ap (λ m. now ++ users_from (i + 1) (64 - (i + 1)) m) (shr-shr n i 1)

pub users_all : (i n : ℕ) (text : List ℕ) → 64 ≤ i → text ++ users_from i (64 - i) (n / 2 ^ i) ≡ text
unfolding users_from
users_all i n text h = let none : 64 - i ≡ 0 = omega arith in ap (λ k. text ++ users_from i k (n / 2 ^ i)) none ∙ append-nil text

-- one name more
pub names_more : (ws : List (List ℕ)) (i n : ℕ) (text now : List ℕ) → i < length ws → now ≡ text ++ only (odd (n / 2 ^ i)) (codes " " ++ get_or ws i []) → text ++ names_from (drop i ws) (n / 2 ^ i) ≡ now ++ names_from (drop (i + 1) ws) (n / 2 ^ (i + 1))
names_more ws i n text now h e =
    let here = only (odd (n / 2 ^ i)) (codes " " ++ get_or ws i []) in
    let rest = names_from (drop (i + 1) ws) (n / 2 ^ i / 2) in
    ap (λ l. text ++ l) (at_drop_more (λ l. names_from l (n / 2 ^ i)) ws i [] h) ∙ sym (append_assoc text here rest) ∙ ap (λ t. t ++ rest) (sym e)
    ∙ ap (λ m. now ++ names_from (drop (i + 1) ws) m) (shr-shr n i 1)

-- the fields of a request that are shown, as names whose bits stand
pub shown_is : (text : List ℕ) (n : ℕ) → ((text ++ codes "{") ++ names_from (codes "side" ∷ codes "quantity" ∷ codes "limit" ∷ codes "minimum" ∷ codes "requestor" ∷ []) n) ++ codes " }" ≡ text ++ shown_text n
shown_is text n =
    let fourth : n / 2 / 2 / 2 / 2 ≡ n / 16 = omega arith in
    let third : n / 2 / 2 / 2 ≡ n / 8 = omega arith in
    let second : n / 2 / 2 ≡ n / 4 = omega arith in
    simp append_assoc (rw (fourth, third, second) refl)
