-- Two files of records, and their texts.
-- Assumes nothing.
use Rattle.std.specs.Prelude.{◌≡◌, ℕ, List, [], ◌∷◌, ◌++◌, codes}
use Rattle.std.specs.List.{flat_map}
use Rattle.transcript.specs.Texts.{transcript}

-- user 2 with rank 0 and late letter N; the opening of day 1; a pull of quote 1; user 2's view; the close
abbrev pub five_records : List ℕ
five_records =
    (85 ∷ 7 ∷ 0 ∷ 2 ∷ 0 ∷ 78 ∷ [])
    ++ ((79 ∷ 1 ∷ 0 ∷ 1 ∷ 0 ∷ 0 ∷ 0 ∷ [])
    ++ ((80 ∷ 3 ∷ 0 ∷ 2 ∷ 1 ∷ 0 ∷ [])
    ++ ((86 ∷ 1 ∷ 0 ∷ 2 ∷ []) ++ (67 ∷ 0 ∷ 0 ∷ []))))

abbrev pub Example : Type 0
Example = transcript five_records ≡ codes "1 U ok 0\n2 O ok 0\n3 P no 19 B 0\n4 V ok 0\n5 C ok 0\n"

-- a whole day, each record with its line: what comes from a record that is refused by 4 or 6, a trade that is late and is
-- filed, a view after the close, and nothing behind a letter of no kind
abbrev pub a_day : List (List ℕ × List ℕ)
a_day =
    -- user 1, rank 0, late
    (85 ∷ 7 ∷ 0 ∷ 1 ∷ 0 ∷ 89 ∷ [], codes "1 U ok 0\n")
    -- user 2, rank 5
    ∷ (85 ∷ 7 ∷ 0 ∷ 2 ∷ 5 ∷ 78 ∷ [], codes "2 U ok 0\n")
    -- symbol ABC with tick 100 and large value 1,000,000
    ∷ (83 ∷ 7 ∷ 0 ∷ 65 ∷ 66 ∷ 67 ∷ 32 ∷ 32 ∷ 32 ∷ 32 ∷ 32 ∷ 100 ∷ 0 ∷ 0 ∷ 0 ∷ 64 ∷ 66 ∷ 15 ∷ 0 ∷ 0 ∷ 0 ∷ 0 ∷ 0 ∷ [], codes "3 S ok 0\n")
    -- an entry with no field
    ∷ (82 ∷ 0 ∷ 0 ∷ [], codes "4 R no 4 R 35\n")
    -- a view before the opening
    ∷ (86 ∷ 1 ∷ 0 ∷ 1 ∷ [], codes "5 V no 6 R 38\n")
    -- the opening of day 7
    ∷ (79 ∷ 1 ∷ 0 ∷ 7 ∷ 0 ∷ 0 ∷ 0 ∷ [], codes "6 O ok 0\n")
    -- bid 1,000,100 and offer 1,000,200
    ∷ (77 ∷ 7 ∷ 0 ∷ 65 ∷ 66 ∷ 67 ∷ 32 ∷ 32 ∷ 32 ∷ 32 ∷ 32 ∷ 164 ∷ 66 ∷ 15 ∷ 0 ∷ 8 ∷ 67 ∷ 15 ∷ 0 ∷ [], codes "7 M ok 0\n")
    -- user 1 asks user 2 for 3,000 at 1,000,200 or less, with the side shown
    ∷ (82 ∷ 63 ∷ 1 ∷ 1 ∷ 65 ∷ 66 ∷ 67 ∷ 32 ∷ 32 ∷ 32 ∷ 32 ∷ 32 ∷ 4 ∷ 0 ∷ 0 ∷ 0 ∷ 0 ∷ 0 ∷ 0 ∷ 0 ∷ 66 ∷ 184 ∷ 11 ∷ 0 ∷ 0 ∷ 76 ∷ 8 ∷ 67 ∷ 15 ∷ 0 ∷ 1 ∷ [], codes "8 R ok 1\n")
    -- user 2 sells 2,000 at the mid
    ∷ (81 ∷ 27 ∷ 0 ∷ 2 ∷ 1 ∷ 0 ∷ 208 ∷ 7 ∷ 0 ∷ 0 ∷ 77 ∷ 0 ∷ 0 ∷ 0 ∷ 0 ∷ [], codes "9 Q ok 1\n")
    -- user 1 sees it
    ∷ (66 ∷ 3 ∷ 0 ∷ 1 ∷ 1 ∷ 0 ∷ [], codes "10 B ok 45 72 ff 00 01 00 41 42 43 20 20 20 20 20 c0 4d c1 03 42 b8 0b 00 00 4c 08 43 0f 00 01 00 00 00 01 65 07 00 01 00 d0 07 00 00 08 43 0f 00\n")
    -- and accepts it, keeping the rest open
    ∷ (65 ∷ 27 ∷ 0 ∷ 1 ∷ 1 ∷ 0 ∷ 75 ∷ 1 ∷ 0 ∷ [], codes "11 A ok 1\n")
    -- user 2's view
    ∷ (86 ∷ 1 ∷ 0 ∷ 2 ∷ [], codes "12 V ok 44 72 0f 00 01 00 41 42 43 20 20 20 20 20 c0 4d c1 03 42 74 3f 00 01 00 41 42 43 20 20 20 20 20 53 d0 07 00 00 08 43 0f 00 4c 52 47 53\n")
    -- the clock, 60 seconds and a millisecond on
    ∷ (84 ∷ 1 ∷ 0 ∷ 33 ∷ 231 ∷ 156 ∷ 1 ∷ [], codes "13 T ok 0\n")
    -- the selling mid
    ∷ (75 ∷ 7 ∷ 0 ∷ 65 ∷ 66 ∷ 67 ∷ 32 ∷ 32 ∷ 32 ∷ 32 ∷ 32 ∷ 77 ∷ 83 ∷ [], codes "14 K no 33 P 0\n")
    -- the close
    ∷ (67 ∷ 0 ∷ 0 ∷ [], codes "15 C ok 0\n")
    -- a pull after the close
    ∷ (80 ∷ 3 ∷ 0 ∷ 2 ∷ 1 ∷ 0 ∷ [], codes "16 P no 6 R 156\n")
    -- user 2's view again
    ∷ (86 ∷ 1 ∷ 0 ∷ 2 ∷ [], codes "17 V ok 26 74 3f 00 01 00 41 42 43 20 20 20 20 20 53 d0 07 00 00 08 43 0f 00 4c 52 47 53\n")
    -- a letter of no kind
    ∷ (1 ∷ [], codes "18 ? no 1 R 166\n")
    -- and one view more
    ∷ (86 ∷ 1 ∷ 0 ∷ 2 ∷ [], [])
    ∷ []

abbrev pub WholeDay : Type 0
WholeDay = transcript (flat_map (λ q. q.0) a_day) ≡ flat_map (λ q. q.1) a_day
