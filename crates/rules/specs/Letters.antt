-- Document 01, "Settings and letters": the fifteen capitals and their codes. Document 02, CR 1: their complements; CR 5: their lower case, which is
-- masked, and what a masked letter stands for. Letters are bytes, in ASCII. Assumes nothing.
use Rattle.std.specs.Prelude.{Bool, true, false, cond, List, [], ◌∷◌, ◌++◌, map, ℕ, zero, suc, ◌+◌, ◌*◌, ◌/◌, ◌%◌, eqb, ltb, get_or}
use Rattle.rules.specs.declared.Letter.{Letter}
use Rattle.rules.specs.Lists.{text, place_from, count}

-- "A 1, C 2, M 3, G 4, R 5, S 6, V 7, T 8, W 9, Y 10, H 11, K 12, D 13, B 14, N 15": the letters by code. Code 0 has none
unfoldable pub letter_table : List ℕ
unfolding text
letter_table = 0 ∷ text "ACMGRSVTWYHKDBN"

-- the letter of a code, 0 where it has none
unfoldable pub letter_of : ℕ → ℕ
unfolding letter_table
letter_of code = get_or letter_table code 0

-- the code of a capital, 0 of any other byte
unfoldable pub capital_code : ℕ → ℕ
unfolding letter_table place_from
capital_code x = place_from 0 0 x letter_table

-- CR 5: "the lower case of the fifteen letters", by code
unfoldable pub masked_table : List ℕ
unfolding text
masked_table = 0 ∷ text "acmgrsvtwyhkdbn"

-- "Reading a letter now tells its capital and whether it is masked". A byte that is none of these thirty, as u and U, has capital 0
unfoldable pub read_letter : ℕ → Letter
unfolding letter_of capital_code masked_table place_from
read_letter x =
    let masked = place_from 0 0 x masked_table in
    cond (ltb 0 masked) (record { capital = letter_of masked; masked = true }) (record { capital = letter_of (capital_code x); masked = false })

-- the code of a letter is that of its capital; 0 of a byte that is none
unfoldable pub code_of : ℕ → ℕ
unfolding capital_code read_letter
code_of x = capital_code (read_letter x).capital

-- the letter of a code, masked or not
unfoldable pub letter_as : Bool → ℕ → ℕ
unfolding letter_of masked_table
letter_as masked code = cond masked (get_or masked_table code 0) (letter_of code)

-- "A letter's complement reverses the four bits of its code": bit 1 exchanges with bit 8, and bit 2 with bit 4
unfoldable pub reversed_bits : ℕ → ℕ
reversed_bits code = code % 2 * 8 + code / 2 % 2 * 4 + code / 4 % 2 * 2 + code / 8 % 2

-- the complement of a letter, 0 of a byte that is none. CR 5: "reverse complement keeps the mask"
unfoldable pub complement : ℕ → ℕ
unfolding letter_as reversed_bits code_of read_letter
complement x = letter_as (read_letter x).masked (reversed_bits (code_of x))

-- "the reverse complement": the complement of each letter, the last letter first
unfoldable pub reverse_complement : List ℕ → List ℕ
unfolding complement
reverse_complement [] = []
reverse_complement (x ∷ xs) = reverse_complement xs ++ (complement x ∷ [])

-- the first place, counted from n, whose byte is not among the fifteen, in either case; 0 where all are
unfoldable pub bad_from : ℕ → List ℕ → ℕ
unfolding code_of
bad_from n [] = 0
bad_from n (x ∷ xs) = let r = bad_from (suc n) xs in cond (eqb (code_of x) 0) n r

-- "its first such place": places count from 1
unfoldable pub bad_place : List ℕ → ℕ
unfolding bad_from
bad_place s = bad_from 1 s

-- CR 5: how many letters of a sequence are masked
unfoldable pub masked_letters : List ℕ → ℕ
unfolding count read_letter
masked_letters s = count (λ x. (read_letter x).masked) s

-- "A setting says whether masked letters form k-mers (0) or break them as N does (1)": what a letter stands for, its capital, or N, whose code is 15
unfoldable pub stands_for : ℕ → ℕ → ℕ
unfolding read_letter letter_of
stands_for zero x = (read_letter x).capital
stands_for (suc n) x = cond (read_letter x).masked (letter_of 15) (read_letter x).capital

-- a sequence as it is read under a mask setting: capitals alone, of which all that follows speaks
unfoldable pub as_read : ℕ → List ℕ → List ℕ
unfolding stands_for
as_read mask s = map (stands_for mask) s
