-- Document 02, CR 6: the column index, "an index of the second sequence, never turned", the whole outcome of building one, and of a sweep over one.
-- Assumes nothing.
use Rattle.std.specs.Prelude.{◌≡◌, refl, ◌↔◌, Bool, true, false, cond, ◌&&◌, not, ℕ, zero, suc, ◌≤◌, ◌<◌, leb, ltb, eqb, length, replicate}
use mathlib.Core.List.{List, [], ◌∷◌, Memᴰ}
use Rattle.rules.specs.declared.Settings.{Settings}
use Rattle.rules.specs.declared.Answer.{Answer}
use Rattle.rules.specs.Lists.{text, count_to, then_zeros, zeros}
use Rattle.rules.specs.Letters.{as_read}
use Rattle.rules.specs.Codes.{codes, code_at}
use Rattle.rules.specs.Entered.{settings}
use Rattle.rules.specs.Answers.{Outcome, left, Line, on, outside, refusal, done, length_check, letter_check, given, checked, compared, stopped}

-- ---- the index of a list of codes, in which a place without a k-mer has code 0 (Codes.antt)

-- "places ordered by packed code, equal codes by place": place p, later than those of a list, goes behind all whose code is not above its own
unfoldable pub behind : List ℕ → ℕ → List ℕ → List ℕ
unfolding code_at
behind codes p [] = p ∷ []
behind codes p (q ∷ qs) = let r = behind codes p qs in cond (leb (code_at codes q) (code_at codes p)) (q ∷ r) (p ∷ q ∷ qs)

-- place p "has a k-mer"
unfoldable pub has_kmer : List ℕ → ℕ → Bool
unfolding code_at
has_kmer codes p = ltb 0 (code_at codes p)

-- those of places 1 to n
unfoldable pub index_to : List ℕ → ℕ → List ℕ
unfolding behind has_kmer
index_to codes zero = []
index_to codes (suc n) = let r = index_to codes n in cond (has_kmer codes (suc n)) (behind codes (suc n) r) r

-- "one for each place that has a k-mer"
unfoldable pub index_of_codes : List ℕ → List ℕ
unfolding index_to
index_of_codes codes = index_to codes (length codes)

-- "the number of such places"
unfoldable pub kmer_places : List ℕ → ℕ
unfolding count_to has_kmer
kmer_places codes = count_to (has_kmer codes) (length codes)

-- the codes of a sequence's places, of its letters as they are read under a mask setting (CR 5)
unfoldable pub codes_of : ℕ → ℕ → List ℕ → List ℕ
unfolding codes as_read
codes_of k mask second = codes k (as_read mask second)

-- the index of a sequence
unfoldable pub index_of : ℕ → ℕ → List ℕ → List ℕ
unfolding index_of_codes codes_of
index_of k mask second = index_of_codes (codes_of k mask second)

-- ---- the same in words, of which proofs/Index.antt shows that the index has exactly these, and one list only

-- place p stands before q: by code, equal codes by place
pub record StandsBefore (codes : List ℕ) (p q : ℕ) : Type 0 where
  pub code : code_at codes p ≤ code_at codes q
  pub tie : code_at codes p ≡ code_at codes q → p < q

-- each stands before all that follow it, so that none stands twice
abbrev pub InOrder : List ℕ → List ℕ → Type 0
InOrder codes [] = Unit {0}
InOrder codes (p ∷ ps) = ((q : ℕ) → Memᴰ q ps → StandsBefore codes p q) × InOrder codes ps

-- the places that have a k-mer, each once and in that order
pub record IsIndex (codes index : List ℕ) : Type 0 where
  pub exact : (p : ℕ) → Memᴰ p index ↔ (0 < code_at codes p)
  pub ordered : InOrder codes index

-- ---- building one

-- what is left behind: an answer, and the index room
pub record Built : Type 0 where
  pub answer : Answer
  pub index : List ℕ

-- what a call that builds one leaves
abbrev pub left_index : Answer → List ℕ → Built
left_index answer index = record { answer = answer; index = index }

-- "building checks 1, 10, 5, 6 (sequence 2)"
unfoldable pub index_checks : ℕ → ℕ → List ℕ → List (Line Answer)
unfolding outside refusal length_check letter_check
index_checks k mask second =
    on (outside 1 31 k) (refusal 1 0 0)
    ∷ on (outside 0 1 mask) (refusal 10 0 0)
    ∷ length_check 2 (length second)
    ∷ letter_check 2 second
    ∷ []

unfoldable pub checked_index : ℕ → ℕ → List ℕ → Answer
unfolding given index_checks
checked_index k mask second = given (index_checks k mask second)

-- "then 11, index room below the number of such places (the detail)": "index room too short becomes all zeros". Done: "numbers after the index become
-- zeros", and the number of places stands where a job has its entries
unfoldable pub building_index : List ℕ → List ℕ → Built
unfolding kmer_places refusal zeros done then_zeros index_of_codes
building_index codes room =
    cond (ltb (length room) (kmer_places codes)) (left_index (refusal 11 0 (kmer_places codes)) (zeros room))
    (left_index (done (kmer_places codes) 0 0 0) (then_zeros (index_of_codes codes) (length room)))

unfoldable pub built_index : ℕ → ℕ → List ℕ → List ℕ → Built
unfolding checked_index building_index codes_of
built_index k mask second room =
    cond (eqb (checked_index k mask second).number 0) (building_index (codes_of k mask second) room) (left_index (checked_index k mask second) room)

-- ---- a sweep over one

-- ys begins with xs
unfoldable pub begins_with : List ℕ → List ℕ → Bool
begins_with [] ys = true
begins_with (x ∷ xs) [] = false
begins_with (x ∷ xs) (y ∷ ys) = eqb x y && begins_with xs ys

-- "A sweep first checks a given index against its sequence, k and mask setting, and the numbers after it change nothing."
unfoldable pub indexed : Settings → List ℕ → List ℕ → Bool
unfolding begins_with index_of
indexed c second index = begins_with (index_of c.k c.mask second) index

-- "sweeping, after 6, 12, the slice does not begin with that index": "A wrong or short index is left unchanged with both rooms." Else "the same answer,
-- listing and room contents as the plain one"
unfoldable pub swept_over : Settings → List ℕ → List ℕ → List ℕ → List ℕ → List ℕ → Outcome → Outcome
unfolding checked indexed refusal
swept_over c first second index work list plain =
    cond (eqb (checked c first second).number 0 && not (indexed c second index)) (left (refusal 12 0 0) work list) plain

unfoldable pub compared_over : Settings → List ℕ → List ℕ → List ℕ → List ℕ → List ℕ → Outcome
unfolding swept_over compared
compared_over c first second index work list = swept_over c first second index work list (compared c first second work list)

unfoldable pub stopped_over : Settings → List ℕ → List ℕ → List ℕ → List ℕ → ℕ → Outcome
unfolding swept_over stopped
stopped_over c first second index work r = swept_over c first second index work [] (stopped c first second work r)

-- ---- examples

abbrev room : ℕ → List ℕ
room n = replicate n 7

abbrev pub built : ℕ → List ℕ → Built
unfolding done
built n index = left_index (done n 0 0 0) index

abbrev pub not_built : ℕ → ℕ → ℕ → List ℕ → Built
unfolding refusal
not_built number sequence detail index = left_index (refusal number sequence detail) index

-- ACGACNAC has AC at places 1, 4 and 7, CG at 2 and GA at 3, and no k-mer at 5 and 6: by packed code, equal codes by place, zeros after them
pub built_examples : built_index 2 0 (text "ACGACNAC") (room 7)
    ∷ built_index 2 0 (text "ACGACNAC") (room 5)
    ∷ built_index 2 0 (text "ACGACNAC") (room 4)
    -- masked letters form k-mers, or break them
    ∷ built_index 2 0 (text "ACGacNAC") (room 5)
    ∷ built_index 2 1 (text "ACGacNAC") (room 5)
    -- a code above comes first by place, and last by code
    ∷ built_index 1 0 (text "TGCA") (room 4)
    -- an empty index is right at any room
    ∷ built_index 2 0 (text "A") []
    ∷ built_index 2 0 [] (room 2)
    -- each refusal where all that come after it apply too
    ∷ built_index 0 2 (replicate 16385 0) (room 1)
    ∷ built_index 31 2 (replicate 16385 0) (room 1)
    ∷ built_index 31 1 (replicate 16385 0) (room 1)
    ∷ built_index 1 0 (text "AAU") (room 1)
    ∷ built_index 1 0 (text "AAA") (room 2)
    ∷ []
    ≡ built 5 (1 ∷ 4 ∷ 7 ∷ 2 ∷ 3 ∷ 0 ∷ 0 ∷ [])
    ∷ built 5 (1 ∷ 4 ∷ 7 ∷ 2 ∷ 3 ∷ [])
    ∷ not_built 11 0 5 (0 ∷ 0 ∷ 0 ∷ 0 ∷ [])
    ∷ built 5 (1 ∷ 4 ∷ 7 ∷ 2 ∷ 3 ∷ [])
    ∷ built 3 (1 ∷ 7 ∷ 2 ∷ 0 ∷ 0 ∷ [])
    ∷ built 4 (4 ∷ 3 ∷ 2 ∷ 1 ∷ [])
    ∷ built 0 []
    ∷ built 0 (0 ∷ 0 ∷ [])
    ∷ not_built 1 0 0 (7 ∷ [])
    ∷ not_built 10 0 0 (7 ∷ [])
    ∷ not_built 5 2 0 (7 ∷ [])
    ∷ not_built 6 2 3 (7 ∷ [])
    ∷ not_built 11 0 3 (0 ∷ 0 ∷ [])
    ∷ []
unfolding built_index text
built_examples = refl

-- example P1 on one strand or both, and the second sequence masked or not
abbrev p1 : ℕ → ℕ → Settings
p1 strand mask = settings 2 2 8 0 strand mask

-- P1 over both strands and ACGGT's index 1 2 3 4 with another number behind it is P1; a place too few, two exchanged, the last changed, equal codes by
-- falling place, the index under the other mask setting and none at all are refused before the work room is
pub swept_examples : compared_over (p1 1 0) (text "ACCGT") (text "ACGGT") (1 ∷ 2 ∷ 3 ∷ 4 ∷ 9 ∷ []) (room 24) (room 12)
    ∷ compared_over (p1 0 0) (text "ACCGT") (text "ACGGT") (1 ∷ 2 ∷ 3 ∷ []) (room 2) (room 3)
    ∷ compared_over (p1 0 0) (text "ACCGT") (text "ACGGT") (1 ∷ 2 ∷ 4 ∷ 3 ∷ []) (room 2) (room 3)
    ∷ compared_over (p1 0 0) (text "ACCGT") (text "ACGGT") (1 ∷ 2 ∷ 3 ∷ 3 ∷ []) (room 2) (room 3)
    ∷ compared_over (p1 0 0) (text "AAA") (text "AAA") (2 ∷ 1 ∷ []) (room 2) (room 3)
    ∷ compared_over (p1 0 0) (text "ACCGT") (text "ACGgt") (1 ∷ 2 ∷ []) (room 2) (room 3)
    ∷ compared_over (p1 0 1) (text "ACCGT") (text "ACGgt") (1 ∷ 2 ∷ []) (room 24) (room 12)
    ∷ stopped_over (p1 1 0) (text "ACCGT") (text "ACGGT") [] (room 2) 9
    ∷ stopped_over (p1 1 0) (text "ACCGT") (text "ACGGT") (1 ∷ 2 ∷ 3 ∷ 4 ∷ []) (room 24) 3
    -- and after 6
    ∷ compared_over (p1 0 0) (text "ACCGT") (text "ACGGU") [] (room 2) (room 3)
    ∷ []
    ≡ compared (p1 1 0) (text "ACCGT") (text "ACGGT") (room 24) (room 12)
    ∷ left (refusal 12 0 0) (room 2) (room 3)
    ∷ left (refusal 12 0 0) (room 2) (room 3)
    ∷ left (refusal 12 0 0) (room 2) (room 3)
    ∷ left (refusal 12 0 0) (room 2) (room 3)
    ∷ left (refusal 12 0 0) (room 2) (room 3)
    ∷ compared (p1 0 1) (text "ACCGT") (text "ACGgt") (room 24) (room 12)
    ∷ left (refusal 12 0 0) (room 2) []
    ∷ stopped (p1 1 0) (text "ACCGT") (text "ACGGT") (room 24) 3
    ∷ left (refusal 6 2 5) (room 2) (room 3)
    ∷ []
unfolding compared_over stopped_over text
swept_examples = refl
