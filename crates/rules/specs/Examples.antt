-- Document 01, "Examples in the registry", with CR 1's sixth number and the entries that CR 2 leaves of P5 and P8, and what those leave open, CR 5's masks
-- with it: whole answers and whole rooms. Assumes nothing.
use Rattle.std.specs.Prelude.{◌≡◌, refl, List, [], ◌∷◌, map, ℕ, replicate}
use Rattle.rules.specs.declared.Settings.{Settings}
use Rattle.rules.specs.Lists.{text, then_zeros}
use Rattle.rules.specs.Entered.{settings, forward, both, forward_broken, both_broken}
use Rattle.rules.specs.Matches.{cell, matches}
use Rattle.rules.specs.Answers.{Outcome, refusal, compared, stopped, replied}

-- what is asked: the compare job with its two rooms, or the stopped sweep with its room and row
pub data Question : Type 0 where
  compare_job : Settings → List ℕ → List ℕ → List ℕ → List ℕ → Question
  stopped_sweep : Settings → List ℕ → List ℕ → List ℕ → ℕ → Question

unfoldable pub outcome : Question → Outcome
unfolding compared stopped
outcome (compare_job c first second work list) = compared c first second work list
outcome (stopped_sweep c first second work r) = stopped c first second work r

-- a question and its outcome
pub record Row : Type 0 where
  pub asked : Question
  pub given : Outcome

abbrev row : Question → Outcome → Row
row q o = record { asked = q; given = o }

-- a strand that there is not
abbrev no_strand : ℕ → ℕ → ℕ → ℕ → Settings
no_strand k b a m = settings k b a m 2 2

-- a mask setting that there is not
abbrev no_mask : ℕ → ℕ → ℕ → ℕ → Settings
no_mask k b a m = settings k b a m 1 2

-- a room of n numbers as it is lent, none of them zero, so that zeros are seen to be written
abbrev room : ℕ → List ℕ
room n = replicate n 7

-- done, with the four tallies and both rooms
abbrev done : ℕ → ℕ → ℕ → ℕ → List ℕ → List ℕ → Outcome
done listed matches widest links work list =
    record {
      answer =
          record { number = 0; sequence = 0; detail = 0; listed = listed; matches = matches; widest = widest; links = links };
      work = work;
      list = list;
    }

-- refused, with the number, sequence, detail and both rooms
abbrev pub refused : ℕ → ℕ → ℕ → List ℕ → List ℕ → Outcome
unfolding refusal
refused number sequence detail work list = record { answer = refusal number sequence detail; work = work; list = list }

-- n zeros
abbrev none : ℕ → List ℕ
none n = replicate n 0

-- P1 to P11, in order; CR 2: "P5 lists only its last entry; P8 only 1 5 1 2 2; P7 and P9 stand"
abbrev pub table : List Row
unfolding text then_zeros
table =
    row (compare_job (forward 2 2 8 0) (text "ACCGT") (text "ACGGT") (room 100) (room 100))
    (done 1 3 2 2 (none 100) (then_zeros (1 ∷ 5 ∷ 1 ∷ 5 ∷ 3 ∷ 0 ∷ []) 100))
    ∷ row (compare_job (forward 2 1 8 0) (text "ACCGT") (text "ACGGT") (room 100) (room 100))
    (done 3 3 2 0 (none 100) (then_zeros (1 ∷ 2 ∷ 1 ∷ 2 ∷ 1 ∷ 0 ∷ 3 ∷ 4 ∷ 2 ∷ 3 ∷ 1 ∷ 0 ∷ 4 ∷ 5 ∷ 4 ∷ 5 ∷ 1 ∷ 0 ∷ []) 100))
    ∷ row (compare_job (forward 2 2 8 0) (text "ACCGT") (text "ACGGT") (room 16) (room 100))
    (done 1 3 2 2 (none 16) (then_zeros (1 ∷ 5 ∷ 1 ∷ 5 ∷ 3 ∷ 0 ∷ []) 100))
    ∷ row (compare_job (forward 2 2 8 0) (text "ACCGT") (text "ACGGT") (room 15) (room 100))
    (refused 7 0 2 (none 15) (none 100))
    ∷ row (compare_job (forward 1 1 6 0) (text "AAA") (text "AAA") (room 100) (room 100))
    (done 1 9 6 16 (none 100) (then_zeros (1 ∷ 3 ∷ 1 ∷ 3 ∷ 5 ∷ 0 ∷ []) 100))
    ∷ row (compare_job (forward 1 1 5 0) (text "AAA") (text "AAA") (room 100) (room 100)) (done 0 0 0 0 (none 100) (none 100))
    ∷ row (compare_job (forward 1 1 6 3) (text "AAA") (text "AAA") (room 100) (room 100))
    (done 1 9 6 16 (none 100) (then_zeros (1 ∷ 3 ∷ 1 ∷ 3 ∷ 5 ∷ 0 ∷ []) 100))
    ∷ row (compare_job (forward 2 3 3 0) (text "ACNAC") (text "AC") (room 100) (room 100))
    (done 1 2 2 1 (none 100) (then_zeros (1 ∷ 5 ∷ 1 ∷ 2 ∷ 2 ∷ 0 ∷ []) 100))
    ∷ row (compare_job (forward 2 2 3 0) (text "ACNAC") (text "AC") (room 100) (room 100))
    (done 2 2 1 0 (none 100) (then_zeros (1 ∷ 2 ∷ 1 ∷ 2 ∷ 1 ∷ 0 ∷ 4 ∷ 5 ∷ 1 ∷ 2 ∷ 1 ∷ 0 ∷ []) 100))
    ∷ row (compare_job (forward 1 1 1 0) [] [] [] []) (done 0 0 0 0 [] [])
    ∷ row (stopped_sweep (forward 2 2 8 0) (text "ACCGT") (text "ACGGT") (room 100) 3)
    (done 2 3 2 2 (then_zeros (1 ∷ 1 ∷ 1 ∷ 1 ∷ 1 ∷ 0 ∷ 0 ∷ 0 ∷ 3 ∷ 2 ∷ 2 ∷ 1 ∷ 1 ∷ 0 ∷ 0 ∷ 0 ∷ []) 100) [])
    ∷ []

-- every question of the table has the outcome that stands beside it
pub P1_to_P11 : map (λ (r : Row). outcome r.asked) table ≡ map (λ (r : Row). r.given) table
unfolding outcome text then_zeros
P1_to_P11 = refl

-- P1: "matches (1,1), (3,2), (4,4)"
pub P1_matches : matches (forward 2 2 8 0) (text "ACCGT") (text "ACGGT") ≡ cell 1 1 ∷ cell 3 2 ∷ cell 4 4 ∷ []
unfolding matches text
P1_matches = refl

-- what P1 to P11 leave open, about matches, chains and the listing
abbrev pub open_rows : List Row
unfolding text then_zeros
open_rows =
    -- a tie goes to the smaller column: the start is (2,1) and not (1,2)
    row (compare_job (forward 1 2 2 0) (text "ACG") (text "CAG") (room 24) (room 6)) (done 1 3 3 2 (none 24) (2 ∷ 3 ∷ 1 ∷ 3 ∷ 2 ∷ 0 ∷ []))
    -- of the fifteen letters only A, C, G and T form k-mers
    ∷ row (compare_job (forward 1 1 8 0) (text "ACMGRSVTWYHKDBN") (text "ACMGRSVTWYHKDBN") (room 16) (room 20))
    (done 3 4 2 1 (none 16) (then_zeros (1 ∷ 2 ∷ 1 ∷ 2 ∷ 2 ∷ 0 ∷ 4 ∷ 4 ∷ 4 ∷ 4 ∷ 1 ∷ 0 ∷ 8 ∷ 8 ∷ 8 ∷ 8 ∷ 1 ∷ 0 ∷ []) 20))
    -- no k-mer runs across an N
    ∷ row (compare_job (forward 2 1 8 0) (text "ANC") (text "AC") (room 8) (room 6)) (done 0 0 0 0 (none 8) (none 6))
    -- ends are compared as numbers: 9 before 10
    ∷ row (compare_job (forward 1 1 2 0) (text "NNNNNNNNAC") (text "CNA") (room 16) (room 12))
    (done 2 2 2 0 (none 16) (9 ∷ 9 ∷ 3 ∷ 3 ∷ 1 ∷ 0 ∷ 10 ∷ 10 ∷ 1 ∷ 1 ∷ 1 ∷ 0 ∷ []))
    -- both spans count: with spans of 5 and 2, of 2 and 5, an entry is not listed at m 3
    ∷ row (compare_job (forward 2 3 3 3) (text "ACNAC") (text "AC") (room 16) (room 6)) (done 0 2 2 1 (none 16) (none 6))
    ∷ row (compare_job (forward 2 3 3 3) (text "AC") (text "ACNAC") (room 16) (room 6)) (done 0 2 2 1 (none 16) (none 6))
    ∷ row (compare_job (forward 2 3 3 2) (text "AC") (text "ACNAC") (room 16) (room 6)) (done 1 2 2 1 (none 16) (1 ∷ 2 ∷ 1 ∷ 5 ∷ 2 ∷ 0 ∷ []))
    -- the stopped sweep after row 0, and after the last row
    ∷ row (stopped_sweep (forward 2 2 8 0) (text "ACCGT") (text "ACGGT") (room 17) 0) (done 0 3 2 2 (none 17) [])
    ∷ row (stopped_sweep (forward 2 2 8 0) (text "ACCGT") (text "ACGGT") (room 17) 4)
    (done 2 3 2 2 (3 ∷ 2 ∷ 2 ∷ 1 ∷ 1 ∷ 0 ∷ 0 ∷ 0 ∷ 4 ∷ 4 ∷ 3 ∷ 1 ∷ 1 ∷ 0 ∷ 0 ∷ 0 ∷ 0 ∷ []) [])
    ∷ []

pub open_examples : map (λ (r : Row). outcome r.asked) open_rows ≡ map (λ (r : Row). r.given) open_rows
unfolding outcome text then_zeros
open_examples = refl

-- CR 2: a match goes on in its own column (P8, P9) and in its own row, by b and not by b + 1
abbrev pub closed_rows : List Row
unfolding text then_zeros
closed_rows =
    row (compare_job (forward 2 3 3 0) (text "AC") (text "ACNAC") (room 16) (room 12))
    (done 1 2 2 1 (none 16) (then_zeros (1 ∷ 2 ∷ 1 ∷ 5 ∷ 2 ∷ 0 ∷ []) 12))
    ∷ row (compare_job (forward 2 2 3 0) (text "AC") (text "ACNAC") (room 16) (room 12))
    (done 2 2 2 0 (none 16) (1 ∷ 2 ∷ 1 ∷ 2 ∷ 1 ∷ 0 ∷ 1 ∷ 2 ∷ 4 ∷ 5 ∷ 1 ∷ 0 ∷ []))
    -- (1,3) does not go on to (3,1), which lies beyond it in one sequence and before it in the other
    ∷ row (compare_job (forward 1 4 2 0) (text "ANC") (text "CNA") (room 16) (room 12))
    (done 2 2 2 0 (none 16) (1 ∷ 1 ∷ 3 ∷ 3 ∷ 1 ∷ 0 ∷ 3 ∷ 3 ∷ 1 ∷ 1 ∷ 1 ∷ 0 ∷ []))
    ∷ []

pub closed_examples : map (λ (r : Row). outcome r.asked) closed_rows ≡ map (λ (r : Row). r.given) closed_rows
unfolding outcome text then_zeros
closed_examples = refl

-- CR 1: both strands
abbrev pub strand_rows : List Row
unfolding text then_zeros
strand_rows =
    -- P1 over both: 4 k-mers of ACCGT stand turned in ACGGT, and the forward entry comes first
    row (compare_job (both 2 2 8 0) (text "ACCGT") (text "ACGGT") (room 100) (room 100))
    (done 2 7 3 7 (none 100) (then_zeros (1 ∷ 5 ∷ 1 ∷ 5 ∷ 3 ∷ 0 ∷ 1 ∷ 5 ∷ 1 ∷ 5 ∷ 4 ∷ 1 ∷ []) 100))
    -- the turned sequence is ACCGN: its places 1 to 4 are reported as 2 to 5
    ∷ row (compare_job (both 2 2 8 0) (text "ACCG") (text "NCGGT") (room 24) (room 12))
    (done 2 4 3 3 (none 24) (3 ∷ 4 ∷ 2 ∷ 3 ∷ 1 ∷ 0 ∷ 1 ∷ 4 ∷ 2 ∷ 5 ∷ 3 ∷ 1 ∷ []))
    ∷ row (compare_job (forward 2 2 8 0) (text "ACCG") (text "NCGGT") (room 24) (room 12))
    (done 1 1 1 0 (none 24) (then_zeros (3 ∷ 4 ∷ 2 ∷ 3 ∷ 1 ∷ 0 ∷ []) 12))
    -- each strand has totals of its own: AA occurs twice on each, and three times in all
    ∷ row (compare_job (both 2 1 2 0) (text "AA") (text "AATT") (room 8) (room 12))
    (done 2 2 1 0 (none 8) (1 ∷ 2 ∷ 1 ∷ 2 ∷ 1 ∷ 0 ∷ 1 ∷ 2 ∷ 3 ∷ 4 ∷ 1 ∷ 1 ∷ []))
    -- the larger W is that of the reverse strand, or of the forward
    ∷ row (compare_job (both 1 1 8 4) (text "AAT") (text "TTT") (room 48) (room 6)) (done 0 9 6 11 (none 48) (none 6))
    ∷ row (compare_job (both 1 1 8 0) (text "AAT") (text "TTT") (room 47) (room 12)) (refused 7 0 6 (none 47) (none 12))
    ∷ row (compare_job (both 1 1 8 0) (text "TTA") (text "TTT") (room 47) (room 12)) (refused 7 0 6 (none 47) (none 12))
    ∷ row (compare_job (both 1 1 8 0) (text "AAT") (text "TTT") (room 48) (room 11)) (refused 8 0 2 (none 48) (none 11))
    -- a reverse sweep that is stopped has its own tallies, and its records are not turned back
    ∷ row (stopped_sweep (both 2 2 8 0) (text "ACCG") (text "NCGGT") (room 24) 3)
    (done 3 3 3 3 (1 ∷ 1 ∷ 1 ∷ 1 ∷ 1 ∷ 0 ∷ 0 ∷ 0 ∷ 2 ∷ 2 ∷ 2 ∷ 1 ∷ 1 ∷ 0 ∷ 0 ∷ 0 ∷ 3 ∷ 3 ∷ 3 ∷ 1 ∷ 1 ∷ 0 ∷ 0 ∷ 0 ∷ []) [])
    ∷ row (stopped_sweep (both 1 1 8 0) (text "TTA") (text "TTT") (room 24) 2) (done 0 3 3 2 (none 24) [])
    ∷ row (stopped_sweep (both 1 1 8 0) (text "TTA") (text "TTT") (room 23) 2) (refused 7 0 3 (none 23) [])
    ∷ []

pub strand_examples : map (λ (r : Row). outcome r.asked) strand_rows ≡ map (λ (r : Row). r.given) strand_rows
unfolding outcome text then_zeros
strand_examples = refl

-- CR 5: masked letters
abbrev pub mask_rows : List Row
unfolding text then_zeros
mask_rows =
    -- 0: they form k-mers, so that this is P1
    row (compare_job (forward 2 2 8 0) (text "acCgT") (text "ACggt") (room 100) (room 100))
    (done 1 3 2 2 (none 100) (then_zeros (1 ∷ 5 ∷ 1 ∷ 5 ∷ 3 ∷ 0 ∷ []) 100))
    -- 0 and 1, in the first sequence and in the second: 1 breaks AA and AC
    ∷ row (compare_job (forward 2 1 8 0) (text "AaC") (text "AC") (room 8) (room 6)) (done 1 1 1 0 (none 8) (2 ∷ 3 ∷ 1 ∷ 2 ∷ 1 ∷ 0 ∷ []))
    ∷ row (compare_job (forward_broken 2 1 8 0) (text "AaC") (text "AC") (room 8) (room 6)) (done 0 0 0 0 (none 8) (none 6))
    ∷ row (compare_job (forward 2 1 8 0) (text "AC") (text "AaC") (room 8) (room 6)) (done 1 1 1 0 (none 8) (1 ∷ 2 ∷ 2 ∷ 3 ∷ 1 ∷ 0 ∷ []))
    ∷ row (compare_job (forward_broken 2 1 8 0) (text "AC") (text "AaC") (room 8) (room 6)) (done 0 0 0 0 (none 8) (none 6))
    -- only k-mers that are formed count in a total
    ∷ row (compare_job (forward 1 1 2 0) (text "Aa") (text "A") (room 8) (room 6)) (done 0 0 0 0 (none 8) (none 6))
    ∷ row (compare_job (forward_broken 1 1 2 0) (text "Aa") (text "A") (room 8) (room 6)) (done 1 1 1 0 (none 8) (1 ∷ 1 ∷ 1 ∷ 1 ∷ 1 ∷ 0 ∷ []))
    -- turned with its mask NCGGt is a_cCGN: AC is broken on the reverse strand, and GT on the forward
    ∷ row (compare_job (both_broken 2 2 8 0) (text "ACCG") (text "NCGGt") (room 24) (room 12))
    (done 2 3 2 1 (none 24) (3 ∷ 4 ∷ 2 ∷ 3 ∷ 1 ∷ 0 ∷ 2 ∷ 4 ∷ 2 ∷ 4 ∷ 2 ∷ 1 ∷ []))
    ∷ row (stopped_sweep (both_broken 2 2 8 0) (text "ACCG") (text "NCGGt") (room 16) 3)
    (done 2 2 2 1 (2 ∷ 2 ∷ 1 ∷ 2 ∷ 2 ∷ 0 ∷ 0 ∷ 0 ∷ 3 ∷ 3 ∷ 2 ∷ 2 ∷ 2 ∷ 0 ∷ 0 ∷ 0 ∷ []) [])
    -- no letter: u, and A with its highest bit set, in either case
    ∷ row (compare_job (forward 1 1 6 0) (text "acgu") (text "A") (room 3) (room 2)) (refused 6 1 4 (room 3) (room 2))
    ∷ row (compare_job (forward_broken 1 1 6 0) (text "a") (97 ∷ 193 ∷ []) (room 3) (room 2)) (refused 6 2 2 (room 3) (room 2))
    ∷ row (compare_job (forward_broken 1 1 6 0) (225 ∷ []) (text "a") (room 3) (room 2)) (refused 6 1 1 (room 3) (room 2))
    ∷ []

pub mask_examples : map (λ (r : Row). outcome r.asked) mask_rows ≡ map (λ (r : Row). r.given) mask_rows
unfolding outcome text then_zeros
mask_examples = refl

-- each refusal where all that come after it apply too, so that the first is given; and the settings at the ends of their ranges
abbrev pub refusal_rows : List Row
unfolding text
refusal_rows =
    row (compare_job (forward 0 0 0 16385) (replicate 16385 0) (replicate 16385 0) (room 3) (room 2)) (refused 1 0 0 (room 3) (room 2))
    ∷ row (compare_job (forward 32 1025 1025 16385) (replicate 16385 0) (replicate 16385 0) (room 3) (room 2))
    (refused 1 0 0 (room 3) (room 2))
    ∷ row (compare_job (forward 1 0 0 16385) (replicate 16385 0) (replicate 16385 0) (room 3) (room 2))
    (refused 2 0 0 (room 3) (room 2))
    ∷ row (compare_job (forward 31 1025 1025 16385) (replicate 16385 0) (replicate 16385 0) (room 3) (room 2))
    (refused 2 0 0 (room 3) (room 2))
    ∷ row (compare_job (forward 1 1 0 16385) (replicate 16385 0) (replicate 16385 0) (room 3) (room 2))
    (refused 3 0 0 (room 3) (room 2))
    ∷ row (compare_job (forward 31 1024 1025 16385) (replicate 16385 0) (replicate 16385 0) (room 3) (room 2))
    (refused 3 0 0 (room 3) (room 2))
    ∷ row (compare_job (forward 31 1024 1024 16385) (replicate 16385 0) (replicate 16385 0) (room 3) (room 2))
    (refused 4 0 0 (room 3) (room 2))
    ∷ row (compare_job (no_strand 31 1024 1024 16385) (replicate 16385 0) (replicate 16385 0) (room 3) (room 2))
    (refused 4 0 0 (room 3) (room 2))
    ∷ row (compare_job (no_strand 31 1024 1024 16384) (replicate 16385 0) (replicate 16385 0) (room 3) (room 2))
    (refused 9 0 0 (room 3) (room 2))
    ∷ row (compare_job (no_mask 31 1024 1024 16384) (replicate 16385 0) (replicate 16385 0) (room 3) (room 2))
    (refused 10 0 0 (room 3) (room 2))
    ∷ row (compare_job (both_broken 31 1024 1024 16384) (replicate 16385 0) (replicate 16385 0) (room 3) (room 2))
    (refused 5 1 0 (room 3) (room 2))
    ∷ row (compare_job (forward 31 1024 1024 16384) (text "u") (replicate 16385 0) (room 3) (room 2)) (refused 5 2 0 (room 3) (room 2))
    ∷ row (compare_job (forward 1 1 6 0) (text "AuA") (text "AAU") (room 3) (room 2)) (refused 6 1 2 (room 3) (room 2))
    ∷ row (compare_job (forward 1 1 6 0) (text "AAA") (text "AAU") (room 3) (room 2)) (refused 6 2 3 (room 3) (room 2))
    ∷ row (compare_job (forward 1 1 6 0) (text "AAA") (text "AAA") (room 47) (room 5)) (refused 7 0 6 (none 47) (none 5))
    ∷ row (compare_job (forward 1 1 6 0) (text "AAA") (text "AAA") (room 48) (room 5)) (refused 8 0 1 (none 48) (none 5))
    ∷ row (stopped_sweep (forward 0 1 6 0) (text "AAA") (text "AAA") (room 47) 4) (refused 1 0 0 (room 47) [])
    ∷ row (stopped_sweep (forward 1 1 6 16385) (text "AAA") (text "AAA") (room 47) 4) (refused 4 0 0 (room 47) [])
    ∷ row (stopped_sweep (no_strand 1 1 6 0) (text "AAA") (text "AAU") (room 47) 4) (refused 9 0 0 (room 47) [])
    ∷ row (stopped_sweep (no_mask 1 1 6 0) (text "AAA") (text "AAU") (room 47) 4) (refused 10 0 0 (room 47) [])
    ∷ row (stopped_sweep (forward 1 1 6 0) (text "AAA") (text "AAU") (room 47) 4) (refused 6 2 3 (room 47) [])
    ∷ row (stopped_sweep (forward 1 1 6 0) (text "AAA") (text "AAA") (room 47) 4) (refused 7 0 6 (none 47) [])
    ∷ row (stopped_sweep (forward 1 1 6 0) (text "AAA") (text "AAA") (room 48) 4) (refused 19 0 3 (none 48) [])
    -- accepted: every setting at its least, at its greatest, and 16,384 letters
    ∷ row (compare_job (forward 1 1 1 0) (text "A") (text "C") (room 3) (room 2)) (done 0 0 0 0 (none 3) (none 2))
    ∷ row (compare_job (forward 31 1024 1024 16384) (text "ACGTACGTACGTACGTACGTACGTACGTACG") (text "ACGTACGTACGTACGTACGTACGTACGTACG") (room 8) (room 2))
    (done 0 1 1 0 (none 8) (none 2))
    ∷ row (compare_job (forward 31 1024 1024 31) (text "ACGTACGTACGTACGTACGTACGTACGTACG") (text "ACGTACGTACGTACGTACGTACGTACGTACG") (room 8) (room 6))
    (done 1 1 1 0 (none 8) (1 ∷ 31 ∷ 1 ∷ 31 ∷ 1 ∷ 0 ∷ []))
    ∷ row (compare_job (forward 31 1 1 0) (replicate 16384 78) [] (room 3) (room 2)) (done 0 0 0 0 (none 3) (none 2))
    ∷ []

pub refusal_examples : map (λ (r : Row). outcome r.asked) refusal_rows ≡ map (λ (r : Row). r.given) refusal_rows
unfolding outcome text
refusal_examples = refl

-- the reply over the C boundary: W, the larger W, and each refusal 1 to 4, 9, 10, 5 and 6
pub replies : replied (forward 2 2 8 0) (text "ACCGT") (text "ACGGT")
    ∷ replied (both 2 2 8 0) (text "ACCGT") (text "ACGGT")
    ∷ replied (forward 0 0 0 16385) (text "u") (text "u")
    ∷ replied (forward 1 0 0 16385) (text "u") (text "u")
    ∷ replied (forward 1 1 0 16385) (text "u") (text "u")
    ∷ replied (no_strand 1 1 1 16385) (text "u") (text "u")
    ∷ replied (no_strand 1 1 1 0) (text "u") (replicate 16385 0)
    ∷ replied (no_mask 1 1 1 0) (text "u") (replicate 16385 0)
    ∷ replied (forward 1 1 1 0) (text "u") (replicate 16385 0)
    ∷ replied (forward 1 1 1 0) (text "u") (text "A")
    -- W of sequences as they are read
    ∷ replied (both 2 2 8 0) (text "AccgT") (text "acGGT")
    ∷ replied (both_broken 2 2 8 0) (text "ACCGt") (text "ACGGT")
    ∷ []
    ≡ 2 ∷ 3 ∷ 4294967297 ∷ 4294967298 ∷ 4294967299 ∷ 4294967300 ∷ 4294967305 ∷ 4294967306 ∷ 4294967301 ∷ 4294967302 ∷ 3 ∷ 3 ∷ []
unfolding replied text
replies = refl
