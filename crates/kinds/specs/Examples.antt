-- Document 01, "Examples in the registry": the lines of P1 through `chain`, and of k 0. CR 1: those that P1 over both strands has besides. And
-- when a writer "gives 27 and length 0, slice untouched". Assumes nothing.
use Rattle.std.specs.Prelude.{◌≡◌, refl, Bool, true, List, [], ◌∷◌, map, ℕ, ◌-◌, length, replicate}
use Rattle.rules.specs.Lists.{text}
use Rattle.rules.specs.declared.Settings.{Settings}
use Rattle.rules.specs.Entered.{settings}
use Rattle.lines.specs.Writing.{Written, fed, written, leaves}
use Rattle.payloads.specs.Pieces.{codes_fit}
use Rattle.kinds.specs.declared.Entry.{Entry}
use Rattle.kinds.specs.declared.Done.{Done}
use Rattle.kinds.specs.declared.Refused.{Refused}
use Rattle.kinds.specs.Kinds.{job_fits, job_line, piece_line, end_line, entry_fits, entry_line, reverse_line, done_fits, done_line, refused_fits, refused_line}

abbrev P1_settings : ℕ → ℕ → Settings
P1_settings k strand = settings k 2 8 0 strand 0

abbrev pub entry : ℕ → Entry
entry weight = record { first = record { start = 1; end = 5 }; second = record { start = 1; end = 5 }; weight = weight }

pub job_line_lem : job_line (P1_settings 2 0) ≡ fed (text "010702000200080000EC")
unfolding job_line text
job_line_lem = refl

-- ACCGT and ACGGT by their codes
pub first_line : piece_line 1 (1 ∷ 2 ∷ 2 ∷ 4 ∷ 8 ∷ []) ≡ fed (text "020312248045")
unfolding piece_line text
first_line = refl

pub second_line : piece_line 2 (1 ∷ 2 ∷ 4 ∷ 4 ∷ 8 ∷ []) ≡ fed (text "030312448024")
unfolding piece_line text
second_line = refl

pub end_line_lem : end_line ≡ fed (text "0400FC")
unfolding end_line text
end_line_lem = refl

pub entry_line_lem : entry_line (entry 3) ≡ fed (text "100A00010005000100050003D7")
unfolding entry_line text
entry_line_lem = refl

pub done_line_lem : done_line (record { listed = 1; matches = 3; widest = 2; links = 2 }) ≡ fed (text "11140000000100000003000000020000000000000002D3")
unfolding done_line text
done_line_lem = refl

pub job_line_k_0 : job_line (P1_settings 0 0) ≡ fed (text "010700000200080000EE")
unfolding job_line text
job_line_k_0 = refl

pub refused_line_lem : refused_line (record { number = 1; sequence = 0; detail = 0 }) ≡ fed (text "1F06010000000000DA")
unfolding refused_line text
refused_line_lem = refl

-- ---- CR 1

pub job_line_both : job_line (P1_settings 2 1) ≡ fed (text "01080200020008000001EA")
unfolding job_line text
job_line_both = refl

pub reverse_line_lem : reverse_line (entry 4) ≡ fed (text "120A00010005000100050004D4")
unfolding reverse_line text
reverse_line_lem = refl

-- ---- 27

-- what a writer answers, and the slice afterwards
pub record Outcome : Type 0 where
  pub answer : Written
  pub left : List ℕ

-- what is to be written, into a slice full of dots, and what comes of it
pub record Row : Type 0 where
  pub fits : Bool
  pub line : List ℕ
  pub room : ℕ
  pub given : Outcome

abbrev pub dots : ℕ → List ℕ
dots n = replicate n 46

abbrev pub outcome : Row → Outcome
unfolding written leaves
outcome r = record { answer = written r.fits r.line (dots r.room); left = leaves r.fits r.line (dots r.room) }

-- the line fits exactly: 0 and its length
abbrev pub exactly : Bool → List ℕ → Row
exactly fits line =
    record { fits = fits; line = line; room = length line; given = record { answer = record { number = 0; length = length line }; left = line } }

-- 27 in a slice of so many bytes
abbrev pub refuses_in : ℕ → Bool → List ℕ → Row
refuses_in room fits line =
    record { fits = fits; line = line; room = room; given = record { answer = record { number = 27; length = 0 }; left = dots room } }

-- 27 in a slice that holds any line
abbrev pub refuses : Bool → List ℕ → Row
refuses fits line = refuses_in 135 fits line

-- 27 in a slice that is one byte short
abbrev pub short : Bool → List ℕ → Row
short fits line = refuses_in (length line - 1) fits line

abbrev pub job : (Bool → List ℕ → Row) → Settings → Row
job answers c = answers (job_fits c) (job_line c)

abbrev pub piece : (Bool → List ℕ → Row) → ℕ → List ℕ → Row
piece answers sequence codes = answers (codes_fit codes) (piece_line sequence codes)

-- an entry of either strand
abbrev pub of_strand : (Bool → List ℕ → Row) → (Entry → List ℕ) → ℕ → ℕ → ℕ → ℕ → ℕ → Row
of_strand answers line a b c d weight =
    let x : Entry = record { first = record { start = a; end = b }; second = record { start = c; end = d }; weight = weight } in
    answers (entry_fits x) (line x)

abbrev pub done : (Bool → List ℕ → Row) → ℕ → ℕ → ℕ → ℕ → Row
done answers listed matches widest links =
    let x : Done = record { listed = listed; matches = matches; widest = widest; links = links } in
    answers (done_fits x) (done_line x)

abbrev pub refused : (Bool → List ℕ → Row) → ℕ → ℕ → ℕ → Row
refused answers number sequence detail =
    let x : Refused = record { number = number; sequence = sequence; detail = detail } in
    answers (refused_fits x) (refused_line x)

abbrev pub writing_rows : List Row
writing_rows =
    -- "a value does not fit its field": each at its field's end, and one past it
    job exactly (settings 255 65535 65535 65535 255 0)
    ∷ job refuses (settings 256 65535 65535 65535 255 0)
    ∷ job refuses (settings 255 65536 65535 65535 255 0)
    ∷ job refuses (settings 255 65535 65536 65535 255 0)
    ∷ job refuses (settings 255 65535 65535 65536 255 0)
    ∷ job refuses (settings 255 65535 65535 65535 256 0)
    -- CR 5: a job whose masked letters break k-mers has no frame
    ∷ job refuses (settings 2 2 8 0 0 1)
    ∷ job refuses (settings 2 2 8 0 1 4294967295)
    ∷ of_strand exactly entry_line 65535 65535 65535 65535 65535
    ∷ of_strand refuses entry_line 65536 65535 65535 65535 65535
    ∷ of_strand refuses entry_line 65535 65536 65535 65535 65535
    ∷ of_strand refuses entry_line 65535 65535 65536 65535 65535
    ∷ of_strand refuses entry_line 65535 65535 65535 65536 65535
    ∷ of_strand refuses entry_line 65535 65535 65535 65535 65536
    ∷ of_strand exactly reverse_line 65535 65535 65535 65535 65535
    ∷ of_strand refuses reverse_line 65535 65535 65535 65535 65536
    ∷ done exactly 4294967295 4294967295 4294967295 18446744073709551615
    ∷ done refuses 4294967296 4294967295 4294967295 18446744073709551615
    ∷ done refuses 4294967295 4294967296 4294967295 18446744073709551615
    ∷ done refuses 4294967295 4294967295 4294967296 18446744073709551615
    ∷ refused exactly 255 255 4294967295
    ∷ refused refuses 256 255 4294967295
    ∷ refused refuses 255 256 4294967295
    ∷ refused refuses 255 255 4294967296
    -- "1 to 128 codes from 1 to 15"
    ∷ piece refuses 1 []
    ∷ piece exactly 1 (1 ∷ [])
    ∷ piece exactly 1 (replicate 128 15)
    ∷ piece refuses 1 (replicate 129 15)
    ∷ piece refuses 2 (1 ∷ 0 ∷ [])
    ∷ piece exactly 2 (1 ∷ 15 ∷ [])
    ∷ piece refuses 2 (1 ∷ 16 ∷ [])
    -- "the slice is shorter than the line with its line feed"
    ∷ job short (settings 2 2 8 0 0 0)
    ∷ piece short 1 (replicate 128 15)
    ∷ short true end_line
    ∷ exactly true end_line
    ∷ of_strand short entry_line 1 5 1 5 3
    ∷ of_strand short reverse_line 1 5 1 5 4
    ∷ done short 1 3 2 2
    ∷ refused short 1 0 0
    ∷ []

pub writing_examples : map outcome writing_rows ≡ map (λ (r : Row). r.given) writing_rows
unfolding written leaves job_fits job_line codes_fit piece_line end_line entry_fits entry_line reverse_line done_fits done_line refused_fits refused_line
writing_examples = refl
