-- Document 01, "Examples in the registry": the lines of P1 through `chain`, of k 0 and, by CR 1, of P1 over both strands, written and read over the C
-- boundary; and what it refuses there. Assumes nothing.
use Rattle.std.specs.Prelude.{◌≡◌, refl, List, [], ◌∷◌, ◌++◌, map, ℕ, ◌+◌, length, replicate}
use Prim.Native.String.{String}
use Rattle.rules.specs.Lists.{text}
use Rattle.lines.specs.Writing.{fed}
use Rattle.kinds.specs.Examples.{dots}
use Rattle.frames.specs.Frames.{frame_reply, frame_left, FrameRead, read_frame}

-- ---- written

-- the reply, and the slice afterwards
pub record Outcome : Type 0 where
  pub reply : ℕ
  pub left : List ℕ

-- what is asked for, in a slice that is full of dots, and what comes of it
pub record Writing : Type 0 where
  pub kind : ℕ
  pub values : List ℕ
  pub room : ℕ
  pub given : Outcome

-- a line with two dots behind it
abbrev pub writes : ℕ → List ℕ → String → Writing
unfolding text
writes kind values line =
    let l = fed (text line) in
    record { kind = kind; values = values; room = length l + 2; given = record { reply = length l; left = l ++ dots 2 } }

-- 27, and the dots as they were
abbrev pub refuses : ℕ → List ℕ → ℕ → Writing
refuses kind values room =
    record { kind = kind; values = values; room = room; given = record { reply = 4294967296 + 27; left = dots room } }

abbrev pub outcome : Writing → Outcome
outcome w =
    record { reply = frame_reply w.kind w.values (dots w.room); left = frame_left w.kind w.values (dots w.room) }

abbrev pub writing_rows : List Writing
writing_rows =
    writes 1 (2 ∷ 2 ∷ 8 ∷ 0 ∷ 0 ∷ []) "010702000200080000EC"
    ∷ writes 1 (2 ∷ 2 ∷ 8 ∷ 0 ∷ 1 ∷ []) "01080200020008000001EA"
    ∷ writes 1 (0 ∷ 2 ∷ 8 ∷ 0 ∷ 0 ∷ []) "010700000200080000EE"
    ∷ writes 2 (1 ∷ 2 ∷ 2 ∷ 4 ∷ 8 ∷ []) "020312248045"
    ∷ writes 3 (1 ∷ 2 ∷ 4 ∷ 4 ∷ 8 ∷ []) "030312448024"
    ∷ writes 4 [] "0400FC"
    ∷ writes 16 (1 ∷ 5 ∷ 1 ∷ 5 ∷ 3 ∷ []) "100A00010005000100050003D7"
    ∷ writes 17 (1 ∷ 3 ∷ 2 ∷ 2 ∷ []) "11140000000100000003000000020000000000000002D3"
    ∷ writes 18 (1 ∷ 5 ∷ 1 ∷ 5 ∷ 4 ∷ []) "120A00010005000100050004D4"
    ∷ writes 31 (1 ∷ 0 ∷ 0 ∷ []) "1F06010000000000DA"
    -- another kind
    ∷ refuses 0 [] 135
    ∷ refuses 5 [] 135
    ∷ refuses 19 (1 ∷ 5 ∷ 1 ∷ 5 ∷ 3 ∷ []) 135
    ∷ refuses 257 (2 ∷ 2 ∷ 8 ∷ 0 ∷ 0 ∷ []) 135
    -- another count of values
    ∷ refuses 1 (2 ∷ 2 ∷ 8 ∷ 0 ∷ []) 135
    ∷ refuses 2 [] 135
    ∷ refuses 4 (0 ∷ []) 135
    ∷ refuses 16 (1 ∷ 5 ∷ 1 ∷ 5 ∷ []) 135
    ∷ refuses 17 (1 ∷ 3 ∷ 2 ∷ 2 ∷ 0 ∷ []) 135
    ∷ refuses 18 (1 ∷ 5 ∷ 1 ∷ 5 ∷ 4 ∷ 0 ∷ []) 135
    ∷ refuses 31 (1 ∷ 0 ∷ []) 135
    -- a value that would fit if its higher bits were cut off
    ∷ refuses 1 (4294967298 ∷ 2 ∷ 8 ∷ 0 ∷ 0 ∷ []) 135
    ∷ refuses 1 (2 ∷ 2 ∷ 8 ∷ 0 ∷ 4294967297 ∷ []) 135
    ∷ refuses 2 (1 ∷ 258 ∷ []) 135
    ∷ refuses 16 (65537 ∷ 5 ∷ 1 ∷ 5 ∷ 3 ∷ []) 135
    -- a slice that is one byte short
    ∷ refuses 4 [] 6
    ∷ refuses 3 (1 ∷ 2 ∷ 4 ∷ 4 ∷ 8 ∷ []) 12
    ∷ []

pub written_frames : map outcome writing_rows ≡ map (λ (w : Writing). w.given) writing_rows
unfolding frame_reply frame_left text
written_frames = refl

-- ---- read

pub record Reading : Type 0 where
  pub kind : ℕ
  pub line : List ℕ
  pub given : FrameRead

abbrev pub reads : ℕ → List ℕ → ℕ → List ℕ → Reading
reads kind line number values = record { kind = kind; line = line; given = record { number = number; values = values } }

abbrev pub reading_rows : List Reading
unfolding text
reading_rows =
    reads 16 (fed (text "100A00010005000100050003D7")) 0 (1 ∷ 5 ∷ 1 ∷ 5 ∷ 3 ∷ [])
    ∷ reads 17 (fed (text "11140000000100000003000000020000000000000002D3")) 0 (1 ∷ 3 ∷ 2 ∷ 2 ∷ 0 ∷ [])
    ∷ reads 18 (fed (text "120A00010005000100050004D4")) 0 (1 ∷ 5 ∷ 1 ∷ 5 ∷ 4 ∷ [])
    ∷ reads 31 (fed (text "1F06010000000000DA")) 0 (1 ∷ 0 ∷ 0 ∷ 0 ∷ 0 ∷ [])
    -- refused: without its line feed, with another length, with another check, of another kind, of another size
    ∷ reads 16 (text "100A00010005000100050003D7") 20 (replicate 5 0)
    ∷ reads 16 (fed (text "100B00010005000100050003D6")) 21 (replicate 5 0)
    ∷ reads 16 (fed (text "100A00010005000100050003D8")) 22 (replicate 5 0)
    ∷ reads 16 (fed (text "120A00010005000100050004D4")) 23 (replicate 5 0)
    ∷ reads 16 (fed (text "1000F0")) 25 (replicate 5 0)
    -- a kind that has no reader
    ∷ reads 1 (fed (text "010702000200080000EC")) 23 (replicate 5 0)
    ∷ reads 4 (fed (text "0400FC")) 23 (replicate 5 0)
    ∷ reads 272 (fed (text "100A00010005000100050003D7")) 23 (replicate 5 0)
    ∷ []

pub read_frames : map (λ (r : Reading). read_frame r.kind r.line) reading_rows ≡ map (λ (r : Reading). r.given) reading_rows
unfolding read_frame text
read_frames = refl
