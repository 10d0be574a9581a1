-- Document 01, "Frames", with document 02's CR 1: one line of the input, the refusals 20 to 26 of which "the lowest number" is given, and what a good
-- line adds. Assumes nothing.
use Rattle.std.specs.Prelude.{Bool, cond, ◌&&◌, ◌||◌, List, ◌++◌, ℕ, eqb, leb, length, take, drop}
use Rattle.rules.specs.declared.Settings.{Settings}
use Rattle.decoding.specs.Digits.{bytes_in}
use Rattle.decoding.specs.Reading.{Frame, frame_in}
use Rattle.pieces.specs.Letters.{piece_number, letters_in}
use Rattle.readers.specs.Readers.{job_in}

-- what the good lines so far have said. The turn is 0 before the job, 1 in the first sequence, 2 in the second, 3 after the end
pub record Progress : Type 0 where
  pub turn : ℕ
  pub settings : Settings
  pub first : List ℕ
  pub second : List ℕ

-- 23: "kind not 01 to 04"
unfoldable pub known_kind : ℕ → Bool
known_kind kind = leb 1 kind && leb kind 4

-- 24: "frame out of turn, anything after the end"
unfoldable pub in_turn : ℕ → ℕ → Bool
in_turn turn kind = cond (eqb kind 1) (eqb turn 0) (cond (eqb kind 2) (eqb turn 1) (eqb turn 1 || eqb turn 2))

-- 20 to 24
unfoldable pub frame_number : ℕ → Frame → ℕ
unfolding known_kind in_turn
frame_number turn f = cond (eqb f.number 0) (cond (known_kind f.kind) (cond (in_turn turn f.kind) 0 24) 23) f.number

-- the payload of a line
unfoldable pub payload_in : List ℕ → List ℕ
unfolding frame_in bytes_in
payload_in line = take (frame_in line).size (drop 2 (bytes_in line))

-- 25: "payload size wrong for its kind"
unfoldable pub size_number : Bool → ℕ
size_number right = cond right 0 25

-- a job has 7 bytes or, with CR 1, 8: "a job of 8 payload bytes ends with the strand". Any strand is read, and one not 0 or 1 refused later, with 9
unfoldable pub job_size : ℕ → Bool
job_size size = eqb size 7 || eqb size 8

-- 25 and 26, by the kind. An end has no bytes
unfoldable pub payload_number : Progress → ℕ → List ℕ → ℕ
unfolding size_number job_size piece_number
payload_number p kind payload =
    cond (eqb kind 1) (size_number (job_size (length payload)))
    (cond (eqb kind 2) (piece_number payload (length p.first))
    (cond (eqb kind 3) (piece_number payload (length p.second)) (size_number (eqb (length payload) 0))))

-- what is wrong with a line, the lowest number first; 0 where nothing is
unfoldable pub line_number : Progress → List ℕ → ℕ
unfolding frame_in frame_number payload_number payload_in
line_number p line =
    let n = frame_number p.turn (frame_in line) in
    cond (eqb n 0) (payload_number p (frame_in line).kind (payload_in line)) n

-- what a good line adds
unfoldable pub after : Progress → List ℕ → Progress
unfolding frame_in bytes_in payload_in letters_in job_in
after p line =
    let kind = (frame_in line).kind in
    let letters = letters_in (payload_in line) in
    cond (eqb kind 1) (record { turn = 1; settings = job_in (frame_in line).size (bytes_in line); first = p.first; second = p.second })
    (cond (eqb kind 2) (record { turn = 1; settings = p.settings; first = p.first ++ letters; second = p.second })
    (cond (eqb kind 3) (record { turn = 2; settings = p.settings; first = p.first; second = p.second ++ letters })
    (record { turn = 3; settings = p.settings; first = p.first; second = p.second })))
