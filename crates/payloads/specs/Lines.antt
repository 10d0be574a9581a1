-- Document 01, "Frames": "20, 21, 22, 23 (another kind), 25, in that order". Assumes nothing.
use Rattle.std.specs.Prelude.{cond, List, ℕ, eqb}
use Rattle.decoding.specs.Reading.{frame_in}

-- what is wrong with a line that is to have a kind and so many bytes of payload; 0 where nothing is
unfoldable pub kind_number : ℕ → ℕ → List ℕ → ℕ
unfolding frame_in
kind_number kind size line =
    let f = frame_in line in
    cond (eqb f.number 0) (cond (eqb f.kind kind) (cond (eqb f.size size) 0 25) 23) f.number
