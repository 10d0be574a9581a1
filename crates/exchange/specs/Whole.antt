-- Document 01, "Frames": "The program `chain` reads this on standard input and writes the entries and one done frame, or one refused frame alone." "Input
-- refusals come before 1 to 8, with sequence 0 and as detail the line counted from 1". Assumes nothing.
use Rattle.std.specs.Prelude.{cond, List, ℕ, eqb, leb, length}
use Rattle.kinds.specs.declared.Refused.{Refused}
use Rattle.kinds.specs.Kinds.{refused_line}
use Rattle.input.specs.Grammar.{InputRead, input_of}
use Rattle.lines.specs.Writing.{in_front}
use Rattle.output.specs.Output.{job_output}

unfoldable pub input_refusal : InputRead → Refused
input_refusal x = record { number = x.number; sequence = 0; detail = x.line }

unfoldable pub output_of : List ℕ → List ℕ
unfolding input_of job_output refused_line input_refusal
output_of input =
    let r = input_of input in
    cond (eqb r.answer.number 0) (job_output r.answer.settings r.first r.second) (refused_line (input_refusal r.answer))

-- a slice that holds every output: 333 entries of 27 bytes and a done frame of 47. A shorter one is left as it is, and 0 is answered
unfoldable pub output_length : List ℕ → List ℕ → ℕ
unfolding output_of
output_length input output = cond (leb 9038 (length output)) (length (output_of input)) 0

unfoldable pub output_left : List ℕ → List ℕ → List ℕ
unfolding output_of in_front
output_left input output = cond (leb 9038 (length output)) (in_front (output_of input) output) output
