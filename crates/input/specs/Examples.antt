-- Document 01, "Examples in the registry": the input of P1, and what the readings of its refusals come to on it. CR 1: P1 over both strands. Assumes
-- nothing.
use Rattle.std.specs.Prelude.{◌≡◌, refl, List, [], ◌∷◌, ◌++◌, ℕ}
use Rattle.rules.specs.Lists.{text, laid}
use Rattle.rules.specs.Entered.{settings}
use Rattle.lines.specs.Writing.{fed}
use Rattle.input.specs.Grammar.{Outcome, refused_input, input_of}

abbrev pub job : List ℕ
unfolding text
job = text "010702000200080000EC"

abbrev pub first : List ℕ
unfolding text
first = text "020312248045"

abbrev pub second : List ℕ
unfolding text
second = text "030312448024"

abbrev pub end : List ℕ
unfolding text
end = text "0400FC"

-- P1 with a strand, as it is read
abbrev pub P1_read : ℕ → Outcome
unfolding text
P1_read strand =
    record {
      answer = record { number = 0; line = 0; settings = settings 2 2 8 0 strand 0; first = 5; second = 5 };
      first = text "ACCGT";
      second = text "ACGGT";
    }

pub P1 : input_of (laid fed (job ∷ first ∷ second ∷ end ∷ [])) ≡ P1_read 0
unfolding input_of text laid
P1 = refl

-- 24: no bytes at all, no end, and a frame after the end
pub nothing : (input_of []).answer ≡ refused_input 24 1
unfolding input_of
nothing = refl

pub no_end : (input_of (laid fed (job ∷ first ∷ second ∷ []))).answer ≡ refused_input 24 4
unfolding input_of text laid
no_end = refl

pub two_ends : (input_of (laid fed (job ∷ end ∷ end ∷ []))).answer ≡ refused_input 24 3
unfolding input_of text laid
two_ends = refl

-- 24: the second sequence before the first
pub out_of_turn : (input_of (laid fed (job ∷ second ∷ first ∷ end ∷ []))).answer ≡ refused_input 24 3
unfolding input_of text laid
out_of_turn = refl

-- 20 comes before 24: text after the end, a last line without its line feed, lower case
pub text_after : (input_of (laid fed (job ∷ end ∷ text "end" ∷ []))).answer ≡ refused_input 20 3
unfolding input_of text laid
text_after = refl

pub no_feed : (input_of (laid fed (job ∷ first ∷ second ∷ []) ++ end)).answer ≡ refused_input 20 4
unfolding input_of text laid
no_feed = refl

pub lower_case : (input_of (laid fed (text "0400fc" ∷ []))).answer ≡ refused_input 20 1
unfolding input_of text laid
lower_case = refl

-- 25: a 0 code before the last half, and an odd last half in the middle of a sequence is no such code
pub zero_code : (input_of (laid fed (job ∷ text "02021001EB" ∷ end ∷ []))).answer ≡ refused_input 25 2
unfolding input_of text laid
zero_code = refl

pub odd_pieces : (input_of (laid fed (job ∷ text "020110ED" ∷ text "020120DD" ∷ end ∷ []))).first ≡ text "AC"
unfolding input_of text laid
odd_pieces = refl

-- ---- CR 1: "a job of 8 payload bytes ends with the strand"

pub P1_both : input_of (laid fed (text "01080200020008000001EA" ∷ first ∷ second ∷ end ∷ [])) ≡ P1_read 1
unfolding input_of text laid
P1_both = refl

-- a strand of 0 may be written out, and one of 2 is read as it is
pub strand_0 : input_of (laid fed (text "01080200020008000000EB" ∷ first ∷ second ∷ end ∷ [])) ≡ P1_read 0
unfolding input_of text laid
strand_0 = refl

pub strand_2 : input_of (laid fed (text "01080200020008000002E9" ∷ first ∷ second ∷ end ∷ [])) ≡ P1_read 2
unfolding input_of text laid
strand_2 = refl

-- 25: jobs of 9 bytes and of 6
pub nine_bytes : (input_of (laid fed (text "0109020002000800000100E9" ∷ end ∷ []))).answer ≡ refused_input 25 1
unfolding input_of text laid
nine_bytes = refl

pub six_bytes : (input_of (laid fed (text "0106020002000800ED" ∷ end ∷ []))).answer ≡ refused_input 25 1
unfolding input_of text laid
six_bytes = refl
