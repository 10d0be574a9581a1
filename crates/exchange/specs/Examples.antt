-- Document 01, "Examples in the registry": P1 through `chain`, and with k 0. Assumes nothing.
use Rattle.std.specs.Prelude.{◌≡◌, refl, ◌++◌}
use Rattle.rules.specs.Lists.{text}
use Rattle.lines.specs.Writing.{fed}
use Rattle.exchange.specs.Whole.{output_of}

pub P1_through_chain : output_of (fed (text "010702000200080000EC") ++ fed (text "020312248045") ++ fed (text "030312448024") ++ fed (text "0400FC"))
    ≡ fed (text "100A00010005000100050003D7") ++ fed (text "11140000000100000003000000020000000000000002D3")
unfolding output_of text
P1_through_chain = refl

pub k_0_through_chain : output_of (fed (text "010700000200080000EE") ++ fed (text "020312248045") ++ fed (text "030312448024") ++ fed (text "0400FC"))
    ≡ fed (text "1F06010000000000DA")
unfolding output_of text
k_0_through_chain = refl

-- CR 1: P1 over both strands, whose job line has 8 payload bytes, and with a strand that there is not
pub both_through_chain : output_of (fed (text "01080200020008000001EA") ++ fed (text "020312248045") ++ fed (text "030312448024") ++ fed (text "0400FC"))
    ≡ fed (text "100A00010005000100050003D7") ++ fed (text "120A00010005000100050004D4") ++ fed (text "11140000000200000007000000030000000000000007C8")
unfolding output_of text
both_through_chain = refl

pub strand_2_through_chain : output_of (fed (text "01080200020008000002E9") ++ fed (text "020312248045") ++ fed (text "030312448024") ++ fed (text "0400FC"))
    ≡ fed (text "1F06090000000000D2")
unfolding output_of text
strand_2_through_chain = refl
