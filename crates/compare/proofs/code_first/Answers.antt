-- `compare::code_first` meets its contract: the checks refuse, or the codes stand in front of the array. Assumes nothing.
use Rattle.std.proofs.Common.{sym, arith}
use Rattle.answers.proofs.Exits.{number_0}
use Rattle.refusals.proofs.Checking.{number_passes, accepted}
use Rattle.kmers.proofs.Codes.{coded_front, places_few}
use Rattle.compare.proofs.code_first.Goals as goal

pub code_all-rows-requires : goal.code_all-rows-requires
code_all-rows-requires c =
    let ok = accepted c.args.settings c.args.first.now c.args.second.now (number_passes c.in_ok-check.ensures number_0) in
    record { le_k = ok.some_base; k_bound = ok.few_bases; s_len_bound = ok.short_first }

pub returns : goal.returns
returns c =
    let front = coded_front _ _ _ _ c.code_all-rows.ensures.value c.code_all-rows.ensures.out_after in
    record { passed = sym c.in_ok-check.ensures; coded_are = front.front }

pub shared_ref_as_front-result : goal.shared_ref_as_front-result
shared_ref_as_front-result c =
    let ok = accepted c.args.settings c.args.first.now c.args.second.now (number_passes c.in_ok-check.ensures number_0) in
    omega (arith, c.code_all-rows.ensures.value, places_few c.args.settings.k c.args.first.now ok.some_base ok.short_first)
