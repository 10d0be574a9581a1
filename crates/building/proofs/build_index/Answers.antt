-- It refuses by the checks, or builds from the codes of its own letters. Assumes nothing.
use Rattle.std.proofs.Common.{refl, ap, ◌∙◌}
use Rattle.rules.specs.Letters.{as_read}
use Rattle.rules.specs.Codes.{codes}
use Rattle.rules.specs.declared.Answer.{Answer}
use Rattle.answers.proofs.Exits.{built_exit, number_0}
use Rattle.answers.proofs.Unique.{refusal_refuses}
use Rattle.requests.specs.Index.{codes_of, left_index}
use Rattle.refusals.proofs.Checking.{number_passes}
use Rattle.kmers.proofs.Codes.{Front, coded_front}
use Rattle.building.proofs.Checking.{index_accepted}
use Rattle.building.proofs.Endings.{ends_refused, ends_built}
use Rattle.building.proofs.build_index.Goals as goal

pub returns-in_err-check : goal.returns-in_err-check
returns-in_err-check c =
    let refusal = c.in_err-check.field-0.0 in
    ap (λ (x : Answer). left_index x c.args.index.now) (built_exit refusal c.from_residual.result c.from_residual.ensures.1 refl)
    ∙ ends_refused c.args.k c.args.mask c.args.second.now c.args.index.now c.in_err-check.ensures (refusal_refuses refusal)

pub slice_bounds-codes-end : goal.slice_bounds-codes-end
slice_bounds-codes-end c =
    let coded : Front (codes c.args.k (as_read c.args.mask c.args.second.now)) c.code_all-columns.new.out c.code_all-columns.result = coded_front c.args.k c.args.mask c.args.second.now _ c.code_all-columns.ensures.value c.code_all-columns.ensures.out_after in
    coded.inside

pub slice_bounds-build_codes-end : goal.slice_bounds-build_codes-end
slice_bounds-build_codes-end c =
    let coded : Front (codes c.args.k (as_read c.args.mask c.args.second.now)) c.code_all-columns.new.out c.code_all-columns.result = coded_front c.args.k c.args.mask c.args.second.now _ c.code_all-columns.ensures.value c.code_all-columns.ensures.out_after in
    coded.long

pub returns : goal.returns
unfolding codes_of
returns c =
    let coded : Front (codes c.args.k (as_read c.args.mask c.args.second.now)) c.code_all-columns.new.out c.code_all-columns.result = coded_front c.args.k c.args.mask c.args.second.now _ c.code_all-columns.ensures.value c.code_all-columns.ensures.out_after in
    ends_built c.args.k c.args.mask c.args.second.now c.args.index.now c.in_ok-check.ensures number_0 coded.front c.build_codes.ensures

pub code_all-columns-requires : goal.code_all-columns-requires
code_all-columns-requires c =
    let ok = index_accepted c.args.k c.args.mask c.args.second.now (number_passes c.in_ok-check.ensures number_0) in
    record { le_k = ok.0; k_bound = ok.1.0; s_len_bound = ok.1.1 }
