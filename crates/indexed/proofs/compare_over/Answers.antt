-- `indexed::compare_over` meets its contract: it refuses by the checks, or for the slice, or is the plain job. Assumes nothing.
use Rattle.refusals.proofs.Checking.{accepted}
use Rattle.compare.proofs.Entries.{number_passed, fits, compares}
use Rattle.indexed.proofs.Over.{refuses_over, wrong_compare, right_compare, fits_first}
use Rattle.indexed.proofs.compare_over.Goals as goal

pub returns-in_err-coded : goal.returns-in_err-coded
returns-in_err-coded c = refuses_over _ _ _ _ c.in_err-coded.field-0.0 c.from_residual.result c.from_residual.ensures.1 c.in_err-coded.ensures _ _

pub look_up-requires : goal.look_up-requires
look_up-requires c =
    let ok = accepted _ _ _ (number_passed _ _ _ c.in_ok-coded.ensures) in
    record { le_k = ok.some_base; k_bound = ok.few_bases; second_len_bound = ok.short_second }

pub returns-in_err-lookup : goal.returns-in_err-lookup
returns-in_err-lookup c =
    wrong_compare _ _ _ _ c.in_err-lookup.field-0.0 c.from_residual-in_err-lookup.result c.from_residual-in_err-lookup.ensures.1 c.in_ok-coded.ensures c.in_err-lookup.ensures _ _

pub compare_indexed-requires : goal.compare_indexed-requires
compare_indexed-requires c =
    record {
      fits = fits _ _ _ c.in_ok-coded.ensures;
      fits_first = fits_first _ _ _ c.in_ok-coded.ensures;
      codes_value = c.in_ok-lookup.ensures.codes_are;
    }

pub returns : goal.returns
returns c = right_compare _ _ _ _ c.in_ok-lookup.ensures _ _ (compares _ _ _ c.in_ok-coded.ensures _ _ c.compare_indexed.ensures)
