-- `indexed::look_up` meets its contract: the slice is held against the codes of the second sequence. Assumes nothing.
use Rattle.std.proofs.Common.{arith}
use Rattle.kmers.proofs.Codes.{places_few}
use Rattle.indexed.proofs.Over.{few_codes, is_wrong, is_right, is_counted, is_indexed}
use Rattle.indexed.proofs.look_up.Goals as goal

pub code_all-columns-requires : goal.code_all-columns-requires
code_all-columns-requires c = record { le_k = c.requires.le_k; k_bound = c.requires.k_bound; s_len_bound = c.requires.second_len_bound }

pub shared_ref_as_front-codes : goal.shared_ref_as_front-codes
shared_ref_as_front-codes c =
    omega (arith, c.code_all-columns.ensures.value, places_few c.args.settings.k c.args.second.now c.requires.le_k c.requires.second_len_bound)

pub returns-in-Err : goal.returns-in-Err
returns-in-Err c = is_wrong _ _ _ _ c.code_all-columns.ensures.value c.code_all-columns.ensures.out_after c.check-held.ensures.value c.in-Err.is

pub invariant_of-result : goal.invariant_of-result
invariant_of-result c =
    let few = few_codes c.args.settings c.args.second.now c.args.index.now _ c.code_all-columns.ensures.value c.code_all-columns.ensures.out_after c.check-held.ensures.value c.requires.le_k c.requires.second_len_bound in
    record {
      few = few;
      counted = is_counted c.args.settings c.args.second.now _ _ c.code_all-columns.ensures.value c.code_all-columns.ensures.out_after c.check-held.ensures.value c.in-Ok.is;
      indexed = is_indexed c.args.settings c.args.second.now _ _ c.code_all-columns.ensures.value c.code_all-columns.ensures.out_after c.check-held.ensures.value c.in-Ok.is (omega (arith, few)) c.check-held.ensures.keyed;
    }

pub returns-in-Ok : goal.returns-in-Ok
returns-in-Ok c = is_right _ _ _ _ c.code_all-columns.ensures.value c.code_all-columns.ensures.out_after c.check-held.ensures.value c.in-Ok.is
