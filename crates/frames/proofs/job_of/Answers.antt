-- A value of more than 32 bits fits no field of a job. Assumes nothing.
use Rattle.std.proofs.Common.{arith}
use Rattle.std.proofs.lemmas.Result.{err_from_is_err_and}
use Rattle.frames.specs.Frames.{job_of}
use Rattle.frames.proofs.Frames.{wide_job}
use Rattle.frames.proofs.job_of.Goals as goal

pub returns-in_err-try_from : goal.returns-in_err-try_from
unfolding job_of
returns-in_err-try_from c =
    let p = err_from_is_err_and c.from_residual.result c.from_residual.ensures.1 in
    rw p.1 (p.2, λ n. wide_job _ (λ w. c.in_err-try_from.ensures (omega (arith, w.k_fits))))

pub returns-in_err-try_from-2 : goal.returns-in_err-try_from-2
unfolding job_of
returns-in_err-try_from-2 c =
    let p = err_from_is_err_and c.from_residual-in_err-try_from-2.result c.from_residual-in_err-try_from-2.ensures.1 in
    rw p.1 (p.2, λ n. wide_job _ (λ w. c.in_err-try_from-2.ensures (omega (arith, w.b_fits))))

pub returns-in_err-try_from-3 : goal.returns-in_err-try_from-3
unfolding job_of
returns-in_err-try_from-3 c =
    let p = err_from_is_err_and c.from_residual-in_err-try_from-3.result c.from_residual-in_err-try_from-3.ensures.1 in
    rw p.1 (p.2, λ n. wide_job _ (λ w. c.in_err-try_from-3.ensures (omega (arith, w.a_fits))))

pub returns-in_err-try_from-4 : goal.returns-in_err-try_from-4
unfolding job_of
returns-in_err-try_from-4 c =
    let p = err_from_is_err_and c.from_residual-in_err-try_from-4.result c.from_residual-in_err-try_from-4.ensures.1 in
    rw p.1 (p.2, λ n. wide_job _ (λ w. c.in_err-try_from-4.ensures (omega (arith, w.m_fits))))

pub returns-in_err-try_from-5 : goal.returns-in_err-try_from-5
unfolding job_of
returns-in_err-try_from-5 c =
    let p = err_from_is_err_and c.from_residual-in_err-try_from-5.result c.from_residual-in_err-try_from-5.ensures.1 in
    rw p.1 (p.2, λ n. wide_job _ (λ w. c.in_err-try_from-5.ensures (omega (arith, w.strand_fits))))

pub returns : goal.returns
unfolding job_of
returns c = (
  omega arith,
  λ i. record {
    k = c.in_ok-try_from.ensures.1 i;
    b = c.in_ok-try_from-2.ensures.1 i;
    a = c.in_ok-try_from-3.ensures.1 i;
    m = c.in_ok-try_from-4.ensures.1 i;
    strand = c.in_ok-try_from-5.ensures.1 i;
    mask = 0;
  },
)
