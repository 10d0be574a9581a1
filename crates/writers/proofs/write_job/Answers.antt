-- The line is that of the payload, the front of the bytes that hold all numbers, which is never too long for one. Assumes nothing.
use mathlib.Core.Path.{◌≡◌, sym, ap, ◌∙◌}
use native.Mathlib.Omega.{arith}
use lib.ListN.{length, take}
use Rattle.kinds.specs.Kinds.{job_payload, job_line}
use Rattle.writers.proofs.Writers.{short_payload}
use Rattle.kinds.proofs.Jobs.{job_short, job_few, job_front}
use Rattle.writers.proofs.write_job.Goals as goal

pub slice_bounds-payload-end : goal.slice_bounds-payload-end
slice_bounds-payload-end c =
    omega (arith, c.job_size-size.ensures, job_short c.args.job)

pub slice_bounds-write_fitting-end : goal.slice_bounds-write_fitting-end
slice_bounds-write_fitting-end c =
    let front : take c.job_size-size.result c.job_bytes-payload.result ≡ job_payload c.args.job = job_front c.args.job c.job_bytes-payload.ensures c.job_size-size.ensures in
    c.job_size-size.ensures ∙ ap length (sym front)

pub returns : goal.returns
unfolding job_line
returns c =
    let front : take c.job_size-size.result c.job_bytes-payload.result ≡ job_payload c.args.job = job_front c.args.job c.job_bytes-payload.ensures c.job_size-size.ensures in
    let both = short_payload 1 (job_payload c.args.job) _ c.args.out.now _ _ _ _ c.job_fits.ensures front (job_few c.args.job) c.write_fitting.ensures.value
    c.write_fitting.ensures.out_after in
    record { value = both.0; out_after = both.1 }
