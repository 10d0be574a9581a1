-- A job's payload is the front of the eight bytes that hold all its numbers: the first seven where its strand is 0, else all of them. Assumes nothing.
use mathlib.Core.Path.{◌≡◌, refl, ap}
use mathlib.Core.Bool.{Bool, true, false}
use mathlib.Core.List.{List, ◌++◌, append-nil}
use Prim.Native.Nat.{ℕ, ◌≤◌}
use native.Mathlib.Omega.{arith}
use lib.Dec.{eqb}
use lib.ListN.{length, take}
use borrow.Author.Tests.{ne_eqb, eqb-true, eqb-false}
use Rattle.rules.specs.declared.Settings.{Settings}
use Rattle.decoding.proofs.RoundTrip.{Bytes, bytes_append}
use Rattle.payloads.specs.Numbers.{number_bytes}
use Rattle.payloads.proofs.Numbers.{number_bytes_lem}
use Rattle.kinds.specs.Kinds.{job_numbers, job_payload}

-- all numbers of a job, the strand last
abbrev pub job_bytes : Settings → List ℕ
job_bytes c = job_numbers c ++ number_bytes 1 c.strand

-- the two forms of a job
pub data JobForm (c : Settings) : Type 0 where
  forward : c.strand ≡ 0 → job_payload c ≡ job_numbers c → JobForm c
  stranded : (c.strand ≡ 0 → ⊥) → job_payload c ≡ job_bytes c → JobForm c

module _ (c : Settings) where
  forward_payload : c.strand ≡ 0 → job_payload c ≡ job_numbers c
  unfolding job_payload
  forward_payload z = rw z (append-nil (job_numbers c))

  stranded_payload : (c.strand ≡ 0 → ⊥) → job_payload c ≡ job_bytes c
  unfolding job_payload
  stranded_payload n = rw (ne_eqb c.strand 0 n)

  pub job_form : JobForm c
  job_form = go (eqb c.strand 0) refl
    where
      go : (t : Bool) → eqb c.strand 0 ≡ t → JobForm c
      go true e = let z = eqb-true c.strand 0 e in forward z (forward_payload z)
      go false e = let n = eqb-false c.strand 0 e in stranded n (stranded_payload n)

  pub forward_size : c.strand ≡ 0 → length (job_payload c) ≡ 7
  unfolding job_numbers number_bytes
  forward_size z = ap length (forward_payload z)

  pub stranded_size : (c.strand ≡ 0 → ⊥) → length (job_payload c) ≡ 8
  unfolding job_numbers number_bytes
  stranded_size n = ap length (stranded_payload n)

  pub job_short : length (job_payload c) ≤ 8
  job_short = go job_form
    where
      go : JobForm c → length (job_payload c) ≤ 8
      go (forward z e) = omega (arith, forward_size z)
      go (stranded n e) = omega (arith, stranded_size n)

  pub job_few : length (job_payload c) ≤ 64
  job_few = omega (arith, job_short)

  pub job_front : {bytes : List ℕ} {size : ℕ} → bytes ≡ job_bytes c → size ≡ length (job_payload c) → take size bytes ≡ job_payload c
  unfolding job_numbers number_bytes
  job_front eb es = rw (eb, es) (go job_form)
    where
      go : JobForm c → take (length (job_payload c)) (job_bytes c) ≡ job_payload c
      go (forward z e) = rw (forward_size z) (rw e)
      go (stranded n e) = rw (stranded_size n) (rw e)

  pub job_are_bytes : Bytes (job_payload c)
  unfolding job_numbers
  job_are_bytes = go job_form
    where
      numbers : Bytes (job_numbers c)
      numbers = bytes_append (bytes_append (bytes_append (number_bytes_lem 1 c.k) (number_bytes_lem 2 c.b)) (number_bytes_lem 2 c.a)) (number_bytes_lem 2 c.m)

      go : JobForm c → Bytes (job_payload c)
      go (forward z e) = rw e numbers
      go (stranded n e) = rw e (bytes_append numbers (number_bytes_lem 1 c.strand))
