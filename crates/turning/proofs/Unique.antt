-- A turned index is fixed: every number is, by the index of the codes read backwards or as it was. Assumes nothing.
use mathlib.Core.Path.{◌≡◌, sym, ◌∙◌}
use mathlib.Core.List.{List, reverse}
use Prim.Native.Nat.{ℕ}
use Rattle.requests.specs.Index.{kmer_places}
use Rattle.requests.proofs.IndexPass.{indexed_at}
use Rattle.requests.proofs.Backwards.{kmers_back}
use Rattle.order.proofs.Cases.{one_list}
use Rattle.ownership.specs.Owners.{Kept}
use Rattle.index.specs.Keys.{Indexed}
use native.Mathlib.Omega.{arith}

-- any two results of `turning::turn_index` are equal
pub turned_one : (codes : List ℕ) {keys out₀ x y : List ℕ} → Indexed (reverse codes) x keys × Kept out₀ x (kmer_places codes) → Indexed (reverse codes) y keys × Kept out₀ y (kmer_places codes)
    → x ≡ y
turned_one codes {keys} {out₀} {x} {y} (ix, kx) (iy, ky) =
    let count = kmers_back codes in
    one_list (kmer_places codes) kx.long ky.long
    (λ q l. sym (indexed_at (reverse codes) x ix.begins q (omega arith)) ∙ indexed_at (reverse codes) y iy.begins q (omega arith))
    (λ q l. kx.others q l ∙ sym (ky.others q l))
