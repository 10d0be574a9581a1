-- An index that is built is what its contract says and no other. Assumes nothing.
use Rattle.std.proofs.Common.{◌≡◌, ℕ, List, Result, ap}
use Rattle.requests.specs.Index.{Built, left_index}
use Rattle.answers.specs.declared.refusal.Refusal.{Refusal}
use Rattle.answers.specs.Outcomes.{built_of}
use Rattle.answers.proofs.Unique.{one_built}

-- any two results of `building::build_index` are equal, and so are the slices that it leaves
pub one_index : {r s : Result ℕ Refusal} {index index' : List ℕ} → left_index (built_of r) index ≡ left_index (built_of s) index'
    → (r ≡ s) × (index ≡ index')
one_index e = (one_built (ap (λ (o : Built). o.answer) e), ap (λ (o : Built). o.index) e)
