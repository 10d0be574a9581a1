-- The ways that building ends. Assumes nothing.
use mathlib.Core.Path.{◌≡◌, sym, ap, ◌∙◌}
use mathlib.Core.List.{List}
use Prim.Native.Nat.{ℕ, ◌<◌, ◌≤◌}
use native.Mathlib.Omega.{arith}
use lib.ListN.{length}
use Rattle.rules.specs.declared.Answer.{Answer}
use Rattle.rules.specs.Lists.{then_zeros, zeros}
use Rattle.rules.specs.Answers.{refusal, done}
use Rattle.requests.specs.Index.{index_of_codes, kmer_places, codes_of, Built, left_index, checked_index, building_index, built_index}
use Rattle.requests.proofs.OverIndex.{builds_11, builds_0, builds_refused, builds_checked}
use Rattle.refusals.proofs.Checking.{number_passes, number_refuses}

module _ (codes room : List ℕ) {index : List ℕ} {r : Answer} {n : ℕ} (count : n ≡ kmer_places codes) where
  pub ends_11 : length room < n → r ≡ refusal 11 0 n → index ≡ zeros room → left_index r index ≡ building_index codes room
  ends_11 h e f = (λ i. left_index ((e ∙ ap (refusal 11 0) count) i) (f i)) ∙ sym (builds_11 codes room (omega arith))

  pub ends_0 : n ≤ length room → r ≡ done n 0 0 0 → index ≡ then_zeros (index_of_codes codes) (length room) → left_index r index ≡ building_index codes room
  ends_0 h e f = (λ i. left_index ((e ∙ ap (λ (m : ℕ). done m 0 0 0) count) i) (f i)) ∙ sym (builds_0 codes room (omega arith))

module _ (k mask : ℕ) (second room : List ℕ) {r : Answer} (e : r ≡ checked_index k mask second) where
  pub ends_refused : (r.number ≡ 0 → ⊥) → left_index r room ≡ built_index k mask second room
  ends_refused h = (λ i. left_index (e i) room) ∙ sym (builds_refused k mask second room (number_refuses e h))

  pub ends_built : {codes : List ℕ} {o : Built} → r.number ≡ 0 → codes ≡ codes_of k mask second → o ≡ building_index codes room → o ≡ built_index k mask second room
  ends_built z d f = f ∙ ap (λ (l : List ℕ). building_index l room) d ∙ sym (builds_checked k mask second room (number_passes e z))
