-- The entries of a list room, read back by sixes, are those that were laid out in it: each has six numbers. Assumes nothing.
use mathlib.Core.Path.{◌≡◌, refl, sym, ap, ◌∙◌}
use mathlib.Core.List.{List, [], ◌∷◌, ◌++◌, append_assoc, Memᴰ}
use Prim.Native.Nat.{ℕ, zero, suc, ◌+◌, ◌*◌, ◌≤◌, ◌<◌}
use native.Mathlib.Omega.{arith}
use lib.ListN.{length, get_or, take, drop, length-append}
use lib.Seq.{take-suc, split_at, get_or-append-add, take_all}
use Rattle.rules.specs.Lists.{laid}
use Rattle.rules.proofs.ListLaws.{mem_at, laid_append}
use Rattle.output.specs.Entries.{entry_in, entries_in}

-- six numbers, one by one
six : (e rest : List ℕ) → length e ≡ 6
    → get_or (e ++ rest) 0 0 ∷ get_or (e ++ rest) 1 0 ∷ get_or (e ++ rest) 2 0 ∷ get_or (e ++ rest) 3 0 ∷ get_or (e ++ rest) 4 0 ∷ get_or (e ++ rest) 5 0 ∷ [] ≡ e
six [] rest h = absurd (omega arith)
six (a ∷ []) rest h = absurd (omega arith)
six (a ∷ b ∷ []) rest h = absurd (omega arith)
six (a ∷ b ∷ c ∷ []) rest h = absurd (omega arith)
six (a ∷ b ∷ c ∷ d ∷ []) rest h = absurd (omega arith)
six (a ∷ b ∷ c ∷ d ∷ e ∷ []) rest h = absurd (omega arith)
six (a ∷ b ∷ c ∷ d ∷ e ∷ f ∷ []) rest h = refl
six (a ∷ b ∷ c ∷ d ∷ e ∷ f ∷ g ∷ more) rest h = absurd (omega arith)

-- the entry behind some numbers
entry_behind : (before e rest : List ℕ) (n : ℕ) → length before ≡ 6 * n → length e ≡ 6 → entry_in (before ++ (e ++ rest)) n ≡ e
unfolding entry_in
entry_behind before e rest n l h =
    let at : (i : ℕ) → get_or (before ++ (e ++ rest)) (6 * n + i) 0 ≡ get_or (e ++ rest) i 0 =
    λ i. ap (λ (k : ℕ). get_or (before ++ (e ++ rest)) (k + i) 0) (sym l) ∙ get_or-append-add before (e ++ rest) i 0 in
    let z : 6 * n ≡ 6 * n + 0 = omega arith in
    let first : get_or (before ++ (e ++ rest)) (6 * n) 0 ≡ get_or (e ++ rest) 0 0 = ap (λ (k : ℕ). get_or (before ++ (e ++ rest)) k 0) z ∙ at 0 in
    (λ i. first i ∷ at 1 i ∷ at 2 i ∷ at 3 i ∷ at 4 i ∷ at 5 i ∷ []) ∙ six e rest h

module _ (all : List (List ℕ)) (sixes : (e : List ℕ) → Memᴰ e all → length e ≡ 6) where
  -- the numbers before an entry
  before_size : (n : ℕ) → n ≤ length all → length (laid (λ entry. entry) (take n all)) ≡ 6 * n
  unfolding laid
  before_size zero h = refl
  before_size (suc n) h =
      let e = get_or all n [] in
      ap (λ (l : List (List ℕ)). length (laid (λ entry. entry) l)) (take-suc all n [] h)
      ∙ ap length (laid_append (λ (entry : List ℕ). entry) (take n all) (e ∷ []))
      ∙ omega (
        arith,
        length-append (laid (λ entry. entry) (take n all)) (e ++ []),
        length-append e [],
        before_size n (omega arith),
        sixes e
            (mem_at all n [] h),
      )

  module _ (room tail : List ℕ) (is : room ≡ laid (λ entry. entry) all ++ tail) where
    pub entry_there : (n : ℕ) → n < length all → entry_in room n ≡ get_or all n []
    unfolding laid
    entry_there n h =
        let before = take n all in
        let e = get_or all n [] in
        let after = drop (suc n) all in
        let front = laid (λ entry. entry) before in
        let whole : laid (λ entry. entry) all ++ tail ≡ front ++ (e ++ (laid (λ entry. entry) after ++ tail)) =
        ap (λ (l : List (List ℕ)). laid (λ entry. entry) l ++ tail) (split_at all n [] h)
        ∙ ap (λ (l : List ℕ). l ++ tail) (laid_append (λ (entry : List ℕ). entry) before (e ∷ after))
        ∙ append_assoc front (e ++ laid (λ entry. entry) after) tail
        ∙ ap (λ (l : List ℕ). front ++ l) (append_assoc e (laid (λ entry. entry) after) tail) in
        ap (λ (l : List ℕ). entry_in l n) (is ∙ whole)
        ∙ entry_behind front e (laid (λ entry. entry) after ++ tail) n (before_size n (omega arith)) (sixes e (mem_at all n [] h))

    entries_to : (n : ℕ) → n ≤ length all → entries_in room n ≡ take n all
    unfolding entries_in
    entries_to zero h = refl
    entries_to (suc n) h = rw (take-suc all n [] h, ← entry_there n h, ← entries_to n (omega arith))

    -- so all of them are
    pub entries_back : entries_in room (length all) ≡ all
    entries_back = entries_to (length all) (omega arith) ∙ take_all (length all) all (omega arith)
