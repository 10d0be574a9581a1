-- Where W is 0 there is no match, since a match is in the run of its own row. Assumes nothing.
use Rattle.std.proofs.Common.{◌≡◌, ℕ, ◌+◌, ◌≤◌, Bool, T, List, [], length, subst, arith}
use mathlib.Core.List.{Memᴰ}
use Rattle.rules.specs.declared.Cell.{Cell}
use Rattle.rules.specs.Lists.{count}
use Rattle.rules.specs.Matches.{matches_to}
use Rattle.rules.specs.Rooms.{in_run, largest_run}
use Rattle.rules.proofs.Tests.{tests, by_test}
use Rattle.rules.proofs.ListLaws.{empty, largest_to_ge}
use Rattle.rules.proofs.MatchList.{matches_in}
use Rattle.matches.specs.Walks.{walks_to, walked_to, walked, walked_need}

count_some : {A : Type 0} (f : A → Bool) (x : A) (xs : List A) → Memᴰ x xs → T (f x) → 1 ≤ count f xs
unfolding count
count_some {A} f x xs (Memᴰ.head {x = y} {xs = ys} e) t =
    by_test (λ (n : ℕ). 1 ≤ count f ys + n) (f y) 1 0 (λ _. omega arith) (λ k. absurd (k (subst (λ (z : A). T (f z)) e t)))
count_some f x xs (Memᴰ.tail {x = y} {xs = ys} m) t = let h = count_some f x ys m t in omega arith

pub none_needed : (b : ℕ) (firsts nexts : List ℕ) → walked_need b firsts nexts ≡ 0 → walked firsts nexts ≡ []
unfolding walked_need walked walked_to largest_run in_run
none_needed b firsts nexts e = empty cells (λ y m. let i = matches_in (walks_to firsts nexts) (length nexts) rows y m in none y m i.row_from i.row_until)
  where
    rows : ℕ
    rows = length firsts

    cells : List Cell
    cells = matches_to (walks_to firsts nexts) (length nexts) rows

    none : (y : Cell) → Memᴰ y cells → 1 ≤ y.row → y.row ≤ rows → ⊥
    none y m h g =
        let k = count_some (in_run b y.row) y cells m (simp (in_run, tests) (omega arith, omega arith)) in
        let l = largest_to_ge (λ i. count (in_run b i) cells) rows y.row h g in
        omega arith
