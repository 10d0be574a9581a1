-- Entries turned back in the list room, one after the other: each is the reverse entry of its record, since entries are six numbers apart. Assumes nothing.
use Rattle.std.proofs.Common.{◌≡◌, ℕ, zero, suc, ◌+◌, ◌*◌, ◌≤◌, List, [], ◌∷◌, ◌++◌, length, get_or, take, drop, set, sym, refl, ap, ◌∙◌, append_assoc, arith, length-set, drop_of_length-le, length-take-le, take_all, drop-cons, take-suc, get_or-append-add}
use Rattle.rules.specs.declared.Record.{Record}
use Rattle.rules.specs.Lists.{laid}
use Rattle.rules.specs.Matches.{cell}
use Rattle.rules.specs.Listing.{ends, entry_numbers}
use Rattle.rules.specs.Strands.{turned, reverse_numbers}
use Rattle.rules.proofs.ListLaws.{laid_snoc, laid_length}
use Rattle.entries.specs.Layout.{turn_entry, turn_entries}

pub turn_length : (letters : ℕ) (list : List ℕ) (n : ℕ) → length (turn_entries letters list n) ≡ length list
unfolding turn_entries turn_entry
turn_length letters list zero = refl
turn_length letters list (suc n) = simp length-set (turn_length letters list n)

-- a store behind other numbers
set_behind : (xs ys : List ℕ) (at n : ℕ) (v : ℕ) → length xs ≡ at → set (xs ++ ys) (at + n) v ≡ xs ++ set ys n v
set_behind [] ys at n v e = let z : at + n ≡ n = omega arith in rw z
set_behind (x ∷ xs) ys zero n v e = absurd (omega arith)
set_behind (x ∷ xs) ys (suc at) n v e = let z : suc at + n ≡ suc (at + n) = omega arith in
    rw z (ap {B = List ℕ} (λ l. x ∷ l) (set_behind xs ys at n v (omega arith)))

get_behind : (xs ys : List ℕ) (at n : ℕ) → length xs ≡ at → get_or (xs ++ ys) (at + n) 0 ≡ get_or ys n 0
get_behind xs ys at n e = ap (λ (k : ℕ). get_or (xs ++ ys) (k + n) 0) (sym e) ∙ get_or-append-add xs ys n 0

abbrev nobody : Record
nobody = record { cell = cell 0 0; weight = 0; start = cell 0 0 }

-- one entry
turn_one : (letters k : ℕ) (x : Record) (front rest : List ℕ) (n : ℕ) → length front ≡ 6 * n
    → turn_entry letters (front ++ (entry_numbers k x ++ rest)) n ≡ front ++ (reverse_numbers letters k x ++ rest)
unfolding turn_entry entry_numbers reverse_numbers
turn_one letters k x front rest n e =
    let u = turned letters (ends k x.cell).column in
    let v = turned letters x.start.column in
    let numbers = entry_numbers k x ++ rest in
    rw (get_behind front numbers (6 * n) 3 e, get_behind front numbers (6 * n) 2 e)
    (ap (λ (l : List ℕ). set (set l (6 * n + 3) v) (6 * n + 5) 1) (set_behind front numbers (6 * n) 2 u e)
    ∙ ap (λ (l : List ℕ). set l (6 * n + 5) 1) (set_behind front (set numbers 2 u) (6 * n) 3 v e)
    ∙ set_behind front (set (set numbers 2 u) 3 v) (6 * n) 5 1 e)

-- ---- all entries

pub reverse_size : (letters k : ℕ) (xs : List Record) → length (laid (reverse_numbers letters k) xs) ≡ 6 * length xs
unfolding reverse_numbers
reverse_size letters k xs = laid_length (reverse_numbers letters k) 6 (λ x. refl) xs ∙ omega arith

module _ (letters k : ℕ) (xs : List Record) (rest : List ℕ) where
  abbrev forward : List Record → List ℕ
  forward = laid (entry_numbers k)

  abbrev reverse : List Record → List ℕ
  reverse = laid (reverse_numbers letters k)

  -- the first n are turned back, and the others are as they were
  turned_to : (n : ℕ) → n ≤ length xs → turn_entries letters (forward xs ++ rest) n ≡ reverse (take n xs) ++ (forward (drop n xs) ++ rest)
  unfolding turn_entries laid
  turned_to zero h = refl
  turned_to (suc n) h =
      let x = get_or xs n nobody in
      let size : length (reverse (take n xs)) ≡ 6 * n = reverse_size letters k (take n xs) ∙ (let l = length-take-le n xs (omega arith) in omega arith) in
      let before = reverse (take n xs) in
      let after = forward (drop (suc n) xs) ++ rest in
      ap (λ (l : List ℕ). turn_entry letters l n) (turned_to n (omega arith))
      ∙ ap (λ (l : List ℕ). turn_entry letters (before ++ l) n)
      (ap (λ (l : List Record). forward l ++ rest) (drop-cons xs n nobody (omega arith)) ∙ append_assoc (entry_numbers k x) (forward (drop (suc n) xs)) rest)
      ∙ turn_one letters k x before after n size
      ∙ sym (append_assoc before (reverse_numbers letters k x) after)
      ∙ ap (λ (l : List ℕ). l ++ after) (sym (laid_snoc (reverse_numbers letters k) (take n xs) x) ∙ ap reverse (sym (take-suc xs n nobody (omega arith))))

  pub turned_all : turn_entries letters (forward xs ++ rest) (length xs) ≡ reverse xs ++ rest
  unfolding laid
  turned_all =
      turned_to (length xs) (omega arith)
      ∙ ap (λ (l : List Record). reverse l ++ (forward (drop (length xs) xs) ++ rest)) (take_all (length xs) xs (omega arith))
      ∙ ap (λ (l : List Record). reverse xs ++ (forward l ++ rest)) (drop_of_length-le xs {i = length xs} (omega arith))
