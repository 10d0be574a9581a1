-- What stands turned can be read back: a sequence turned twice is itself, and the k letters at a place of the turned sequence are the turned letters at the
-- place that is reported for it. Assumes nothing.
use mathlib.Core.Path.{◌≡◌, refl, sym, ap, ap₂, subst, ◌∙◌}
use mathlib.Core.Bool.{Bool, true, false, cond}
use mathlib.Core.List.Memᴰ
use mathlib.Core.List.{List, [], ◌∷◌, ◌++◌, append-nil, append_assoc, Memᴰ}
use Prim.Native.Nat.{ℕ, zero, suc, ◌+◌, ◌-◌, ◌*◌, ◌≤◌, ◌<◌, max, min}
use native.Mathlib.Omega.{arith}
use borrow.Author.Tests.{eq-eqb, ne_eqb}
use lib.Dec.{T, eqb}
use lib.ListN.{length, take, drop, length-append, length-map, length-take, length-drop, take-append-drop}
use lib.Seq.{take_at, drop_at}
use Rattle.rules.specs.declared.Settings.{Settings}
use Rattle.rules.specs.Entered.{settings}
use Rattle.rules.specs.Lists.{largest_of, laid}
use Rattle.rules.specs.Letters.{code_of, complement, reverse_complement, bad_from, bad_place}
use Rattle.rules.specs.Places.{places, letters_at}
use Rattle.rules.specs.Matches.{Cell, is_match, matches}
use Rattle.rules.specs.Records.{Record, records}
use Rattle.rules.specs.Listing.{ends, entry_numbers, is_listed, listing}
use Rattle.rules.specs.Rooms.{match_total, work_need, link_total}
use Rattle.rules.specs.Strands.{on_strand, strands, turned, reverse_numbers, strand_numbers, strand_entries, entries, ReadsTurned, Within, match_sum}
use Rattle.rules.specs.Strands.{larger_need, link_sum}
use Rattle.rules.proofs.Tests.{tests}
use Rattle.rules.proofs.Letters.{complement_twice}
use Rattle.rules.proofs.Kmers.{kmer_letters}
use Rattle.rules.proofs.Weights.{chain_hit, chain_first, chain_grown}
use Rattle.rules.proofs.Jobs.{match_facts, match_inside, start_of_heaviest}
use Rattle.rules.proofs.ListLaws.{sum_of_times, largest_of_le, largest_of_ge, laid_append, laid_map, laid_in, laid_length}
use Rattle.rules.proofs.Bounds.{W_bound, links_bound}
use Rattle.rules.proofs.Listings.{keep_in}

-- ---- the reverse complement

pub turned_append : (xs ys : List ℕ) → reverse_complement (xs ++ ys) ≡ reverse_complement ys ++ reverse_complement xs
unfolding reverse_complement
turned_append [] ys = sym (append-nil (reverse_complement ys))
turned_append (x ∷ xs) ys =
    ap (λ (l : List ℕ). l ++ (complement x ∷ [])) (turned_append xs ys) ∙ append_assoc (reverse_complement ys) (reverse_complement xs) (complement x ∷ [])

pub turned_length : (s : List ℕ) → length (reverse_complement s) ≡ length s
unfolding reverse_complement
turned_length [] = refl
turned_length (x ∷ xs) = length-append (reverse_complement xs) (complement x ∷ []) ∙ (let e = turned_length xs in omega arith)

-- so it has as many places
pub turned_places : (k : ℕ) (s : List ℕ) → places k (reverse_complement s) ≡ places k s
unfolding places
turned_places k s = ap (λ (n : ℕ). suc n - k) (turned_length s)

twice_from : (n : ℕ) (s : List ℕ) → 0 < n → bad_from n s ≡ 0 → reverse_complement (reverse_complement s) ≡ s
unfolding bad_from reverse_complement
twice_from n [] h e = refl
twice_from n (x ∷ xs) h e = go (eqb (code_of x) 0) refl e (λ b. twice_from (suc n) xs (omega arith) b)
  where
    go : (t : Bool) → eqb (code_of x) 0 ≡ t → cond t n (bad_from (suc n) xs) ≡ 0 → (bad_from (suc n) xs ≡ 0 → reverse_complement (reverse_complement xs) ≡ xs)
        → reverse_complement (reverse_complement xs ++ (complement x ∷ [])) ≡ x ∷ xs
    go true d b ih = absurd (omega arith)
    go false d b ih =
        turned_append (reverse_complement xs) (complement x ∷ [])
        ∙ ap₂ {C = List ℕ} (λ y ys. y ∷ ys) (complement_twice x (let f : ¬ (code_of x ≡ 0) = λ z. subst (λ (t : Bool). T t) d (simp tests z) in omega arith))
        (ih b)

-- turning twice is the identity: of letters, and of places
pub turned_twice : (s : List ℕ) → bad_place s ≡ 0 → reverse_complement (reverse_complement s) ≡ s
unfolding bad_place
turned_twice s e = twice_from 1 s (omega arith) e

pub place_twice : (letters p : ℕ) → p ≤ letters + 1 → turned letters (turned letters p) ≡ p
unfolding turned
place_twice letters p h = omega arith

-- ---- letters at a place

-- the k letters at place j of the turned sequence are the turned letters at the place that is reported for the last of them
pub letters_turned : (k : ℕ) (t : List ℕ) (j : ℕ) → 1 ≤ j → j + k ≤ suc (length t)
    → letters_at k (reverse_complement t) j ≡ reverse_complement (letters_at k t (turned (length t) (j + k - 1)))
unfolding letters_at turned
letters_turned k t j h l =
    let n = length t + 1 - (j + k - 1) - 1 in
    let front = take n t in
    let kmer = take k (drop n t) in
    let rest = drop k (drop n t) in
    let split : front ++ (kmer ++ rest) ≡ t = ap (λ (l : List ℕ). front ++ l) (take-append-drop k (drop n t)) ∙ take-append-drop n t in
    let turns : reverse_complement t ≡ reverse_complement rest ++ (reverse_complement kmer ++ reverse_complement front) =
    sym (ap reverse_complement split) ∙ turned_append front (kmer ++ rest) ∙ ap (λ (l : List ℕ). l ++ reverse_complement front) (turned_append kmer rest)
    ∙ append_assoc (reverse_complement rest) (reverse_complement kmer) (reverse_complement front) in
    let lr : length (reverse_complement rest) ≡ j - 1 = turned_length rest ∙ simp (length-drop) (omega arith) in
    let lk : length (reverse_complement kmer) ≡ k = turned_length kmer ∙ simp (length-take, length-drop) (omega arith) in
    ap (λ (l : List ℕ). take k (drop (j - 1) l)) turns
    ∙ ap (take k) (drop_at (reverse_complement rest) (reverse_complement kmer ++ reverse_complement front) (j - 1) lr)
    ∙ take_at (reverse_complement kmer) (reverse_complement front) k lk

-- ---- a reverse entry, by eye

-- a match's k letters are the same on both sides
match_letters : (c : Settings) (s t : List ℕ) (y : Cell) → T (is_match c s t y) → letters_at c.k s y.row ≡ letters_at c.k t y.column
match_letters c s t y h = kmer_letters c.k s t y.row y.column (match_facts c s t y h).0

-- the first of the last k places, turned, and the row from its end
last_first : (letters q k : ℕ) → 1 ≤ q → q ≤ letters + 1 → letters + 1 - q + 1 - k ≡ letters + 1 - (q + k - 1)
last_first letters q k h l = omega arith

end_row : (i k : ℕ) → 1 ≤ i → i + k - 1 + 1 - k ≡ i
end_row i k h = omega arith

module _ (c : Settings) (s t : List ℕ) where
  turned_match : (y : Cell) → T (is_match c s (reverse_complement t) y)
      → letters_at c.k s y.row ≡ reverse_complement (letters_at c.k t (turned (length t) (y.column + c.k - 1)))
  unfolding places
  turned_match y h =
      let i = match_inside c s (reverse_complement t) y h in
      let e = turned_length t in
      let l = i.column_until in
      match_letters c s (reverse_complement t) y h ∙ letters_turned c.k t y.column i.column_from (omega arith)

  entry_reads : (x : Record) → Memᴰ x (listing c s (reverse_complement t)) → ReadsTurned c.k s t (reverse_numbers (length t) c.k x)
  unfolding listing reverse_numbers ends turned places
  entry_reads x m =
      let (n, u) = keep_in (is_listed c (matches c s (reverse_complement t))) (records c s (reverse_complement t)) x m in
      let ch = start_of_heaviest c s (reverse_complement t) x n in
      let first = chain_first ch in
      let last = chain_hit ch in
      let a = match_inside c s (reverse_complement t) x.start first in
      let start = last_first (length t) x.start.column c.k a.column_from (omega (arith, a.column_until, turned_length t)) in
      let end = end_row x.cell.row c.k (match_inside c s (reverse_complement t) x.cell last).row_from in
      record { at_start = rw start (turned_match x.start first); at_end = rw end (turned_match x.cell last) }

  entry_within : 1 ≤ c.k → (x : Record) → Memᴰ x (listing c s (reverse_complement t)) → Within t (reverse_numbers (length t) c.k x)
  unfolding listing reverse_numbers ends turned places
  entry_within h x m =
      let (n, u) = keep_in (is_listed c (matches c s (reverse_complement t))) (records c s (reverse_complement t)) x m in
      let ch = start_of_heaviest c s (reverse_complement t) x n in
      let a = (match_inside c s (reverse_complement t) x.start (chain_first ch)).column_from in
      let z = (match_inside c s (reverse_complement t) x.cell (chain_hit ch)).column_until in
      let g = (chain_grown ch).columns in
      let e = turned_length t in
      record { from = omega arith; forth = omega arith; to = omega arith }

  -- an entry of the strand is that of a record
  from_reverse : (Q : List ℕ → Type 0) → ((x : Record) → Memᴰ x (listing c s (reverse_complement t)) → Q (reverse_numbers (length t) c.k x))
      → (n : List ℕ) → Memᴰ n (strand_entries c s t 1) → Q n
  unfolding strand_entries strand_numbers on_strand
  from_reverse Q f n m =
      let (x, h, e) = Memᴰ.of_map (reverse_numbers (length t) c.k) (listing c s (reverse_complement t)) m in
      subst Q e (f x h)

  pub reads_turned : (n : List ℕ) → Memᴰ n (strand_entries c s t 1) → ReadsTurned c.k s t n
  reads_turned = from_reverse (ReadsTurned c.k s t) entry_reads

  pub reverse_within : 1 ≤ c.k → (n : List ℕ) → Memᴰ n (strand_entries c s t 1) → Within t n
  reverse_within h = from_reverse (Within t) (entry_within h)

-- ---- a job over its strands

module _ (c : Settings) where
  pub one_strand : c.strand ≡ 0 → strands c ≡ 0 ∷ []
  unfolding strands
  one_strand e = rw (eq-eqb c.strand 0 e)

  pub two_strands : (c.strand ≡ 0 → ⊥) → strands c ≡ 0 ∷ 1 ∷ []
  unfolding strands
  two_strands h = rw (ne_eqb c.strand 0 h)

module _ (c : Settings) (s t : List ℕ) where
  -- no strand needs more room than the larger need, nor does that pass its bound
  pub need_of_each : (strand : ℕ) → Memᴰ strand (strands c) → work_need c s (on_strand strand t) ≤ larger_need c s t
  unfolding larger_need
  need_of_each strand m = largest_of_ge (λ r. work_need c s (on_strand r t)) strand (strands c) m

  pub larger_bound : larger_need c s t ≤ (c.b + 1) * (c.a - 1)
  unfolding larger_need
  larger_bound = largest_of_le (λ r. work_need c s (on_strand r t)) ((c.b + 1) * (c.a - 1)) (strands c) (λ r. W_bound c s (on_strand r t))

  pub link_sum_bound : link_sum c s t ≤ match_sum c s t * ((c.b + 1) * min (c.a - 1) (c.b + 1) - 1)
  unfolding link_sum match_sum match_total
  link_sum_bound =
      sum_of_times (λ r. link_total c s (on_strand r t)) (λ r. match_total c s (on_strand r t)) ((c.b + 1) * min (c.a - 1) (c.b + 1) - 1) (strands c)
      (λ r. links_bound c s (on_strand r t))

  -- the need of the forward strand alone, and of both
  pub need_forward : c.strand ≡ 0 → larger_need c s t ≡ work_need c s t
  unfolding larger_need largest_of on_strand
  need_forward e = rw (one_strand c e) (omega arith)

  pub need_both : (c.strand ≡ 0 → ⊥) → larger_need c s t ≡ max (work_need c s t) (work_need c s (reverse_complement t))
  unfolding larger_need largest_of on_strand
  need_both n = rw (two_strands c n) (omega arith)

  -- an entry is that of a record listed on one of the strands
  pub record EntryFrom (entry : List ℕ) : Type 0 where
    pub strand : ℕ
    pub from : Record
    pub is_listed_lem : Memᴰ from (listing c s (on_strand strand t))
    pub numbers : entry ≡ strand_numbers strand (length t) c.k from

  pub entry_from : (entry : List ℕ) → Memᴰ entry (entries c s t) → EntryFrom entry
  unfolding entries strand_entries
  entry_from entry m =
      let (strand, h, n) = laid_in (strand_entries c s t) (strands c) entry m in
      let (x, g, e) = Memᴰ.of_map (strand_numbers strand (length t) c.k) (listing c s (on_strand strand t)) n in
      record { strand = strand; from = x; is_listed_lem = g; numbers = sym e }

  -- every entry has six numbers
  numbers_size : (strand : ℕ) (x : Record) → length (strand_numbers strand (length t) c.k x) ≡ 6
  unfolding strand_numbers entry_numbers reverse_numbers
  numbers_size zero x = refl
  numbers_size (suc n) x = refl

  pub entry_size : (entry : List ℕ) → Memᴰ entry (entries c s t) → length entry ≡ 6
  entry_size entry m = let f = entry_from entry m in ap length f.numbers ∙ numbers_size f.strand f.from

  strand_size : (strand : ℕ) → length (laid (λ entry. entry) (strand_entries c s t strand)) ≡ 6 * length (strand_entries c s t strand)
  unfolding strand_entries
  strand_size strand =
      let numbers = strand_numbers strand (length t) c.k in
      let xs = listing c s (on_strand strand t) in
      ap length (laid_map numbers (λ entry. entry) xs) ∙ laid_length numbers 6 (numbers_size strand) xs ∙ (let e = length-map xs numbers in omega arith)

  all_sizes : (xs : List ℕ) → length (laid (λ entry. entry) (laid (strand_entries c s t) xs)) ≡ 6 * length (laid (strand_entries c s t) xs)
  unfolding laid
  all_sizes [] = refl
  all_sizes (x ∷ xs) =
      let one = strand_entries c s t x in
      let more = laid (strand_entries c s t) xs in
      ap length (laid_append (λ (entry : List ℕ). entry) one more)
      ∙ omega (arith, length-append (laid (λ entry. entry) one) (laid (λ entry. entry) more), strand_size x, all_sizes xs, length-append one more)

  pub entries_size : length (laid (λ entry. entry) (entries c s t)) ≡ 6 * length (entries c s t)
  unfolding entries
  entries_size = all_sizes (strands c)

-- the forward part of a job over both strands is the forward job
module _ (k b a m mask : ℕ) (s t : List ℕ) where
  abbrev one : Settings
  one = settings k b a m 0 mask

  abbrev two : Settings
  two = settings k b a m 1 mask

  same_entries : strand_entries two s t 0 ≡ strand_entries one s t 0
  unfolding strand_entries listing records matches
  same_entries = refl

  pub forward_first : entries two s t ≡ entries one s t ++ strand_entries two s t 1
  unfolding entries strands laid
  forward_first =
      ap₂ {C = List (List ℕ)} (λ x y. x ++ y) (same_entries ∙ sym (append-nil (strand_entries one s t 0))) (append-nil (strand_entries two s t 1))
