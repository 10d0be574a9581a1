-- Jobs with an index (CR 6): each way that building one and sweeping over one ends, that what is built is accepted, and that a sweep over an index is the
-- plain one, whatever stands behind the index. Assumes nothing.
use mathlib.Core.Path.{◌≡◌, refl, sym, ap, subst, ◌∙◌}
use mathlib.Core.Logic.{◌⊎◌, inl, inr, ◌↔◌}
use mathlib.Core.Bool.{Bool, true, false, cond, ◌&&◌, not}
use mathlib.Core.Option.{Option, none, some}
use mathlib.Core.List.{List, [], ◌∷◌, ◌++◌}
use Prim.Native.Nat.{ℕ, suc, ◌≤◌, ◌<◌}
use native.Mathlib.Omega.{arith}
use borrow.Author.Tests.{lt-ltb, le-ltb, eq-eqb, ne_eqb}
use lib.Dec.{T, eqb}
use lib.ListN.{length, take}
use Rattle.rules.specs.declared.Settings.{Settings}
use Rattle.rules.specs.declared.Answer.{Answer}
use Rattle.rules.specs.Lists.{then_zeros, zeros}
use Rattle.rules.specs.Places.{kmer_at, packed}
use Rattle.rules.specs.Codes.{kmer_code, codes, code_at}
use Rattle.rules.specs.Answers.{Outcome, left, Line, first_of, refusal, done, settings_checks, length_checks, length_check, letter_checks, letter_check, checks, given, checked, after_checks, compared, stopped}
use Rattle.requests.specs.Index.{index_of_codes, kmer_places, codes_of, index_of, IsIndex, Built, left_index, index_checks, checked_index, building_index, built_index, begins_with, indexed, swept_over, compared_over, stopped_over}
use Rattle.rules.proofs.Tests.{tests, T_and, tested, T_true, T_false}
use Rattle.rules.proofs.Kmers.{code_at_lem}
use Rattle.requests.proofs.Index.{index_is, index_length}
use Rattle.requests.proofs.IndexPass.{begins_append, begins_front}

-- ---- codes say which places have a k-mer, and in what order

pub code_packed : (k : ℕ) (s : List ℕ) (p : ℕ) (x : List ℕ) → kmer_at k s p ≡ some x → code_at (codes k s) p ≡ suc (packed x)
unfolding kmer_code
code_packed k s p x e = code_at_lem k s p ∙ ap kmer_code e

pub code_kmer : (k : ℕ) (s : List ℕ) (p : ℕ) → (0 < code_at (codes k s) p) ↔ ((x : List ℕ) × (kmer_at k s p ≡ some x))
unfolding kmer_code
code_kmer k s p = (λ h. forth (kmer_at k s p) refl (subst (λ (n : ℕ). 0 < n) (code_at_lem k s p) h), λ h. let e = code_packed k s p h.0 h.1 in omega arith)
  where
    forth : (o : Option (List ℕ)) → kmer_at k s p ≡ o → 0 < kmer_code (kmer_at k s p) → (x : List ℕ) × (kmer_at k s p ≡ some x)
    forth none e h = absurd (let z = ap kmer_code e in omega arith)
    forth (some x) e h = (x, e)

-- ---- building

module _ (codes room : List ℕ) where
  pub builds_11 : length room < kmer_places codes → building_index codes room ≡ left_index (refusal 11 0 (kmer_places codes)) (zeros room)
  unfolding building_index
  builds_11 h = rw (lt-ltb (length room) (kmer_places codes) h)

  pub builds_0 : kmer_places codes ≤ length room → building_index codes room ≡ left_index (done (kmer_places codes) 0 0 0) (then_zeros (index_of_codes codes) (length room))
  unfolding building_index
  builds_0 h = rw (le-ltb (length room) (kmer_places codes) h)

module _ (k mask : ℕ) (second room : List ℕ) where
  pub builds_refused : ((checked_index k mask second).number ≡ 0 → ⊥) → built_index k mask second room ≡ left_index (checked_index k mask second) room
  unfolding built_index
  builds_refused h = rw (ne_eqb (checked_index k mask second).number 0 h)

  pub builds_checked : (checked_index k mask second).number ≡ 0 → built_index k mask second room ≡ building_index (codes_of k mask second) room
  unfolding built_index
  builds_checked h = rw (eq-eqb (checked_index k mask second).number 0 h)

-- ---- sweeping

module _ (c : Settings) (first second index work list : List ℕ) (plain : Outcome) where
  -- a job that the checks refuse is refused by them
  pub over_refused : ((checked c first second).number ≡ 0 → ⊥) → swept_over c first second index work list plain ≡ plain
  unfolding swept_over
  over_refused h = rw (ne_eqb (checked c first second).number 0 h)

  -- then 12, with everything as it was
  pub over_12 : (checked c first second).number ≡ 0 → ¬ T (indexed c second index) → swept_over c first second index work list plain ≡ left (refusal 12 0 0) work list
  unfolding swept_over
  over_12 h n = rw (eq-eqb (checked c first second).number 0 h, T_false (indexed c second index) n)

  -- then the plain sweep
  pub over_plain : T (indexed c second index) → swept_over c first second index work list plain ≡ plain
  unfolding swept_over
  over_plain t = rw (T_true (indexed c second index) t) (both (eqb (checked c first second).number 0))
    where
      both : (u : Bool) → cond (u && false) (left (refusal 12 0 0) work list) plain ≡ plain
      both true = refl
      both false = refl

-- THE THEOREMS. Over the index, whatever stands behind it, the same answer, listing and room contents as the plain sweep
module _ (c : Settings) (first second rest work : List ℕ) where
  index_accepted : T (indexed c second (index_of c.k c.mask second ++ rest))
  unfolding indexed
  index_accepted = begins_append (index_of c.k c.mask second) rest

  pub compared_same : (list : List ℕ) → compared_over c first second (index_of c.k c.mask second ++ rest) work list ≡ compared c first second work list
  unfolding compared_over
  compared_same list = over_plain c first second (index_of c.k c.mask second ++ rest) work list (compared c first second work list) index_accepted

  pub stopped_same : (r : ℕ) → stopped_over c first second (index_of c.k c.mask second ++ rest) work r ≡ stopped c first second work r
  unfolding stopped_over
  stopped_same r = over_plain c first second (index_of c.k c.mask second ++ rest) work [] (stopped c first second work r) index_accepted

-- two slices that agree in so many numbers as the index has end alike
pub rest_ignored : (c : Settings) (first second index index' work list : List ℕ) (plain : Outcome)
    → take (length (index_of c.k c.mask second)) index ≡ take (length (index_of c.k c.mask second)) index'
    → swept_over c first second index work list plain ≡ swept_over c first second index' work list plain
unfolding swept_over indexed
rest_ignored c first second index index' work list plain e =
    ap (λ (t : Bool). cond (eqb (checked c first second).number 0 && not t) (left (refusal 12 0 0) work list) plain)
    (begins_front (index_of c.k c.mask second) index ∙ ap (begins_with (index_of c.k c.mask second)) e ∙ sym (begins_front (index_of c.k c.mask second) index'))

-- in the order of the checks: 1 to 6, 9 and 10, then 12, then the rest
pub over_in_order : (c : Settings) (first second index work list : List ℕ) (rest : Outcome)
    → swept_over c first second index work list (after_checks c first second work list rest)
    ≡ after_checks c first second work list (cond (indexed c second index) rest (left (refusal 12 0 0) work list))
unfolding swept_over after_checks
over_in_order c first second index work list rest =
    go (eqb (checked c first second).number 0) (indexed c second index) (left (refusal 12 0 0) work list)
    (left (checked c first second) work list)
  where
    go : (u t : Bool) (wrong refused : Outcome) → cond (u && not t) wrong (cond u rest refused) ≡ cond u (cond t rest wrong) refused
    go true true wrong refused = refl
    go true false wrong refused = refl
    go false t wrong refused = refl

-- ---- what is built is accepted

-- no line of a table applies
abbrev pub none_applies : {A : Type 0} → List (Line A) → Bool
none_applies [] = true
none_applies (l ∷ ls) = not l.when && none_applies ls

-- each line of a table gives what passes a test
abbrev pub each_gives : {A : Type 0} → (A → Bool) → List (Line A) → Bool
each_gives f [] = true
each_gives f (l ∷ ls) = f l.then && each_gives f ls

-- where it does, and what the table gives does not, none applies
pub none_of : {A : Type 0} (f : A → Bool) (ls : List (Line A)) (a : A) → T (each_gives f ls) → ¬ T (f (first_of ls a)) → T (none_applies ls)
unfolding first_of
none_of f [] a h n = tt
none_of {A} f (l ∷ ls) a h n = go l.when n (none_of f ls a (simp T_and at h).1)
  where
    go : (t : Bool) → ¬ T (f (cond t l.then (first_of ls a))) → (¬ T (f (first_of ls a)) → T (none_applies ls)) → T (not t && none_applies ls)
    go true k ih = absurd (k (simp T_and at h).0)
    go false k ih = ih k

-- and where none applies the table gives the rest
pub rest_of : {A : Type 0} (ls : List (Line A)) (a : A) → T (none_applies ls) → first_of ls a ≡ a
unfolding first_of
rest_of [] a h = refl
rest_of {A} (l ∷ ls) a h = go l.when h (rest_of ls a)
  where
    go : (t : Bool) → T (not t && none_applies ls) → (T (none_applies ls) → first_of ls a ≡ a) → cond t l.then (first_of ls a) ≡ a
    go true k ih = absurd k
    go false k ih = ih k

-- a job whose settings, lengths and letters pass has a second sequence whose index is built
pub index_passes : (c : Settings) (first second : List ℕ) → (checked c first second).number ≡ 0 → (checked_index c.k c.mask second).number ≡ 0
unfolding checked checks settings_checks length_checks length_check letter_checks letter_check given checked_index index_checks refusal
index_passes c first second e =
    -- lines 1, 10 and those of sequence 2 of the ten: k, then b, a, m and strand, the mask, both lengths and both sequences' letters
    let h = simp T_and at (none_of (λ (a : Answer). not (eqb a.number 0)) (checks c first second) (refusal 0 0 0) tt (λ t. (simp tests at t) e)) in
    let mask = h.1.1.1.1.1 in
    let lengths = mask.1 in
    let letters = lengths.1.1 in
    ap (λ (a : Answer). a.number) (rest_of (index_checks c.k c.mask second) (refusal 0 0 0) (simp T_and (h.0, (mask.0, (lengths.1.0, (letters.1.0, tt))))))

pub built_accepted : (c : Settings) (second room : List ℕ) → (checked_index c.k c.mask second).number ≡ 0 → kmer_places (codes_of c.k c.mask second) ≤ length room
    → T (indexed c second (built_index c.k c.mask second room).index)
unfolding indexed index_of then_zeros
built_accepted c second room e h =
    subst (λ (o : Built). T (begins_with (index_of c.k c.mask second) o.index)) (sym (builds_checked c.k c.mask second room e ∙ builds_0 (codes_of c.k c.mask second) room h))
    (begins_append (index_of_codes (codes_of c.k c.mask second)) _)

-- with index room enough, a job over the index that was built is the plain job, whichever way that ends
module _ (c : Settings) (first second room work list : List ℕ) (plain : Outcome) (enough : kmer_places (codes_of c.k c.mask second) ≤ length room) where
  pub built_then_swept : swept_over c first second (built_index c.k c.mask second room).index work list plain ≡ plain
  built_then_swept = go (tested (eqb (checked c first second).number 0))
    where
      go : T (eqb (checked c first second).number 0) ⊎ (¬ T (eqb (checked c first second).number 0))
          → swept_over c first second (built_index c.k c.mask second room).index work list plain ≡ plain
      go (inl t) =
          over_plain c first second (built_index c.k c.mask second room).index work list plain
          (built_accepted c second room (index_passes c first second (simp tests at t)) enough)
      go (inr n) = over_refused c first second (built_index c.k c.mask second room).index work list plain (λ e. n (simp tests e))

-- THE THEOREMS about an index of a sequence: it holds exactly the places that have a k-mer, in order, and so many
pub sequence_index : (k mask : ℕ) (second : List ℕ) → IsIndex (codes_of k mask second) (index_of k mask second)
unfolding index_of
sequence_index k mask second = index_is (codes_of k mask second)

pub sequence_places : (k mask : ℕ) (second : List ℕ) → length (index_of k mask second) ≡ kmer_places (codes_of k mask second)
unfolding index_of
sequence_places k mask second = index_length (codes_of k mask second)
