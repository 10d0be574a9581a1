-- CR 5: a sequence as it is read has as many letters, the same bad places and, turned, the same letters as the turned sequence read; and jobs that read
-- their sequences alike have the same outcome. Assumes nothing.
use mathlib.Core.Path.{◌≡◌, refl, sym, ap, ap₂, ◌∙◌}
use mathlib.Core.Bool.{Bool, true, false, cond}
use mathlib.Core.List.{List, [], ◌∷◌, map, map-append}
use Prim.Native.Nat.{ℕ, zero, suc, ◌+◌, ◌-◌}
use native.Mathlib.Omega.{arith}
use lib.Dec.{eqb}
use lib.ListN.{length, get_or, length-map, get_or-map}
use Rattle.rules.specs.declared.Settings.{Settings}
use Rattle.rules.specs.Entered.{settings}
use Rattle.rules.specs.Lists.{count}
use Rattle.rules.specs.Letters.{read_letter, code_of, letter_as, complement, reverse_complement, bad_from, bad_place, masked_letters, stands_for, as_read}
use Rattle.rules.specs.Places.{places}
use Rattle.rules.specs.Matches.{is_match, matches}
use Rattle.rules.specs.Records.{records}
use Rattle.rules.specs.Listing.{is_listed, long_enough, listing}
use Rattle.rules.specs.Rooms.{held, match_total, work_need, link_total}
use Rattle.rules.specs.Strands.{on_strand, strands, strand_entries, entries, match_sum, larger_need, link_sum}
use Rattle.rules.specs.Answers.{left, outside, settings_checks, length_checks, length_check, letter_checks, letter_check, checks}
use Rattle.rules.specs.Answers.{checked, after_checks, compared_sweeps, compared, stopped_sweep, stopped, replied}
use Rattle.rules.proofs.Computed.{same_test}
use Rattle.rules.proofs.Letters.{none_code, none_complement, none_stands, each_byte}

-- ---- a sequence as it is read

pub read_length : (mask : ℕ) (s : List ℕ) → length (as_read mask s) ≡ length s
unfolding as_read
read_length mask s = length-map s (stands_for mask)

pub read_places : (mask k : ℕ) (s : List ℕ) → places k (as_read mask s) ≡ places k s
unfolding places
read_places mask k s = ap (λ (n : ℕ). suc n - k) (read_length mask s)

-- a byte that is not there
stands_nothing : (mask : ℕ) → stands_for mask 0 ≡ 0
unfolding stands_for
stands_nothing zero = refl
stands_nothing (suc m) = refl

pub read_at : (mask : ℕ) (s : List ℕ) (n : ℕ) → get_or (as_read mask s) n 0 ≡ stands_for mask (get_or s n 0)
unfolding as_read
read_at mask s n = ap (get_or (map (stands_for mask) s) n) (sym (stands_nothing mask)) ∙ get_or-map (stands_for mask) s n 0

-- reading commutes with turning
stands_turned : (mask x : ℕ) → stands_for mask (complement x) ≡ complement (stands_for mask x)
unfolding letter_as complement stands_for
stands_turned zero =
    each_byte (λ x. stands_for 0 (complement x)) (λ x. complement (stands_for 0 x)) tt tt
    (λ x n. ap (stands_for 0) (none_complement x n) ∙ sym (ap complement (none_stands x n 0)))
stands_turned (suc m) =
    each_byte (λ x. stands_for (suc m) (complement x)) (λ x. complement (stands_for (suc m) x)) tt tt
    (λ x n. ap (stands_for (suc m)) (none_complement x n) ∙ sym (ap complement (none_stands x n (suc m))))

pub read_turned : (mask : ℕ) (s : List ℕ) → as_read mask (reverse_complement s) ≡ reverse_complement (as_read mask s)
unfolding as_read reverse_complement
read_turned mask [] = refl
read_turned mask (x ∷ xs) = simp (map-append, read_turned mask xs, stands_turned mask x)

-- capitals stand for themselves, under any setting
stands_once : (mask again x : ℕ) → stands_for again (stands_for mask x) ≡ stands_for mask x
unfolding letter_as stands_for
stands_once zero zero = each_byte (λ x. stands_for 0 (stands_for 0 x)) (stands_for 0) tt tt (λ x n. ap (stands_for 0) (none_stands x n 0) ∙ sym (none_stands x n 0))
stands_once zero (suc q) =
    each_byte (λ x. stands_for (suc q) (stands_for 0 x)) (stands_for 0) tt tt (λ x n. ap (stands_for (suc q)) (none_stands x n 0) ∙ sym (none_stands x n 0))
stands_once (suc p) zero =
    each_byte (λ x. stands_for 0 (stands_for (suc p) x)) (stands_for (suc p)) tt tt
    (λ x n. ap (stands_for 0) (none_stands x n (suc p)) ∙ sym (none_stands x n (suc p)))
stands_once (suc p) (suc q) =
    each_byte (λ x. stands_for (suc q) (stands_for (suc p) x)) (stands_for (suc p)) tt tt
    (λ x n. ap (stands_for (suc q)) (none_stands x n (suc p)) ∙ sym (none_stands x n (suc p)))

pub read_once : (mask again : ℕ) (s : List ℕ) → as_read again (as_read mask s) ≡ as_read mask s
unfolding as_read
read_once mask again [] = refl
read_once mask again (x ∷ xs) = ap₂ {C = List ℕ} (λ y ys. y ∷ ys) (stands_once mask again x) (read_once mask again xs)

-- ---- bad places

-- 1 for a byte that is no letter
bad : ℕ → ℕ
bad x = cond (eqb (code_of x) 0) 1 0

stands_bad : (mask x : ℕ) → bad (stands_for mask x) ≡ bad x
unfolding letter_as stands_for bad code_of
stands_bad zero =
    each_byte (λ x. bad (stands_for 0 x)) bad tt tt
    (λ x n. ap bad (none_stands x n 0) ∙ sym (ap (λ (c : ℕ). cond (eqb c 0) 1 0) (none_code x n)))
stands_bad (suc m) =
    each_byte (λ x. bad (stands_for (suc m) x)) bad tt tt
    (λ x n. ap bad (none_stands x n (suc m)) ∙ sym (ap (λ (c : ℕ). cond (eqb c 0) 1 0) (none_code x n)))

bad_from_lem : (mask n : ℕ) (s : List ℕ) → bad_from n (as_read mask s) ≡ bad_from n s
unfolding as_read bad_from bad
bad_from_lem mask n [] = refl
bad_from_lem mask n (x ∷ xs) =
    ap₂ {C = ℕ} (λ t r. cond t n r) (same_test (eqb (code_of (stands_for mask x)) 0) (eqb (code_of x) 0) (stands_bad mask x)) (bad_from_lem mask (suc n) xs)

pub read_bad : (mask : ℕ) (s : List ℕ) → bad_place (as_read mask s) ≡ bad_place s
unfolding bad_place
read_bad mask s = bad_from_lem mask 1 s

-- ---- without a masked letter

plain_stands : (mask x : ℕ) → (read_letter x).masked ≡ false → stands_for mask x ≡ stands_for 0 x
unfolding stands_for
plain_stands zero x e = refl
plain_stands (suc m) x e = rw (e, stands_for)

plain_read : (mask : ℕ) (s : List ℕ) → masked_letters s ≡ 0 → as_read mask s ≡ as_read 0 s
unfolding masked_letters as_read count
plain_read mask [] e = refl
plain_read mask (x ∷ xs) e =
    go (read_letter x).masked refl (plain_read mask xs)
  where
    go : (t : Bool) → (read_letter x).masked ≡ t → (masked_letters xs ≡ 0 → as_read mask xs ≡ as_read 0 xs) → as_read mask (x ∷ xs) ≡ as_read 0 (x ∷ xs)
    go true d rest = let z = rw d at e in absurd (omega arith)
    go false d rest = ap₂ {C = List ℕ} (λ y ys. y ∷ ys) (plain_stands mask x d) (rest (let z = rw d at e in omega arith))

-- ---- jobs that read their sequences alike

-- two sequences, each read under a setting of its own
record Alike (p q : ℕ) (s u : List ℕ) : Type 0 where
  long : length s ≡ length u
  bad_at : bad_place s ≡ bad_place u
  read : as_read p s ≡ as_read q u

alike_read : (p q : ℕ) (s : List ℕ) → Alike p q s (as_read p s)
alike_read p q s = record { long = sym (read_length p s); bad_at = sym (read_bad p s); read = sym (read_once p q s) }

alike_plain : (p q : ℕ) (s : List ℕ) → masked_letters s ≡ 0 → Alike p q s s
alike_plain p q s e = record { long = refl; bad_at = refl; read = plain_read p s e ∙ sym (plain_read q s e) }

-- two jobs that answer the same, whatever rooms are lent
pub record SameJob (c : Settings) (s t : List ℕ) (d : Settings) (u v : List ℕ) : Type 0 where
  pub compare_same : (work list : List ℕ) → compared c s t work list ≡ compared d u v work list
  pub stop_same : (work : List ℕ) (r : ℕ) → stopped c s t work r ≡ stopped d u v work r
  pub need_same : replied c s t ≡ replied d u v

module _ (k b a m strand p q : ℕ) (e : outside 0 1 p ≡ outside 0 1 q) (s t u v : List ℕ) (x : Alike p q s u) (y : Alike p q t v) where
  abbrev c : Settings
  c = settings k b a m strand p

  abbrev d : Settings
  d = settings k b a m strand q

  checked_same : checked c s t ≡ checked d u v
  unfolding checked checks settings_checks length_checks length_check letter_checks letter_check
  checked_same = rw (e, x.long, y.long, x.bad_at, y.bad_at)

  -- behind the door the mask is not looked at
  sweeps_same : (work list : List ℕ) → compared_sweeps c (as_read p s) (as_read p t) work list ≡ compared_sweeps d (as_read q u) (as_read q v) work list
  unfolding compared_sweeps entries strand_entries listing is_listed long_enough records matches is_match match_sum match_total larger_need work_need link_sum link_total strands
  sweeps_same work list = λ i. compared_sweeps c (x.read i) (y.read i) work list

  sweep_same : (work : List ℕ) (r : ℕ)
      → stopped_sweep c (as_read p s) (on_strand strand (as_read p t)) work r ≡ stopped_sweep d (as_read q u) (on_strand strand (as_read q v)) work r
  unfolding stopped_sweep held records matches is_match match_total work_need link_total
  sweep_same work r = λ i. stopped_sweep c (x.read i) (on_strand strand (y.read i)) work r

  larger_same : larger_need c (as_read p s) (as_read p t) ≡ larger_need d (as_read q u) (as_read q v)
  unfolding larger_need work_need matches is_match strands
  larger_same = λ i. larger_need c (x.read i) (y.read i)

  same_job : SameJob c s t d u v
  unfolding compared stopped replied after_checks
  same_job = record {
    compare_same = λ work list i. cond (eqb (checked_same i).number 0) (sweeps_same work list i) (left (checked_same i) work list);
    stop_same = λ work r i. cond (eqb (checked_same i).number 0) (sweep_same work r i) (left (checked_same i) work []);
    need_same = λ i. cond (eqb (checked_same i).number 0) (larger_same i) (4294967296 + (checked_same i).number);
  }

module _ (k b a m strand : ℕ) (s t : List ℕ) where
  pub as_capitals : SameJob (settings k b a m strand 0) s t (settings k b a m strand 0) (as_read 0 s) (as_read 0 t)
  as_capitals = same_job k b a m strand 0 0 refl s t (as_read 0 s) (as_read 0 t) (alike_read 0 0 s) (alike_read 0 0 t)

  pub as_N : SameJob (settings k b a m strand 1) s t (settings k b a m strand 0) (as_read 1 s) (as_read 1 t)
  unfolding outside
  as_N = same_job k b a m strand 1 0 refl s t (as_read 1 s) (as_read 1 t) (alike_read 1 0 s) (alike_read 1 0 t)

  pub masks_agree : masked_letters s ≡ 0 → masked_letters t ≡ 0 → SameJob (settings k b a m strand 0) s t (settings k b a m strand 1) s t
  unfolding outside
  masks_agree e f = same_job k b a m strand 0 1 refl s t s t (alike_plain 0 1 s e) (alike_plain 0 1 t f)
