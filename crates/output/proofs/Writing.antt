-- Lines written one behind the other into one lent slice. Assumes nothing.
use mathlib.Core.Path.{◌≡◌, refl, sym, ap, ap₂, ◌∙◌}
use mathlib.Core.Bool.{Bool, true, false, cond}
use Rattle.std.proofs.Common.{Result, Ok}
use Rattle.std.specs.Result.{IsOk}
use mathlib.Core.List.{List, [], ◌∷◌, ◌++◌, append_assoc}
use Prim.Native.Nat.{ℕ, zero, suc, ◌+◌, ◌-◌, ◌*◌, ◌/◌, ◌≤◌, ◌<◌}
use native.Mathlib.Numerals.{add-one}
use native.Mathlib.Omega.{arith}
use borrow.Author.Tests.{le-leb, eq-eqb, ne_eqb}
use borrow.Rule.Slice.PartMut.{mid_of, put_mid}
use lib.Dec.{eqb}
use lib.ListN.{length, get_or, take, drop, length-append, length-drop}
use lib.Seq.{take_at, drop_at, drop-drop}
use Rattle.std.specs.Simd.{first_chunks}
use Rattle.std.proofs.lemmas.List.{get_or-drop, get_or-take}
use Rattle.rules.specs.Lists.{laid}
use Rattle.rules.proofs.ListLaws.{laid_snoc}
use Rattle.rooms.proofs.Rests.{rest_is, rest_back}
use Rattle.lines.specs.declared.error.FrameError.{FrameError}
use Rattle.lines.specs.Writing.{Written, written, written_of, leaves}
use Rattle.lines.proofs.Unique.{one_written}
use Rattle.lines.proofs.Lines.{line_length}
use Rattle.payloads.specs.Numbers.{number_bytes}
use Rattle.kinds.specs.declared.Entry.{Entry}
use Rattle.kinds.specs.Kinds.{entry_payload, entry_fits, entry_line, reverse_line}
use Rattle.output.specs.Output.{entry_of, line_of_entry}
use Rattle.output.specs.Entries.{entry_in, entries_in, EntriesSafe}

-- a writer that has room for a line that fits
pub wrote : (fits : Bool) (line out left : List ℕ) (r : Result ℕ FrameError) → fits ≡ true → length line ≤ length out → written_of r ≡ written fits line out
    → left ≡ leaves fits line out
    → (r ≡ Ok (length line)) × (left ≡ line ++ drop (length line) out)
unfolding written leaves
wrote fits line out left r e h a b =
    let t = le-leb (length line) (length out) h in
    (one_written r (Ok (length line)) (rw (a, e, t)), rw (b, e, t))

-- what was written is known to be, and how much
pub was_written : {r : Result ℕ FrameError} {n : ℕ} → r ≡ Ok n → IsOk r
was_written e = rw e

pub as_long : {r : Result ℕ FrameError} {m n : ℕ} → r ≡ Ok m → r ≡ Ok n → m ≡ n
as_long a b = cc

-- one line more, behind some text
module _ (text old out line left : List ℕ) (at : ℕ) (e : at ≡ length text) (o : out ≡ text ++ drop at old) (l : length out ≡ length old)
    (h : at + length line ≤ length old) where
  inside : at ≤ length out
  inside = omega arith

  after : drop at out ≡ drop at old
  after = ap (drop at) o ∙ drop_at text (drop at old) at (sym e)

  before : take at out ≡ text
  before = ap (take at) o ∙ take_at text (drop at old) at (sym e)

  -- the line has room
  pub rest_long : length line ≤ length (mid_of at (length out - at) out)
  rest_long = rw (rest_is at out inside) (omega (arith, length-drop at out))

  pub line_behind : left ≡ line ++ drop (length line) (mid_of at (length out - at) out)
      → put_mid at (length out - at) out left ≡ (text ++ line) ++ drop (at + length line) old
  line_behind q =
      rest_back at out left inside ∙ rw (before, q, rest_is at out inside, after, drop-drop (length line) at old, append_assoc)

-- ---- entries

-- a line is 27 bytes long, whichever its kind
pub entry_length : (numbers : List ℕ) → length (line_of_entry numbers) ≡ 27
unfolding line_of_entry entry_line reverse_line entry_payload number_bytes
entry_length numbers = go (eqb (get_or numbers 5 0) 0)
  where
    go : (t : Bool) → length (cond t (entry_line (entry_of numbers)) (reverse_line (entry_of numbers))) ≡ 27
    go true = line_length 16 (entry_payload (entry_of numbers))
    go false = line_length 18 (entry_payload (entry_of numbers))

-- and its kind goes by the strand
module _ {x : Entry} (numbers : List ℕ) (ex : x ≡ entry_of numbers) where
  pub forward_line : get_or numbers 5 0 ≡ 0 → entry_line x ≡ line_of_entry numbers
  unfolding line_of_entry
  forward_line h = ap entry_line ex ∙ sym (rw (eq-eqb (get_or numbers 5 0) 0 h))

  pub reverse_line_lem : (get_or numbers 5 0 ≡ 0 → ⊥) → reverse_line x ≡ line_of_entry numbers
  unfolding line_of_entry
  reverse_line_lem h = ap reverse_line ex ∙ sym (rw (ne_eqb (get_or numbers 5 0) 0 h))

  -- what a writer of such a line gives and leaves
  pub as_entry : (out : List ℕ) {line left : List ℕ} {w : Written} → line ≡ line_of_entry numbers → w ≡ written (entry_fits x) line out
      → left ≡ leaves (entry_fits x) line out
      → (w ≡ written (entry_fits (entry_of numbers)) (line_of_entry numbers) out) × (left ≡ leaves (entry_fits (entry_of numbers)) (line_of_entry numbers) out)
  as_entry out e a b =
      (a ∙ ap₂ (λ (f : Bool) (l : List ℕ). written f l out) (ap entry_fits ex) e, b ∙ ap₂ (λ (f : Bool) (l : List ℕ). leaves f l out) (ap entry_fits ex) e)

pub entries_length : (list : List ℕ) (n : ℕ) → length (laid line_of_entry (entries_in list n)) ≡ 27 * n
unfolding entries_in laid
entries_length list zero = refl
entries_length list (suc n) =
    rw (laid_snoc line_of_entry (entries_in list n) (entry_in list n))
    (omega (arith, length-append (laid line_of_entry (entries_in list n)) (line_of_entry (entry_in list n)), entries_length list n, entry_length (entry_in list n)))

-- a list room cut into sixes has its entries
entry_next : (list : List ℕ) (n : ℕ) → entry_in (drop 6 list) n ≡ entry_in list (suc n)
unfolding entry_in
entry_next list n =
    let at : (i j : ℕ) → j ≡ 6 + i → get_or (drop 6 list) i 0 ≡ get_or list j 0 = λ i j e. get_or-drop 6 list i 0 ∙ ap (λ k. get_or list k 0) (sym e) in
    λ i. at (6 * n) (6 * suc n) (omega arith) i
    ∷ at (6 * n + 1) (6 * suc n + 1) (omega arith) i
    ∷ at (6 * n + 2) (6 * suc n + 2) (omega arith) i
    ∷ at (6 * n + 3) (6 * suc n + 3) (omega arith) i
    ∷ at (6 * n + 4) (6 * suc n + 4) (omega arith) i
    ∷ at (6 * n + 5) (6 * suc n + 5) (omega arith) i
    ∷ []

front_entry : (list : List ℕ) → 6 ≤ length list → take 6 list ≡ entry_in list 0
unfolding entry_in
front_entry [] h = absurd (omega arith)
front_entry (a ∷ []) h = absurd (omega arith)
front_entry (a ∷ b ∷ []) h = absurd (omega arith)
front_entry (a ∷ b ∷ c ∷ []) h = absurd (omega arith)
front_entry (a ∷ b ∷ c ∷ d ∷ []) h = absurd (omega arith)
front_entry (a ∷ b ∷ c ∷ d ∷ e ∷ []) h = absurd (omega arith)
front_entry (a ∷ b ∷ c ∷ d ∷ e ∷ f ∷ rest) h = refl

sixes : (list : List ℕ) (k n : ℕ) → n < k → 6 * k ≤ length list → get_or (first_chunks 6 k list) n [] ≡ entry_in list n
sixes list zero n h l = absurd (omega arith)
sixes list (suc k) zero h l = front_entry list (omega arith)
sixes list (suc k) (suc n) h l = sixes (drop 6 list) k n (omega arith) (omega (arith, length-drop 6 list)) ∙ entry_next list n

pub chunk_is_entry : (list : List ℕ) (chunks : List (List ℕ)) (count n : ℕ) → chunks ≡ first_chunks 6 (length list / 6) list → n < count
    → 6 * count ≤ length list → get_or (take count chunks) n [] ≡ entry_in list n
chunk_is_entry list chunks count n e h l =
    get_or-take count chunks n [] h ∙ rw e (sixes list (length list / 6) n (omega arith) (omega arith))

-- the first n entries are written
pub record Writing (list old out : List ℕ) (count at n : ℕ) : Type 0 where
  pub most : n ≤ count
  pub place : at ≡ 27 * n
  pub lines : out ≡ laid line_of_entry (entries_in list n) ++ drop (27 * n) old
  pub long : length out ≡ length old

module _ {list old : List ℕ} {count : ℕ} where
  pub writing_start : Writing list old old count 0 0
  unfolding entries_in laid
  writing_start = record { most = omega arith; place = refl; lines = refl; long = refl }

  module _ (safe : EntriesSafe list old count) {out : List ℕ} {at n : ℕ} (v : Writing list old out count at n) where
    module _ (h : n < count) {numbers : List ℕ} (en : numbers ≡ entry_in list n) (r : Result ℕ FrameError) {left : List ℕ}
        (ew : written_of r ≡ written (entry_fits (entry_of numbers)) (line_of_entry numbers) (mid_of at (length out - at) out))
        (el : left ≡ leaves (entry_fits (entry_of numbers)) (line_of_entry numbers) (mid_of at (length out - at) out)) where
      abbrev line : List ℕ
      line = line_of_entry (entry_in list n)

      abbrev text : List ℕ
      text = laid line_of_entry (entries_in list n)

      e : at ≡ length text
      e = v.place ∙ sym (entries_length list n)

      o : out ≡ text ++ drop at old
      o = v.lines ∙ ap (λ (k : ℕ). text ++ drop k old) (sym v.place)

      roomy : at + length line ≤ length old
      roomy = let r = safe.room in let p = v.place in let l = entry_length (entry_in list n) in omega arith

      fact : (r ≡ Ok (length line)) × (left ≡ line ++ drop (length line) (mid_of at (length out - at) out))
      fact =
          wrote (entry_fits (entry_of (entry_in list n))) line (mid_of at (length out - at) out) left r (safe.fit n h)
          (rest_long text old out line left at e o v.long roomy) (rw en at ew) (rw en at el)

      -- the line is written, and 27 bytes long
      pub writing_length : r ≡ Ok 27
      writing_length = fact.0 ∙ ap Ok (entry_length (entry_in list n))

      text_next : text ++ line ≡ laid line_of_entry (entries_in list (n + 1))
      unfolding entries_in
      text_next = sym (laid_snoc line_of_entry (entries_in list n) (entry_in list n)) ∙ ap (λ (m : ℕ). laid line_of_entry (entries_in list m)) (sym (add-one n))

      there : at + length line ≡ 27 * (n + 1)
      there = let p = v.place in let l = entry_length (entry_in list n) in omega arith

      lines_next : put_mid at (length out - at) out left ≡ laid line_of_entry (entries_in list (n + 1)) ++ drop (27 * (n + 1)) old
      lines_next =
          line_behind text old out line left at e o v.long roomy fact.1
          ∙ ap (λ (k : ℕ). (text ++ line) ++ drop k old) there
          ∙ ap (λ (l : List ℕ). l ++ drop (27 * (n + 1)) old) text_next

      long_next : length (put_mid at (length out - at) out left) ≡ length old
      long_next =
          ap length lines_next
          ∙ (let r = safe.room in
          omega (
            arith,
            length-append (laid line_of_entry (entries_in list (n + 1))) (drop (27 * (n + 1)) old),
            entries_length list (n + 1),
            length-drop
                (27 * (n + 1)) old,
          ))

      pub writing_next : (wide : ℕ) → wide ≡ 27 → Writing list old (put_mid at (length out - at) out left) count (at + wide) (n + 1)
      writing_next wide w =
          record { most = omega arith; place = (let p = v.place in omega arith); lines = lines_next; long = long_next }
