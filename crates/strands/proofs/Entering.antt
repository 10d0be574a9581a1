-- Entries of two strands in one list room: those of the reverse strand are listed behind the others as forward ones, and turned back where they stand.
-- Assumes nothing.
use Rattle.std.proofs.Common.{◌≡◌, ℕ, ◌+◌, ◌-◌, ◌*◌, ◌<◌, ◌≤◌, min, List, [], ◌++◌, map, length, take, drop, sym, refl, ap, ◌∙◌, ap₂, arith, length-append, length-drop, take-append-drop, length-take-le, take_at}
use mathlib.Core.Path.{subst⁻¹}
use borrow.Rule.Slice.PartMut.{mid_of, put_mid}
use lib.ListN.{length-map}
use lib.Seq.{take-append-add}
use Rattle.rules.specs.declared.Settings.{Settings}
use Rattle.rules.specs.declared.Cell.{Cell}
use Rattle.rules.specs.declared.Record.{Record}
use Rattle.rules.specs.Lists.{keep, laid}
use Rattle.rules.specs.Records.{records_from}
use Rattle.rules.specs.Listing.{entry_numbers}
use Rattle.rules.specs.Rooms.{list_holds}
use Rattle.rules.specs.Strands.{reverse_numbers, strand_numbers}
use Rattle.rules.proofs.ListLaws.{laid_append, laid_map}
use Rattle.matches.specs.Walks.{walked, walked_need}
use Rattle.entries.specs.Layout.{turn_entries}
use Rattle.entries.proofs.Turning.{reverse_size, turned_all}
use Rattle.rooms.proofs.Rests.{rest_is, rest_back}
use Rattle.listing.specs.Leaving.{ListedTo}
use Rattle.sweep.specs.Sweeping.{ListsAll}
use Rattle.strands.specs.Strands.{listing_of, entries_of, Walked, Entered, ListsAs, ListsBoth}
use Rattle.strands.proofs.Needs.{none_needed}

-- ---- one strand

-- without slots there is nothing to list
pub lists_none : {firsts nexts list : List ℕ} {c : Settings} {slots : ℕ} → slots ≡ 0 → walked_need c.b firsts nexts ≤ slots
    → ListsAs (entry_numbers c.k) firsts nexts c list 0
unfolding listing_of keep laid records_from
lists_none {firsts} {nexts} {list} {c} z h =
    let none : walked firsts nexts ≡ [] = none_needed c.b firsts nexts (omega arith) in
    record {
      few = omega arith;
      entered = subst⁻¹ (λ (l : List Cell). Entered (map (entry_numbers c.k) (listing_of c l)) list 0) none (record { counted = refl; entries = λ g. refl });
    }

-- what is listed, in numbers
entered_as : {c : Settings} {cells : List Cell} {list : List ℕ} {n : ℕ} → ListedTo c cells (records_from c.b [] cells) list n
    → Entered (map (entry_numbers c.k) (listing_of c cells)) list n
unfolding listing_of
entered_as {c} {cells} v =
    record {
      counted = v.counted ∙ sym (length-map (listing_of c cells) (entry_numbers c.k));
      entries = λ h. v.entries h ∙ sym (laid_map (entry_numbers c.k) (λ entry. entry) (listing_of c cells));
    }

pub lists_swept : {firsts nexts list : List ℕ} {c : Settings} {n : ℕ} → Walked firsts nexts c
    → ListsAll firsts nexts c list n → ListsAs (entry_numbers c.k) firsts nexts c list n
lists_swept s a = record { few = (let f = a.few in let r = s.walks.few_rows in omega arith); entered = entered_as a.entered }

-- ---- turned back

module _ {firsts nexts list : List ℕ} {c : Settings} {n : ℕ} (letters : ℕ) (a : ListsAs (entry_numbers c.k) firsts nexts c list n) where
  pub lists_short : list_holds list < n → ListsAs (reverse_numbers letters c.k) firsts nexts c list n
  unfolding list_holds
  lists_short h =
      let xs = listing_of c (walked firsts nexts) in
      let sizes = length-map xs (entry_numbers c.k) ∙ sym (length-map xs (reverse_numbers letters c.k)) in
      record { few = a.few; entered = record { counted = a.entered.counted ∙ sizes; entries = λ f. absurd (omega arith) } }

  pub lists_turned : n ≤ list_holds list → {list' : List ℕ} → list' ≡ turn_entries letters list n
      → ListsAs (reverse_numbers letters c.k) firsts nexts c list' n
  unfolding list_holds
  lists_turned h {list'} el =
      record { few = a.few; entered = back (listing_of c (walked firsts nexts)) a.entered }
    where
      back : (xs : List Record) → Entered (map (entry_numbers c.k) xs) list n → Entered (map (reverse_numbers letters c.k) xs) list' n
      back xs v =
          let count : n ≡ length xs = v.counted ∙ length-map xs (entry_numbers c.k) in
          let front : take (6 * n) list ≡ laid (entry_numbers c.k) xs = v.entries (omega arith) ∙ laid_map (entry_numbers c.k) (λ entry. entry) xs in
          let whole : list ≡ laid (entry_numbers c.k) xs ++ drop (6 * n) list = sym (take-append-drop (6 * n) list)
          ∙ ap (λ (l : List ℕ). l ++ drop (6 * n) list) front in
          let turns : list' ≡ laid (reverse_numbers letters c.k) xs ++ drop (6 * n) list =
          el ∙ ap₂ (λ (l : List ℕ) (m : ℕ). turn_entries letters l m) whole count ∙ turned_all letters c.k xs (drop (6 * n) list) in
          let size : length (laid (reverse_numbers letters c.k) xs) ≡ 6 * n = reverse_size letters c.k xs ∙ sym (ap (λ (m : ℕ). 6 * m) count) in
          record {
            counted = count ∙ sym (length-map xs (reverse_numbers letters c.k));
            entries = λ f. ap (take (6 * n)) turns ∙ take_at (laid (reverse_numbers letters c.k) xs) (drop (6 * n) list) (6 * n) size
                ∙ sym (laid_map (reverse_numbers letters c.k) (λ entry. entry) xs);
          }

-- ---- one behind the other

end_inside : (at n : ℕ) (list : List ℕ) → at ≡ min n (length list) → at ≤ length list
end_inside at n list e = omega arith

module _ (list rest : List ℕ) (at n : ℕ) (ea : at ≡ min (6 * n) (length list)) (same : length rest ≡ length (mid_of at (length list - at) list)) where
  abbrev whole : List ℕ
  whole = put_mid at (length list - at) list rest

  whole_is : whole ≡ take at list ++ rest
  whole_is = rest_back at list rest (end_inside at (6 * n) list ea)

  front_size : length (take at list) ≡ at
  front_size = length-take-le at list (end_inside at (6 * n) list ea)

  rest_size : length rest ≡ length list - at
  rest_size = same ∙ ap length (rest_is at list (end_inside at (6 * n) list ea)) ∙ length-drop at list

  both_in : {m : ℕ} {forward reverse : List (List ℕ)} → Entered forward list n → Entered reverse rest m → Entered (forward ++ reverse) whole (n + m)
  both_in {m} {forward} {reverse} v w =
      record {
        counted = ap₂ (λ (x y : ℕ). x + y) v.counted w.counted ∙ sym (length-append forward reverse);
        entries = λ h. in_order (omega (arith, ap length whole_is, length-append (take at list) rest, front_size, rest_size, end_inside at (6 * n) list ea));
      }
    where
      in_order : 6 * (n + m) ≤ length list → take (6 * (n + m)) whole ≡ laid (λ entry. entry) (forward ++ reverse)
      in_order h =
          let there : at ≡ 6 * n = omega arith in
          let size : 6 * (n + m) ≡ length (take at list) + 6 * m = omega (arith, front_size) in
          let first : take at list ≡ laid (λ entry. entry) forward = ap (λ (q : ℕ). take q list) there ∙ v.entries (omega arith) in
          ap₂ (λ (q : ℕ) (l : List ℕ). take q l) size whole_is
          ∙ take-append-add (take at list) rest (6 * m)
          ∙ ap₂ (λ (x y : List ℕ). x ++ y) first (w.entries (omega (arith, rest_size)))
          ∙ sym (laid_append (λ (entry : List ℕ). entry) forward reverse)

  pub lists_both : {m : ℕ} {firsts nexts reverse-firsts reverse-nexts : List ℕ} {letters : ℕ} {c : Settings}
      → ListsAs (entry_numbers c.k) firsts nexts c list n
      → ListsAs (reverse_numbers letters c.k) reverse-firsts reverse-nexts c rest m
      → ListsBoth firsts nexts reverse-firsts reverse-nexts c letters whole (n + m)
  unfolding entries_of strand_numbers
  lists_both a z = record { few = (let x = a.few in let y = z.few in omega arith); entered = both_in a.entered z.entered }
