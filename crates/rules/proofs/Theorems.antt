-- THE THEOREMS about the definitions of specs/, of every sweep: settings c, a first sequence, and a second one as it stands on the strand that is swept;
-- of any gap bound and any matches, for CR 3; about the strands; and about masked letters. Each is proved in the file that its line cites. Assumes nothing.
use mathlib.Core.Path.{◌≡◌, refl, sym, ◌∙◌}
use mathlib.Core.Logic.{◌⊎◌, ◌↔◌}
use mathlib.Core.Bool.{Bool, true, false}
use mathlib.Core.List.{List, [], ◌++◌, map, Memᴰ}
use Prim.Native.Nat.{ℕ, ◌+◌, ◌-◌, ◌*◌, ◌≤◌, ◌<◌, min}
use native.Mathlib.Omega.{arith}
use lib.Dec.{T}
use lib.ListN.{replicate}
use Rattle.rules.specs.declared.Settings.{Settings}
use Rattle.rules.specs.Entered.{settings}
use Rattle.rules.specs.Lists.{text, keep}
use Rattle.rules.specs.Letters.{read_letter, code_of, complement, reverse_complement, bad_place, masked_letters, as_read}
use Rattle.rules.specs.Places.{kmer_at, packed}
use Rattle.rules.specs.Matches.{Cell, cell, is_match, matches}
use mathlib.Core.Option.{some}
use Rattle.rules.specs.Codes.{codes, code_match}
use Rattle.rules.specs.Chains.{Chain, Heaviest, Preferred, Predecessor, Start, Closed, Through, RightMaximal, LeftExtension, AtOrBeyond}
use Rattle.rules.specs.Chains.{PreferredByColumn, PredecessorByColumn}
use Rattle.rules.specs.Records.{Record, records}
use Rattle.rules.specs.Listing.{is_listed, listing, ends, Listed, Ordered}
use Rattle.rules.specs.Earlier.{listing_earlier}
use Rattle.rules.specs.Rooms.{held, Held, match_total, work_need, link_total}
use Rattle.rules.specs.Strands.{on_strand, strands, turned, strand_entries, entries, ReadsTurned, Within, larger_need}
use Rattle.rules.proofs.Letters.{complement_table, complement_twice}
use Rattle.rules.proofs.Kmers.{kmer_of, packed_same, match_by_code}
use Rattle.rules.proofs.Starts.{heaviest_one, predecessor_one, start_one}
use Rattle.rules.proofs.Jobs.{match_in, match_has, record_cells, weight_heaviest, start_right, start_of_heaviest}
use Rattle.rules.proofs.Listings.{listing_in, listing_has, listing_ordered, held_in, held_has, held_ordered}
use Rattle.rules.proofs.Weighed.{weighed}
use Rattle.rules.proofs.Heavier.{farther_heavier}
use Rattle.rules.proofs.Farther.{latest_row, nearest_column, larger_row, columns_apart, by_column, preferred_by_column}
use Rattle.rules.proofs.Farther.{row_left_out, not_overtaken, nearest_of_row, latest_held}
use Rattle.rules.proofs.Maximal.{closed_offsets, closed_maximal, every_carried, listing_left}
use Rattle.rules.proofs.Bounds.{W_bound, links_bound, no_matches, no_links}
use Rattle.rules.proofs.Strands.{turned_twice, place_twice, reads_turned, reverse_within, need_of_each, forward_first}
use Rattle.rules.proofs.Masks.{SameJob, read_turned, as_capitals, as_N, masks_agree}

module _ (c : Settings) (first second : List ℕ) where
  -- ---- matches

  -- equal packed codes mean equal k-mers, whichever sequences s and t they come from
  pub equal_codes : (s t : List ℕ) (i j : ℕ) (x y : List ℕ) → kmer_at c.k s i ≡ some x → kmer_at c.k t j ≡ some y → packed x ≡ packed y → x ≡ y
  equal_codes s t i j x y p q e =
      let f = kmer_of c.k s i x p in
      let g = kmer_of c.k t j y q in
      packed_same x y f.bases g.bases (f.long ∙ sym g.long) e

  -- so matches are told from the codes of the places alone
  pub matches_by_code : (y : Cell) → is_match c first second y ≡ code_match (codes c.k first) (codes c.k second) c.a y
  matches_by_code = match_by_code c first second

  -- the list of matches holds exactly the matches
  pub matches_exact : (y : Cell) → Memᴰ y (matches c first second) ↔ T (is_match c first second y)
  matches_exact y = (match_in c first second y, match_has c first second y)

  -- ---- weights and starts

  -- each match has one record, in the order of the matches
  pub one_record_each : map (λ (x : Record). x.cell) (records c first second) ≡ matches c first second
  one_record_each = record_cells c first second

  -- its weight is reached by a chain that ends there, and no such chain weighs more
  pub greatest_weight : (x : Record) → Memᴰ x (records c first second) → Heaviest c.b (is_match c first second) x.cell x.weight
  greatest_weight = weight_heaviest c first second

  -- its start is the one that the predecessor rule fixes
  pub tie_rule_start : (x : Record) → Memᴰ x (records c first second) → Start c.b (is_match c first second) x.cell x.start
  tie_rule_start = start_right c first second

  -- and begins a heaviest chain
  pub start_begins : (x : Record) → Memᴰ x (records c first second) → Chain c.b (is_match c first second) x.start x.cell x.weight
  start_begins = start_of_heaviest c first second

  -- heaviest weight, predecessor and start are unique
  pub one_weight : (y : Cell) (v w : ℕ) → Heaviest c.b (is_match c first second) y v → Heaviest c.b (is_match c first second) y w → v ≡ w
  one_weight y v w = heaviest_one

  pub one_predecessor : (y p q : Cell) → Predecessor c.b (is_match c first second) y p → Predecessor c.b (is_match c first second) y q → p ≡ q
  one_predecessor y p q = predecessor_one

  pub one_start : (y p q : Cell) → Start c.b (is_match c first second) y p → Start c.b (is_match c first second) y q → p ≡ q
  one_start y p q = start_one

  -- ---- closed matches

  -- CR 2: "offsets 0 to b each, not both 0"
  pub closed_by_offsets : (y : Cell) → Closed c.b (is_match c first second) y
      ↔ ((p q : ℕ) → p ≤ c.b → q ≤ c.b → 1 ≤ p + q → ¬ T (is_match c first second (cell (y.row + p) (y.column + q))))
  closed_by_offsets = closed_offsets c.b (is_match c first second)

  -- a match is closed exactly where no chain through it goes on
  pub closed_is_right_maximal : (y : Cell) → T (is_match c first second y) → Closed c.b (is_match c first second) y
      ↔ RightMaximal c.b (is_match c first second) y
  closed_is_right_maximal = closed_maximal c.b (is_match c first second)

  -- and every chain can be carried on to a closed match: one from the same match goes through its last, weighs no less and ends there
  pub every_chain_carried : (p y : Cell) (n : ℕ) → Chain c.b (is_match c first second) p y n
      → (z : Cell) × (m : ℕ) × (h : Chain c.b (is_match c first second) p z m) × Through y h × (n ≤ m) × Closed c.b (is_match c first second) z
  every_chain_carried = every_carried c first second

  -- what is closed was closed by document 01's rule, "there is no match (i + x, j + y) with x and y each from 1 to b"
  pub closed_was_closed : (y : Cell) → Closed c.b (is_match c first second) y
      → (p q : ℕ) → 1 ≤ p → p ≤ c.b → 1 ≤ q → q ≤ c.b → ¬ T (is_match c first second (cell (y.row + p) (y.column + q)))
  closed_was_closed y h p q p1 pb q1 qb = (closed_by_offsets y).0 h p q pb qb (omega arith)

  -- so the listing only shrinks: it is the earlier one, in its order, without what is no longer closed
  pub listing_shrinks : listing c first second ≡ keep (is_listed c (matches c first second)) (listing_earlier c first second)
  listing_shrinks = listing_left c first second

  -- ---- the listing

  -- it holds exactly the closed matches whose two spans are at least m, each with its heaviest weight and its start
  pub listing_exact : (y p : Cell) (w : ℕ) → Memᴰ (record { cell = y; weight = w; start = p }) (listing c first second) ↔ Listed c first second y p w
  listing_exact y p w = (listing_in c first second (record { cell = y; weight = w; start = p }), listing_has c first second y p w)

  -- each once, by end row, then end column, compared as numbers
  pub listing_in_order : Ordered (map (λ (x : Record). ends c.k x.cell) (listing c first second))
  listing_in_order = listing_ordered c first second

  -- ---- rooms and tallies

  -- after row r the stopped sweep holds exactly the matches of rows max(1, r - b) to r, each with its heaviest weight and its start
  pub held_exact : (r : ℕ) (y p : Cell) (w : ℕ) → Memᴰ (record { cell = y; weight = w; start = p }) (held c first second r) ↔ Held c first second r y p w
  held_exact r y p w = (held_in c first second r (record { cell = y; weight = w; start = p }), held_has c first second r y p w)

  -- each once, by row, then column
  pub held_in_order : (r : ℕ) → Ordered (map (λ (x : Record). x.cell) (held c first second r))
  held_in_order r = held_ordered c first second r

  -- "W is at most (b + 1)(a - 1)."
  pub work_bound : work_need c first second ≤ (c.b + 1) * (c.a - 1)
  work_bound = W_bound c first second

  -- "It is at most M((b + 1) min(a - 1, b + 1) - 1)."
  pub link_bound : link_total c first second ≤ match_total c first second * ((c.b + 1) * min (c.a - 1) (c.b + 1) - 1)
  unfolding match_total
  link_bound = links_bound c first second

  -- "With a = 1 there are no matches, and it is 0."
  pub none_at_one : c.a ≡ 1 → (matches c first second ≡ []) × (link_total c first second ≡ 0)
  none_at_one e = (no_matches c first second e, no_links c first second e)

-- ---- does the second tie rule ever decide? (CR 3)

-- every match has a heaviest weight, so that what follows speaks of all of them
pub every_match_weighs : (b : ℕ) (hit : Cell → Bool) (y : Cell) → T (hit y) → (w : ℕ) × Heaviest b hit y w
every_match_weighs = weighed

module _ (b : ℕ) (hit : Cell → Bool) (c x y : Cell) (lx : LeftExtension b hit c x) (ly : LeftExtension b hit c y) where
  -- "two left extensions of one match with equal heaviest weights never share a column"
  pub equal_weights_apart : ¬ (x ≡ y) → (w : ℕ) → Heaviest b hit x w → Heaviest b hit y w → ¬ (x.column ≡ y.column)
  equal_weights_apart two w = columns_apart lx ly two

  -- "so the smaller row never decides"
  pub row_never_decides : (w v : ℕ) → Heaviest b hit x w → Heaviest b hit y v → Preferred x w y v ↔ PreferredByColumn x w y v
  row_never_decides w v hx hy = (by_column lx ly hx hy, preferred_by_column)

  -- "of two left extensions where one lies at or beyond the other in both sequences, the farther one weighs strictly more"
  pub farther_weighs_more : ¬ (x ≡ y) → AtOrBeyond x y → (v w : ℕ) → Heaviest b hit x v → Heaviest b hit y w → v < w
  farther_weighs_more two far v w = farther_heavier lx ly two far

  -- so in one column the latest row is the heaviest: any other weighs less
  pub latest_row_heaviest : (v w : ℕ) → Heaviest b hit x v → Heaviest b hit y w → x.column ≡ y.column → x.row ≤ y.row → (v < w) ⊎ (x ≡ y)
  latest_row_heaviest v w = latest_row lx ly

  -- and in one row the nearest on the left
  pub nearest_heaviest : (v w : ℕ) → Heaviest b hit x v → Heaviest b hit y w → x.row ≡ y.row → x.column ≤ y.column → (v < w) ⊎ (x ≡ y)
  nearest_heaviest v w = nearest_column lx ly

  -- of two of equal weight the one in the smaller column has the larger row
  pub smaller_column_larger_row : (w : ℕ) → Heaviest b hit x w → Heaviest b hit y w → x.column < y.column → y.row < x.row
  smaller_column_larger_row w hx hy = larger_row lx ly hx hy refl

  -- one at or before another in both sequences is never the predecessor
  pub overtaken_no_predecessor : ¬ (x ≡ y) → AtOrBeyond x y → ¬ Predecessor b hit c x
  overtaken_no_predecessor two far p = not_overtaken p ly two far

  -- of the matches of one row only the nearest on the left can be
  pub nearest_alone : x.row ≡ y.row → Predecessor b hit c x → y.column ≤ x.column
  nearest_alone e p = nearest_of_row p ly e

-- the tie rule without its last words gives every match the same predecessor
pub predecessor_by_column : (b : ℕ) (hit : Cell → Bool) (c x : Cell) → Predecessor b hit c x ↔ PredecessorByColumn b hit c x
predecessor_by_column b hit c x = row_left_out

-- of what a sweep holds after a row, in one column the latest row is the heaviest
pub latest_held_heaviest : (c : Settings) (first second : List ℕ) (r : ℕ) (x y : Record) → Memᴰ x (held c first second r)
    → Memᴰ y (held c first second r)
    → x.cell.column ≡ y.cell.column → x.cell.row ≤ y.cell.row → (x.weight < y.weight) ⊎ (x.cell ≡ y.cell)
latest_held_heaviest = latest_held

-- ---- strands

-- "A letter's complement reverses the four bits of its code, so R becomes Y and N stays": A and T, C and G, M and K, R and Y, V and B, H and D exchange,
-- and S, W and N stay; CR 5: "reverse complement keeps the mask"
pub complements : map complement (text "ACMGRSVTWYHKDBNacmgrsvtwyhkdbn") ≡ text "TGKCYSBAWRDMHVNtgkcysbawrdmhvn"
complements = complement_table

-- turning twice is the identity: of a letter, of a sequence of letters, and of a place
pub letter_turned_twice : (x : ℕ) → 0 < code_of x → complement (complement x) ≡ x
letter_turned_twice = complement_twice

pub sequence_turned_twice : (s : List ℕ) → bad_place s ≡ 0 → reverse_complement (reverse_complement s) ≡ s
sequence_turned_twice = turned_twice

pub place_turned_twice : (letters p : ℕ) → p ≤ letters + 1 → turned letters (turned letters p) ≡ p
place_turned_twice = place_twice

-- a reverse entry can be checked by eye: read on the reverse strand, its letters are those of the first sequence's k-mers at its ends
pub reverse_by_eye : (c : Settings) (first second entry : List ℕ) → Memᴰ entry (strand_entries c first second 1) → ReadsTurned c.k first second entry
reverse_by_eye = reads_turned

pub reverse_inside : (c : Settings) (first second : List ℕ) → 1 ≤ c.k → (entry : List ℕ) → Memᴰ entry (strand_entries c first second 1)
    → Within second entry
reverse_inside = reverse_within

-- "forward entries come first": a job over both strands has those of the forward job, and then the reverse ones
pub forward_entries_first : (k b a m mask : ℕ) (first second : List ℕ)
    → entries (settings k b a m 1 mask) first second
    ≡ entries (settings k b a m 0 mask) first second ++ strand_entries (settings k b a m 1 mask) first second 1
forward_entries_first = forward_first

-- "Work room must hold the larger W": no strand of a job needs more
pub larger_need_lem : (c : Settings) (first second : List ℕ) (strand : ℕ) → Memᴰ strand (strands c)
    → work_need c first (on_strand strand second) ≤ larger_need c first second
larger_need_lem = need_of_each

-- ---- masked letters (CR 5)

-- "Reading a letter now tells its capital and whether it is masked": all thirty
pub capitals_read : map (λ (x : ℕ). (read_letter x).capital) (text "ACMGRSVTWYHKDBNacmgrsvtwyhkdbn") ≡ text "ACMGRSVTWYHKDBNACMGRSVTWYHKDBN"
unfolding read_letter text
capitals_read = refl

pub masks_read : map (λ (x : ℕ). (read_letter x).masked) (text "ACMGRSVTWYHKDBNacmgrsvtwyhkdbn") ≡ replicate 15 false ++ replicate 15 true
unfolding read_letter text
masks_read = refl

-- "whether masked letters form k-mers (0) or break them as N does (1)": what all thirty stand for under either setting
pub letters_formed : as_read 0 (text "ACMGRSVTWYHKDBNacmgrsvtwyhkdbn") ≡ text "ACMGRSVTWYHKDBNACMGRSVTWYHKDBN"
unfolding as_read text
letters_formed = refl

pub letters_broken : as_read 1 (text "ACMGRSVTWYHKDBNacmgrsvtwyhkdbn") ≡ text "ACMGRSVTWYHKDBNNNNNNNNNNNNNNNN"
unfolding as_read text
letters_broken = refl

-- reading commutes with turning: what is turned with its mask and then read is what is read and then turned, of any bytes
pub reading_turned : (mask : ℕ) (s : List ℕ) → as_read mask (reverse_complement s) ≡ reverse_complement (as_read mask s)
reading_turned = read_turned

module _ (k b a m strand : ℕ) (first second : List ℕ) where
  -- 0: the answer is that of the capitals
  pub form_as_capitals : SameJob (settings k b a m strand 0) first second (settings k b a m strand 0) (as_read 0 first) (as_read 0 second)
  form_as_capitals = as_capitals k b a m strand first second

  -- "or break them as N does (1)": the answer is that of the capitals with N for each masked letter
  pub break_as_N : SameJob (settings k b a m strand 1) first second (settings k b a m strand 0) (as_read 1 first) (as_read 1 second)
  break_as_N = as_N k b a m strand first second

  -- without a masked letter both settings agree
  pub unmasked_agree : masked_letters first ≡ 0 → masked_letters second ≡ 0
      → SameJob (settings k b a m strand 0) first second (settings k b a m strand 1) first second
  unmasked_agree = masks_agree k b a m strand first second
