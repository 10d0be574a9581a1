-- THE THREE DEMANDS on the entry points, of what their contracts state: of every setting, sequence and room. What is listed and held is that of
-- rules/proofs/Theorems.antt, of the sequences as they are read: "Demand 2 reads with the capitals and this break." Assumes nothing.
use mathlib.Core.Path.{◌≡◌, refl, sym, ap, ◌∙◌}
use mathlib.Core.Logic.{◌↔◌}
use mathlib.Core.List.{List, [], ◌++◌, map, append_assoc, Memᴰ}
use Prim.Native.Nat.{ℕ, ◌+◌, ◌-◌, ◌*◌, ◌≤◌, ◌<◌, max, min}
use native.Mathlib.Omega.{arith}
use lib.ListN.{length, take, replicate}
use lib.Seq.{take_at}
use Rattle.rules.specs.declared.Settings.{Settings}
use Rattle.rules.specs.Entered.{settings}
use Rattle.rules.specs.declared.Cell.{Cell}
use Rattle.rules.specs.declared.Record.{Record}
use Rattle.rules.specs.Lists.{laid, then_zeros, zeros}
use Rattle.rules.specs.Letters.{reverse_complement, as_read}
use Rattle.rules.specs.Places.{places}
use Rattle.rules.specs.Matches.{is_match, matches}
use Rattle.rules.specs.Records.{records}
use Rattle.rules.specs.Listing.{listing, ends, Listed, Ordered}
use Rattle.rules.specs.Rooms.{work_holds, list_holds, record_numbers, held, Held, match_total, work_need, link_total}
use Rattle.rules.specs.Strands.{on_strand, strand_entries, entries, match_sum, larger_need, link_sum}
use Rattle.rules.specs.Answers.{Outcome, left, refusal, done, zeroed, checked, comparing, compared_sweeps, compared, stopping, stopped_sweep, stopped, replied}
use Rattle.rules.proofs.Tests.{Three, below, equal, above, three}
use Rattle.rules.proofs.ListLaws.{laid_append}
use Rattle.rules.proofs.Strands.{entries_size, need_forward, need_both, larger_bound, link_sum_bound, forward_first}
use Rattle.rules.proofs.Outcomes.{finishes_8, finishes_0, compares_7, compares_on, stops_7, stops_19, stops_0}
use Rattle.rules.proofs.Theorems.{listing_exact, listing_in_order, held_exact, held_in_order}
use Rattle.refusals.proofs.Checking.{no_room_number}
use Rattle.compare.proofs.Entries.{compare_refused, stop_refused, after_accepted}

number : {x y : Outcome} → x ≡ y → x.answer.number ≡ y.answer.number
number e = ap (λ (x : Outcome). x.answer.number) e

-- of a refusal for room
number_of : {x : Outcome} (n d : ℕ) (work list : List ℕ) → x ≡ zeroed n d work list → x.answer.number ≡ n
unfolding zeroed refusal
number_of n d work list e = number e

-- ---- the compare job

module _ (c : Settings) (s t work list : List ℕ) where
  -- both sequences as they are read
  abbrev s' : List ℕ
  s' = as_read c.mask s

  abbrev t' : List ℕ
  t' = as_read c.mask t

  -- W of the strands that the job sweeps, and how many entries they have
  abbrev W : ℕ
  W = larger_need c s' t'

  abbrev count : ℕ
  count = length (entries c s' t')

  -- every job is one of these four
  pub data Compared : Type 0 where
    refused : ((checked c s t).number ≡ 0 → ⊥) → compared c s t work list ≡ left (checked c s t) work list → Compared
    no_work_room : (checked c s t).number ≡ 0 → work_holds work < W → compared c s t work list ≡ zeroed 7 W work list → Compared
    no_list_room : (checked c s t).number ≡ 0 → W ≤ work_holds work → list_holds list < count → compared c s t work list ≡ zeroed 8 count work list → Compared
    listed : (checked c s t).number ≡ 0 → W ≤ work_holds work → count ≤ list_holds list
        → compared c s t work list
        ≡ left (done count (match_sum c s' t') W (link_sum c s' t')) (zeros work) (then_zeros (laid (λ entry. entry) (entries c s' t')) (length list))
        → Compared

  -- an accepted job goes by its entries and tallies
  rest : (checked c s t).number ≡ 0 → compared c s t work list ≡ comparing (entries c s' t') (match_sum c s' t') W (link_sum c s' t') work list
  unfolding compared compared_sweeps
  rest z = after_accepted c s t work list _ z

  with_work : (checked c s t).number ≡ 0 → W ≤ work_holds work → Three (list_holds list) count → Compared
  with_work z h (below g) = no_list_room z h g (rest z ∙ compares_on _ _ _ _ work list h ∙ finishes_8 _ _ _ _ work list g)
  with_work z h (equal g) =
      let l : count ≤ list_holds list = omega arith in listed z h l (rest z ∙ compares_on _ _ _ _ work list h ∙ finishes_0 _ _ _ _ work list l)
  with_work z h (above g) =
      let l : count ≤ list_holds list = omega arith in listed z h l (rest z ∙ compares_on _ _ _ _ work list h ∙ finishes_0 _ _ _ _ work list l)

  accepted_case : (checked c s t).number ≡ 0 → Three (work_holds work) W → Compared
  accepted_case z (below h) = no_work_room z h (rest z ∙ compares_7 _ _ _ _ work list h)
  accepted_case z (equal h) = with_work z (omega arith) (three (list_holds list) count)
  accepted_case z (above h) = with_work z (omega arith) (three (list_holds list) count)

  case_of : Three (checked c s t).number 0 → Compared
  case_of (below h) = absurd (omega arith)
  case_of (equal z) = accepted_case z (three (work_holds work) W)
  case_of (above h) = refused (λ z. omega arith) (compare_refused c s t work list (λ z. omega arith))

  -- DEMAND 1. Every setting, sequence and room gets one of the four answers, and each says when it is given and what every number of the rooms is
  pub demand_1 : Compared
  demand_1 = case_of (three (checked c s t).number 0)

  -- DEMAND 2. A job that is done leaves its entries and zeros after them, those of the forward strand first (`entries`). On each strand the listing holds
  -- exactly the closed matches whose spans are at least m, each with the greatest weight of any chain that ends there and the start the tie rule fixes,
  -- once, by end row, then end column
  pub record ListsStrand (strand : ℕ) : Type 0 where
    pub exactly : (y p : Cell) (w : ℕ)
        → Memᴰ (record { cell = y; weight = w; start = p }) (listing c s' (on_strand strand t')) ↔ Listed c s' (on_strand strand t') y p w
    pub in_order : Ordered (map (λ (x : Record). ends c.k x.cell) (listing c s' (on_strand strand t')))

  pub record Lists : Type 0 where
    pub written : (compared c s t work list).list ≡ then_zeros (laid (λ entry. entry) (entries c s' t')) (length list)
    pub counted : (compared c s t work list).answer.listed ≡ count
    pub each : (strand : ℕ) → ListsStrand strand

  pub demand_2 : (compared c s t work list).answer.number ≡ 0 → Lists
  unfolding done
  demand_2 e = go demand_1
    where
      go : Compared → Lists
      go (refused h q) = absurd (h (sym (number q) ∙ e))
      go (no_work_room z h q) = absurd (let n = number_of 7 W work list q in omega arith)
      go (no_list_room z h g q) = absurd (let n = number_of 8 count work list q in omega arith)
      go (listed z h g q) = record {
        written = ap (λ (x : Outcome). x.list) q;
        counted = ap (λ (x : Outcome). x.answer.listed) q;
        each = λ strand. record { exactly = listing_exact c s' (on_strand strand t'); in_order = listing_in_order c s' (on_strand strand t') };
      }

  -- DEMAND 3. Work room is refused exactly when it holds fewer records than W, the larger need of the strands; and W never passes (b + 1)(a - 1)
  pub demand_3_work : ((compared c s t work list).answer.number ≡ 7) ↔ (((checked c s t).number ≡ 0) × (work_holds work < W))
  unfolding done
  demand_3_work = (to demand_1, λ x. from x demand_1)
    where
      to : Compared → (compared c s t work list).answer.number ≡ 7 → ((checked c s t).number ≡ 0) × (work_holds work < W)
      to (refused h q) e = absurd ((no_room_number c s t).0 (sym (number q) ∙ e))
      to (no_work_room z h q) e = (z, h)
      to (no_list_room z h g q) e = absurd (let n = number_of 8 count work list q in omega arith)
      to (listed z h g q) e = absurd (let n = number q in omega arith)

      from : ((checked c s t).number ≡ 0) × (work_holds work < W) → Compared → (compared c s t work list).answer.number ≡ 7
      from x (refused h q) = absurd (h x.0)
      from x (no_work_room z h q) = number_of 7 W work list q
      from x (no_list_room z h g q) = absurd (let l = x.1 in omega arith)
      from x (listed z h g q) = absurd (let l = x.1 in omega arith)

  pub record Needs : Type 0 where
    pub forward : c.strand ≡ 0 → W ≡ work_need c s' t'
    pub both : (c.strand ≡ 0 → ⊥) → W ≡ max (work_need c s' t') (work_need c s' (reverse_complement t'))
    pub bounded : W ≤ (c.b + 1) * (c.a - 1)

  pub demand_3_need : Needs
  demand_3_need = record { forward = need_forward c s' t'; both = need_both c s' t'; bounded = larger_bound c s' t' }

  -- the link total is exact and within its bound
  pub record Links : Type 0 where
    pub exact : (compared c s t work list).answer.links ≡ link_sum c s' t'
    pub bounded : link_sum c s' t' ≤ match_sum c s' t' * ((c.b + 1) * min (c.a - 1) (c.b + 1) - 1)

  pub demand_3_links : (compared c s t work list).answer.number ≡ 0 → Links
  unfolding done
  demand_3_links e = go demand_1
    where
      go : Compared → Links
      go (refused h q) = absurd (h (sym (number q) ∙ e))
      go (no_work_room z h q) = absurd (let n = number_of 7 W work list q in omega arith)
      go (no_list_room z h g q) = absurd (let n = number_of 8 count work list q in omega arith)
      go (listed z h g q) = record { exact = ap (λ (x : Outcome). x.answer.links) q; bounded = link_sum_bound c s' t' }

-- a job over both strands begins with the forward job: where both are done, the forward job's entries stand at the front of both rooms
module _ (k b a m mask : ℕ) (s t work list work₁ list₁ : List ℕ) where
  abbrev one : Settings
  one = settings k b a m 0 mask

  abbrev two : Settings
  two = settings k b a m 1 mask

  -- the entries of the forward strand, and those of the reverse strand behind them
  abbrev ahead : List (List ℕ)
  ahead = entries one (as_read mask s) (as_read mask t)

  abbrev behind : List (List ℕ)
  behind = strand_entries two (as_read mask s) (as_read mask t) 1

  pub forward_part : (compared one s t work list).answer.number ≡ 0 → (compared two s t work₁ list₁).answer.number ≡ 0
      → take (6 * length ahead) (compared two s t work₁ list₁).list ≡ take (6 * length ahead) (compared one s t work list).list
  unfolding then_zeros
  forward_part e f =
      let size = entries_size one (as_read mask s) (as_read mask t) in
      let front = laid (λ entry. entry) ahead in
      let all = laid (λ entry. entry) (entries two (as_read mask s) (as_read mask t)) in
      let whole : all ≡ front ++ laid (λ entry. entry) behind =
      ap (laid (λ entry. entry)) (forward_first k b a m mask (as_read mask s) (as_read mask t)) ∙ laid_append (λ (entry : List ℕ). entry) ahead behind in
      let rest = replicate {A = ℕ} (length list₁ - length all) 0 in
      let written = (demand_2 two s t work₁ list₁ f).written in
      ap (take (6 * length ahead)) (written ∙ ap (λ (l : List ℕ). l ++ rest) whole ∙ append_assoc front (laid (λ entry. entry) behind) rest)
      ∙ take_at front _ (6 * length ahead) size
      ∙ sym (ap (take (6 * length ahead)) (demand_2 one s t work list e).written ∙ take_at front _ (6 * length ahead) size)

-- ---- the stopped sweep, on the one strand that it names

module _ (c : Settings) (s t work : List ℕ) (row : ℕ) where
  -- the first sequence as it is read, and the second on that strand
  abbrev r : List ℕ
  r = as_read c.mask s

  abbrev u : List ℕ
  u = on_strand c.strand (as_read c.mask t)

  -- every stopped sweep is one of these four
  pub data Stopped : Type 0 where
    refused_stop : ((checked c s t).number ≡ 0 → ⊥) → stopped c s t work row ≡ left (checked c s t) work [] → Stopped
    no_room : (checked c s t).number ≡ 0 → work_holds work < work_need c r u → stopped c s t work row ≡ zeroed 7 (work_need c r u) work [] → Stopped
    no_row : (checked c s t).number ≡ 0 → work_need c r u ≤ work_holds work → places c.k r < row
        → stopped c s t work row ≡ zeroed 19 (places c.k r) work [] → Stopped
    holds : (checked c s t).number ≡ 0 → work_need c r u ≤ work_holds work → row ≤ places c.k r
        → stopped c s t work row
        ≡ left (done (length (held c r u row)) (match_total c r u) (work_need c r u) (link_total c r u))
        (then_zeros (laid record_numbers (held c r u row)) (length work)) []
        → Stopped

  rest_stop : (checked c s t).number ≡ 0
      → stopped c s t work row ≡ stopping (held c r u row) (match_total c r u) (work_need c r u) (link_total c r u) (places c.k r) work row
  unfolding stopped stopped_sweep
  rest_stop z = after_accepted c s t work [] _ z

  with_room : (checked c s t).number ≡ 0 → work_need c r u ≤ work_holds work → Three (places c.k r) row → Stopped
  with_room z h (below g) = no_row z h g (rest_stop z ∙ stops_19 _ _ _ _ _ work row h g)
  with_room z h (equal g) = let l : row ≤ places c.k r = omega arith in holds z h l (rest_stop z ∙ stops_0 _ _ _ _ _ work row h l)
  with_room z h (above g) = let l : row ≤ places c.k r = omega arith in holds z h l (rest_stop z ∙ stops_0 _ _ _ _ _ work row h l)

  accepted_stop : (checked c s t).number ≡ 0 → Three (work_holds work) (work_need c r u) → Stopped
  accepted_stop z (below h) = no_room z h (rest_stop z ∙ stops_7 _ _ _ _ _ work row h)
  accepted_stop z (equal h) = with_room z (omega arith) (three (places c.k r) row)
  accepted_stop z (above h) = with_room z (omega arith) (three (places c.k r) row)

  stop_of : Three (checked c s t).number 0 → Stopped
  stop_of (below h) = absurd (omega arith)
  stop_of (equal z) = accepted_stop z (three (work_holds work) (work_need c r u))
  stop_of (above h) = refused_stop (λ z. omega arith) (stop_refused c s t work row (λ z. omega arith))

  -- DEMAND 1, of the stopped sweep
  pub demand_1_stopped : Stopped
  demand_1_stopped = stop_of (three (checked c s t).number 0)

  -- DEMAND 3. A sweep stopped after any row leaves exactly the matches of the run, once, in order, with greatest weight and start, then zeros
  pub record Leaves : Type 0 where
    pub written : (stopped c s t work row).work ≡ then_zeros (laid record_numbers (held c r u row)) (length work)
    pub exactly : (y p : Cell) (w : ℕ) → Memᴰ (record { cell = y; weight = w; start = p }) (held c r u row) ↔ Held c r u row y p w
    pub in_order : Ordered (map (λ (x : Record). x.cell) (held c r u row))

  pub demand_3_stopped : (stopped c s t work row).answer.number ≡ 0 → Leaves
  demand_3_stopped e = go demand_1_stopped
    where
      go : Stopped → Leaves
      go (refused_stop h q) = absurd (h (sym (number q) ∙ e))
      go (no_room z h q) = absurd (let n = number_of 7 (work_need c r u) work [] q in omega arith)
      go (no_row z h g q) = absurd (let n = number_of 19 (places c.k r) work [] q in omega arith)
      go (holds z h g q) = record {
        written = ap (λ (x : Outcome). x.work) q;
        exactly = held_exact c r u row;
        in_order = held_in_order c r u row;
      }

-- ---- any two results that a contract allows are equal

pub one_outcome : (o x y : Outcome) → x ≡ o → y ≡ o → x ≡ y
one_outcome o x y e f = e ∙ sym f

pub one_need : (c : Settings) (s t : List ℕ) (x y : ℕ) → x ≡ replied c s t → y ≡ replied c s t → x ≡ y
one_need c s t x y e f = e ∙ sym f

-- "m is checked and not used": the stopped sweep is the same with any other least span that the checks let pass
pub m_not_used : (k b a m n strand mask : ℕ) (s t work : List ℕ) (r : ℕ)
    → stopped_sweep (settings k b a m strand mask) s t work r ≡ stopped_sweep (settings k b a n strand mask) s t work r
unfolding stopped_sweep held records match_total work_need link_total matches is_match
m_not_used k b a m n strand mask s t work r = refl
