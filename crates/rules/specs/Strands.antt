-- Document 02, CR 1: the strands, and the entries and tallies of a job over those that it names. Each strand is swept as a job of its own, "with totals of
-- its own". Assumes nothing.
use Rattle.std.specs.Prelude.{◌≡◌, cond, List, [], ◌∷◌, map, ℕ, zero, suc, ◌+◌, ◌-◌, ◌≤◌, eqb, length, get_or}
use Rattle.rules.specs.declared.Settings.{Settings}
use Rattle.rules.specs.Lists.{sum_of, largest_of, laid}
use Rattle.rules.specs.Letters.{reverse_complement}
use Rattle.rules.specs.Places.{letters_at}
use Rattle.rules.specs.Records.{Record}
use Rattle.rules.specs.Listing.{listing, ends, entry_numbers}
use Rattle.rules.specs.Rooms.{match_total, work_need, link_total}

-- the second sequence on a strand: "The reverse sweep is the base job on the first sequence and the reverse complement of the second"
unfoldable pub on_strand : ℕ → List ℕ → List ℕ
unfolding reverse_complement
on_strand zero second = second
on_strand (suc n) second = reverse_complement second

-- the strands that a job sweeps: "0 forward, 1 both"
unfoldable pub strands : Settings → List ℕ
strands c = cond (eqb c.strand 0) (0 ∷ []) (0 ∷ 1 ∷ [])

-- ---- entries

-- "place p of the second sequence is reported as its length plus 1 minus p"
unfoldable pub turned : ℕ → ℕ → ℕ
turned letters p = letters + 1 - p

-- "For a reverse entry, .. with start and end exchanged", and the sixth number 1
unfoldable pub reverse_numbers : ℕ → ℕ → Record → List ℕ
unfolding ends turned
reverse_numbers letters k x =
    x.start.row ∷ (ends k x.cell).row ∷ turned letters (ends k x.cell).column ∷ turned letters x.start.column ∷ x.weight ∷ 1 ∷ []

-- an entry's numbers on a strand
unfoldable pub strand_numbers : ℕ → ℕ → ℕ → Record → List ℕ
unfolding entry_numbers reverse_numbers
strand_numbers zero letters k x = entry_numbers k x
strand_numbers (suc n) letters k x = reverse_numbers letters k x

-- the entries of one strand: "reverse entries keep their sweep's order"
unfoldable pub strand_entries : Settings → List ℕ → List ℕ → ℕ → List (List ℕ)
unfolding strand_numbers listing on_strand
strand_entries c first second strand = map (strand_numbers strand (length second) c.k) (listing c first (on_strand strand second))

-- and of all: "forward entries come first"
unfoldable pub entries : Settings → List ℕ → List ℕ → List (List ℕ)
unfolding laid strand_entries strands
entries c first second = laid (strand_entries c first second) (strands c)

-- a reverse entry's k-mers can be read off the second sequence as it stands: at its start those of the first sequence's end, at its end those of the first
-- sequence's start, each turned round (proofs/Strands.antt)
pub record ReadsTurned (k : ℕ) (first second entry : List ℕ) : Type 0 where
  pub at_start : letters_at k first (get_or entry 0 0) ≡ reverse_complement (letters_at k second (get_or entry 3 0 + 1 - k))
  pub at_end : letters_at k first (get_or entry 1 0 + 1 - k) ≡ reverse_complement (letters_at k second (get_or entry 2 0))

-- and its places are the second sequence's, start before end
pub record Within (second entry : List ℕ) : Type 0 where
  pub from : 1 ≤ get_or entry 2 0
  pub forth : get_or entry 2 0 ≤ get_or entry 3 0
  pub to : get_or entry 3 0 ≤ length second

-- ---- tallies: "Work room must hold the larger W, which is reported", "the other tallies are sums"

unfoldable pub match_sum : Settings → List ℕ → List ℕ → ℕ
unfolding sum_of match_total on_strand strands
match_sum c first second = sum_of (λ strand. match_total c first (on_strand strand second)) (strands c)

unfoldable pub larger_need : Settings → List ℕ → List ℕ → ℕ
unfolding largest_of work_need on_strand strands
larger_need c first second = largest_of (λ strand. work_need c first (on_strand strand second)) (strands c)

unfoldable pub link_sum : Settings → List ℕ → List ℕ → ℕ
unfolding sum_of link_total on_strand strands
link_sum c first second = sum_of (λ strand. link_total c first (on_strand strand second)) (strands c)
