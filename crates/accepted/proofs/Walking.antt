-- Walks that come to the matches of a strand serve the job on it. Assumes nothing.
use mathlib.Core.Path.{◌≡◌, sym, ap, ◌∙◌}
use mathlib.Core.List.{List, []}
use Prim.Native.Nat.{ℕ}
use lib.ListN.{length, take, replicate, length-replicate}
use Rattle.rules.specs.declared.Settings.{Settings}
use Rattle.rules.specs.declared.Answer.{Answer}
use Rattle.rules.specs.Letters.{as_read}
use Rattle.rules.specs.Strands.{on_strand}
use Rattle.rules.specs.Answers.{left}
use Rattle.rules.proofs.ListLaws.{zeros_at}
use Rattle.matches.specs.Walks.{walked}
use Rattle.walks.specs.Matched.{coded_matches, Fits, Columns, BothColumns}
use Rattle.walks.proofs.Matching.{Blank, Matched, BothMatched, both_matched, strand_matched}
use Rattle.walks.proofs.Turning.{read_fits}
use Rattle.tally.specs.declared.Counts.{Counts}
use Rattle.strands.specs.Strands.{larger_of, both_counts, Walked}
use Rattle.jobs.specs.Jobs.{compared_of}
use Rattle.stopping.specs.Stopping.{stopped_of}
use Rattle.accepted.specs.Coded.{compared_coded, stopped_coded, needed_coded}

-- an array as it is made
abbrev none : List ℕ
none = replicate 16384 0

pub blank : Blank none
blank = record { long = length-replicate {A = ℕ} 16384 0; empty = zeros_at 16384 }

-- walks that were made in such arrays, of letters that fit and as they are read
pub both_walks : {c : Settings} {coded t firsts nexts reverse-firsts reverse-nexts : List ℕ} {rows : ℕ} → Fits c coded t
    → BothColumns c coded (as_read c.mask t) none none none none firsts nexts reverse-firsts reverse-nexts rows
    → BothMatched c coded (as_read c.mask t) firsts nexts reverse-firsts reverse-nexts rows
both_walks {c} ok m = both_matched (read_fits c.mask ok) blank blank blank blank m

pub strand_walks : {c : Settings} {coded t firsts nexts : List ℕ} → Fits c coded t
    → Columns c coded (on_strand c.strand (as_read c.mask t)) none none firsts nexts
    → Matched c coded (on_strand c.strand (as_read c.mask t)) firsts nexts (length coded)
strand_walks {c} ok m = strand_matched (read_fits c.mask ok) blank blank m

-- walks that fit a job
pub walks_fit : {c : Settings} {coded t u firsts nexts : List ℕ} {rows : ℕ} → Fits c coded t → Matched c coded u firsts nexts rows
    → Walked (take rows firsts) nexts c
walks_fit ok m = record { walks = m.safe; wide = m.wide; some_base = ok.some_base; few_bases = ok.few_bases }

-- ---- the jobs

module _ {c : Settings} {coded t firsts nexts reverse-firsts reverse-nexts : List ℕ} {rows : ℕ}
    (m : BothMatched c coded t firsts nexts reverse-firsts reverse-nexts rows) where
  abbrev front : List ℕ
  front = take (length coded) firsts

  abbrev back : List ℕ
  back = take rows reverse-firsts

  pub compares : {letters : ℕ} (work list : List ℕ) {work' list' : List ℕ} {r : Answer} → letters ≡ length t
      → left r work' list' ≡ compared_of c letters (walked front nexts) (length front) (walked back reverse-nexts) (length back) work list
      → left r work' list' ≡ compared_coded c coded t work list
  unfolding compared_coded
  compares work list el a =
      let long = sym m.forward.long in
      let far = sym m.reverse.long in
      a
      ∙ (λ i. compared_of c (el i) (m.forward.comes i) (long i) (m.reverse.comes i) (far i) work list)
      ∙ ap (λ (n : ℕ). compared_of c (length t) (coded_matches c coded t (length coded)) (length coded) (coded_matches c coded (on_strand 1 t) n) n work list)
      m.rows_are

  pub measures : {b : ℕ} {counts : Counts} → b ≡ c.b
      → counts ≡ both_counts b (walked front nexts) (length front) (walked back reverse-nexts) (length back) → counts.widest ≡ needed_coded c coded t
  unfolding needed_coded both_counts
  measures eb a =
      let long = sym m.forward.long in
      let far = sym m.reverse.long in
      ap (λ (k : Counts). k.widest) a
      ∙ (λ i. larger_of (eb i) (m.forward.comes i) (long i) (m.reverse.comes i) (far i))
      ∙ ap (λ (n : ℕ). larger_of c.b (coded_matches c coded t (length coded)) (length coded) (coded_matches c coded (on_strand 1 t) n) n) m.rows_are

pub stops : {c : Settings} {coded firsts nexts : List ℕ} (t : List ℕ) → Matched c coded (on_strand c.strand t) firsts nexts (length coded)
    → (work : List ℕ) {work' : List ℕ} {n row : ℕ} {r : Answer} → n ≡ row
    → left r work' [] ≡ stopped_of c (walked (take (length coded) firsts) nexts) (length (take (length coded) firsts)) work n
    → left r work' [] ≡ stopped_coded c coded t work row
unfolding stopped_coded
stops {c} t m work en a =
    let long = sym m.long in
    a ∙ (λ i. stopped_of c (m.comes i) (long i) work (en i))
