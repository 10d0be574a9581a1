-- The job on the walks of both strands, found over the index, is the job on their matches. Assumes nothing.
use mathlib.Core.Path.{◌≡◌, sym}
use mathlib.Core.List.{List}
use Prim.Native.Nat.{ℕ, ◌≤◌}
use native.Mathlib.Omega.{arith}
use lib.ListN.{length, replicate}
use Rattle.rules.specs.declared.Settings.{Settings}
use Rattle.rules.specs.Letters.{as_read}
use Rattle.rules.proofs.Masks.{read_length}
use Rattle.requests.specs.Index.{codes_of}
use Rattle.walks.proofs.Matching.{BothMatched}
use Rattle.accepted.proofs.Walking.{blank, walks_fit, compares}
use Rattle.mirrored.specs.Mirrored.{FirstFits, BothColumns}
use Rattle.mirrored.proofs.Matching.{both_matched}
use Rattle.admitted.proofs.compare_indexed.Goals as goal

-- an array as it is made
abbrev none : List ℕ
none = replicate 16384 0

-- the columns that `mirrored::both` leaves in such arrays come to the matches of both strands
walked : {c : Settings} {s coded codes : List ℕ} (t : List ℕ) → FirstFits c s coded → length codes ≤ 16384 → codes ≡ codes_of c.k c.mask t
    → {firsts nexts reverse_firsts reverse_nexts : List ℕ} {rows : ℕ}
    → BothColumns c s coded codes none none none none firsts nexts reverse_firsts reverse_nexts rows
    → BothMatched c coded (as_read c.mask t) firsts nexts reverse_firsts reverse_nexts rows
walked t ok few e found = both_matched t ok few e blank blank blank blank found

pub slice_bounds-reverse_firsts-end : goal.slice_bounds-reverse_firsts-end
slice_bounds-reverse_firsts-end c = (walked _ c.requires.fits_first c.args.lookup.few c.requires.codes_value c.both-reverse_rows.ensures).reverse.inside

pub slice_bounds-strands-end-3 : goal.slice_bounds-strands-end-3
slice_bounds-strands-end-3 c = (walked _ c.requires.fits_first c.args.lookup.few c.requires.codes_value c.both-reverse_rows.ensures).reverse.long

pub invariant_of-strands : goal.invariant_of-strands
invariant_of-strands c = record { safe = (walked _ c.requires.fits_first c.args.lookup.few c.requires.codes_value c.both-reverse_rows.ensures).forward.safe }

pub invariant_of-strands-2 : goal.invariant_of-strands-2
invariant_of-strands-2 c = record { safe = (walked _ c.requires.fits_first c.args.lookup.few c.requires.codes_value c.both-reverse_rows.ensures).reverse.safe }

pub compare_matches-requires : goal.compare_matches-requires
compare_matches-requires c =
    let ok = c.requires.fits in
    let m = walked _ c.requires.fits_first c.args.lookup.few c.requires.codes_value c.both-reverse_rows.ensures in
    record {
      walked = walks_fit ok m.forward;
      walked_2 = walks_fit ok m.reverse;
      letters_bound = omega (arith, ok.short_second, c.requires.fits_first.short_first);
    }

pub returns : goal.returns
returns c =
    let m = walked _ c.requires.fits_first c.args.lookup.few c.requires.codes_value c.both-reverse_rows.ensures in
    compares m _ _ (sym (read_length c.args.c.mask c.args.second.now)) c.compare_matches.ensures
