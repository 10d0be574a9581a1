-- The sort orders the places, of which so many have a k-mer; there is no room for them, or they are written and zeros after them. Assumes nothing.
use mathlib.Core.Path.{◌≡◌, refl}
use Prim.Native.Nat.{ℕ, ◌≤◌}
use native.Mathlib.Omega.{arith}
use lib.ListN.{length, replicate, length-replicate}
use Rattle.requests.specs.Index.{kmer_places}
use Rattle.building.proofs.Sorting.{ordered_count, index_left}
use Rattle.building.proofs.Endings.{ends_11, ends_0}
use Rattle.building.proofs.build_codes.Goals as goal

room : length {A = ℕ} (replicate 16384 0) ≡ 16384
room = length-replicate {A = ℕ} 16384 0

pub returns-then-index-n : goal.returns-then-index-n
returns-then-index-n c =
    let inside : c.sort_places-n.result ≤ length c.sort_places-n.new.out = omega (arith, c.sort_places-n.ensures.within, c.sort_places-n.ensures.long, c.requires, room) in
    let count : c.sort_places-n.result ≡ kmer_places c.args.codes.now = ordered_count c.sort_places-n.ensures inside in
    ends_11 _ _ count c.if-index-n.true refl c.zero_all.ensures

pub returns : goal.returns
returns c =
    let inside : c.sort_places-n.result ≤ length c.sort_places-n.new.out = omega (arith, c.sort_places-n.ensures.within, c.sort_places-n.ensures.long, c.requires, room) in
    let count : c.sort_places-n.result ≡ kmer_places c.args.codes.now = ordered_count c.sort_places-n.ensures inside in
    ends_0 _ _ count c.if-index-n.false refl (index_left c.sort_places-n.ensures c.put_places.ensures c.if-index-n.false c.zero_from.ensures)
