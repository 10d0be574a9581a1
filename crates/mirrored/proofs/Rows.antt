-- How many codes a strand has, and the codes of the reverse strand's rows as they are made. Assumes nothing.
use mathlib.Core.Path.{◌≡◌, refl, sym, ap, ◌∙◌}
use mathlib.Core.List.{List, ◌++◌, reverse}
use Prim.Native.Nat.{ℕ, zero, suc}
use lib.ListN.{length, take, drop, length-reverse}
use Rattle.rules.specs.declared.Settings.{Settings}
use Rattle.rules.specs.Letters.{reverse_complement, as_read}
use Rattle.rules.specs.Places.{places}
use Rattle.rules.specs.Codes.{codes}
use Rattle.rules.proofs.Kmers.{codes_length}
use Rattle.rules.proofs.Strands.{turned_places}
use Rattle.rules.proofs.Masks.{read_places}
use Rattle.requests.specs.Index.{codes_of}
use Rattle.kmers.proofs.Codes.{Front}
use Rattle.mirrored.specs.Mirrored.{row_codes, column_codes}

codes_count : (k mask : ℕ) (s : List ℕ) → length (codes_of k mask s) ≡ places k s
unfolding codes_of
codes_count k mask s = codes_length k (as_read mask s) ∙ read_places mask k s

pub row_count : (c : Settings) (strand : ℕ) (first : List ℕ) → length (row_codes c strand first) ≡ places c.k first
unfolding row_codes
row_count c zero first = codes_count c.k c.mask first
row_count c (suc n) first = simp (length-reverse, codes_count, turned_places)

pub column_count : (strand : ℕ) (codes : List ℕ) → length (column_codes strand codes) ≡ length codes
unfolding column_codes
column_count zero codes = refl
column_count (suc n) codes = length-reverse codes

-- the turned sequence coded, and its codes read backwards
pub rows_coded : (c : Settings) (first out₀ : List ℕ) {turned coded out : List ℕ} {rows : ℕ} → turned ≡ reverse_complement first → rows ≡ places c.k turned
    → Front (codes c.k (as_read c.mask turned)) coded rows → out ≡ reverse (take rows coded) ++ drop (length (take rows coded)) out₀
    → (rows ≡ places c.k first) × (out ≡ row_codes c 1 first ++ drop (places c.k first) out₀)
unfolding row_codes codes_of
rows_coded c first out₀ {turned} {coded} {out} {rows} e count f g =
    let size : rows ≡ places c.k first = count ∙ ap (places c.k) e ∙ turned_places c.k first in
    let made : take rows coded ≡ codes c.k (as_read c.mask (reverse_complement first)) =
    f.front ∙ ap (λ (l : List ℕ). codes c.k (as_read c.mask l)) e in
    (size, g ∙ (λ i. reverse (made i) ++ drop ((sym f.long ∙ size) i) out₀))
