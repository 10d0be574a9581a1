-- A row's code looked for beside the column of the row before it, and owners written row by row. Assumes nothing.
use mathlib.Core.Path.{◌≡◌, refl, ap, ◌∙◌}
use mathlib.Core.Bool.{Bool, true, false, cond}
use mathlib.Core.List.{List}
use Prim.Native.Nat.{ℕ, ◌+◌, ◌<◌, ◌≤◌}
use native.Mathlib.Omega.{arith}
use lib.Dec.{eqb}
use lib.ListN.{length, get_or, set}
use Rattle.ownership.specs.Owners.{own_of, Owned}
use Rattle.ownership.proofs.Owns.{owner_of, owned_start, owned_next, owned_end}
use Rattle.directory.specs.Directory.{Near, next_near}

-- ---- row by row

pub record Rows (first second heads₀ heads : List ℕ) (near i : ℕ) : Type 0 where
  pub upto : i ≤ length first
  pub close : near ≤ i + 16384
  pub owned : Owned second first heads₀ heads i

pub rows_start : {first second heads : List ℕ} → Rows first second heads heads 0 0
rows_start = record { upto = omega arith; close = omega arith; owned = owned_start }

module _ {first second heads₀ heads : List ℕ} {near i : ℕ} (w : Rows first second heads₀ heads near i) (l : i < length first) (room : i < length heads) where
  -- the owner of the column beside it is the row's
  pub rows_near : {own own₀ : List ℕ} → Owned second second own₀ own (length second) → Near second near (get_or first i 0) true
      → Rows first second heads₀ (set heads i (get_or own near 0)) (near + 1) (i + 1)
  rows_near o n =
      let (inside, same) = n.there refl in
      record {
        upto = omega arith;
        close = omega (arith, w.close);
        owned = owned_next room (o.owners near inside ∙ ap (own_of second) same) w.owned;
      }

  -- and else it is looked up
  pub rows_found : {owner next : ℕ} → length second ≤ 16384 → owner ≡ own_of second (get_or first i 0) → next ≡ next_near near owner
      → Rows first second heads₀ (set heads i owner) next (i + 1)
  unfolding next_near
  rows_found {owner} {next} few e f =
      record {
        upto = omega arith;
        close = rw f (go (eqb owner 0));
        owned = owned_next room e w.owned;
      }
    where
      go : (t : Bool) → cond t (near + 1) owner ≤ i + 1 + 16384
      go true = omega (arith, w.close)
      go false = omega (arith, e, (owner_of second (get_or first i 0)).within)

pub rows_end : {first second heads₀ heads : List ℕ} {near i : ℕ} → Rows first second heads₀ heads near i → length first ≤ i → Owned second first heads₀ heads (length first)
rows_end w h = owned_end w.upto h w.owned
