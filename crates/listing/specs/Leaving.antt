-- What is known of a record when it leaves the room, and what releasing old rows leaves: the room's state and the list so far. Assumes nothing.
use Rattle.std.specs.Prelude.{◌≡◌, Bool, false, cond, ◌&&◌, ◌||◌, not, ℕ, zero, suc, ◌+◌, ◌*◌, ◌^◌, ◌≤◌, ◌<◌, ltb, length, get_or, take}
use mathlib.Core.List.{List, Memᴰ}
use Rattle.rules.specs.declared.Settings.{Settings}
use Rattle.rules.specs.declared.Cell.{Cell}
use Rattle.rules.specs.declared.Record.{Record}
use Rattle.rules.specs.Lists.{keep, laid}
use Rattle.rules.specs.Listing.{long_enough, is_listed, entry_numbers}
use Rattle.rules.specs.Rooms.{list_holds}
use Rattle.entries.specs.Layout.{put_entry}
use Rattle.predecessors.specs.declared.ring.Ring.{Ring}
use Rattle.predecessors.specs.Numbers.{RingFits, nth}
use Rattle.predecessors.specs.Index.{Sorted}
use Rattle.rows.specs.Machine.{Machine}
use Rattle.listing.specs.declared.Released.{Released}

-- column q's latest record comes after record t
unfoldable pub later_in : List ℕ → ℕ → ℕ → Bool
later_in latest t q = ltb (t + 1) (get_or latest q 0)

-- one of the n columns from column j on passes
unfoldable pub some_from : (ℕ → Bool) → ℕ → ℕ → Bool
some_from f j zero = false
some_from f j (suc n) = some_from f j n || f (j + n)

-- record t, the match x, is listed as far as the latest records tell
unfoldable pub passes : List ℕ → ℕ → Record → Settings → Bool
unfolding later_in some_from long_enough
passes latest t x c = not (some_from (later_in latest t) x.cell.column (c.b + 1)) && long_enough c x

-- how many entries there are after a record that passes or does not
unfoldable pub listed_count : Bool → ℕ → ℕ
listed_count pass n = cond pass (n + 1) n

-- and what the list room is then: the entry goes behind n others where the room holds it
unfoldable pub listed_room : Bool → ℕ → Record → List ℕ → ℕ → List ℕ
unfolding list_holds
listed_room pass k x list n = cond pass (cond (ltb n (list_holds list)) (put_entry list n k x) list) list

-- of the records released, so many are listed, and where the list room holds them all, their entries stand at its front
pub record ListedTo (c : Settings) (cells : List Cell) (released : List Record) (list : List ℕ) (n : ℕ) : Type 0 where
  pub counted : n ≡ length (keep (is_listed c cells) released)
  pub entries : 6 * n ≤ length list → take (6 * n) list ≡ laid (entry_numbers c.k) (keep (is_listed c cells) released)

-- what releasing asks to be safe
pub record ReleaseSafe (room : List ℕ) (ring : Ring) (tail head : ℕ) (c : Settings) (listed : ℕ) : Type 0 where
  pub fits : RingFits ring
  pub room_for : 8 * ring.size ≤ length room
  pub few : head < 2 ^ 32
  pub order : tail ≤ head
  pub entries : listed ≤ tail
  pub some_base : 1 ≤ c.k

-- a state before rows below i - b are released: `all` are the records of rows 1 to k, among the matches `cells` all those of rows before i
pub record ReleaseAsks (c : Settings) (i k : ℕ) (all : List Record) (cells : List Cell) (room latest : List ℕ) (ring : Ring) (tail head : ℕ) : Type 0 where
  pub machine : Machine c.b k all room latest ring tail
  pub sorted : Sorted all
  pub counted : length all ≡ head
  pub passed : k ≤ i
  pub rows : (g : ℕ) → g < length all → (nth all g).cell.row ≤ k
  pub small : (g : ℕ) → g < length all → ((nth all g).cell.row + c.k ≤ 2 ^ 32) × ((nth all g).cell.column + c.k ≤ 2 ^ 32)
  pub known : (y : Cell) → Memᴰ y cells → y.row < i → (g : ℕ) × (g < length all) × (y ≡ (nth all g).cell)
  pub matches : (g : ℕ) → g < length all → Memᴰ (nth all g).cell cells

-- what releasing leaves: the run of row i in the room, and the released records listed
pub record ReleaseDone (c : Settings) (i : ℕ) (room latest : List ℕ) (ring : Ring) (tail head : ℕ) (list : List ℕ) (listed : ℕ) (list' : List ℕ) (r : Released) : Type 0 where
  pub from : tail ≤ r.tail
  pub to : r.tail ≤ head
  pub few : r.listed ≤ r.tail
  pub size : length list' ≡ length list
  pub released : (k : ℕ) (all : List Record) (cells : List Cell) → ReleaseAsks c i k all cells room latest ring tail head
      → Machine c.b i all room latest ring r.tail
  pub entered : (k : ℕ) (all : List Record) (cells : List Cell) → ReleaseAsks c i k all cells room latest ring tail head
      → ListedTo c cells (take tail all) list listed → ListedTo c cells (take r.tail all) list' r.listed
