-- The entries of a list room, read back by sixes. Assumes nothing.
use Rattle.std.specs.Prelude.{◌≡◌, true, List, [], ◌∷◌, ◌++◌, ℕ, zero, suc, ◌+◌, ◌*◌, ◌<◌, ◌≤◌, length, get_or}
use Rattle.rules.specs.declared.Answer.{Answer}
use Rattle.rules.specs.Lists.{laid}
use Rattle.kinds.specs.Kinds.{entry_fits, done_fits, done_line}
use Rattle.output.specs.Output.{entry_of, line_of_entry, done_of}

-- the six numbers behind n entries
unfoldable pub entry_in : List ℕ → ℕ → List ℕ
entry_in list n =
    get_or list (6 * n) 0
    ∷ get_or list (6 * n + 1) 0
    ∷ get_or list (6 * n + 2) 0
    ∷ get_or list (6 * n + 3) 0
    ∷ get_or list (6 * n + 4) 0
    ∷ get_or list (6 * n + 5) 0
    ∷ []

-- the first n entries
unfoldable pub entries_in : List ℕ → ℕ → List (List ℕ)
unfolding entry_in
entries_in list zero = []
entries_in list (suc n) = entries_in list n ++ (entry_in list n ∷ [])

-- so many entries are in the room, their lines have room in the output, and each number fits its field
pub record EntriesSafe (list output : List ℕ) (count : ℕ) : Type 0 where
  pub held : 6 * count ≤ length list
  pub room : 27 * count ≤ length output
  pub few : count ≤ 333
  pub fit : (n : ℕ) → n < count → entry_fits (entry_of (entry_in list n)) ≡ true

-- and the done frame has room behind them and fits
pub record ListingSafe (list output : List ℕ) (x : Answer) : Type 0 where
  pub entries : EntriesSafe list output x.listed
  pub room : 9038 ≤ length output
  pub done : done_fits (done_of x) ≡ true

-- the lines of the entries and of the done frame
unfoldable pub listing_lines : List ℕ → Answer → List ℕ
unfolding laid line_of_entry entries_in done_line done_of
listing_lines list x = laid line_of_entry (entries_in list x.listed) ++ done_line (done_of x)
