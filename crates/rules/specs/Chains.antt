-- Document 01, "Places, matches and chains": left extension, chain, predecessor and start, in its own words, and CR 2's closed match. They are said of
-- any gap bound b and any test `hit` of which cells are matches. Assumes nothing.
use Rattle.std.specs.Prelude.{◌≡◌, ◌⊎◌, Bool, ◌&&◌, not, ℕ, suc, ◌+◌, ◌≤◌, ◌<◌, T, leb, eqb}
use Rattle.rules.specs.Matches.{Cell}

-- "Left extension of (i, j): a match (i', j') with 0 <= i - i' <= b and 0 <= j - j' <= b, the two not equal.": x is one of y, where both are matches
unfoldable pub left_extension : ℕ → Cell → Cell → Bool
left_extension b x y =
    leb x.row y.row && leb y.row (x.row + b) && leb x.column y.column && leb y.column (x.column + b)
    && not (eqb x.row y.row && eqb x.column y.column)

-- "Chain: one or more matches, each a left extension of the one after it. Its weight is their number.": one from p to a match, of a weight
pub data Chain (b : ℕ) (hit : Cell → Bool) (p : Cell) : Cell → ℕ → Type 0 where
  one : T (hit p) → Chain b hit p p 1
  more : {x y : Cell} {n : ℕ} → Chain b hit p x n → T (left_extension b x y) → T (hit y) → Chain b hit p y (suc n)

-- w is the weight of the heaviest chain that ends at y: a chain that ends there has it, and none has more
pub record Heaviest (b : ℕ) (hit : Cell → Bool) (y : Cell) (w : ℕ) : Type 0 where
  pub first : Cell
  pub reached : Chain b hit first y w
  pub greatest : (p : Cell) (n : ℕ) → Chain b hit p y n → n ≤ w

-- "the one whose own heaviest chain weighs most; ties go to the smaller column, then the smaller row": x, of weight w, and not y, of weight v
pub data Preferred (x : Cell) (w : ℕ) (y : Cell) (v : ℕ) : Type 0 where
  heavier : v < w → Preferred x w y v
  smaller_column : v ≡ w → x.column < y.column → Preferred x w y v
  smaller_row : v ≡ w → x.column ≡ y.column → x.row < y.row → Preferred x w y v
  same_one : x.row ≡ y.row → x.column ≡ y.column → Preferred x w y v

-- "Predecessor of a match: of its left extensions, the one ..": x is that of c
pub record Predecessor (b : ℕ) (hit : Cell → Bool) (c x : Cell) : Type 0 where
  pub is_a_match : T (hit x)
  pub is_left : T (left_extension b x c)
  pub weight : ℕ
  pub heaviest : Heaviest b hit x weight
  pub first : (y : Cell) (v : ℕ) → T (hit y) → T (left_extension b y c) → Heaviest b hit y v → Preferred x weight y v

-- "Start of a match: itself where it has no predecessor, else its predecessor's start." "No left extension, no predecessor."
pub data Start (b : ℕ) (hit : Cell → Bool) : Cell → Cell → Type 0 where
  itself : {c : Cell} → ((y : Cell) → T (hit y) → ¬ T (left_extension b y c)) → Start b hit c c
  through : {c x p : Cell} → Predecessor b hit c x → Start b hit x p → Start b hit c p

-- CR 2: "a match is closed when it is a left extension of no match: offsets 0 to b each, not both 0"
pub record Closed (b : ℕ) (hit : Cell → Bool) (c : Cell) : Type 0 where
  pub no_match : (y : Cell) → T (hit y) → ¬ T (left_extension b c y)

-- the chain goes through c: c is one of its matches
abbrev pub Through : {b : ℕ} {hit : Cell → Bool} {p y : Cell} {n : ℕ} → Cell → Chain b hit p y n → Type 0
Through {p = p} c (one t) = c ≡ p
Through c (more {y = y} h e t) = (c ≡ y) ⊎ Through c h

-- right-maximal: no chain through the match goes on, that is, each of them ends there
pub record RightMaximal (b : ℕ) (hit : Cell → Bool) (c : Cell) : Type 0 where
  pub ends_here : (p y : Cell) (n : ℕ) (h : Chain b hit p y n) → Through c h → y ≡ c

-- ---- CR 3: "does the second tie rule ever decide?"

-- "left extensions of one match": x is a match, and a left extension of c
pub record LeftExtension (b : ℕ) (hit : Cell → Bool) (c x : Cell) : Type 0 where
  pub is_a_match : T (hit x)
  pub extends : T (left_extension b x c)

-- "one lies at or beyond the other in both sequences": y lies so seen from x
pub record AtOrBeyond (x y : Cell) : Type 0 where
  pub rows : x.row ≤ y.row
  pub columns : x.column ≤ y.column

-- the tie rule without its last words, "then the smaller row"
pub data PreferredByColumn (x : Cell) (w : ℕ) (y : Cell) (v : ℕ) : Type 0 where
  weighs_more : v < w → PreferredByColumn x w y v
  lies_left : v ≡ w → x.column < y.column → PreferredByColumn x w y v
  is_itself : x ≡ y → PreferredByColumn x w y v

-- and the predecessor of c by it
pub record PredecessorByColumn (b : ℕ) (hit : Cell → Bool) (c x : Cell) : Type 0 where
  pub left : LeftExtension b hit c x
  pub weight : ℕ
  pub heaviest : Heaviest b hit x weight
  pub first : (y : Cell) (v : ℕ) → LeftExtension b hit c y → Heaviest b hit y v → PreferredByColumn x weight y v
