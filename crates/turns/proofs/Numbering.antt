-- What is wrong with a line before its payload is looked at, by the tests that say so. Assumes nothing.
use Rattle.std.proofs.Common.{◌≡◌, ◌≢◌, ℕ, zero, suc, ◌≤◌, Bool, true, false, cond, ◌&&◌, eqb, leb, refl, sym, ap, ◌∙◌, arith, ne_eqb, eqb-true, leb-true, Result, Ok, Err}
use Rattle.std.proofs.lemmas.Bool.{eqb-false}
use Rattle.lines.specs.declared.error.FrameError.{FrameError}
use Rattle.lines.specs.Errors.{number_of, number_in}
use Rattle.decoding.specs.Reading.{Frame}
use Rattle.kinds.specs.declared.kind.Kind.{Kind}
use Rattle.kinds.specs.declared.kind.Kind.TheVariants as kind
use Rattle.kinds.specs.Kind.{kind_byte}
use Rattle.turns.specs.declared.Turn.{Turn}
use Rattle.turns.specs.declared.Turn.TheVariants as turn
use Rattle.turns.specs.Turns.{known_kind, in_turn, frame_number}
use Rattle.turns.specs.States.{turn_number, turn_of, next_turn}

module _ (turn : ℕ) (f : Frame) where
  line_wrong : (f.number ≡ 0 → ⊥) → f.number ≡ frame_number turn f
  unfolding frame_number
  line_wrong n = rw (ne_eqb f.number 0 n)

  -- where nothing is wrong so far, the line is a frame
  pub is_frame : frame_number turn f ≡ 0 → f.number ≡ 0
  is_frame z = go (eqb f.number 0) refl
    where
      go : (t : Bool) → eqb f.number 0 ≡ t → f.number ≡ 0
      go true e = eqb-true f.number 0 e
      go false e = line_wrong (eqb-false f.number 0 e) ∙ z

-- what is known of a line of which nothing is wrong so far
pub record InItsTurn (turn : ℕ) (f : Frame) : Type 0 where
  pub frame : f.number ≡ 0
  pub known : known_kind f.kind ≡ true
  pub turns : in_turn turn f.kind ≡ true

pub in_turn_parts : (turn : ℕ) (f : Frame) → frame_number turn f ≡ 0 → InItsTurn turn f
unfolding frame_number
in_turn_parts turn f z = go (known_kind f.kind) (in_turn turn f.kind) refl refl
  where
    go : (a b : Bool) → known_kind f.kind ≡ a → in_turn turn f.kind ≡ b → InItsTurn turn f
    go false b p q = let n = rw (is_frame turn f z, p) at z in absurd (omega arith)
    go true false p q = let n = rw (is_frame turn f z, p, q) at z in absurd (omega arith)
    go true true p q = record { frame = is_frame turn f z; known = p; turns = q }

-- ---- whose turn it is, by enums and by the grammar's numbers

-- 23 and 24
unfoldable pub turn_wrong : ℕ → ℕ → ℕ
unfolding known_kind in_turn
turn_wrong turn kind = cond (known_kind kind) (cond (in_turn turn kind) 0 24) 23

pub turn_right : (t : Turn) (k : Kind) → number_in (next_turn t k) ≡ turn_wrong (turn_number t) (kind_byte k)
unfolding turn_wrong known_kind in_turn
turn_right turn.Job kind.Job = refl
turn_right turn.First kind.Job = refl
turn_right turn.Second kind.Job = refl
turn_right turn.Ended kind.Job = refl
turn_right turn.Job kind.FirstPiece = refl
turn_right turn.First kind.FirstPiece = refl
turn_right turn.Second kind.FirstPiece = refl
turn_right turn.Ended kind.FirstPiece = refl
turn_right turn.Job kind.SecondPiece = refl
turn_right turn.First kind.SecondPiece = refl
turn_right turn.Second kind.SecondPiece = refl
turn_right turn.Ended kind.SecondPiece = refl
turn_right turn.Job kind.End = refl
turn_right turn.First kind.End = refl
turn_right turn.Second kind.End = refl
turn_right turn.Ended kind.End = refl
turn_right turn.Job kind.Entry = refl
turn_right turn.First kind.Entry = refl
turn_right turn.Second kind.Entry = refl
turn_right turn.Ended kind.Entry = refl
turn_right turn.Job kind.Done = refl
turn_right turn.First kind.Done = refl
turn_right turn.Second kind.Done = refl
turn_right turn.Ended kind.Done = refl
turn_right turn.Job kind.ReverseEntry = refl
turn_right turn.First kind.ReverseEntry = refl
turn_right turn.Second kind.ReverseEntry = refl
turn_right turn.Ended kind.ReverseEntry = refl
turn_right turn.Job kind.Refused = refl
turn_right turn.First kind.Refused = refl
turn_right turn.Second kind.Refused = refl
turn_right turn.Ended kind.Refused = refl

-- of any number
pub turn_same : (s n : ℕ) → turn_wrong (turn_number (turn_of s)) n ≡ turn_wrong s n
unfolding turn_wrong in_turn
turn_same zero n = refl
turn_same (suc zero) n = refl
turn_same (suc (suc zero)) n = refl
turn_same (suc (suc (suc m))) n =
    let a = ne_eqb (suc (suc (suc m))) 0 (λ e. omega arith) in
    let b = ne_eqb (suc (suc (suc m))) 1 (λ e. omega arith) in
    let c = ne_eqb (suc (suc (suc m))) 2 (λ e. omega arith) in
    rw (a, b, c)

module _ (s : ℕ) {u : Turn} (is : u ≡ turn_of s) (k : Kind) {n : ℕ} (byte : kind_byte k ≡ n) where
  told : number_in (next_turn u k) ≡ turn_wrong s n
  told = ap (λ (v : Turn). number_in (next_turn v k)) is ∙ turn_right (turn_of s) k ∙ ap (turn_wrong (turn_number (turn_of s))) byte ∙ turn_same s n

  pub may_come : {t : Turn} → Ok t ≡ next_turn u k → turn_wrong s n ≡ 0
  may_come e = sym told ∙ ap number_in (sym e)

  pub may_not_come : {e : FrameError} → Err e ≡ next_turn u k → number_of e ≡ turn_wrong s n
  may_not_come h = ap number_in h ∙ told

-- a kind that there is not is none of the input's
pub no_kind : (turn n : ℕ) → ((k : Kind) → kind_byte k ≡ n → ⊥) → 23 ≡ turn_wrong turn n
unfolding turn_wrong known_kind
no_kind turn n h = go (leb 1 n) (leb n 4) refl refl
  where
    one_of : 1 ≤ n → n ≤ 4 → ⊥
    one_of a b =
        let j : n ≢ 1 = λ e. h kind.Job (sym e) in
        let f : n ≢ 2 = λ e. h kind.FirstPiece (sym e) in
        let g : n ≢ 3 = λ e. h kind.SecondPiece (sym e) in
        let z : n ≢ 4 = λ e. h kind.End (sym e) in
        omega arith

    go : (a b : Bool) → leb 1 n ≡ a → leb n 4 ≡ b → 23 ≡ cond (leb 1 n && leb n 4) (cond {A = ℕ} (in_turn turn n) 0 24) 23
    go false b p q = rw p
    go true false p q = rw (p, q)
    go true true p q = absurd (one_of (leb-true 1 n p) (leb-true n 4 q))

-- what may come after each kind
turn_in : Result Turn FrameError → ℕ
turn_in (Ok t) = turn_number t
turn_in (Err e) = 0

module _ {t : Turn} where
  at_after_job : (s : Turn) → Ok t ≡ next_turn s kind.Job → turn_number t ≡ 1
  unfolding turn_in
  at_after_job turn.Job e = ap turn_in e
  at_after_job turn.First e = cc
  at_after_job turn.Second e = cc
  at_after_job turn.Ended e = cc

  pub after_job : (s : Turn) (k : Kind) → k ≡ kind.Job → Ok t ≡ next_turn s k → turn_number t ≡ 1
  after_job s k is e = at_after_job s (e ∙ ap (next_turn s) is)

  at_after_first : (s : Turn) → Ok t ≡ next_turn s kind.FirstPiece → turn_number t ≡ 1
  unfolding turn_in
  at_after_first turn.Job e = cc
  at_after_first turn.First e = ap turn_in e
  at_after_first turn.Second e = cc
  at_after_first turn.Ended e = cc

  pub after_first : (s : Turn) (k : Kind) → k ≡ kind.FirstPiece → Ok t ≡ next_turn s k → turn_number t ≡ 1
  after_first s k is e = at_after_first s (e ∙ ap (next_turn s) is)

  at_after_second : (s : Turn) → Ok t ≡ next_turn s kind.SecondPiece → turn_number t ≡ 2
  unfolding turn_in
  at_after_second turn.Job e = cc
  at_after_second turn.First e = ap turn_in e
  at_after_second turn.Second e = ap turn_in e
  at_after_second turn.Ended e = cc

  pub after_second : (s : Turn) (k : Kind) → k ≡ kind.SecondPiece → Ok t ≡ next_turn s k → turn_number t ≡ 2
  after_second s k is e = at_after_second s (e ∙ ap (next_turn s) is)

  pub after_end : (s : Turn) (k : Kind) → Ok t ≡ next_turn s k → (k ≡ kind.Job → ⊥) → (k ≡ kind.FirstPiece → ⊥) → (k ≡ kind.SecondPiece → ⊥)
      → (kind_byte k ≡ 4) × (turn_number t ≡ 3)
  unfolding turn_in
  after_end s kind.Job e j f g = absurd (j refl)
  after_end s kind.FirstPiece e j f g = absurd (f refl)
  after_end s kind.SecondPiece e j f g = absurd (g refl)
  after_end turn.Job kind.End e j f g = cc
  after_end turn.First kind.End e j f g = (refl, ap turn_in e)
  after_end turn.Second kind.End e j f g = (refl, ap turn_in e)
  after_end turn.Ended kind.End e j f g = cc
  after_end turn.Job kind.Entry e j f g = cc
  after_end turn.First kind.Entry e j f g = cc
  after_end turn.Second kind.Entry e j f g = cc
  after_end turn.Ended kind.Entry e j f g = cc
  after_end turn.Job kind.Done e j f g = cc
  after_end turn.First kind.Done e j f g = cc
  after_end turn.Second kind.Done e j f g = cc
  after_end turn.Ended kind.Done e j f g = cc
  after_end turn.Job kind.ReverseEntry e j f g = cc
  after_end turn.First kind.ReverseEntry e j f g = cc
  after_end turn.Second kind.ReverseEntry e j f g = cc
  after_end turn.Ended kind.ReverseEntry e j f g = cc
  after_end turn.Job kind.Refused e j f g = cc
  after_end turn.First kind.Refused e j f g = cc
  after_end turn.Second kind.Refused e j f g = cc
  after_end turn.Ended kind.Refused e j f g = cc
