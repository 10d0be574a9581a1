-- What reading a line hands on is fixed: the state or what is wrong, and every byte of both buffers. Assumes nothing.
use Rattle.std.proofs.Common.{◌≡◌, ℕ, ◌≤◌, cond, eqb, List, ◌++◌, length, take, drop, sym, refl, ap, ◌∙◌, arith, Result, Ok, Err}
use lib.ListN.{take-append-drop}
use lib.Seq.{length-take-le}
use Rattle.lines.specs.declared.error.FrameError.{FrameError}
use Rattle.lines.specs.Errors.{number_in}
use Rattle.lines.proofs.Unique.{one_error}
use Rattle.turns.specs.declared.State.{State}
use Rattle.turns.specs.Turns.{Progress}
use Rattle.turns.specs.States.{reached, progress_of, StateSafe, LineTaken}
use Rattle.turns.proofs.Taking.{some_number}

-- a buffer is its letters, of which the count is known, and what is behind them
buffer_one : (old x y : List ℕ) (n m : ℕ) → 16384 ≤ length old → length x ≡ length old → length y ≡ length old → n ≤ 16384 → m ≤ 16384
    → take n x ≡ take m y → drop n x ≡ drop n old → drop m y ≡ drop m old → (n ≡ m) × (x ≡ y)
buffer_one old x y n m room lx ly hn hm front dx dy =
    let same : n ≡ m = sym (length-take-le n x (omega arith)) ∙ ap length front ∙ length-take-le m y (omega arith) in
    let rest : drop n x ≡ drop m y = dx ∙ ap (λ (k : ℕ). drop k old) same ∙ sym dy in
    (same, sym (take-append-drop n x) ∙ (λ i. front i ++ rest i) ∙ take-append-drop m y)

-- an answer is its number and the state that it leads to
one_answer : (s : State) (r q : Result State FrameError) → number_in r ≡ number_in q → reached s r ≡ reached s q → r ≡ q
one_answer s (Ok a) (Ok b) n e = ap Ok e
one_answer s (Ok a) (Err e) n h = absurd (some_number e (sym n))
one_answer s (Err d) (Ok b) n h = absurd (some_number d n)
one_answer s (Err d) (Err e) n h = ap Err (one_error d e n)

-- any two results of `turns::take_line` are equal; that a lent slice keeps its length is the language's
pub lines_one : {line : List ℕ} {s : State} {first second : List ℕ} → StateSafe s first second
    → {r q : Result State FrameError} {f₁ f₂ s₁ s₂ : List ℕ} → length f₁ ≡ length first → length f₂ ≡ length first → length s₁ ≡ length second
    → length s₂ ≡ length second
    → LineTaken line s first second r f₁ s₁ → LineTaken line s first second q f₂ s₂
    → (r ≡ q) × (f₁ ≡ f₂) × (s₁ ≡ s₂)
unfolding progress_of
lines_one {s = s} {first = first} {second = second} safe {r} {q} {f₁} {f₂} {s₁} {s₂} lf₁ lf₂ ls₁ ls₂ a b =
    let p = a.progress ∙ sym b.progress in
    let x = reached s r in
    let y = reached s q in
    let f = buffer_one first f₁ f₂ x.first y.first safe.first_room lf₁ lf₂ a.first_most b.first_most
    (ap (λ (x : Progress). x.first) p) a.first_rest b.first_rest in
    let g = buffer_one second s₁ s₂ x.second y.second safe.second_room ls₁ ls₂ a.second_most b.second_most
    (ap (λ (x : Progress). x.second) p) a.second_rest b.second_rest in (
      one_answer s r q (a.number ∙ sym b.number) (λ i. record { turn = (p i).turn; settings = (p i).settings; first = f.0 i; second = g.0 i }),
      f.1,
      g.1,
    )
