-- What the reader answers is told by document 01's numbers. Assumes nothing.
use Rattle.std.proofs.Common.{◌≡◌, sym, ap, Result, Ok, Err}
use Rattle.lines.proofs.Unique.{one_error}
use Rattle.turns.proofs.Taking.{some_number}
use Rattle.input.specs.declared.Input.{Input}
use Rattle.input.specs.declared.BadLine.{BadLine}
use Rattle.input.specs.Grammar.{InputRead, input_read, refused_input}

-- any two results of `input::read_input` are equal
pub one_input : (r q : Result Input BadLine) → input_read r ≡ input_read q → r ≡ q
unfolding input_read refused_input
one_input (Ok a) (Ok b) e = λ i. Ok (record { settings = (e i).settings; first = (e i).first; second = (e i).second })
one_input (Ok a) (Err b) e = absurd (some_number b.error (sym (ap (λ (x : InputRead). x.number) e)))
one_input (Err a) (Ok b) e = absurd (some_number a.error (ap (λ (x : InputRead). x.number) e))
one_input (Err a) (Err b) e =
    let error = one_error a.error b.error (ap (λ (x : InputRead). x.number) e) in
    λ i. Err (record { line = (e i).line; error = error i })
