-- Document 01, "Frames", with document 02's CR 1: the bytes of the kinds, in hexadecimal 01 to 04, 10, 11, 12 and 1F. Assumes nothing.
use Rattle.std.specs.Prelude.{◌≡◌, ◌≢◌, ℕ, Result, MatchResult}
use Rattle.lines.specs.declared.error.FrameError.{FrameError}
use Rattle.lines.specs.declared.error.FrameError.TheVariants.{WrongKind}
use Rattle.kinds.specs.declared.kind.Kind.{Kind}
use Rattle.kinds.specs.declared.kind.Kind.TheVariants.{Job, FirstPiece, SecondPiece, End, Entry, Done, ReverseEntry, Refused}

abbrev pub kind_byte : Kind → ℕ
kind_byte Job = 1
kind_byte FirstPiece = 2
kind_byte SecondPiece = 3
kind_byte End = 4
kind_byte Entry = 16
kind_byte Done = 17
kind_byte ReverseEntry = 18
kind_byte Refused = 31

-- the kind of a number, or, where no kind has it, 23
abbrev pub IsKind : ℕ → Result Kind FrameError → Type 0
IsKind number r = MatchResult r (λ k. kind_byte k ≡ number) (λ e. (e ≡ WrongKind) × ((k : Kind) → kind_byte k ≢ number))
