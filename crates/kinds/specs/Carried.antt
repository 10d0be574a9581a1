-- Document 01, "Frames": the values in a frame's bytes, where the payload stands from place 2 on, and what a frame is to keep of its values. Assumes nothing.
use Rattle.std.specs.Prelude.{◌≡◌, ℕ, ◌+◌, ◌^◌, ◌<◌, ◌≤◌, Bool, true, List, length, get_or, ⊤}
use Rattle.lines.specs.Writing.{frame_of}
use Rattle.decoding.proofs.RoundTrip.{Bytes}
use Rattle.kinds.specs.declared.Entry.{Entry}
use Rattle.kinds.specs.declared.Done.{Done}
use Rattle.kinds.specs.declared.Refused.{Refused}
use Rattle.payloads.specs.Numbers.{number_at}

unfoldable pub entry_in : List ℕ → Entry
unfolding number_at
entry_in bytes =
    record {
      first = record { start = number_at bytes 2 2; end = number_at bytes 4 2 };
      second = record { start = number_at bytes 6 2; end = number_at bytes 8 2 };
      weight = number_at bytes 10 2;
    }

unfoldable pub done_in : List ℕ → Done
unfolding number_at
done_in bytes =
    record { listed = number_at bytes 2 4; matches = number_at bytes 6 4; widest = number_at bytes 10 4; links = number_at bytes 14 8 }

unfoldable pub refused_in : List ℕ → Refused
unfolding number_at
refused_in bytes = record { number = number_at bytes 2 1; sequence = number_at bytes 3 1; detail = number_at bytes 4 4 }

-- every link total is held in 8 bytes; of the others it is the fields that say what they hold
abbrev pub entry_held : Entry → Type 0
entry_held x = ⊤

abbrev pub done_held : Done → Type 0
done_held x = x.links < 2 ^ 64

abbrev pub refused_held : Refused → Type 0
refused_held x = ⊤

-- a payload has so many bytes, which fit a line; the values stand in these alone, and those that fit are read back, whatever the kind
pub record Carries {S : Type 0} (size : ℕ) (fits : S → Bool) (payload : S → List ℕ) (values : List ℕ → S) (held : S → Type 0) : Type 0 where
  pub few : size ≤ 64
  pub sized : (x : S) → length (payload x) ≡ size
  pub bytes : (x : S) → Bytes (payload x)
  pub alone : (bs cs : List ℕ) → ((i : ℕ) → i < size + 2 → get_or bs i 0 ≡ get_or cs i 0) → values bs ≡ values cs
  pub back : (kind : ℕ) (x : S) → held x → fits x ≡ true → values (frame_of kind (payload x)) ≡ x
