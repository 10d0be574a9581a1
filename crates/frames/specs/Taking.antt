-- Values taken for those of a kind, and for letter codes: what comes of it. Assumes nothing.
use Rattle.std.specs.Prelude.{◌≡◌, false, ◌⊎◌, List, [], ℕ, ◌<◌, ◌≤◌, length, get_or, take, Result, Ok, Err, MatchResult}
use Rattle.rules.specs.declared.Settings.{Settings}
use Rattle.lines.specs.declared.error.FrameError.{FrameError}
use Rattle.lines.specs.declared.error.FrameError.TheVariants.{DoesNotFit}
use Rattle.lines.specs.Errors.{number_of}
use Rattle.kinds.specs.Kinds.{job_fits}
use Rattle.frames.specs.Frames.{job_of, FrameRead, numbers_read}

-- so many values are those of the kind; another count of them does not fit
abbrev pub Taken : {A : Type 0} → ℕ → (List ℕ → A) → List ℕ → Result A FrameError → Type 0
Taken n of values r = MatchResult r (λ x. (length values ≡ n) × (x ≡ of values)) (λ e. (e ≡ DoesNotFit) × (length values ≡ n → ⊥))

-- five values are a job's, where its settings have 32 bits each; else they fit no job
abbrev pub JobTaken : List ℕ → Result Settings FrameError → Type 0
JobTaken values r =
    MatchResult r (λ c. (length values ≡ 5) × (c ≡ job_of values)) (λ e. (e ≡ DoesNotFit) × (length values ≡ 5 → job_fits (job_of values) ≡ false))

-- the values stand in front of the codes; they do not where there is no room for them, or where one is no byte
abbrev pub CodesTaken : List ℕ → List ℕ → Result (Unit {0}) FrameError → Type 0
CodesTaken values codes r =
    MatchResult r (λ _. (length values ≤ length codes) × (take (length values) codes ≡ values))
    (λ e. (e ≡ DoesNotFit) × ((length codes < length values) ⊎ ((n : ℕ) × (n < length values) × (255 < get_or values n 0))))

-- the values that are read, or what is wrong, by its number
abbrev pub numbered_values : Result (List ℕ) FrameError → FrameRead
numbered_values (Ok values) = record { number = 0; values = values }
numbered_values (Err e) = numbers_read (number_of e) []
