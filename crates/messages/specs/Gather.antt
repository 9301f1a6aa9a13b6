-- How a piece is appended: all bytes so far are those that were held, followed by the piece.
use Rattle.std.specs.Prelude.{◌≡◌, ℕ, ◌+◌, ◌≤◌, List, ◌++◌, length, take, slice_range, Option, None, Some, Ok}
use Rattle.values.specs.Reading.{Reading}
use Rattle.messages.specs.declared.gather.Step.{Step}
use Rattle.messages.specs.declared.gather.Step.TheVariants as step
use Rattle.messages.specs.declared.state.State.{State}
use Rattle.messages.specs.State.{known_of, whole_seen}
use Rattle.messages.specs.Wanted.{Wants, followed}
use Rattle.schema_meta.specs.Stage.{Known, Whole, end_of}
use Rattle.schema_meta.specs.Framing.{first}

-- the first message of what is held and of a piece
abbrev pub first_with : State → List ℕ → List ℕ → Reading (Option Whole)
first_with s held piece = first (known_of s) (held ++ piece)

-- Afterwards all bytes are held where no message is complete, else a prefix of them that has the message.
abbrev pub Gathers : Option Whole → List ℕ → List ℕ → Type 0
Gathers None bytes held = held ≡ bytes
Gathers (Some w) bytes held = (held ≡ take (length held) bytes) × (end_of w ≤ length held)

-- What a step answers, by the first message of what was held and the piece.
abbrev pub Steps : Known → List ℕ → List ℕ → Step → List ℕ → Type 0
Steps known old piece (step.Partial wanted) held =
    (first known (old ++ piece) ≡ Ok None) × (held ≡ old ++ piece) × Wants (followed known held) wanted
Steps known old piece (step.Whole used found body) held =
    (first known (old ++ piece) ≡ Ok (Some (whole_seen found))) × (used + length old ≡ end_of (whole_seen found))
    × (body.items ≡ slice_range (old ++ piece) found.front (end_of (whole_seen found))) × (held ≡ old)

-- the step of a piece that completes no message
abbrev pub IsWaiting : Step → Type 0
IsWaiting (step.Partial wanted) = Unit {0}
IsWaiting (step.Whole used found body) = ⊥
