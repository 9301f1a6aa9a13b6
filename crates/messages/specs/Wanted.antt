-- How many further bytes an incomplete message needs at least, and how many it needs once its metadata is there.
use Rattle.std.specs.Prelude.{◌≡◌, ℕ, ◌+◌, ◌<◌, ◌≤◌, List, ◌++◌, drop, length, slice_range, Option, None, Some, Ok}
use Rattle.byteorder.specs.Endian.{little_number}
use Rattle.messages.specs.declared.framing.Progress.{Progress}
use Rattle.messages.specs.declared.framing.Progress.TheVariants as progress
use Rattle.values.specs.Reading.{Reading}
use Rattle.schema_meta.specs.Stage.{Known, Whole, end_of}
use Rattle.schema_meta.specs.Message.{meta_of}
use Rattle.schema_meta.specs.Framing.{first, framed, message_at}

-- Where fewer than `wanted` bytes come, whatever they are, there is no whole message yet, and no fault. `later` is what
-- is read from all bytes then.
pub record Wants (later : List ℕ → Reading (Option Whole)) (wanted : ℕ) : Type 0 where
  pub some : 1 ≤ wanted
  pub short : (more : List ℕ) → length more < wanted → later more ≡ Ok None

-- what is read once more bytes come after these
abbrev pub followed : Known → List ℕ → List ℕ → Reading (Option Whole)
followed known bytes more = first known (bytes ++ more)

-- the same, of a message whose body begins at `front`
abbrev pub followed_at : Known → List ℕ → ℕ → List ℕ → Reading (Option Whole)
followed_at known bytes front more =
    message_at (length (bytes ++ more)) front (meta_of known (slice_range (bytes ++ more) 8 front))

-- how much an incomplete message is known to need
abbrev pub Awaits : (List ℕ → Reading (Option Whole)) → Progress → Type 0
Awaits later (progress.Partial wanted) = Wants later wanted
Awaits later (progress.Whole found) = Unit {0}

-- The bytes have all the metadata of a message.
abbrev pub HasMetadata : List ℕ → Type 0
HasMetadata bytes =
    (n : ℕ) × (1 ≤ n) × (8 + n ≤ length bytes)
    × (framed (little_number 4 bytes) (little_number 4 (drop 4 bytes)) ≡ Ok n)

-- This many further bytes, whatever they are, complete the message, and all of them belong to it.
abbrev pub Completes : Known → List ℕ → ℕ → Type 0
Completes known bytes n =
    (more : List ℕ) → length more ≡ n
    → (w : Whole) × (first known (bytes ++ more) ≡ Ok (Some w)) × (end_of w ≡ length bytes + n)

-- This many bytes are missing of a message whose metadata is there, and 0 where it isn't.
pub record IsMissing (known : Known) (bytes : List ℕ) (n : ℕ) : Type 0 where
  pub some : HasMetadata bytes → 0 < n
  pub ends : 0 < n → Completes known bytes n
