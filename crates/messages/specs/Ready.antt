-- What a framer stores of a stream, and of a piece that was prepared.
use Rattle.std.specs.Prelude.{◌≡◌, ℕ, ◌≤◌, List, [], length, take, None, Ok}
use Rattle.std.specs.Option.{option_map}
use Rattle.messages.specs.declared.pending.Pending.{Pending}
use Rattle.messages.specs.declared.pending.Pending.TheVariants as pending
use Rattle.schema_meta.specs.Stage.{Known}
use Rattle.schema_meta.specs.Framing.{first}
use Rattle.messages.specs.Counts.{HasRoom}
use Rattle.messages.specs.State.{IsRead, learnt}
use Rattle.messages.specs.Wanted.{Wants, followed}
use Rattle.messages.specs.Stream.{Stream, IsStream}

-- The bytes of an incomplete message are the first ones.
abbrev pub standing : Known → List ℕ → ℕ → Stream
standing known bytes len = record { known = known; held = take len bytes }

-- the stream once the prepared change is committed
abbrev pub promised : Known → List ℕ → ℕ → Pending → Stream
promised known bytes len pending.Nothing = standing known bytes len
promised known bytes len (pending.Piece wanted) = record { known = known; held = bytes }
promised known bytes len (pending.Message schema count) =
    record { known = learnt known (option_map (λ s. s.value.fields.items) schema) count; held = [] }

-- the prepared change can be committed, where `room` more counts fit
abbrev pub IsReady : Known → ℕ → List ℕ → Pending → Type 0
IsReady known room bytes pending.Nothing = Unit {0}
IsReady known room bytes (pending.Piece wanted) = (first known bytes ≡ Ok None) × Wants (followed known bytes) wanted
IsReady known room bytes (pending.Message schema count) =
    IsRead (option_map (λ s. s.value.fields.items) schema) × HasRoom count room

-- what is true of a framer between two calls
pub record IsFramer (known : Known) (room : ℕ) (bytes : List ℕ) (len wanted : ℕ) (p : Pending) : Type 0 where
  pub within : len ≤ length bytes
  pub stream : IsStream known (take len bytes) wanted
  pub ready : IsReady known room bytes p
