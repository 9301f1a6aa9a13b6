-- What a feed retains, by the messages that its framer returns.
use Rattle.std.specs.Prelude.{◌≡◌, ℕ, List, Option, Ok, flat_map}
use Rattle.values.specs.Logical.{NamedType}
use Rattle.values.specs.Rose.{Rose}
use Rattle.schema_meta.specs.SchemaLaw.{before}
use Rattle.messages.specs.Handed.{MessageView}
use Rattle.messages.specs.MessageSequence.{whole_sequence}
use Rattle.messages.specs.Stream.{Stream}
use Rattle.feed.specs.Calls.{message_brings}
use Rattle.feed.specs.Retained.{Retained, retained_of}

-- the dictionary batches among these messages, and the stream after them
abbrev pub retained_by : List MessageView → Stream → Retained
retained_by messages s = record { known = s.known; dictionaries = flat_map message_brings messages; held = s.held }

-- It is that of the messages of all the bytes, where their framing and their metadata have no fault.
abbrev pub RetainedByMessages : Type 0
RetainedByMessages =
    (declared : Option (List (Rose NamedType))) (bytes : List ℕ) (s : Stream)
    → (whole_sequence (before declared) bytes).rest ≡ Ok s
    → retained_of declared bytes ≡ retained_by (whole_sequence (before declared) bytes).messages s
