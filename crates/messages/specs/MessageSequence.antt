-- The messages of a stream as a whole: what is read from all its bytes at once.
use Rattle.std.specs.Prelude.{ℕ, zero, suc, List, [], ◌∷◌, length, drop, Option, None, Some, Ok, Err}
use Rattle.values.specs.Reading.{Reading}
use Rattle.messages.specs.Handed.{MessageView}
use Rattle.schema_meta.specs.Stage.{Known, Whole, end_of}
use Rattle.schema_meta.specs.Sound.{after}
use Rattle.schema_meta.specs.Framing.{first}
use Rattle.messages.specs.Stream.{Stream, message_of}

-- messages, and then what is known and the bytes that remain, or the faults at which they end
pub record MessageSequence : Type 0 where
  pub messages : List MessageView
  pub rest : Reading Stream

abbrev pub led_by : MessageView → MessageSequence → MessageSequence
led_by m r = record { messages = m ∷ r.messages; rest = r.rest }

abbrev pub stopped : Reading Stream → MessageSequence
stopped rest = record { messages = []; rest = rest }

-- after the first message, where `later` reads what comes after it
abbrev pub sequence_after : (Known → List ℕ → MessageSequence) → Known → List ℕ → Reading (Option Whole)
    → MessageSequence
sequence_after later known bytes (Ok None) = stopped (Ok (record { known = known; held = bytes }))
sequence_after later known bytes (Ok (Some w)) =
    led_by (message_of known w bytes) (later (after known w.meta) (drop (end_of w) bytes))
sequence_after later known bytes (Err fs) = stopped (Err fs)

-- the messages of the bytes, no more than n
unfoldable pub message_sequence : ℕ → Known → List ℕ → MessageSequence
message_sequence zero known bytes = stopped (Ok (record { known = known; held = bytes }))
message_sequence (suc n) known bytes = sequence_after (message_sequence n) known bytes (first known bytes)

-- All messages of the bytes. Each has a byte at least, so there are no more messages than bytes.
abbrev pub whole_sequence : Known → List ℕ → MessageSequence
whole_sequence known bytes = message_sequence (length bytes) known bytes

-- the sequence that begins with a message, if there is one; `r` reads a number of messages
abbrev pub sequence_past : Option MessageView → (ℕ → MessageSequence) → ℕ → MessageSequence
sequence_past None r n = r (suc n)
sequence_past (Some m) r n = led_by m (r n)
