-- A stream that comes in pieces, by what each push answers.
use Rattle.std.specs.Prelude.{ℕ, List, [], ◌∷◌, ◌++◌, drop, Option, None, Some, Result, Ok, Err}
use Rattle.values.specs.declared.faults.StreamFault.{StreamFault}
use Rattle.values.specs.Reading.{FailsWith}
use Rattle.schema_meta.specs.Framing.{first}
use Rattle.messages.specs.declared.headers.Framed.{Framed}
use Rattle.messages.specs.Handed.{MessageView}
use Rattle.messages.specs.Stream.{Stream, Frames}

abbrev pub handed_on : Option MessageView → List MessageView → List MessageView
handed_on None later = later
handed_on (Some m) later = m ∷ later

-- the stream after the last piece, or the fault that a push was refused for
abbrev pub End : Type 0
End = Result Stream StreamFault

-- Pushing pieces to a stream returns these messages and comes to this end. What a push leaves of a piece is pushed
-- next. A push that was refused memory left the stream as it was, and doesn't count.
pub data Feeds : Stream → List (List ℕ) → List MessageView → End → Type 0 where
  -- No piece remains.
  ended : (s : Stream) → Feeds s [] [] (Ok s)
  -- Nothing remains of a piece.
  used_up : (s : Stream) (pieces : List (List ℕ)) (messages : List MessageView) (end : End)
      → Feeds s pieces messages end → Feeds s ([] ∷ pieces) messages end
  -- A push uses some of a piece.
  pushed :
      (old new : Stream) (piece : List ℕ) (pieces : List (List ℕ)) (f : Framed) (messages : List MessageView)
      (end : End) → Frames (first old.known (old.held ++ piece)) old piece f new
      → Feeds new (drop f.used piece ∷ pieces) messages end
      → Feeds old (piece ∷ pieces) (handed_on f.message messages) end
  -- A push is refused.
  refused : (old : Stream) (piece : List ℕ) (pieces : List (List ℕ)) (c : StreamFault)
      → FailsWith (first old.known (old.held ++ piece)) c → Feeds old (piece ∷ pieces) [] (Err c)
