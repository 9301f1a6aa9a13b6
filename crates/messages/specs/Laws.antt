-- What doesn't depend on how the bytes of a stream are cut into pieces.
use Rattle.std.specs.Prelude.{◌≡◌, ℕ, suc, ◌≤◌, List, [], ◌++◌, length, take, drop, None, Some, Result, Ok, Err}
use Rattle.std.specs.List.{concat}
use Rattle.values.specs.declared.faults.StreamFault.{StreamFault}
use Rattle.values.specs.Reading.{Faults, Yields, Reading, FailsWith}
use Rattle.schema_meta.specs.Stage.{Known, Whole, end_of}
use Rattle.schema_meta.specs.Framing.{first}
use Rattle.messages.specs.declared.headers.Framed.{Framed}
use Rattle.messages.specs.Handed.{MessageView}
use Rattle.messages.specs.MessageLaw.{MessageLaw}
use Rattle.messages.specs.Stream.{Stream, Frames}
use Rattle.messages.specs.MessageSequence.{MessageSequence, message_sequence, sequence_past, whole_sequence}
use Rattle.messages.specs.Feeding.{End, Feeds}

-- Bytes after a whole message change nothing of it.
abbrev pub WholeStays : Type 0
WholeStays =
    (known : Known) (bytes more : List ℕ) (w : Whole) → first known bytes ≡ Ok (Some w)
    → first known (bytes ++ more) ≡ Ok (Some w)

-- A whole message lies within the bytes.
abbrev pub WholeWithin : Type 0
WholeWithin = (known : Known) (bytes : List ℕ) (w : Whole) → first known bytes ≡ Ok (Some w) → end_of w ≤ length bytes

-- A fault is there whatever follows.
abbrev pub FaultStays : Type 0
FaultStays =
    (known : Known) (bytes more : List ℕ) (c : StreamFault) → FailsWith (first known bytes) c
    → FailsWith (first known (bytes ++ more)) c

-- Nor is another fault added.
abbrev pub FaultsStay : Type 0
FaultsStay =
    (known : Known) (bytes more : List ℕ) (fs : Faults) → first known bytes ≡ Err fs
    → first known (bytes ++ more) ≡ Err fs

-- A message's own bytes are enough.
abbrev pub WholeAlone : Type 0
WholeAlone =
    (known : Known) (bytes : List ℕ) (w : Whole) → first known bytes ≡ Ok (Some w)
    → first known (take (end_of w) bytes) ≡ Ok (Some w)

-- No byte is no message yet.
abbrev pub NothingYet : Type 0
NothingYet = (known : Known) → first known [] ≡ Ok None

-- All that holds of the first message of some bytes, in one.
pub record FirstMessageLaw : Type 0 where
  pub whole : WholeStays
  pub within : WholeWithin
  pub fault : FaultStays
  pub faults : FaultsStay
  pub alone : WholeAlone
  pub none : NothingYet
  pub message : MessageLaw

-- A push changes nothing of the messages of a stream: those of what was held, the piece and all that comes later are
-- the one that the push returns, if it does, and those of what is held then, the rest of the piece and all that comes
-- later.
abbrev pub PushKeepsRun : Type 0
PushKeepsRun =
    (n : ℕ) (old new : Stream) (piece later : List ℕ) (f : Framed)
    → Frames (first old.known (old.held ++ piece)) old piece f new
    → message_sequence (suc n) old.known (old.held ++ (piece ++ later))
    ≡ sequence_past f.message (λ k. message_sequence k new.known (new.held ++ (drop f.used piece ++ later))) n

-- A refusal names a fault at which the messages end, whatever comes later.
abbrev pub RefusalEndsRun : Type 0
RefusalEndsRun =
    (n : ℕ) (old : Stream) (piece later : List ℕ) (c : StreamFault) → FailsWith (first old.known (old.held ++ piece)) c
    → FailsWith (message_sequence (suc n) old.known (old.held ++ (piece ++ later))).rest c

-- these messages and this end are those of a sequence
pub record Follows (messages : List MessageView) (end : End) (r : MessageSequence) : Type 0 where
  pub same : r.messages ≡ messages
  pub left : Yields (λ s. s) end r.rest

-- Pushing pieces returns the messages of all the bytes, and leads to the same stream as these, or a refusal names a
-- fault at which they end.
abbrev pub FeedFollowsRun : Type 0
FeedFollowsRun =
    (old : Stream) (pieces : List (List ℕ)) (messages : List MessageView) (end : End)
    → first old.known old.held ≡ Ok None → Feeds old pieces messages end
    → Follows messages end (whole_sequence old.known (old.held ++ concat pieces))

-- both lead to the same, or both refusals name faults of the same set
abbrev pub AgreeIn : {S : Type 0} → Reading S → Result S StreamFault → Result S StreamFault → Type 0
AgreeIn rest (Ok s) (Ok t) = s ≡ t
AgreeIn rest (Err c) (Err d) = FailsWith rest c × FailsWith rest d
AgreeIn rest (Ok s) (Err d) = ⊥
AgreeIn rest (Err c) (Ok t) = ⊥

-- However bytes are cut into pieces, the messages are the same, and so is the end.
abbrev pub CutsAgree : Type 0
CutsAgree =
    (old : Stream) (pieces others : List (List ℕ)) (messages theirs : List MessageView) (end other : End)
    → first old.known old.held ≡ Ok None → concat pieces ≡ concat others → Feeds old pieces messages end
    → Feeds old others theirs other
    → (messages ≡ theirs) × AgreeIn (whole_sequence old.known (old.held ++ concat pieces)).rest end other

-- Each list of pieces can be fed to its end.
abbrev pub FeedsEnd : Type 0
FeedsEnd =
    (old : Stream) (pieces : List (List ℕ)) → first old.known old.held ≡ Ok None
    → (messages : List MessageView) × (end : End) × Feeds old pieces messages end
