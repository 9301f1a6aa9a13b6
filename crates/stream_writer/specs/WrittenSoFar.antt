-- How far a writer has come.
use Rattle.std.specs.Prelude.{◌≡◌, ℕ, ◌≤◌, List, ◌++◌, length, take, drop, Result, Err, MatchResult}
use Rattle.std.specs.Io.KnownBytes.{Appends}
use Rattle.stream_writer.specs.Sinks.{Sunk, Writes}
use Rattle.stream_writer.specs.declared.faults.WriteFault.{WriteFault}

-- the first `written` bytes of `whole` were put, `rest` remains, and the sink has not failed
pub record WrittenSoFar (start now : Sunk) (written : ℕ) (whole rest : List ℕ) : Type 0 where
  pub bytes : Appends start.taken now.taken (take written whole)
  pub left : drop written whole ≡ rest
  pub bound : written ≤ length whole
  pub failures : now.failures ≡ start.failures

-- Where these bytes come next, they are put, or the writer stops among them.
abbrev pub PutsNext : Sunk → Sunk → ℕ → List ℕ → Result ℕ WriteFault → Type 0
PutsNext old new written bytes result =
    (start : Sunk) (whole rest : List ℕ) → WrittenSoFar start old written whole (bytes ++ rest)
    → MatchResult result (λ n. WrittenSoFar start new n whole rest) (λ fault. Writes start new (Err fault) whole)
