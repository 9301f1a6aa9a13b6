-- What a sink took, how often it failed, and what a writer does to it.
use Rattle.std.specs.Prelude.{
  ◌≡◌,
  ◌≢◌,
  ℕ,
  ◌+◌,
  ◌%◌,
  ◌^◌,
  ◌≤◌,
  ◌==◌,
  ◌↔◌,
  Bool,
  true,
  not,
  ◌&&◌,
  if◌then◌else◌,
  List,
  length,
  take,
  Option,
  Some,
  Result,
  Ok,
  Err,
  IfOk,
  ⊤,
}
use Rattle.std.specs.Io.KnownBytes.{Appends, WriteAppends}
use Rattle.stream_writer.specs.declared.sink.DeviceFault.{DeviceFault}
use Rattle.stream_writer.specs.declared.faults.WriteFault.{WriteFault}
use Rattle.stream_writer.specs.declared.faults.WriteFault.TheVariants.{Device, Memory}

-- the bytes that a sink took, where it shows them, and its failures, modulo 2^64
pub record Sunk : Type 0 where
  pub taken : Option (List ℕ)
  pub failures : ℕ

-- of a sink that shows its bytes
abbrev pub sunk_of : List ℕ → ℕ → Sunk
sunk_of bytes failures = record { taken = Some bytes; failures = failures }

-- an error, and 0 for a piece that is not empty
abbrev pub is_failure : Result ℕ DeviceFault → List ℕ → Bool
is_failure (Err e) piece = true
is_failure (Ok n) piece = (n == 0) && not (length piece == 0)

abbrev pub count_after : ℕ → Result ℕ DeviceFault → List ℕ → ℕ
count_after count answer piece = if is_failure answer piece then (count + 1) % 2 ^ 64 else count

-- one put: a prefix of the piece was taken, as long as the answer says, and a failure was counted
pub record Puts (old new : Sunk) (answer : Result ℕ DeviceFault) (piece : List ℕ) : Type 0 where
  pub bound : IfOk answer (λ n. n ≤ length piece)
  pub bytes : WriteAppends old.taken new.taken answer piece
  pub counted : new.failures ≡ count_after old.failures answer piece

-- how many bytes were put
abbrev pub written_of : Result ℕ WriteFault → ℕ
written_of (Ok n) = n
written_of (Err (Memory n)) = n
written_of (Err (Device n)) = n

abbrev pub IsWhole : Result ℕ WriteFault → List ℕ → Type 0
IsWhole (Ok n) whole = n ≡ length whole
IsWhole (Err e) whole = ⊤

abbrev pub IsDeviceFault : WriteFault → Type 0
IsDeviceFault (Memory n) = ⊥
IsDeviceFault (Device n) = ⊤

abbrev pub IsDevice : Result ℕ WriteFault → Type 0
IsDevice (Ok n) = ⊥
IsDevice (Err e) = IsDeviceFault e

-- a writer put a prefix of `whole`, all of it on `Ok`, and answers `Device` exactly where the sink failed
pub record Writes (old new : Sunk) (answer : Result ℕ WriteFault) (whole : List ℕ) : Type 0 where
  pub bytes : Appends old.taken new.taken (take (written_of answer) whole)
  pub bound : written_of answer ≤ length whole
  pub complete : IsWhole answer whole
  pub device : IsDevice answer ↔ (old.failures ≢ new.failures)

-- the fault of a later piece, where this number of bytes was put before it
abbrev pub fault_after : ℕ → WriteFault → WriteFault
fault_after before (Memory n) = Memory (before + n)
fault_after before (Device n) = Device (before + n)
