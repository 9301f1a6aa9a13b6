-- One more piece is put, or the writer stops.
use Rattle.std.proofs.Common.{
  ◌≡◌,
  ℕ,
  ◌+◌,
  ◌≤◌,
  List,
  [],
  ◌++◌,
  length,
  take,
  drop,
  refl,
  ap,
  sym,
  ◌∙◌,
  arith,
  length-drop,
  Option,
  Some,
  None,
  Result,
  Ok,
  Err,
  length-append,
  inl,
  inr,
}
use Rattle.std.specs.Prelude.{◌≢◌, ◌↔◌}
use Rattle.std.proofs.lemmas.List.{append-nil, drop-drop, drop_at, take-append-le}
use Rattle.std.proofs.lemmas.Bool.{cases_eq}
use Rattle.std.proofs.Math.Seq.{take-add}
use Rattle.std.specs.Io.KnownBytes.{Appends}
use Rattle.stream_writer.specs.Sinks.{Sunk, Writes, written_of, IsWhole, IsDevice, fault_after}
use Rattle.stream_writer.specs.WrittenSoFar.{WrittenSoFar}
use Rattle.stream_writer.specs.declared.faults.WriteFault.{WriteFault}
use Rattle.stream_writer.specs.declared.faults.WriteFault.TheVariants.{Device, Memory}
use Rattle.stream_writer.proofs.Puts.{Appends-then}

nothing : (known : Option (List ℕ)) → Appends known known []
nothing None = tt
nothing (Some xs) = sym (append-nil xs)

-- nothing is put yet
pub WrittenSoFar-start : (start : Sunk) (whole : List ℕ) → WrittenSoFar start start 0 whole whole
WrittenSoFar-start start whole =
    record { bytes = nothing start.taken; left = refl; bound = omega arith; failures = refl }

-- where no failure is answered, none was counted
same-failures : (old new : Sunk) (answer : Result ℕ WriteFault) (whole : List ℕ) → Writes old new answer whole
    → ¬ (IsDevice answer) → new.failures ≡ old.failures
same-failures old new answer whole writes h =
    elim (cases_eq old.failures new.failures) [ inl e ↦ sym e | inr ne ↦ absurd (h (writes.device.1 ne)) ]

no-device : (old new : Sunk) → new.failures ≡ old.failures → ⊥ ↔ (old.failures ≢ new.failures)
no-device old new e = (λ h. absurd h, λ h. h (sym e))

-- what stops within the next piece
stop-in : (start old new : Sunk) (written k : ℕ) (whole piece rest : List ℕ)
    → WrittenSoFar start old written whole (piece ++ rest) → (answer later : Result ℕ WriteFault)
    → written_of answer ≡ k → written_of later ≡ written + k → IsWhole later whole → Writes old new answer piece
    → (IsDevice later ↔ (start.failures ≢ new.failures)) → Writes start new later whole
stop-in start old new written k whole piece rest so_far answer later is after complete writes device =
    let left = ap length so_far.left in
    let room = length-drop written whole in
    let both = length-append piece rest in
    let bound = so_far.bound in
    let inside = writes.bound in
    let few : k ≤ length piece = omega (arith, inside, is) in
    let out : take k (drop written whole) ≡ take k piece = rw so_far.left (take-append-le k piece rest few) in
    let put = rw is at writes.bytes in
    record {
      bytes = rw (after, take-add written k whole, out)
          (Appends-then start.taken old.taken new.taken (take written whole) (take k piece) so_far.bytes put);
      bound = omega (arith, after, left, room, both, bound, few);
      complete = complete;
      device = device;
    }

-- the next piece was put
pub WrittenSoFar-on : (start old new : Sunk) (written more : ℕ) (whole piece rest : List ℕ)
    → WrittenSoFar start old written whole (piece ++ rest) → Writes old new (Ok more) piece
    → WrittenSoFar start new (written + more) whole rest
WrittenSoFar-on start old new written more whole piece rest so_far writes =
    let n : more ≡ length piece = writes.complete in
    let after = length-drop written whole in
    let left = ap length so_far.left in
    let both = length-append piece rest in
    let bound = so_far.bound in
    let out : take more (drop written whole) ≡ take more piece =
    rw so_far.left (take-append-le more piece rest (omega (arith, n))) in
    let end : drop (written + more) whole ≡ rest =
    sym (drop-drop more written whole) ∙ rw (so_far.left, n) (drop_at piece rest (length piece) refl) in
    record {
      bytes = rw (take-add written more whole, out)
          (Appends-then start.taken old.taken new.taken (take written whole) (take more piece) so_far.bytes
          writes.bytes);
      left = end;
      bound = omega (arith, n, after, left, both, bound);
      failures = same-failures old new (Ok more) piece writes (λ h. h) ∙ so_far.failures;
    }

-- the sink failed, or memory was refused, within the next piece
pub WrittenSoFar-stop : (start old new : Sunk) (written : ℕ) (fault : WriteFault) (whole piece rest : List ℕ)
    → WrittenSoFar start old written whole (piece ++ rest) → Writes old new (Err fault) piece
    → Writes start new (Err (fault_after written fault)) whole
WrittenSoFar-stop start old new written (Memory k) whole piece rest so_far writes =
    stop-in start old new written k whole piece rest so_far (Err (Memory k)) (Err (Memory (written + k))) refl refl tt
    writes (
      (λ h. absurd h),
      (λ h. h (sym so_far.failures ∙ sym (same-failures old new (Err (Memory k)) piece writes (λ d. d)))),
    )
WrittenSoFar-stop start old new written (Device k) whole piece rest so_far writes =
    stop-in start old new written k whole piece rest so_far (Err (Device k)) (Err (Device (written + k))) refl refl tt
    writes
    ((λ h e. writes.device.0 tt (so_far.failures ∙ e)), (λ h. tt))

-- memory was refused before the next piece
pub WrittenSoFar-memory : (start now : Sunk) (written : ℕ) (whole rest : List ℕ)
    → WrittenSoFar start now written whole rest → Writes start now (Err (Memory written)) whole
WrittenSoFar-memory start now written whole rest so_far =
    record { bytes = so_far.bytes; bound = so_far.bound; complete = tt; device = no-device start now so_far.failures }

-- all is put
pub WrittenSoFar-end : (start now : Sunk) (written : ℕ) (whole : List ℕ) → WrittenSoFar start now written whole []
    → Writes start now (Ok written) whole
WrittenSoFar-end start now written whole so_far =
    let left = ap length so_far.left in
    let room = length-drop written whole in
    let bound = so_far.bound in
    record {
      bytes = so_far.bytes;
      bound = so_far.bound;
      complete = omega (arith, left, room, bound);
      device = no-device start now so_far.failures;
    }
