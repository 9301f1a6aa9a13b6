-- Bytes that are copied to a buffer of C.
use Rattle.std.specs.Prelude.{◌≡◌, ◌++◌, ℕ, List, Result, Ok, Err, length, take, drop}

-- as many bytes from that offset on as there are and fit
abbrev pub copied : List ℕ → ℕ → ℕ → List ℕ
copied bytes from room = take room (drop from bytes)

-- The front of the buffer is those bytes, and the rest of it is as it was.
abbrev pub CopiesTo : List ℕ → ℕ → List ℕ → ℕ → List ℕ → Type 0
CopiesTo bytes from old n new =
    (n ≡ length (copied bytes from (length old))) × (new ≡ copied bytes from (length old) ++ drop n old)

-- So it is on success, from the first byte on; otherwise the buffer is as it was.
abbrev pub CopiesIf : {E : Type 0} → Result ℕ E → List ℕ → List ℕ → List ℕ → Type 0
CopiesIf (Ok len) bytes old new = (n : ℕ) × CopiesTo bytes 0 old n new
CopiesIf (Err e) bytes old new = new ≡ old
