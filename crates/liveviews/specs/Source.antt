-- What is said of bytes that are read from a source, piece by piece.
use Rattle.std.specs.Prelude.{◌≡◌, ◌≢◌, ◌⊎◌, ℕ, List, Option}
use Rattle.std.specs.declared.io.ErrorKind.{ErrorKind}
use Rattle.std.specs.declared.io.ErrorKind.TheVariants as kinds
use Rattle.std.specs.Io.KnownBytes.{Consumes}
use Rattle.liveviews.specs.Files.{IsContent}
use Rattle.liveviews.specs.declared.files.FileFault.{FileFault}
use Rattle.liveviews.specs.declared.files.FileFault.TheVariants as file

-- Whatever bytes a source holds, they are those of the file, where these are known.
abbrev pub HoldsFile : Option (List ℕ) → Option (List ℕ) → Type 0
HoldsFile file source = (bytes : List ℕ) → IsContent source bytes → IsContent file bytes

-- This is so of the bytes that a source held.
pub record OfSource (held : Option (List ℕ)) (IsSo : List ℕ → Type 0) : Type 0 where
  pub input : List ℕ
  pub read : IsContent held input
  pub so : IsSo input

-- This is so of the bytes that were read from a source, which held `old` before, and holds `new` now.
pub record OfRead (old new : Option (List ℕ)) (IsSo : List ℕ → Type 0) : Type 0 where
  pub bytes : List ℕ
  pub read : Consumes old new bytes
  pub so : IsSo bytes

-- Memory was refused, or else the file can't be used.
abbrev pub IsFaultOf : ErrorKind → FileFault → Type 0
IsFaultOf kind f =
    ((kind ≡ kinds.OutOfMemory) × (f ≡ file.Memory)) ⊎ ((kind ≢ kinds.OutOfMemory) × (f ≡ file.Unusable))
