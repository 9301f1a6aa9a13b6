-- Texts and bytes that are written from slices of them.
use Rattle.std.specs.Prelude.{ℕ, List, Option, None, Some, map}
use denote.Ref.{Bor}
use Rattle.values.specs.Datum.{Datum, null, text, bytes}

-- a text as its bytes
abbrev pub as_bytes : Datum → Datum
as_bytes (text t) = bytes t
as_bytes (bytes b) = bytes b
as_bytes _ = null

-- the bytes of a slice, or null where there is none
abbrev pub bytes_cell : Option (Bor (List ℕ)) → Datum
bytes_cell None = null
bytes_cell (Some slice) = bytes slice.now

abbrev pub bytes_cells : List (Option (Bor (List ℕ))) → List Datum
bytes_cells slices = map bytes_cell slices
