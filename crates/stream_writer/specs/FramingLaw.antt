-- A message that is written is found whole, whatever comes after it.
use Rattle.std.specs.Prelude.{◌≡◌, ℕ, ◌+◌, ◌<◌, ◌≤◌, List, ◌++◌, length, Some, Ok, IsSome}
use Rattle.values.specs.Limits.{max_metadata_size}
use Rattle.schema_meta.specs.Stage.{Known, Meta, end_meta}
use Rattle.schema_meta.specs.Message.{meta_of}
use Rattle.schema_meta.specs.Framing.{first}
use Rattle.stream_writer.specs.Stream.{end_mark, message}

-- The first message of the bytes is this one, and its body begins after the metadata.
abbrev pub FirstLaw : Type 0
FirstLaw =
    (known : Known) (metadata body rest : List ℕ) (m : Meta)
    → 0 < length metadata → length metadata ≤ max_metadata_size → m.body ≡ length body → meta_of known metadata ≡ Ok m
    → first known (message metadata body ++ rest) ≡ Ok (Some (record { front = 8 + length metadata; meta = m }))

-- The end mark is found so too, after a schema.
abbrev pub LastLaw : Type 0
LastLaw = (known : Known) → IsSome known.schema
    → first known end_mark ≡ Ok (Some (record { front = 8; meta = end_meta }))
