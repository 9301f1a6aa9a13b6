-- What is written for a type is read as that type, and can be written.
use Rattle.std.specs.Prelude.{◌≡◌, ℕ, ◌+◌, ◌<◌, ◌≤◌, Ok}
use Rattle.flatbuf.specs.Tree.{number, table}
use Rattle.flatbuf.specs.Layout.{Table, slot_of}
use Rattle.flatbuf.specs.Held.{NodeHeld}
use Rattle.flatbuf.specs.Written.{object_end, Fits}
use Rattle.values.specs.declared.col_type.ColType.{ColType}
use Rattle.field_types.specs.SchemaFbs as fbs
use Rattle.field_types.specs.Kinds.{kind_of, kind_of_type}
use Rattle.field_types.specs.Types.{type_of}
use Rattle.values.specs.ColTypes.{IsType}
use Rattle.field_types.specs.TypeTree.{type_number, type_slots}

-- A field whose slots hold what is written for a type has that type.
abbrev pub TypeIsRead : Type 0
TypeIsRead =
    (s : ColType) → IsType s → (t : Table) → NodeHeld t.bytes (slot_of t fbs.type_kind) (number 1 (type_number s))
    → NodeHeld t.bytes (slot_of t fbs.type_table) (table (type_slots s))
    → (kind_of t ≡ Ok (kind_of_type s)) × (type_of (kind_of_type s) t ≡ Ok s)

-- The numbers fit their slots.
abbrev pub TypeFits : Type 0
TypeFits = (s : ColType) → IsType s → (type_number s < 256) × Fits (table (type_slots s))

-- The table of a type takes at most these bytes.
abbrev pub TypeIsShort : Type 0
TypeIsShort = (s : ColType) → IsType s → (at : ℕ) → object_end at (table (type_slots s)) ≤ at + 4144
