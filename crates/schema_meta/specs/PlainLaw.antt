-- Fields without dictionaries, as the logical ones are: their slots are their values.
use Rattle.std.specs.Prelude.{◌≡◌, ℤ, List}
use Rattle.values.specs.Datum.{Datum}
use Rattle.values.specs.Rose.{Rose}
use Rattle.array_layout.specs.Placing.{placed_all}
use Rattle.values.specs.Logical.{NamedType}
use Rattle.schema_meta.specs.BatchHead.{BatchHead}
use Rattle.schema_meta.specs.FieldLayouts.{layouts_of, slot_layouts_of}
use Rattle.schema_meta.specs.Parts.{arrays_of}
use Rattle.schema_meta.specs.SchemaLaw.{stored_fields}

abbrev pub PlainSlots : Type 0
PlainSlots = (fs : List (Rose NamedType)) → slot_layouts_of (stored_fields fs) ≡ layouts_of (stored_fields fs)

abbrev pub PlainArrays : Type 0
PlainArrays =
    (values : ℤ → List Datum) (fs : List (Rose NamedType)) (head : BatchHead)
    → arrays_of values (stored_fields fs) head ≡ placed_all head.nodes head.ranges 0 0 (layouts_of (stored_fields fs))
