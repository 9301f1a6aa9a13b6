-- The `Datum` as which contracts see a `Value` of this kind.
use Rattle.std.specs.Prelude.{string_bytes}
use Rattle.values.specs.Datum.{Datum, null, truth, whole, text, bytes, list, structure, items_of}
use Rattle.values.specs.declared.cells.Kind.{Kind}
use Rattle.values.specs.declared.cells.Kind.TheVariants.{Null, Bool as Booleans, Int, Utf8, Binary, List, Struct}

abbrev pub datum_of : Kind → Datum
datum_of Null = null
datum_of (Booleans b) = truth b
datum_of (Int n) = whole n
datum_of (Utf8 t) = text (string_bytes t)
datum_of (Binary b) = bytes b.items
datum_of (List vs) = list (items_of vs.items)
datum_of (Struct vs) = structure (items_of vs.items)
