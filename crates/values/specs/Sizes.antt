-- The size of a value bounds its depth, by which copying it terminates.
use Rattle.std.specs.Prelude.{◌≤◌}
use Rattle.std.proofs.Common.{arith}
use Rattle.values.specs.Datum.{datum_size, most_le-items_size}
use Rattle.values.specs.Kinds.{datum_of}
use Rattle.values.specs.declared.cells.Kind.{Kind}
use Rattle.values.specs.declared.cells.Kind.TheVariants.{Null, Bool as Booleans, Int, Utf8, Binary, List, Struct}
use Rattle.values.specs.declared.cells.Value.TheDeep.{deep-Kind}

pub deep_le-datum_size : (k : Kind) → deep-Kind k ≤ datum_size (datum_of k)
deep_le-datum_size Null = omega arith
deep_le-datum_size (Booleans b) = omega arith
deep_le-datum_size (Int n) = omega arith
deep_le-datum_size (Utf8 t) = omega arith
deep_le-datum_size (Binary b) = omega arith
deep_le-datum_size (List vs) = omega (arith, most_le-items_size vs.items)
deep_le-datum_size (Struct vs) = omega (arith, most_le-items_size vs.items)
