use Rattle.std.proofs.Common.{◌≡◌, ◌++◌}
use Rattle.std.specs.Prelude.{map, replicate}
use Rattle.values.specs.Datum.{null}
use Rattle.body_writer.specs.Texts.{as_bytes, bytes_cells}
use Rattle.body_writer.proofs.from_columns.encoded_texts.push_nulls.Given as goal

abbrev pub invariant-loop : goal.invariant-loop
invariant-loop l = bytes_cells l.texts.items ≡ bytes_cells l.fn.texts.items ++ map as_bytes (replicate l.counter null)
