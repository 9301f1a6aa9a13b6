use Rattle.std.proofs.Common.{◌≡◌, ◌++◌}
use Rattle.std.specs.Prelude.{replicate}
use Rattle.std.specs.List.{flat_map}
use Rattle.values.specs.Datum.{null}
use Rattle.body_writer.specs.Runs.{slot_bytes}
use Rattle.body_writer.proofs.from_columns.segments.push_null_slots.Given as goal

abbrev pub invariant-loop : goal.invariant-loop
invariant-loop l = l.out.items ≡ l.fn.out.items ++ flat_map (slot_bytes l.fn.layout) (replicate l.counter null)
