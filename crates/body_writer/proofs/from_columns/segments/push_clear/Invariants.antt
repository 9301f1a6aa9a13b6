use Rattle.std.proofs.Common.{◌≡◌, ◌++◌, ◌+◌, length, false}
use Rattle.std.specs.Prelude.{replicate}
use Rattle.body_writer.proofs.from_columns.segments.push_clear.Given as goal

abbrev pub invariant-loop : goal.invariant-loop
invariant-loop l = record {
  size : length l.bits ≡ length l.fn.bits + l.counter;
  bits : l.bits ≡ l.fn.bits ++ replicate l.counter false;
}
