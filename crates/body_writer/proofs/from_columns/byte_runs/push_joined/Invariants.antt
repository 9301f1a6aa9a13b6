use Rattle.std.proofs.Common.{◌≡◌, ◌++◌, ◌-◌, ◌≤◌}
use Rattle.values.specs.Rose.{node, kids_of}
use Rattle.array_layout.specs.Cells.{cell}
use Rattle.body_writer.specs.Runs.{slots}
use Rattle.body_writer.specs.Columns.{joined}
use Rattle.body_writer.proofs.from_columns.byte_runs.push_joined.Given as goal

abbrev pub invariant-loop-at : goal.invariant-loop-at
invariant-loop-at l = record {
  past : l.range.from ≤ l.at;
  order : l.at ≤ l.range.to;
  bytes : l.out.items ++ joined (slots (cell l.range.parts.body.now (node l.range.parts.own.now (kids_of
      l.range.parts.children.now))) l.at (l.range.to - l.at))
      ≡ l.fn.out.items ++ joined (slots (cell l.range.parts.body.now (node l.range.parts.own.now (kids_of
      l.range.parts.children.now))) l.range.from (l.range.to - l.range.from));
}

abbrev pub decreases-loop-at : goal.decreases-loop-at
decreases-loop-at l = l.range.to - l.at
