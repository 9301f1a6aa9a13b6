use Rattle.std.proofs.Common.{◌≡◌, ℕ, ◌+◌, ◌++◌, ◌-◌, ◌≤◌, List}
use Rattle.std.specs.Prelude.{map}
use Rattle.values.specs.Rose.{node, kids_of}
use Rattle.array_layout.specs.Cells.{cell}
use Rattle.body_writer.specs.Runs.{slots}
use Rattle.body_writer.specs.Columns.{offsets_from}
use Rattle.body_writer.specs.Slots.{length_in, total_length}
use Rattle.body_writer.proofs.from_columns.byte_runs.push_starts.Given as goal

abbrev pub invariant-loop-i : goal.invariant-loop-i
invariant-loop-i l = record {
  past : l.range.from ≤ l.i;
  end : l.end + total_length (slots (cell l.range.parts.body.now (node l.range.parts.own.now (kids_of
      l.range.parts.children.now))) l.i (l.range.to - l.i))
      ≡ l.fn.start + total_length (slots (cell l.range.parts.body.now (node l.range.parts.own.now (kids_of
      l.range.parts.children.now))) l.range.from (l.range.to - l.range.from));
  bytes : (rest : List ℕ) → l.out.items ++ offsets_from l.fn.wanted l.end (map length_in (slots (cell
      l.range.parts.body.now (node l.range.parts.own.now (kids_of l.range.parts.children.now))) l.i (l.range.to - l.i))
      ++ rest)
      ≡ l.fn.out.items ++ offsets_from l.fn.wanted l.fn.start (map length_in (slots (cell l.range.parts.body.now (node
      l.range.parts.own.now (kids_of l.range.parts.children.now))) l.range.from (l.range.to - l.range.from)) ++
      rest);
}
