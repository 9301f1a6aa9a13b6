use Rattle.std.proofs.Common.{◌≡◌, ◌++◌, ◌*◌, ◌-◌, ◌≤◌, take}
use Rattle.std.specs.List.{flat_map}
use Rattle.values.specs.Rose.{node, kids_of}
use Rattle.array_layout.specs.Cells.{cell}
use Rattle.array_layout.specs.Placing.{bytes_of}
use Rattle.body_writer.specs.Runs.{slots, slot_bytes}
use Rattle.body_writer.proofs.CopiedSlots.{IsCopied}
use Rattle.body_writer.proofs.from_columns.slot_runs.push_slots.Given as goal

abbrev pub invariant-loop-at : goal.invariant-loop-at
invariant-loop-at l = record {
  past : l.range.from ≤ l.at;
  order : l.at ≤ l.range.to;
  copied : IsCopied (bytes_of l.range.parts.body.now l.range.parts.own.now.values) l.out.items l.place (l.width * l.at) (l.width * l.range.to);
  bytes : take l.place l.out.items ++ flat_map (slot_bytes l.range.parts.own.now.layout)
      (slots (cell l.range.parts.body.now (node l.range.parts.own.now (kids_of l.range.parts.children.now))) l.at
      (l.range.to - l.at))
      ≡ l.fn.out.items ++ flat_map (slot_bytes l.range.parts.own.now.layout)
      (slots (cell l.range.parts.body.now (node l.range.parts.own.now (kids_of l.range.parts.children.now)))
      l.range.from (l.range.to - l.range.from));
}

abbrev pub decreases-loop-at : goal.decreases-loop-at
decreases-loop-at l = l.range.to - l.at
