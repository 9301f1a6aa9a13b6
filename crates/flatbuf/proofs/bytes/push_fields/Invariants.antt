use Rattle.std.proofs.Common.{◌≡◌, ◌≤◌, ◌++◌, drop}
use Rattle.flatbuf.specs.Written.{objects_end, fields_end, fields, FitAll}
use Rattle.flatbuf.specs.Slots.{views}
use Rattle.flatbuf.proofs.bytes.push_fields.Given as goal

abbrev pub invariant-loop-slot : goal.invariant-loop-slot
invariant-loop-slot l = record {
  fits : FitAll (views (drop l.slot-index l.slots));
  field : fields_end l.end (views (drop l.slot-index l.slots)) ≡ fields_end l.fn.cursor (views l.slots);
  object : objects_end l.free (views (drop l.slot-index l.slots)) ≡ objects_end l.fn.at (views l.slots);
  behind : l.fn.at ≤ l.free;
  bytes : l.out.items ++ fields l.table l.end l.free (views (drop l.slot-index l.slots)) ≡ l.fn.out.items
      ++ fields l.table l.fn.cursor l.fn.at (views l.slots);
}
