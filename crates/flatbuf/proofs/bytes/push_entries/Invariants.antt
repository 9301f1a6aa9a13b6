use Rattle.std.proofs.Common.{◌≡◌, ◌++◌, drop}
use Rattle.flatbuf.specs.Written.{fields_end, entries, FitAll}
use Rattle.flatbuf.specs.Slots.{views}
use Rattle.flatbuf.proofs.bytes.push_entries.Given as goal

abbrev pub invariant-loop-slot : goal.invariant-loop-slot
invariant-loop-slot l = record {
  fits : FitAll (views (drop l.slot-index l.slots));
  field : fields_end l.end (views (drop l.slot-index l.slots)) ≡ fields_end l.fn.cursor (views l.slots);
  bytes : l.out.items ++ entries l.end (views (drop l.slot-index l.slots)) ≡ l.fn.out.items
      ++ entries l.fn.cursor (views l.slots);
}
