use Rattle.std.proofs.Common.{◌≡◌, ◌≤◌, ◌+◌, ◌*◌, ◌++◌, drop}
use Rattle.flatbuf.specs.Written.{objects_end, elements, FitAll}
use Rattle.flatbuf.specs.Slots.{views}
use Rattle.flatbuf.proofs.bytes.push_elements.Given as goal

abbrev pub invariant-loop-slot : goal.invariant-loop-slot
invariant-loop-slot l = record {
  fits : FitAll (views (drop l.slot-index l.slots));
  object : objects_end l.free (views (drop l.slot-index l.slots)) ≡ objects_end l.fn.at (views l.slots);
  behind : l.fn.at ≤ l.free;
  place : l.element ≡ l.fn.place + 4 * l.slot-index;
  bytes : l.out.items ++ elements l.element l.free (views (drop l.slot-index l.slots)) ≡ l.fn.out.items
      ++ elements l.fn.place l.fn.at (views l.slots);
}
