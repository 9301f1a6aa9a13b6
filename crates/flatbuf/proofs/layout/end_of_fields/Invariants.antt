use Rattle.std.proofs.Common.{◌≡◌, drop}
use Rattle.flatbuf.specs.Written.{fields_end, FitAll}
use Rattle.flatbuf.specs.Slots.{views}
use Rattle.flatbuf.proofs.layout.end_of_fields.Given as goal

abbrev pub invariant-loop-slot : goal.invariant-loop-slot
invariant-loop-slot l = record {
  fits : FitAll (views (drop l.slot-index l.slots));
  end : fields_end l.end (views (drop l.slot-index l.slots)) ≡ fields_end l.fn.cursor (views l.slots);
}
