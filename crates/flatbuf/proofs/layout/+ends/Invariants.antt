use Rattle.std.proofs.Common.{◌≡◌, ◌+◌, ◌*◌, drop}
use Rattle.flatbuf.specs.Written.{objects_end, FitAll}
use Rattle.flatbuf.specs.Slots.{views}
use Rattle.flatbuf.proofs.layout.+ends.Given as goal

abbrev pub decreases-end_of_object : goal.decreases-end_of_object
decreases-end_of_object l = 2 * goal.size-end_of_object l

abbrev pub decreases-end_of_objects : goal.decreases-end_of_objects
decreases-end_of_objects l = 2 * goal.size-end_of_objects l + 1

abbrev pub invariant-end_of_objects-loop-slot : goal.invariant-end_of_objects-loop-slot
invariant-end_of_objects-loop-slot l = record {
  fits : FitAll (views (drop l.slot-index l.slots));
  end : objects_end l.end (views (drop l.slot-index l.slots)) ≡ objects_end l.fn.at (views l.slots);
}
