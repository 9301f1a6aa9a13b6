use Rattle.std.proofs.Common.{◌≡◌, ◌+◌, ◌*◌, ◌++◌, drop}
use Rattle.flatbuf.specs.Written.{objects_end, objects, FitAll}
use Rattle.flatbuf.specs.Slots.{views}
use Rattle.flatbuf.proofs.bytes.+objects.Given as goal

abbrev pub decreases-push_object : goal.decreases-push_object
decreases-push_object l = 2 * goal.size-push_object l

abbrev pub decreases-push_objects : goal.decreases-push_objects
decreases-push_objects l = 2 * goal.size-push_objects l + 1

abbrev pub invariant-push_objects-loop-slot : goal.invariant-push_objects-loop-slot
invariant-push_objects-loop-slot l = record {
  fits : FitAll (views (drop l.slot-index l.slots));
  end : objects_end l.free (views (drop l.slot-index l.slots)) ≡ objects_end l.fn.at (views l.slots);
  bytes : l.out.items ++ objects l.free (views (drop l.slot-index l.slots)) ≡ l.fn.out.items
      ++ objects l.fn.at (views l.slots);
}
