use Rattle.std.proofs.Common.{append_assoc, refl}
use Rattle.flatbuf.proofs.Views.{count-views}
use Rattle.flatbuf.proofs.bytes.push_references.Goals as goal

pub returns : goal.returns
returns c =
    rw (
      c.in_ok-push_elements.ensures,
      c.in_ok-push_count.ensures,
      c.place_of_items.ensures.value,
      c.end_of_items.ensures.value,
      count-views c.args.slots.now,
    ) (simp append_assoc refl)
