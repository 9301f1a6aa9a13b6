use Rattle.std.proofs.Common.{◌+◌, ◌*◌, ◌-◌, drop}
use Rattle.std.specs.Prelude.{codes}
use denote.Shadow.{shadow}
use denote.Text.{Utf8}
use Rattle.values.specs.Datum.{items_of}
use Rattle.values.specs.Reading.{IsValid, each}
use Rattle.values.specs.Rose.{kids_of, more, none, rose_size, roses_size}
use Rattle.array_layout.specs.Cells.{cell, row}
use Rattle.showing.specs.Joined.{joined, joined_behind}
use Rattle.showing.specs.Json.{items_of_first, members}
use Rattle.showing.specs.Shown.{AreMembers, values_of}
use Rattle.showing.proofs.WrittenParts.{Leaves}
use Rattle.showing.proofs.json.+json.Given as goal

abbrev pub decreases-write_json : goal.decreases-write_json
decreases-write_json g l = 4 * rose_size l.field.now

abbrev pub decreases-write_list : goal.decreases-write_list
decreases-write_list g l = 4 * roses_size (kids_of l.fields.now) + 2

abbrev pub decreases-write_items : goal.decreases-write_items
decreases-write_items g l = 4 * rose_size l.field.now + 1

abbrev pub decreases-write_struct : goal.decreases-write_struct
decreases-write_struct g l = 4 * roses_size (kids_of l.fields.now) + 2

abbrev pub decreases-write_held_list : goal.decreases-write_held_list
decreases-write_held_list g l = 4 * roses_size (kids_of l.fields.now) + 2

abbrev pub decreases-write_held_items : goal.decreases-write_held_items
decreases-write_held_items g l = 4 * rose_size l.field.now + 1

abbrev pub decreases-write_held_struct : goal.decreases-write_held_struct
decreases-write_held_struct g l = 4 * roses_size (kids_of l.fields.now) + 2

abbrev pub invariant-write_items-loop-i : goal.invariant-write_items-loop-i
invariant-write_items-loop-i g l = record {
  valid : IsValid (each (cell l.body l.array) l.i (l.to - l.i));
  text : shadow (Utf8 l.comma);
  wrote : Leaves (g.W.Write.contents l.initial.out) (g.W.Write.contents l.out)
      (joined_behind l.comma (codes ",") (items_of_first l.quote (more l.field none)
      (items_of (values_of (each (cell l.body l.array) l.i (l.to - l.i))))))
      (joined (codes ",") (items_of_first l.quote (more l.field none)
      (items_of (values_of (each (cell l.body l.array) l.initial.i (l.to - l.initial.i))))));
}

abbrev pub invariant-write_struct-loop-field : goal.invariant-write_struct-loop-field
invariant-write_struct-loop-field g l = record {
  are : AreMembers l.body (kids_of l.arrays) l.at;
  text : shadow (Utf8 l.comma);
  wrote : Leaves (g.W.Write.contents l.initial.out) (g.W.Write.contents l.out)
      (joined_behind l.comma (codes ",") (members l.quote (kids_of (drop l.field-index l.fields))
      (items_of (values_of (row l.body (kids_of l.arrays) l.at)))))
      (joined (codes ",") (members l.quote (kids_of l.fields)
      (items_of (values_of (row l.body (kids_of l.initial.arrays) l.at)))));
}

abbrev pub invariant-write_held_items-loop-item : goal.invariant-write_held_items-loop-item
invariant-write_held_items-loop-item g l = record {
  text : shadow (Utf8 l.comma);
  wrote : Leaves (g.W.Write.contents l.initial.out) (g.W.Write.contents l.out)
      (joined_behind l.comma (codes ",") (items_of_first l.quote (more l.field none)
      (items_of (drop l.item-index l.items))))
      (joined (codes ",") (items_of_first l.quote (more l.field none) (items_of l.items)));
}

abbrev pub invariant-write_held_struct-loop-field : goal.invariant-write_held_struct-loop-field
invariant-write_held_struct-loop-field g l = record {
  text : shadow (Utf8 l.comma);
  wrote : Leaves (g.W.Write.contents l.initial.out) (g.W.Write.contents l.out)
      (joined_behind l.comma (codes ",") (members l.quote (kids_of (drop l.field-index l.fields))
      (items_of l.cells)))
      (joined (codes ",") (members l.quote (kids_of l.fields) (items_of l.initial.cells)));
}
