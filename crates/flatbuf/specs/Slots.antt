-- The tree of `specs/Tree` for the slots of a `Builder`.
use Rattle.std.specs.Prelude.{List, map}
use Rattle.flatbuf.specs.Tree.{Node, absent, number, text, structs, table, references, Nodes, nodes_of}
use Rattle.flatbuf.specs.declared.slot.Slot.{Slot}
use Rattle.flatbuf.specs.declared.slot.Slot.TheFolds.{fold-Slot}
use Rattle.flatbuf.specs.declared.slot.Slot.TheOpen.{Slot-F}

-- the node of a slot, from the nodes of the slots below it
abbrev pub view_step : Slot-F Node → Node
view_step Slot-F.Absent = absent
view_step (Slot-F.Number w n) = number w n
view_step (Slot-F.Text xs) = text xs.items
view_step (Slot-F.Structs w xs) = structs w xs.items
view_step (Slot-F.Table s) = table (nodes_of s.items)
view_step (Slot-F.References s) = references (nodes_of s.items)

abbrev pub view : Slot → Node
view x = fold-Slot Node view_step x

abbrev pub views : List Slot → Nodes
views xs = nodes_of (map view xs)
