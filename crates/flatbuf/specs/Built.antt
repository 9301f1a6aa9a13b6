-- What a builder holds, as a tree.
use Rattle.flatbuf.specs.Tree.{Node, Nodes, no_nodes, node}
use Rattle.flatbuf.specs.declared.builder.Builder.{Builder}
use Rattle.flatbuf.specs.declared.builder.Tables.{Tables}
use Rattle.flatbuf.specs.Slots.{views}

-- the slots, and one more after them
abbrev pub add : Nodes → Node → Nodes
add no_nodes x = node x no_nodes
add (node y r) x = node y (add r x)

-- the slots of the table that is built
abbrev pub slots : Builder → Nodes
slots b = views b.slots.items

-- the tables of the vector that is built
abbrev pub listed : Tables → Nodes
listed t = views t.tables.items
