-- Each tree that can be written is read back from the bytes of its canonical layout.
use Rattle.flatbuf.specs.Tree.{Nodes}
use Rattle.flatbuf.specs.Written.{whole, IsWritable}
use Rattle.flatbuf.specs.Held.{RootHeld}

abbrev pub LayoutLaw : Type 0
LayoutLaw = (s : Nodes) → IsWritable s → RootHeld (whole s) s
