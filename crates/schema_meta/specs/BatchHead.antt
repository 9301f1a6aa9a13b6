-- The header of a record batch as contracts see it.
use Rattle.std.specs.Prelude.{ℕ, List}
use Rattle.array_layout.specs.declared.array.FieldNode.{FieldNode}
use Rattle.array_layout.specs.declared.array.BufferRange.{BufferRange}

pub record BatchHead : Type 0 where
  pub rows : ℕ
  pub nodes : List FieldNode
  pub ranges : List BufferRange
