-- A message as a tree of objects: the content of a FlatBuffers table, without any position.
use Rattle.std.specs.Prelude.{ℕ, ◌+◌, List, [], ◌∷◌}

mutual
  -- what a slot of a table, or an element of a vector of references, holds
  pub data Node : Type 0 where
    -- nothing: the slot is absent
    absent : Node
    -- an unsigned number, or a signed one as two's complement: its width in bytes, its value
    number : ℕ → ℕ → Node
    -- a string
    text : List ℕ → Node
    -- a vector of structs: the width of one, and the bytes of all
    structs : ℕ → List ℕ → Node
    -- a table, by its slots in order
    table : Nodes → Node
    -- a vector of references, by what they refer to
    references : Nodes → Node

  pub data Nodes : Type 0 where
    no_nodes : Nodes
    node : Node → Nodes → Nodes

abbrev pub nodes_of : List Node → Nodes
nodes_of [] = no_nodes
nodes_of (x ∷ xs) = node x (nodes_of xs)

abbrev pub count : Nodes → ℕ
count no_nodes = 0
count (node x r) = 1 + count r
