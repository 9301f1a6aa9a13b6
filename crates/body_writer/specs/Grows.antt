-- What writing a column does to a body.
use Rattle.std.specs.Prelude.{◌≡◌, ℕ, List, ◌++◌, length}
use Rattle.array_layout.specs.declared.array.FieldNode.{FieldNode}
use Rattle.body_writer.specs.Body.{laid, ranges_from}
use Rattle.body_writer.specs.declared.body.Body.{Body}

-- these buffers are appended
pub record Appends (old new : Body) (xs : List (List ℕ)) : Type 0 where
  pub nodes : new.nodes.items ≡ old.nodes.items
  pub ranges : new.ranges.items ≡ old.ranges.items ++ ranges_from (length old.bytes.items) xs
  pub bytes : new.bytes.items ≡ old.bytes.items ++ laid xs

-- These bytes of a buffer are appended, which isn't ended yet.
pub record Begins (old new : Body) (x : List ℕ) : Type 0 where
  pub nodes : new.nodes.items ≡ old.nodes.items
  pub ranges : new.ranges.items ≡ old.ranges.items
  pub bytes : new.bytes.items ≡ old.bytes.items ++ x

-- these nodes and buffers are appended
pub record Grows (old new : Body) (ns : List FieldNode) (xs : List (List ℕ)) : Type 0 where
  pub nodes : new.nodes.items ≡ old.nodes.items ++ ns
  pub ranges : new.ranges.items ≡ old.ranges.items ++ ranges_from (length old.bytes.items) xs
  pub bytes : new.bytes.items ≡ old.bytes.items ++ laid xs
