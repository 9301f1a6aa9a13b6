-- What it means that bytes hold a tree: reading them slot by slot and element by element gives the tree's nodes.
use Rattle.std.specs.Prelude.{◌≡◌, ℕ, ◌+◌, ◌*◌, ◌≤◌, List, Option, Some, None, ⊤}
use Rattle.flatbuf.specs.Tree.{Node, absent, number, text, structs, table, references, Nodes, no_nodes, node, count}
use Rattle.flatbuf.specs.Layout.{number_at, target_at, block_at, table_at, table_in, slot_of, root_of}

-- where the elements of a vector of references lie, the first at `start`
abbrev pub element_place : ℕ → ℕ → Option (Option ℕ)
element_place start i = Some (Some (start + 4 * i))

abbrev mutual
  -- the field or element at this position, where it isn't absent, is this node
  pub NodeHeld : List ℕ → Option (Option ℕ) → Node → Type 0
  NodeHeld b o absent = o ≡ Some None
  NodeHeld b o (number w n) = (q : ℕ) × (o ≡ Some (Some q)) × (number_at w b q ≡ Some n)
  NodeHeld b o (text xs) = (q : ℕ) × (p : ℕ) × (o ≡ Some (Some q)) × (target_at b q ≡ Some p)
      × (block_at 1 b p ≡ Some xs)
  NodeHeld b o (structs w xs) =
      (q : ℕ) × (p : ℕ) × (o ≡ Some (Some q)) × (target_at b q ≡ Some p) × (block_at w b p ≡ Some xs)
  NodeHeld b o (table s) =
      (q : ℕ) × (p : ℕ) × (o ≡ Some (Some q)) × (target_at b q ≡ Some p) × (table_at b p ≡ Some (table_in b p))
      × Held b (slot_of (table_in b p)) 0 s × ((k : ℕ) → count s ≤ k → slot_of (table_in b p) k ≡ Some None)
  NodeHeld b o (references s) =
      (q : ℕ) × (p : ℕ) × (o ≡ Some (Some q)) × (target_at b q ≡ Some p) × (number_at 4 b p ≡ Some (count s))
      × Held b (element_place (p + 4)) 0 s

  -- the nodes are those at the positions number k, k + 1 and so on
  pub Held : List ℕ → (ℕ → Option (Option ℕ)) → ℕ → Nodes → Type 0
  Held b place k no_nodes = ⊤
  Held b place k (node x r) = NodeHeld b (place k) x × Held b place (k + 1) r

-- the root table has these slots, and each further one is absent
pub record RootHeld (b : List ℕ) (s : Nodes) : Type 0 where
  pub place : ℕ
  pub found : root_of b ≡ Some (table_in b place)
  pub held : Held b (slot_of (table_in b place)) 0 s
  pub beyond : (k : ℕ) → count s ≤ k → slot_of (table_in b place) k ≡ Some None
