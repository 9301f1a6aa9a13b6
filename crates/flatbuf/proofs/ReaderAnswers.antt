-- What the definitions of reading give where a node is held.
use Rattle.std.proofs.Common.{◌≡◌, ℕ, ◌+◌, ◌*◌, ◌≤◌, List, Option, Some, None, refl, sym, subst}
use Rattle.std.specs.Int.{Width, byte_len, cast_signed}
use Rattle.flatbuf.specs.Tree.{number, text, structs, table, references, Nodes, count}
use Rattle.flatbuf.specs.Layout.{
  Table,
  Vector,
  table_in,
  target_at,
  slot_of,
  number_of,
  signed_at,
  signed_of,
  structs_of,
  subtable_of,
  vector_at,
  vector_of,
  entry_of,
}
use Rattle.flatbuf.specs.Held.{element_place, NodeHeld, Held}

pub number-read : (w n : ℕ) (t : Table) (k : ℕ) → NodeHeld t.bytes (slot_of t k) (number w n)
    → number_of w t k ≡ Some (Some n)
unfolding number_of
number-read w n t k h = rw (h.1, h.2) refl

pub signed-read : (w : Width) (n : ℕ) (t : Table) (k : ℕ) → NodeHeld t.bytes (slot_of t k) (number (byte_len w) n)
    → signed_of w t k ≡ Some (Some (cast_signed w n))
unfolding signed_of signed_at
signed-read w n t k h = rw (h.1, h.2) refl

pub text-read : (xs : List ℕ) (t : Table) (k : ℕ) → NodeHeld t.bytes (slot_of t k) (text xs)
    → structs_of 1 t k ≡ Some (Some xs)
unfolding structs_of
text-read xs t k h = rw (h.2, h.3, h.4) refl

pub structs-read : (w : ℕ) (xs : List ℕ) (t : Table) (k : ℕ) → NodeHeld t.bytes (slot_of t k) (structs w xs)
    → structs_of w t k ≡ Some (Some xs)
unfolding structs_of
structs-read w xs t k h = rw (h.2, h.3, h.4) refl

-- a table to which a slot or an element points
pub record TableRead (b : List ℕ) (answer : Option (Option Table)) (s : Nodes) : Type 0 where
  pub place : ℕ
  pub is : answer ≡ Some (Some (table_in b place))
  pub slots : Held b (slot_of (table_in b place)) 0 s
  pub beyond : (k : ℕ) → count s ≤ k → slot_of (table_in b place) k ≡ Some None

pub subtable-read : (s : Nodes) (t : Table) (k : ℕ) → NodeHeld t.bytes (slot_of t k) (table s)
    → TableRead t.bytes (subtable_of t k) s
unfolding subtable_of
subtable-read s t k h = record { place = h.1; is = rw (h.2, h.3, h.4) refl; slots = h.5; beyond = h.6 }

pub entry-read : (s : Nodes) (v : Vector) (i : ℕ) → NodeHeld v.bytes (element_place v.start i) (table s)
    → TableRead v.bytes (Some (entry_of v i)) s
unfolding entry_of
entry-read s v i h =
    let P : ℕ → Type 0 = λ q. target_at v.bytes q ≡ Some h.1 in
    let there : target_at v.bytes (v.start + 4 * i) ≡ Some h.1 =
    subst P (sym (same-place (v.start + 4 * i) h.0 h.2)) h.3 in
    record { place = h.1; is = rw (there, h.4) refl; slots = h.5; beyond = h.6 }
  where
    same-place : (p q : ℕ) → Some (Some p) ≡ Some (Some q) → p ≡ q
    same-place p q e = cc

pub record VectorRead (b : List ℕ) (answer : Option (Option Vector)) (s : Nodes) : Type 0 where
  pub start : ℕ
  pub is : answer ≡ Some (Some (record { bytes = b; start = start; count = count s }))
  pub elements : Held b (element_place start) 0 s

pub vector-read : (s : Nodes) (t : Table) (k : ℕ) → NodeHeld t.bytes (slot_of t k) (references s)
    → VectorRead t.bytes (vector_of t k) s
unfolding vector_of vector_at
vector-read s t k h = record { start = h.1 + 4; is = rw (h.2, h.3, h.4) refl; elements = h.5 }

-- absent slots

pub number-absent : (w : ℕ) (t : Table) (k : ℕ) → slot_of t k ≡ Some None → number_of w t k ≡ Some None
unfolding number_of
number-absent w t k h = rw h refl

pub subtable-absent : (t : Table) (k : ℕ) → slot_of t k ≡ Some None → subtable_of t k ≡ Some None
unfolding subtable_of
subtable-absent t k h = rw h refl
