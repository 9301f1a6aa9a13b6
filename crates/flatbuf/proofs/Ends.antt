-- Ends come after beginnings, and the tree of slots by its first.
use Rattle.std.proofs.Common.{◌≡◌, ℕ, ◌+◌, ◌*◌, ◌/◌, ◌%◌, ◌-◌, ◌<◌, ◌≤◌, List, length, get_or, drop, refl, arith}
use Rattle.std.proofs.Math.Nat.{div-add-mod', mod-lt}
use Rattle.flatbuf.specs.Tree.{Node, absent, number, text, structs, table, references, Nodes, node, no_nodes}
use Rattle.flatbuf.specs.Written.{
  up,
  alignment,
  field_end,
  fields_end,
  table_end,
  items_end,
  object_end,
  objects_end,
  Fits,
  FitAll,
}
use Rattle.flatbuf.specs.declared.slot.Slot.{Slot}
use Rattle.flatbuf.specs.Slots.{view, views}
use Rattle.flatbuf.proofs.Views.{views-at}

pub up-le : (w n : ℕ) → 1 ≤ w → n ≤ up w n
up-le w n h =
    let split : (n + (w - 1)) / w * w + (n + (w - 1)) % w ≡ n + (w - 1) = div-add-mod' (n + (w - 1)) w in
    let low = mod-lt (n + (w - 1)) h in
    omega (arith, split, low)

pub alignment-fits : (x : Node) → Fits x → 1 ≤ alignment x
alignment-fits absent h = omega arith
alignment-fits (number w n) h = h.0
alignment-fits (text xs) h = omega arith
alignment-fits (structs w xs) h = omega arith
alignment-fits (table s) h = omega arith
alignment-fits (references s) h = omega arith

pub field_end-le : (c : ℕ) (x : Node) → Fits x → c ≤ field_end c x
field_end-le c x h = let l = up-le (alignment x) c (alignment-fits x h) in omega (arith, l)

pub fields_end-le : (c : ℕ) (s : Nodes) → FitAll s → c ≤ fields_end c s
fields_end-le c no_nodes h = up-le 4 c (omega arith)
fields_end-le c (node x r) h =
    let here = field_end-le c x h.0 in let there = fields_end-le (field_end c x) r h.1 in omega (arith, here, there)

mutual
  pub object_end-le : (at : ℕ) (x : Node) → Fits x → at ≤ object_end at x
  object_end-le at absent h = omega arith
  object_end-le at (number w n) h = omega arith
  object_end-le at (text xs) h = omega arith
  object_end-le at (structs w xs) h = omega arith
  object_end-le at (table s) h =
      let mine = objects_end-le (table_end at s) s h.2 in
      let its = fields_end-le 4 s h.2 in
      omega (arith, mine, its)
  object_end-le at (references s) h = let mine = objects_end-le (items_end at s) s h.0 in omega (arith, mine)

  pub objects_end-le : (at : ℕ) (s : Nodes) → FitAll s → at ≤ objects_end at s
  objects_end-le at no_nodes h = omega arith
  objects_end-le at (node x r) h =
      let here = object_end-le at x h.0 in
      let there = objects_end-le (object_end at x) r h.1 in
      omega (arith, here, there)

pub ruleset ends = (fields_end-le, object_end-le, objects_end-le)

-- the next of some slots, and those after it

pub next-fits : (xs : List Slot) (i : ℕ) (x : Slot) → i < length xs → x ≡ get_or xs i x → FitAll (views (drop i xs))
    → Fits (view x) × FitAll (views (drop (i + 1) xs))
next-fits xs i x h e f = rw (views-at xs i x h e) at f

pub next-object : (at : ℕ) (xs : List Slot) (i : ℕ) (x : Slot) → i < length xs → x ≡ get_or xs i x
    → FitAll (views (drop i xs)) → object_end at (view x) ≤ objects_end at (views (drop i xs))
next-object at xs i x h e f =
    let rest = objects_end-le (object_end at (view x)) (views (drop (i + 1) xs)) (next-fits xs i x h e f).1 in
    rw (views-at xs i x h e) rest

pub next-objects : (at : ℕ) (xs : List Slot) (i : ℕ) (x : Slot) → i < length xs → x ≡ get_or xs i x
    → objects_end (object_end at (view x)) (views (drop (i + 1) xs)) ≡ objects_end at (views (drop i xs))
next-objects at xs i x h e = rw (views-at xs i x h e) refl

pub next-fields : (c : ℕ) (xs : List Slot) (i : ℕ) (x : Slot) → i < length xs → x ≡ get_or xs i x
    → fields_end (field_end c (view x)) (views (drop (i + 1) xs)) ≡ fields_end c (views (drop i xs))
next-fields c xs i x h e = rw (views-at xs i x h e) refl
