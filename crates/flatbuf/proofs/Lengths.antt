-- The bytes of an object reach to its end.
use Rattle.std.proofs.Common.{◌≡◌, ℕ, ◌+◌, ◌*◌, ◌/◌, ◌-◌, ◌≤◌, [], ◌∷◌, ◌++◌, length, refl, arith, length-append}
use Rattle.std.proofs.lemmas.List.{length-replicate}
use Rattle.byteorder.specs.Endian.{little_bytes}
use Rattle.byteorder.specs.Numbers.{length-bytes_low_first}
use Rattle.flatbuf.specs.Tree.{Node, absent, number, text, structs, table, references, Nodes, node, no_nodes, count}
use Rattle.flatbuf.specs.Written.{
  zeros,
  up,
  up_count,
  alignment,
  field_len,
  field_place,
  field_end,
  fields_end,
  vtable_len,
  table_place,
  table_end,
  items_place,
  items_end,
  object_place,
  object_end,
  objects_end,
  content,
  fields,
  entry,
  entries,
  table_bytes,
  elements,
  counted,
  object,
  objects,
  whole,
  Fits,
  FitAll,
}
use Rattle.flatbuf.proofs.Ends.{up-le, alignment-fits}

pub length-zeros : (n : ℕ) → length (zeros n) ≡ n
length-zeros n = length-replicate n 0

pub content-length : (p at : ℕ) (x : Node) → length (content p at x) ≡ field_len x
content-length p at absent = refl
content-length p at (number w n) = length-bytes_low_first 0 w n
content-length p at (text xs) = refl
content-length p at (structs w xs) = refl
content-length p at (table s) = refl
content-length p at (references s) = refl

fields-length : (t c at : ℕ) (s : Nodes) → FitAll s → c + length (fields t c at s) ≡ fields_end c s
fields-length t c at no_nodes h =
    let fill = length-zeros (up 4 c - c) in let low = up-le 4 c (omega arith) in omega (arith, fill, low)
fields-length t c at (node x r) h =
    let fill = zeros (field_place c x - c) in
    let bytes = content (t + field_place c x) at x in
    let rest = fields t (field_end c x) (object_end at x) r in
    let filled = length-zeros (field_place c x - c) in
    let low = up-le (alignment x) c (alignment-fits x h.0) in
    let mine = content-length (t + field_place c x) at x in
    let others = fields-length t (field_end c x) (object_end at x) r h.1 in
    omega (arith, filled, low, mine, others, length-append fill (bytes ++ rest), length-append bytes rest)

pub entries-length : (c : ℕ) (s : Nodes) → length (entries c s) ≡ 2 * count s
entries-length c no_nodes = refl
entries-length c (node x r) =
    let others = entries-length (field_end c x) r in
    omega (arith, others, length-append (little_bytes 2 (entry c x)) (entries (field_end c x) r))

pub elements-length : (p at : ℕ) (s : Nodes) → length (elements p at s) ≡ 4 * count s
elements-length p at no_nodes = refl
elements-length p at (node x r) =
    let others = elements-length (p + 4) (object_end at x) r in
    omega (arith, others, length-append (little_bytes 4 (object_place at x - p)) (elements (p + 4) (object_end at x) r))

pub table-length : (at : ℕ) (s : Nodes) → FitAll s → at + length (table_bytes at s) ≡ table_end at s
table-length at s h =
    let vtable : ℕ = up 8 at in
    let place : ℕ = up 8 (vtable + vtable_len s) in
    let own = fields (table_place at s) 4 (table_end at s) s in
    let distance = little_bytes 4 (table_place at s - up 8 at) in
    let gap = zeros (table_place at s - (up 8 at + vtable_len s)) in
    let size = little_bytes 2 (fields_end 4 s) in
    let len = little_bytes 2 (vtable_len s) in
    let a = length-append (zeros (up 8 at - at)) (len ++ (size ++ (entries 4 s ++ (gap ++ (distance ++ own))))) in
    let b = length-append len (size ++ (entries 4 s ++ (gap ++ (distance ++ own)))) in
    let c = length-append size (entries 4 s ++ (gap ++ (distance ++ own))) in
    let d = length-append (entries 4 s) (gap ++ (distance ++ own)) in
    let e = length-append gap (distance ++ own) in
    let f = length-append distance own in
    let first = length-zeros (up 8 at - at) in
    let second = length-zeros (table_place at s - (up 8 at + vtable_len s)) in
    let low : at ≤ vtable = up-le 8 at (omega arith) in
    let high : vtable + vtable_len s ≤ place = up-le 8 (vtable + vtable_len s) (omega arith) in
    let slots = entries-length 4 s in
    let its = fields-length (table_place at s) 4 (table_end at s) s h in
    omega (arith, a, b, c, d, e, f, first, second, low, high, slots, its)

pub counted-length : (at n : ℕ) → at + length (counted at n) ≡ items_place at
counted-length at n =
    let fill = length-zeros (up_count at - at) in
    omega (arith, fill, length-append (zeros (up_count at - at)) (little_bytes 4 n))

mutual
  pub object-length : (at : ℕ) (x : Node) → Fits x → at + length (object at x) ≡ object_end at x
  object-length at absent h = omega arith
  object-length at (number w n) h = omega arith
  object-length at (text xs) h =
      let first = counted-length at (length xs) in
      omega (arith, first, length-append (counted at (length xs)) (xs ++ 0 ∷ []), length-append xs (0 ∷ []))
  object-length at (structs w xs) h =
      let first = counted-length at (length xs / w) in
      omega (arith, first, length-append (counted at (length xs / w)) xs)
  object-length at (table s) h =
      let first = table-length at s h.2 in
      let others = objects-length (table_end at s) s h.2 in
      omega (arith, first, others, length-append (table_bytes at s) (objects (table_end at s) s))
  object-length at (references s) h =
      let first = counted-length at (count s) in
      let mine = elements-length (items_place at) (items_end at s) s in
      let others = objects-length (items_end at s) s h.0 in
      let list = elements (items_place at) (items_end at s) s in
      omega (
        arith,
        first,
        mine,
        others,
        length-append (counted at (count s)) (list ++ objects (items_end at s) s),
        length-append list (objects (items_end at s) s),
      )

  pub objects-length : (at : ℕ) (s : Nodes) → FitAll s → at + length (objects at s) ≡ objects_end at s
  objects-length at no_nodes h = omega arith
  objects-length at (node x r) h =
      let first = object-length at x h.0 in
      let others = objects-length (object_end at x) r h.1 in
      omega (arith, first, others, length-append (object at x) (objects (object_end at x) r))

pub whole-length : (s : Nodes) → Fits (table s) → length (whole s) ≡ up 8 (object_end 4 (table s))
whole-length s h =
    let end : ℕ = object_end 4 (table s) in
    let mine : 4 + length (object 4 (table s)) ≡ end = object-length 4 (table s) h in
    let fill = zeros (up 8 end - end) in
    let filled = length-zeros (up 8 end - end) in
    let low = up-le 8 end (omega arith) in
    omega (
      arith,
      mine,
      filled,
      low,
      length-append (little_bytes 4 (table_place 4 s)) (object 4 (table s) ++ fill),
      length-append (object 4 (table s)) fill,
    )

pub ruleset lengths = (whole-length)
