-- What is written is read back, from the root table down.
use Rattle.std.proofs.Common.{
  ◌≡◌,
  ℕ,
  ◌+◌,
  ◌*◌,
  ◌-◌,
  ◌/◌,
  ◌%◌,
  ◌^◌,
  ◌<◌,
  ◌≤◌,
  List,
  [],
  ◌∷◌,
  ◌++◌,
  length,
  Option,
  Some,
  refl,
  ap,
  subst,
  ◌∙◌,
  arith,
}
use Rattle.std.proofs.Math.Nat.{div-add-mod', mul-le-mul_left}
use Rattle.byteorder.specs.Endian.{little_bytes}
use Rattle.flatbuf.specs.Tree.{Node, absent, number, text, structs, table, references, Nodes, node, no_nodes, count}
use Rattle.flatbuf.specs.Layout.{target_at, table_at, table_in, slot_of, root_of}
use Rattle.flatbuf.specs.Written.{
  zeros,
  up,
  up_count,
  alignment,
  field_place,
  field_end,
  fields_end,
  vtable_len,
  table_place,
  table_end,
  items_place,
  items_end,
  object_place,
  object_end,
  objects_end,
  content,
  fields,
  table_bytes,
  elements,
  counted,
  object,
  objects,
  whole,
  Fits,
  FitAll,
  IsReference,
  AreReferences,
}
use Rattle.flatbuf.specs.Held.{element_place, NodeHeld, Held, RootHeld}
use Rattle.flatbuf.specs.Law.{LayoutLaw}
use Rattle.flatbuf.proofs.Ends.{up-le, alignment-fits, fields_end-le, object_end-le, objects_end-le}
use Rattle.flatbuf.proofs.Lengths.{
  length-zeros,
  content-length,
  elements-length,
  table-length,
  counted-length,
  object-length,
}
use Rattle.flatbuf.proofs.Places.{At, At-all, At-front, At-back, number-at, target-at, block-at}
use Rattle.flatbuf.proofs.Slots.{slot_answer, Placed, table-stands}

reference-answer : (q : ℕ) (x : Node) → IsReference x → Some (Some q) ≡ slot_answer q x
reference-answer q absent h = absurd h
reference-answer q (number w n) h = absurd h
reference-answer q (text xs) h = refl
reference-answer q (structs w xs) h = refl
reference-answer q (table s) h = refl
reference-answer q (references s) h = refl

reference-content : (q at : ℕ) (x : Node) → IsReference x → little_bytes 4 (object_place at x - q) ≡ content q at x
reference-content q at absent h = absurd h
reference-content q at (number w n) h = absurd h
reference-content q at (text xs) h = refl
reference-content q at (structs w xs) h = refl
reference-content q at (table s) h = refl
reference-content q at (references s) h = refl

-- a count, and what comes after it
pub record IsCounted (b : List ℕ) (at n : ℕ) (xs : List ℕ) : Type 0 where
  pub count : At b (up_count at) (little_bytes 4 n)
  pub items : At b (up_count at + 4) xs

counted-stands : (b : List ℕ) (at n : ℕ) (xs : List ℕ) → At b at (counted at n ++ xs) → IsCounted b at n xs
counted-stands b at n xs a =
    let fill = zeros (up_count at - at) in
    let number = little_bytes 4 n in
    let filled = length-zeros (up_count at - at) in
    let len = counted-length at n in
    let first : At b at (fill ++ number) = At-front b at (counted at n) xs a in
    let low : at ≤ up_count at = omega arith in
    record {
      count = At-back b at (up_count at) fill number first (omega (arith, filled, low));
      items = At-back b at (up_count at + 4) (counted at n) xs a (omega (arith, len));
    }

-- whole elements
elements-whole : (w n : ℕ) → n % w ≡ 0 → n ≡ n / w * w
elements-whole w n h =
    let split : n / w * w + n % w ≡ n = div-add-mod' n w in
    omega (arith, split, h)

few-elements : (w n : ℕ) → 1 ≤ w → n / w ≤ n
few-elements w n h =
    let split : n / w * w + n % w ≡ n = div-add-mod' n w in
    let more : n / w * 1 ≤ n / w * w = mul-le-mul_left (n / w) h in
    omega (arith, split, more)

mutual
  pub node-held : (b : List ℕ) (q at : ℕ) (o : Option (Option ℕ)) (x : Node) → Fits x → o ≡ slot_answer q x
      → At b q (content q at x) → At b at (object at x)
      → q ≤ at → object_end at x < 2 ^ 32 → NodeHeld b o x
  node-held b q at o absent f e field own le short = e
  node-held b q at o (number w n) f e field own le short = (q, e, number-at b q w n f.2 field)
  node-held b q at o (text xs) f e field own le short =
      let p : ℕ = up_count at in
      let c = counted-stands b at (length xs) (xs ++ 0 ∷ []) own in
      let target = target-at b q p (omega arith) (omega arith) field in (
        q,
        p,
        e,
        target,
        block-at b p 1 (length xs) xs (omega arith) (omega arith) c.count (At-front b (p + 4) xs (0 ∷ []) c.items),
      )
  node-held b q at o (structs w xs) f e field own le short =
      let p : ℕ = up_count at in
      let c = counted-stands b at (length xs / w) xs own in
      let target = target-at b q p (omega arith) (omega arith) field in
      let few = few-elements w (length xs) f.0 in (
        q,
        p,
        e,
        target,
        block-at b p w (length xs / w) xs (omega (arith, few, short)) (elements-whole w (length xs) f.1) c.count
            c.items,
      )
  node-held b q at o (table s) f e field own le short =
      let p : ℕ = table_place at s in
      let v : ℕ = up 8 at in
      let low : at ≤ v = up-le 8 at (omega arith) in
      let high : v + vtable_len s ≤ p = up-le 8 (v + vtable_len s) (omega arith) in
      let mine = fields_end-le 4 s f.2 in
      let others = objects_end-le (table_end at s) s f.2 in
      let first = At-front b at (table_bytes at s) (objects (table_end at s) s) own in
      let below =
      At-back b at (table_end at s) (table_bytes at s) (objects (table_end at s) s) own (table-length at s f.2) in
      let t = table-stands b at s f first in
      let target = target-at b q p (omega (arith, le, low, high)) (omega (arith, mine, others, short)) field in (
        q,
        p,
        e,
        target,
        t.found,
        fields-held b (slot_of (table_in b p)) p 4 0 (table_end at s) s f.2 t.slots t.own below (omega arith) short,
        t.beyond,
      )
  node-held b q at o (references s) f e field own le short =
      let p : ℕ = up_count at in
      let list = elements (items_place at) (items_end at s) s in
      let below = objects (items_end at s) s in
      let c = counted-stands b at (count s) (list ++ below) own in
      let others = objects_end-le (items_end at s) s f.0 in
      let len = elements-length (items_place at) (items_end at s) s in
      let target = target-at b q p (omega arith) (omega (arith, others, short)) field in
      let small : count s < 256 ^ 4 = omega (arith, others, short) in
      let start : p + 4 + 4 * 0 ≡ items_place at = omega arith in (
        q,
        p,
        e,
        target,
        number-at b p 4 (count s) small c.count,
        elements-held b (p + 4) 0 (items_place at) (items_end at s) s f.0 f.1 start
            (At-front b (items_place at) list below c.items)
            (At-back b (items_place at) (items_end at s) list below c.items (omega (arith, len))) (omega arith) short,
      )

  pub fields-held : (b : List ℕ) (place : ℕ → Option (Option ℕ)) (t c k at : ℕ) (s : Nodes) → FitAll s
      → Placed place t c k s → At b (t + c) (fields t c at s)
      → At b at (objects at s) → t + fields_end c s ≤ at → objects_end at s < 2 ^ 32 → Held b place k s
  fields-held b place t c k at no_nodes f slots own below le short = tt
  fields-held b place t c k at (node x r) f slots own below le short =
      let fill = zeros (field_place c x - c) in
      let mine = content (t + field_place c x) at x in
      let others = fields t (field_end c x) (object_end at x) r in
      let filled = length-zeros (field_place c x - c) in
      let low = up-le (alignment x) c (alignment-fits x f.0) in
      let len = content-length (t + field_place c x) at x in
      let on = fields_end-le (field_end c x) r f.1 in
      let up = object_end-le at x f.0 in
      let far = objects_end-le (object_end at x) r f.1 in
      let a1 : At b (t + field_place c x) (mine ++ others) =
      At-back b (t + c) (t + field_place c x) fill (mine ++ others) own (omega (arith, filled, low)) in
      let a2 : At b (t + field_end c x) others =
      At-back b (t + field_place c x) (t + field_end c x) mine others a1 (omega (arith, len)) in (
        node-held b (t + field_place c x) at (place k) x f.0 slots.0 (At-front b (t + field_place c x) mine others a1)
            (At-front b at (object at x) (objects (object_end at x) r) below)
            (omega (arith, on, le)) (omega (arith, far, short)),
        fields-held b place t (field_end c x) (k + 1) (object_end at x) r f.1 slots.1 a2
            (At-back b at (object_end at x) (object at x) (objects (object_end at x) r) below (object-length at x f.0))
            (omega (arith, up, le)) short,
      )

  pub elements-held : (b : List ℕ) (start i p at : ℕ) (s : Nodes) → FitAll s → AreReferences s → start + 4 * i ≡ p
      → At b p (elements p at s) → At b at (objects at s)
      → p + 4 * count s ≤ at → objects_end at s < 2 ^ 32 → Held b (element_place start) i s
  elements-held b start i p at no_nodes f refer e own below le short = tt
  elements-held b start i p at (node x r) f refer e own below le short =
      let mine = little_bytes 4 (object_place at x - p) in
      let others = elements (p + 4) (object_end at x) r in
      let up = object_end-le at x f.0 in
      let far = objects_end-le (object_end at x) r f.1 in
      let answer : element_place start i ≡ slot_answer p x = ap (λ n. Some (Some n)) e ∙ reference-answer p x refer.0 in
      let P : List ℕ → Type 0 = λ l. At b p l in
      let field : At b p (content p at x) =
      subst P (reference-content p at x refer.0) (At-front b p mine others own) in (
        node-held b p at (element_place start i) x f.0 answer field
            (At-front b at (object at x) (objects (object_end at x) r) below) (omega (arith, le))
            (omega (arith, far, short)),
        elements-held b start (i + 1) (p + 4) (object_end at x) r f.1 refer.1 (omega (arith, e))
            (At-back b p (p + 4) mine others own (omega arith))
            (At-back b at (object_end at x) (object at x) (objects (object_end at x) r) below (object-length at x f.0))
            (omega (arith, up, le)) short,
      )

root-found : (b : List ℕ) (p : ℕ) → target_at b 0 ≡ Some p → table_at b p ≡ Some (table_in b p)
    → root_of b ≡ Some (table_in b p)
unfolding root_of
root-found b p e found = rw e found

first-place : (q : ℕ) → Some (Some 0) ≡ Some (Some q) → q ≡ 0
first-place q e = cc

root-held : (b : List ℕ) (s : Nodes) → NodeHeld b (Some (Some 0)) (table s) → RootHeld b s
root-held b s h =
    let P : ℕ → Type 0 = λ q. target_at b q ≡ Some h.1 in
    record { place = h.1; found = root-found b h.1 (subst P (first-place h.0 h.2) h.3) h.4; held = h.5; beyond = h.6 }

pub layout-law : LayoutLaw
layout-law s h =
    let b : List ℕ = whole s in
    let distance = little_bytes 4 (table_place 4 s) in
    let end : ℕ = object_end 4 (table s) in
    let fill = zeros (up 8 end - end) in
    let fits = h.fits in
    let short = h.short in
    let a0 : At b 0 (distance ++ (object 4 (table s) ++ fill)) = At-all b in
    let a1 : At b 4 (object 4 (table s)) =
    At-front b 4 (object 4 (table s)) fill (At-back b 0 4 distance (object 4 (table s) ++ fill) a0 (omega arith)) in
    let P : ℕ → Type 0 = λ n. At b 0 (little_bytes 4 n) in
    let same : table_place 4 s ≡ table_place 4 s - 0 = omega arith in
    let a2 : At b 0 (content 0 4 (table s)) = subst P same (At-front b 0 distance (object 4 (table s) ++ fill) a0) in
    let held = node-held b 0 4 (Some (Some 0)) (table s) fits refl a2 a1 (omega arith) short in
    root-held b s held
