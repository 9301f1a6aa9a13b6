-- The vtable of a written table points to its fields.
use Rattle.std.proofs.Common.{
  ◌≡◌,
  ℕ,
  ◌+◌,
  ◌*◌,
  ◌-◌,
  ◌^◌,
  ◌<◌,
  ◌≤◌,
  ◌==◌,
  List,
  ◌++◌,
  Option,
  Some,
  None,
  if◌then◌else◌,
  refl,
  ap,
  ◌∙◌,
  arith,
}
use Rattle.std.specs.Prelude.{⊤}
use Rattle.std.proofs.lemmas.Bool.{le-leb, lt-ltb, le-ltb}
use Rattle.std.proofs.lemmas.Bool.Decides.{nat_tests}
use Rattle.byteorder.specs.Endian.{little_bytes}
use Rattle.flatbuf.specs.Tree.{Node, absent, number, text, structs, table, references, Nodes, node, no_nodes, count}
use Rattle.flatbuf.specs.Layout.{number_at, place_of_vtable, vtable_at, Vtable, table_at, table_in, slot_of}
use Rattle.flatbuf.specs.Written.{
  zeros,
  up,
  field_place,
  field_end,
  fields_end,
  vtable_len,
  table_place,
  table_end,
  fields,
  entry,
  entries,
  table_bytes,
  Fits,
  FitAll,
}
use Rattle.flatbuf.proofs.Ends.{up-le, field_end-le, fields_end-le}
use Rattle.flatbuf.proofs.Lengths.{length-zeros, entries-length}
use Rattle.flatbuf.proofs.Places.{At, At-front, At-back, number-at}

-- what a slot gives for a node whose field lies at position q
abbrev pub slot_answer : ℕ → Node → Option (Option ℕ)
slot_answer q absent = Some None
slot_answer q (number w n) = Some (Some q)
slot_answer q (text xs) = Some (Some q)
slot_answer q (structs w xs) = Some (Some q)
slot_answer q (table s) = Some (Some q)
slot_answer q (references s) = Some (Some q)

-- the slots from number k on point to the fields from c on of the table at t
abbrev pub Placed : (ℕ → Option (Option ℕ)) → ℕ → ℕ → ℕ → Nodes → Type 0
Placed place t c k no_nodes = ⊤
Placed place t c k (node x r) =
    (place k ≡ slot_answer (t + field_place c x) x) × Placed place t (field_end c x) (k + 1) r

abbrev pub vtable : ℕ → ℕ → Vtable
vtable place size = record { place = place; size = size }

back : (p v : ℕ) → v ≤ p → p - v < 2 ^ 31 → place_of_vtable p (p - v) ≡ Some v
unfolding place_of_vtable
back p v le near =
    let le' : p - v ≤ p = omega arith in
    let e : p - (p - v) ≡ v = omega arith in
    rw (lt-ltb (p - v) (2 ^ 31) near, le-leb (p - v) p le', e) refl

pub vtable-at : (b : List ℕ) (p v n : ℕ) → v ≤ p → p - v < 2 ^ 31 → 4 ≤ n → n < 2 ^ 16 → At b p (little_bytes 4 (p - v))
    → At b v (little_bytes 2 n)
    → vtable_at b p ≡ Some (vtable v n)
unfolding vtable_at
vtable-at b p v n le near enough small distance size =
    let small4 : p - v < 256 ^ 4 = omega arith in
    let small2 : n < 256 ^ 2 = omega arith in
    rw (number-at b p 4 (p - v) small4 distance, back p v le near, number-at b v 2 n small2 size, le-ltb n 4 enough)
    refl

pub table-at : (b : List ℕ) (p v n : ℕ) → vtable_at b p ≡ Some (vtable v n) → table_at b p ≡ Some (table_in b p)
unfolding table_at
table-at b p v n e = rw e refl

pub slot-beyond : (b : List ℕ) (p v n k : ℕ) → vtable_at b p ≡ Some (vtable v n) → n < 4 + 2 * k + 2
    → slot_of (table_in b p) k ≡ Some None
unfolding slot_of
slot-beyond b p v n k e beyond = rw (e, lt-ltb n (4 + 2 * k + 2) beyond) refl

slot-found : (b : List ℕ) (p v n k d : ℕ) → vtable_at b p ≡ Some (vtable v n) → 4 + 2 * k + 2 ≤ n
    → number_at 2 b (v + 4 + 2 * k) ≡ Some d
    → slot_of (table_in b p) k ≡ Some (if d == 0 then None else Some (p + d))
unfolding slot_of
slot-found b p v n k d e within held = rw (e, le-ltb n (4 + 2 * k + 2) within, held) refl

present : (p d : ℕ) → 1 ≤ d → (if d == 0 then None else Some (p + d)) ≡ Some (p + d)
present p d h = grind (arith, nat_tests)

entry-answer : (p c : ℕ) (x : Node) → 4 ≤ c → Fits x
    → Some (if entry c x == 0 then None else Some (p + entry c x)) ≡ slot_answer (p + field_place c x) x
entry-answer p c absent h f = refl
entry-answer p c (number w n) h f = let low = up-le w c f.0 in
    ap (λ o. Some o) (present p (field_place c (number w n)) (omega (arith, low)))
entry-answer p c (text xs) h f = let low = up-le 4 c (omega arith) in
    ap (λ o. Some o) (present p (field_place c (text xs)) (omega (arith, low)))
entry-answer p c (structs w xs) h f = let low = up-le 4 c (omega arith) in
    ap (λ o. Some o) (present p (field_place c (structs w xs)) (omega (arith, low)))
entry-answer p c (table s) h f = let low = up-le 4 c (omega arith) in
    ap (λ o. Some o) (present p (field_place c (table s)) (omega (arith, low)))
entry-answer p c (references s) h f = let low = up-le 4 c (omega arith) in
    ap (λ o. Some o) (present p (field_place c (references s)) (omega (arith, low)))

entry-le : (c : ℕ) (x : Node) → entry c x ≤ field_end c x
entry-le c absent = omega arith
entry-le c (number w n) = omega arith
entry-le c (text xs) = omega arith
entry-le c (structs w xs) = omega arith
entry-le c (table s) = omega arith
entry-le c (references s) = omega arith

pub slots-placed : (b : List ℕ) (p v n c k : ℕ) (s : Nodes) → vtable_at b p ≡ Some (vtable v n) → FitAll s → 4 ≤ c
    → 4 + 2 * k + 2 * count s ≤ n → fields_end c s < 2 ^ 16
    → At b (v + 4 + 2 * k) (entries c s) → Placed (slot_of (table_in b p)) p c k s
slots-placed b p v n c k no_nodes e f low within short a = tt
slots-placed b p v n c k (node x r) e f low within short a =
    let mine = little_bytes 2 (entry c x) in
    let others = entries (field_end c x) r in
    let on = field_end-le c x f.0 in
    let far = fields_end-le (field_end c x) r f.1 in
    let le = entry-le c x in
    let small : entry c x < 256 ^ 2 = omega (arith, far, le, short) in
    let held = number-at b (v + 4 + 2 * k) 2 (entry c x) small (At-front b (v + 4 + 2 * k) mine others a) in
    let first = slot-found b p v n k (entry c x) e (omega (arith, within)) held in
    let moved = At-back b (v + 4 + 2 * k) (v + 4 + 2 * (k + 1)) mine others a (omega arith) in (
      first ∙ entry-answer p c x low f.0,
      slots-placed b p v n (field_end c x) (k + 1) r e f.1 (omega (arith, on, low)) (omega (arith, within)) short
          moved,
    )

-- what the bytes of a table give of it
pub record IsTable (b : List ℕ) (at : ℕ) (s : Nodes) : Type 0 where
  pub found : table_at b (table_place at s) ≡ Some (table_in b (table_place at s))
  pub slots : Placed (slot_of (table_in b (table_place at s))) (table_place at s) 4 0 s
  pub beyond : (k : ℕ) → count s ≤ k → slot_of (table_in b (table_place at s)) k ≡ Some None
  pub own : At b (table_place at s + 4) (fields (table_place at s) 4 (table_end at s) s)

pub table-stands : (b : List ℕ) (at : ℕ) (s : Nodes) → Fits (table s) → At b at (table_bytes at s) → IsTable b at s
table-stands b at s f a =
    let v : ℕ = up 8 at in
    let p : ℕ = table_place at s in
    let own = fields (table_place at s) 4 (table_end at s) s in
    let distance = little_bytes 4 (table_place at s - up 8 at) in
    let gap = zeros (table_place at s - (up 8 at + vtable_len s)) in
    let size = little_bytes 2 (fields_end 4 s) in
    let len = little_bytes 2 (vtable_len s) in
    let fill = zeros (up 8 at - at) in
    let few = f.0 in
    let short = f.1 in
    let filled = length-zeros (up 8 at - at) in
    let gapped = length-zeros (table_place at s - (up 8 at + vtable_len s)) in
    let low : at ≤ v = up-le 8 at (omega arith) in
    let high : v + vtable_len s ≤ p = up-le 8 (v + vtable_len s) (omega arith) in
    let near : p ≤ v + vtable_len s + 7 = omega arith in
    let slots = entries-length 4 s in
    let a1 : At b v (len ++ (size ++ (entries 4 s ++ (gap ++ (distance ++ own))))) =
    At-back b at v fill (len ++ (size ++ (entries 4 s ++ (gap ++ (distance ++ own))))) a
    (omega (arith, filled, low)) in
    let a2 : At b (v + 2) (size ++ (entries 4 s ++ (gap ++ (distance ++ own)))) =
    At-back b v (v + 2) len (size ++ (entries 4 s ++ (gap ++ (distance ++ own)))) a1 (omega arith) in
    let a3 : At b (v + 4 + 2 * 0) (entries 4 s ++ (gap ++ (distance ++ own))) =
    At-back b (v + 2) (v + 4 + 2 * 0) size (entries 4 s ++ (gap ++ (distance ++ own))) a2 (omega arith) in
    let a4 : At b (v + vtable_len s) (gap ++ (distance ++ own)) =
    At-back b (v + 4 + 2 * 0) (v + vtable_len s) (entries 4 s) (gap ++ (distance ++ own)) a3
    (omega (arith, slots)) in
    let a5 : At b p (distance ++ own) =
    At-back b (v + vtable_len s) p gap (distance ++ own) a4 (omega (arith, gapped, high)) in
    let a6 : At b (p + 4) own = At-back b p (p + 4) distance own a5 (omega arith) in
    let e : vtable_at b p ≡ Some (vtable v (vtable_len s)) =
    vtable-at b p v (vtable_len s) (omega (arith, high)) (omega (arith, near, few)) (omega arith) few
    (At-front b p distance own a5) (At-front b v len (size ++ (entries 4 s ++ (gap ++ (distance ++ own)))) a1) in
    record {
      found = table-at b p v (vtable_len s) e;
      slots = slots-placed b p v (vtable_len s) 4 0 s e f.2 (omega arith) (omega arith) short
          (At-front b (v + 4 + 2 * 0) (entries 4 s) (gap ++ (distance ++ own)) a3);
      beyond = λ k h. slot-beyond b p v (vtable_len s) k e (omega (arith, h));
      own = a6;
    }
