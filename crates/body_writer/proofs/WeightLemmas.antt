-- The weight of a column is that of its own slots and those of its children.
use Rattle.std.proofs.Common.{
  ◌≡◌,
  ℕ,
  suc,
  ◌+◌,
  ◌*◌,
  ◌^◌,
  ◌<◌,
  ◌≤◌,
  List,
  [],
  ◌∷◌,
  ◌++◌,
  length,
  get_or,
  All,
  refl,
  ap,
  arith,
  length-append,
}
use Rattle.std.specs.List.{flat_map}
use Rattle.std.proofs.lemmas.List.Elements.{All-head, All-tail}
use Rattle.values.specs.Rose.{Rose, node, Roses, none, more}
use Rattle.values.specs.Datum.{Datum, null, truth, whole, text, bytes, list, structure, Items, no_items, item}
use Rattle.values.specs.declared.layout.OffsetWidth.{OffsetWidth}
use Rattle.values.specs.declared.layout.Layout.{Layout}
use Rattle.values.specs.declared.layout.Layout.TheVariants.{
  Bool as Booleans,
  Int,
  Decimal,
  FixedSizeBinary,
  Utf8,
  Binary,
  List as Listed,
  Struct,
}
use Rattle.values.specs.Layouts.{
  bytes_in as width_of,
  IsNode,
  IsLayout,
  Holds,
  HoldsEach,
  null_weight,
  null_weights,
  weight,
  items_weight,
  row_weight,
}
use Rattle.body_writer.specs.Slots.{bytes_in, length_in, total_length, listed, items_in, part}
use Rattle.body_writer.specs.Columns.{items, joined, child_cells}
use Rattle.values.specs.Weights.{weights}
use Rattle.body_writer.proofs.Held.{from_item, item-at, items-after}

-- the weight of a slot in the buffers of its own array
abbrev pub own_weight : Layout → Datum → ℕ
own_weight Booleans c = 2
own_weight (Int w s) c = 1 + width_of w
own_weight (Decimal p) c = 17
own_weight (FixedSizeBinary w) c = 1 + w
own_weight (Utf8 o) c = 5 + length (bytes_in c)
own_weight (Binary o) c = 5 + length (bytes_in c)
own_weight (Listed o) c = 5
own_weight Struct c = 1

abbrev pub own_weights : Layout → List Datum → ℕ
own_weights l [] = 0
own_weights l (c ∷ cs) = own_weight l c + own_weights l cs

abbrev pub weights_each : Layout → ℕ → Roses Layout → List Datum → ℕ
weights_each l j none cs = 0
weights_each l j (more t ts) cs = weights t (child_cells l j cs) + weights_each l (suc j) ts cs

pub weights-append : (t : Rose Layout) (xs ys : List Datum) → weights t (xs ++ ys) ≡ weights t xs + weights t ys
weights-append t [] ys = omega arith
weights-append t (x ∷ xs) ys = let rest = weights-append t xs ys in omega (arith, rest)

-- where the children have nothing

leaf-weight : (l : Layout) (c : Datum) → IsNode l none → Holds (node l none) c → weight (node l none) c ≡ own_weight l c
leaf-weight Booleans c is h = refl
leaf-weight (Int w s) c is h = refl
leaf-weight (Decimal p) c is h = refl
leaf-weight (FixedSizeBinary w) c is h = refl
leaf-weight (Utf8 o) null is h = refl
leaf-weight (Utf8 o) (text b) is h = refl
leaf-weight (Utf8 o) c is h = absurd h
leaf-weight (Binary o) null is h = refl
leaf-weight (Binary o) (bytes b) is h = refl
leaf-weight (Binary o) c is h = absurd h
leaf-weight (Listed o) c is h = absurd is
leaf-weight Struct null is h = refl
leaf-weight Struct (structure no_items) is h = refl
leaf-weight Struct (structure (item d es)) is h = absurd h
leaf-weight Struct c is h = absurd h

leaf-weights : (l : Layout) (cs : List Datum) → IsNode l none → All (Holds (node l none)) cs
    → weights (node l none) cs ≡ own_weights l cs
leaf-weights l [] is h = refl
leaf-weights l (c ∷ cs) is h =
    let P : Datum → Type 0 = Holds (node l none) in
    let here = leaf-weight l c is (All-head P c cs h) in
    let there = leaf-weights l cs is (All-tail P c cs h) in
    omega (arith, here, there)

-- lists

items-weight : (t : Rose Layout) (es : Items) → items_weight (more t none) es ≡ weights t (listed es)
items-weight t no_items = refl
items-weight t (item d es) = ap (λ n. weight t d + n) (items-weight t es)

list-weight : (o : OffsetWidth) (t : Rose Layout) (c : Datum) → Holds (node (Listed o) (more t none)) c
    → weight (node (Listed o) (more t none)) c ≡ 5 + weights t (items_in c)
list-weight o t null h = refl
list-weight o t (list es) h = ap (λ n. 5 + n) (items-weight t es)
list-weight o t c h = absurd h

list-weights :
    (o : OffsetWidth) (t : Rose Layout) (cs : List Datum) → All (Holds (node (Listed o) (more t none))) cs
    → weights (node (Listed o) (more t none)) cs ≡ own_weights (Listed o) cs + weights t (items cs)
unfolding items
list-weights o t [] h = refl
list-weights o t (c ∷ cs) h =
    let P : Datum → Type 0 = Holds (node (Listed o) (more t none)) in
    let here = list-weight o t c (All-head P c cs h) in
    let there = list-weights o t cs (All-tail P c cs h) in
    let split = weights-append t (items_in c) (flat_map items_in cs) in
    omega (arith, here, there, split)

-- structs

abbrev parts_weight : ℕ → Roses Layout → Datum → ℕ
parts_weight j none c = 0
parts_weight j (more t ts) c = weight t (part j c) + parts_weight (suc j) ts c

pub null-weight : (t : Rose Layout) → weight t null ≡ null_weight t
null-weight (node Booleans kids) = refl
null-weight (node (Int w s) kids) = refl
null-weight (node (Decimal p) kids) = refl
null-weight (node (FixedSizeBinary w) kids) = refl
null-weight (node (Utf8 o) kids) = refl
null-weight (node (Binary o) kids) = refl
null-weight (node (Listed o) kids) = refl
null-weight (node Struct kids) = refl

null-parts : (j : ℕ) (ts : Roses Layout) → null_weights ts ≡ parts_weight j ts null
null-parts j none = refl
null-parts j (more t ts) =
    let here = null-weight t in
    let there = null-parts (suc j) ts in
    omega (arith, here, there)

row-parts : (j : ℕ) (ts : Roses Layout) (es xs : Items) → from_item j es ≡ xs → HoldsEach ts xs
    → row_weight ts xs ≡ parts_weight j ts (structure es)
row-parts j none es xs e h = refl
row-parts j (more t ts) es no_items e h = absurd h
row-parts j (more t ts) es (item d rest) e h =
    let here : weight t (get_or (listed es) j null) ≡ weight t d = ap (weight t) (item-at j es d rest e) in
    let there = row-parts (suc j) ts es rest (items-after j es d rest e) h.1 in
    omega (arith, here, there)

struct-weight : (ts : Roses Layout) (c : Datum) → Holds (node Struct ts) c
    → weight (node Struct ts) c ≡ 1 + parts_weight 0 ts c
struct-weight ts null h = ap (λ n. 1 + n) (null-parts 0 ts)
struct-weight ts (structure es) h = ap (λ n. 1 + n) (row-parts 0 ts es es refl h)
struct-weight ts c h = absurd h

parts-none : (j : ℕ) (ts : Roses Layout) → weights_each Struct j ts [] ≡ 0
parts-none j none = refl
parts-none j (more t ts) = let rest = parts-none (suc j) ts in omega (arith, rest)

parts-split : (j : ℕ) (ts : Roses Layout) (c : Datum) (cs : List Datum)
    → weights_each Struct j ts (c ∷ cs) ≡ parts_weight j ts c + weights_each Struct j ts cs
parts-split j none c cs = refl
parts-split j (more t ts) c cs = let rest = parts-split (suc j) ts c cs in omega (arith, rest)

struct-weights : (ts : Roses Layout) (cs : List Datum) → All (Holds (node Struct ts)) cs
    → weights (node Struct ts) cs ≡ own_weights Struct cs + weights_each Struct 0 ts cs
struct-weights ts [] h = let none_there = parts-none 0 ts in omega (arith, none_there)
struct-weights ts (c ∷ cs) h =
    let P : Datum → Type 0 = Holds (node Struct ts) in
    let here = struct-weight ts c (All-head P c cs h) in
    let there = struct-weights ts cs (All-tail P c cs h) in
    let split = parts-split 0 ts c cs in
    omega (arith, here, there, split)

pub weights-split :
    (l : Layout) (kids : Roses Layout) (cs : List Datum) → IsNode l kids → All (Holds (node l kids)) cs
    → weights (node l kids) cs ≡ own_weights l cs + weights_each l 0 kids cs
weights-split (Listed o) (more t none) cs is h = let all = list-weights o t cs h in omega (arith, all)
weights-split (Listed o) none cs is h = absurd is
weights-split (Listed o) (more t (more u ts)) cs is h = absurd is
weights-split Struct kids cs is h = struct-weights kids cs h
weights-split l none cs is h = let all = leaf-weights l cs is h in omega (arith, all)
weights-split l (more t ts) cs is h = absurd is

-- each slot weighs something

one-each : (l : Layout) (c : Datum) → 1 ≤ own_weight l c
one-each Booleans c = omega arith
one-each (Int w s) c = omega arith
one-each (Decimal p) c = omega arith
one-each (FixedSizeBinary w) c = omega arith
one-each (Utf8 o) c = omega arith
one-each (Binary o) c = omega arith
one-each (Listed o) c = omega arith
one-each Struct c = omega arith

pub own-long : (l : Layout) (cs : List Datum) → length cs ≤ own_weights l cs
own-long l [] = omega arith
own-long l (c ∷ cs) = let here = one-each l c in let there = own-long l cs in omega (arith, here, there)

pub text-long : (o : OffsetWidth) (cs : List Datum) → 5 * length cs + length (joined cs) ≤ own_weights (Utf8 o) cs
unfolding joined
text-long o [] = omega arith
text-long o (c ∷ cs) = let there = text-long o cs in
    omega (arith, there, length-append (bytes_in c) (flat_map bytes_in cs))

pub bytes-long : (o : OffsetWidth) (cs : List Datum) → 5 * length cs + length (joined cs) ≤ own_weights (Binary o) cs
unfolding joined
bytes-long o [] = omega arith
bytes-long o (c ∷ cs) = let there = bytes-long o cs in
    omega (arith, there, length-append (bytes_in c) (flat_map bytes_in cs))

null_weight-long : (t : Rose Layout) → 1 ≤ null_weight t
null_weight-long (node Booleans kids) = omega arith
null_weight-long (node (Int w s) kids) = omega arith
null_weight-long (node (Decimal p) kids) = omega arith
null_weight-long (node (FixedSizeBinary w) kids) = omega arith
null_weight-long (node (Utf8 o) kids) = omega arith
null_weight-long (node (Binary o) kids) = omega arith
null_weight-long (node (Listed o) kids) = omega arith
null_weight-long (node Struct kids) = omega arith

weight-long : (t : Rose Layout) (c : Datum) → 1 ≤ weight t c
weight-long (node (Utf8 o) kids) (text b) = omega arith
weight-long (node (Binary o) kids) (bytes b) = omega arith
weight-long (node (Listed o) kids) (list es) = omega arith
weight-long (node Struct kids) (structure es) = omega arith
weight-long t c = null_weight-long t

pub weights-long : (t : Rose Layout) (cs : List Datum) → length cs ≤ weights t cs
weights-long t [] = omega arith
weights-long t (c ∷ cs) = let here = weight-long t c in let there = weights-long t cs in omega (arith, here, there)

-- bytes and items weigh one each at least

length-light : (l : Layout) (kids : Roses Layout) (c : Datum) → IsNode l kids → Holds (node l kids) c
    → length_in c ≤ weight (node l kids) c
length-light Booleans kids null is h = omega arith
length-light Booleans kids (truth b) is h = omega arith
length-light Booleans kids c is h = absurd h
length-light (Int w s) kids null is h = omega arith
length-light (Int w s) kids (whole z) is h = omega arith
length-light (Int w s) kids c is h = absurd h
length-light (Decimal p) kids null is h = omega arith
length-light (Decimal p) kids (whole z) is h = omega arith
length-light (Decimal p) kids c is h = absurd h
length-light (FixedSizeBinary w) kids null is h = omega arith
length-light (FixedSizeBinary w) kids (bytes b) is h = omega (arith, h)
length-light (FixedSizeBinary w) kids c is h = absurd h
length-light (Utf8 o) kids null is h = omega arith
length-light (Utf8 o) kids (text b) is h = omega arith
length-light (Utf8 o) kids c is h = absurd h
length-light (Binary o) kids null is h = omega arith
length-light (Binary o) kids (bytes b) is h = omega arith
length-light (Binary o) kids c is h = absurd h
length-light (Listed o) kids null is h = omega arith
length-light (Listed o) (more t none) (list es) is h =
    let all = items-weight t es in
    let long = weights-long t (listed es) in
    omega (arith, all, long)
length-light (Listed o) none (list es) is h = absurd is
length-light (Listed o) (more t (more u ts)) (list es) is h = absurd is
length-light (Listed o) kids c is h = absurd h
length-light Struct kids null is h = omega arith
length-light Struct kids (structure es) is h = omega arith
length-light Struct kids c is h = absurd h

total-light : (l : Layout) (kids : Roses Layout) (cs : List Datum) → IsNode l kids → All (Holds (node l kids)) cs
    → total_length cs ≤ weights (node l kids) cs
total-light l kids [] is h = omega arith
total-light l kids (c ∷ cs) is h =
    let P : Datum → Type 0 = Holds (node l kids) in
    let here = length-light l kids c is (All-head P c cs h) in
    let there = total-light l kids cs is (All-tail P c cs h) in
    omega (arith, here, there)

pub total-short : (t : Rose Layout) (cs : List Datum) → IsLayout t → All (Holds t) cs → weights t cs < 2 ^ 31
    → total_length cs < 2 ^ 31
total-short (node l kids) cs is h light = let all = total-light l kids cs is.0 h in omega (arith, all, light)
