-- The nodes of a body as they are checked: lengths and null counts are small, and each array is as long as a struct
-- above it requires.
use Rattle.std.proofs.Common.{
  ◌≡◌,
  ℕ,
  suc,
  ◌+◌,
  ◌^◌,
  ◌<◌,
  ◌≤◌,
  Bool,
  true,
  false,
  List,
  [],
  ◌∷◌,
  ◌++◌,
  length,
  All,
  refl,
  ap,
  subst,
  ◌∙◌,
  arith,
}
use Rattle.std.specs.Prelude.{pos, if◌then◌else◌}
use Rattle.std.proofs.lemmas.Bool.{eq-eqb, le-leb}
use Rattle.std.proofs.lemmas.List.{length-map}
use Rattle.values.specs.Limits.{max_node_length}
use Rattle.values.specs.Rose.{Rose, node, Roses, none, more, rose_size}
use Rattle.values.specs.Datum.{Datum}
use Rattle.values.specs.declared.layout.Layout.{Layout}
use Rattle.values.specs.declared.layout.Layout.TheVariants.{
  Binary,
  Bool as Booleans,
  Decimal,
  FixedSizeBinary,
  Int,
  List as Listed,
  Struct,
  Utf8,
}
use Rattle.values.specs.Layouts.{AreLayouts, Holds, IsLayout}
use Rattle.array_layout.specs.declared.array.FieldNode.{FieldNode}
use Rattle.array_layout.specs.Placing.{node_at}
use Rattle.schema_meta.specs.Batch.{least, is_long, are_long, columns_fit, lengths_fit}
use Rattle.body_writer.specs.Slots.{is_valid, null_count, part}
use Rattle.body_writer.specs.Columns.{child_cells, nodes, nodes_below, own_node}
use Rattle.body_writer.specs.Law.{AreNodes}
use Rattle.values.specs.Weights.{weights}
use Rattle.body_writer.specs.Batch.{row_cell, row_cells, body_nodes, IsBatch}
use Rattle.body_writer.proofs.ColumnRead.{nodes-count, AreNodes-front, AreNodes-back, struct-node}
use Rattle.body_writer.proofs.Held.{HeldEach, kids-held}
use Rattle.body_writer.proofs.Rows.{rows-held, rows-light}
use Rattle.body_writer.proofs.RowsReadBack.{body-nodes-stand}
use Rattle.body_writer.proofs.WeightLemmas.{weights_each, weights-split, own-long}

-- a length below 2^31, and no more nulls than slots
abbrev pub IsSmall : FieldNode → Type 0
IsSmall x = (x.length ≤ max_node_length) × ((k : ℕ) × (x.nulls ≡ pos k) × (k < 2 ^ 31))

abbrev pub AreSmall : List FieldNode → Type 0
AreSmall [] = Unit {0}
AreSmall (x ∷ xs) = IsSmall x × AreSmall xs

AreSmall-append : (xs ys : List FieldNode) → AreSmall xs → AreSmall ys → AreSmall (xs ++ ys)
AreSmall-append [] ys a b = b
AreSmall-append (x ∷ xs) ys a b = (a.0, AreSmall-append xs ys a.1 b)

one-at-most : (b : Bool) → (if b then 0 else 1) ≤ 1
one-at-most true = omega arith
one-at-most false = omega arith

null_count-le : (cs : List Datum) → null_count cs ≤ length cs
null_count-le [] = omega arith
null_count-le (c ∷ cs) = let here = one-at-most (is_valid c) in let rest = null_count-le cs in omega (arith, here, rest)

own-small : (cs : List Datum) → length cs < 2 ^ 31 → IsSmall (own_node cs)
own-small cs h = let few = null_count-le cs in (omega (arith, h), (null_count cs, refl, omega (arith, h, few)))

mutual
  nodes-small : (t : Rose Layout) (cs : List Datum) → IsLayout t → All (Holds t) cs → weights t cs < 2 ^ 31
      → AreSmall (nodes t cs)
  nodes-small (node l kids) cs is held light =
      let split = weights-split l kids cs is.0 held in
      let long = own-long l cs in (
        own-small cs (omega (arith, split, long, light)),
        below-small l 0 kids cs is.1 (kids-held l kids cs is.0 held) (omega (arith, light, split)),
      )

  below-small :
      (l : Layout) (j : ℕ) (ts : Roses Layout) (cs : List Datum) → AreLayouts ts → HeldEach l j ts cs
      → weights_each l j ts cs < 2 ^ 31
      → AreSmall (nodes_below l j ts cs)
  below-small l j none cs is held light = tt
  below-small l j (more t ts) cs is held light =
      AreSmall-append (nodes t (child_cells l j cs)) (nodes_below l (suc j) ts cs)
      (nodes-small t (child_cells l j cs) is.0 held.0 (omega (arith, light)))
      (below-small l (suc j) ts cs is.1 held.1 (omega (arith, light)))

pub body-small : (ls : Roses Layout) (rows : List (List Datum)) → IsBatch ls rows → AreSmall (body_nodes ls rows)
unfolding body_nodes
body-small ls rows batch =
    let held = rows-held ls rows batch.held in
    let split = weights-split Struct ls (row_cells rows) (struct-node ls) held in
    let light = rows-light ls rows batch in
    below-small Struct 0 ls (row_cells rows) batch.layouts (kids-held Struct ls (row_cells rows) (struct-node ls) held)
    (omega (arith, split, light))

-- the children of a struct are as long as it is

child-long : (l : Layout) (j : ℕ) (cs : List Datum) → least l (length cs) ≤ length (child_cells l j cs)
child-long Booleans j cs = omega arith
child-long (Int w s) j cs = omega arith
child-long (Decimal p) j cs = omega arith
child-long (FixedSizeBinary w) j cs = omega arith
child-long (Utf8 o) j cs = omega arith
child-long (Binary o) j cs = omega arith
child-long (Listed o) j cs = omega arith
child-long Struct j cs = let same = length-map cs (part j) in omega (arith, same)

mutual
  long-here : (t : Rose Layout) (cs : List Datum) (all : List FieldNode) (n floor : ℕ) → AreNodes all n (nodes t cs)
      → floor ≤ length cs → is_long all n floor t ≡ true
  long-here (node l kids) cs all n floor an h =
      let len : (node_at all n).length ≡ length cs = ap (λ (x : FieldNode). x.length) an.0 in
      let next : suc n ≡ n + 1 = omega arith in
      let rest =
      long-below l 0 kids cs all (n + 1) (subst (λ (m : ℕ). AreNodes all m (nodes_below l 0 kids cs)) next an.1) in
      rw (len, le-leb floor (length cs) h, rest) refl

  long-below :
      (l : Layout) (j : ℕ) (ts : Roses Layout) (cs : List Datum) (all : List FieldNode) (n : ℕ)
      → AreNodes all n (nodes_below l j ts cs)
      → are_long all n (least l (length cs)) ts ≡ true
  long-below l j none cs all n an = refl
  long-below l j (more t ts) cs all n an =
      let mine = child_cells l j cs in
      let later = nodes_below l (suc j) ts cs in
      let here =
      long-here t mine all n (least l (length cs)) (AreNodes-front all n (nodes t mine) later an)
      (child-long l j cs) in
      let rest =
      long-below l (suc j) ts cs all (n + rose_size t)
      (AreNodes-back all n (rose_size t) (nodes t mine) later (nodes-count t mine) an) in
      rw (here, rest) refl

first-length : (t : Rose Layout) (cs : List Datum) (all : List FieldNode) (n : ℕ) → AreNodes all n (nodes t cs)
    → (node_at all n).length ≡ length cs
first-length (node l kids) cs all n an = ap (λ (x : FieldNode). x.length) an.0

columns-fit :
    (j : ℕ) (ts : Roses Layout) (cs : List Datum) (all : List FieldNode) (n : ℕ)
    → AreNodes all n (nodes_below Struct j ts cs)
    → columns_fit all n (length cs) ts ≡ true
columns-fit j none cs all n an = refl
columns-fit j (more t ts) cs all n an =
    let mine = child_cells Struct j cs in
    let later = nodes_below Struct (suc j) ts cs in
    let same = length-map cs (part j) in
    let front = AreNodes-front all n (nodes t mine) later an in
    let len : (node_at all n).length ≡ length cs = first-length t mine all n front ∙ same in
    let here = long-here t mine all n (length cs) front (omega (arith, same)) in
    let rest =
    columns-fit (suc j) ts cs all (n + rose_size t)
    (AreNodes-back all n (rose_size t) (nodes t mine) later (nodes-count t mine) an) in
    rw (len, eq-eqb (length cs) (length cs) refl, here, rest) refl

pub lengths-fit : (ls : Roses Layout) (rows : List (List Datum))
    → lengths_fit (length rows) ls (body_nodes ls rows) ≡ true
unfolding lengths_fit body_nodes
lengths-fit ls rows =
    let ns = nodes_below Struct 0 ls (row_cells rows) in
    let same : length (row_cells rows) ≡ length rows = length-map rows row_cell in
    let P : ℕ → Type 0 = λ k. columns_fit ns 0 k ls ≡ true in
    subst P same (columns-fit 0 ls (row_cells rows) ns 0 (body-nodes-stand ls rows))
