-- Whatever comes before and after its nodes and buffers, a column's cells are read back, without a fault.
use Rattle.std.proofs.Common.{
  ◌≡◌,
  ℕ,
  suc,
  ◌+◌,
  ◌^◌,
  ◌<◌,
  ◌≤◌,
  List,
  [],
  ◌∷◌,
  ◌++◌,
  length,
  get_or,
  Ok,
  All,
  refl,
  ap,
  sym,
  subst,
  ◌∙◌,
  arith,
  length-append,
  append-nil,
}
use Rattle.std.specs.Prelude.{map}
use Rattle.std.proofs.lemmas.List.{length-map, get_or-map}
use Rattle.values.specs.Reading.{each}
use Rattle.values.specs.Rose.{Rose, node, Roses, none, more, rose_size, roses_size}
use Rattle.values.specs.Datum.{Datum, null, structure, Items, no_items, item}
use Rattle.values.specs.declared.layout.Layout.{Layout}
use Rattle.values.specs.declared.layout.Layout.TheVariants.{
  Bool as Booleans,
  Int,
  Decimal,
  FixedSizeBinary,
  Utf8,
  Binary,
  List as Listed,
  Struct,
}
use Rattle.values.specs.Layouts.{IsNode, IsLayout, AreLayouts, Holds, HoldsEach}
use Rattle.array_layout.specs.declared.array.FieldNode.{FieldNode}
use Rattle.array_layout.specs.declared.array.BufferRange.{BufferRange}
use Rattle.array_layout.specs.declared.array.ArrayData.{ArrayData}
use Rattle.array_layout.specs.Placing.{
  node_at,
  own_ranges,
  ranges_in,
  ranges_below,
  offsets_at,
  values_at,
  placed,
  placed_all,
  layout_of,
  layouts_of,
}
use Rattle.array_layout.specs.Sound.{LiesIn, first_len, faults_in, faults_below, AreLong, IsPlaced, ArePlaced}
use Rattle.array_layout.specs.Cells.{cell, first_cell, row, len_of, cells, column_of}
use Rattle.body_writer.specs.Slots.{listed, part}
use Rattle.body_writer.specs.Columns.{
  validity,
  truths,
  numbers,
  fixed,
  offsets,
  joined,
  items,
  own_buffers,
  child_cells,
  buffers,
  buffers_below,
  own_node,
  nodes,
  nodes_below,
}
use Rattle.values.specs.Weights.{weights}
use Rattle.body_writer.specs.Law.{AreRead, BatchLaw, AreNodes, HoldBuffers, ColumnLaw, PlacedLaw, NodesLaw, BuffersLaw}
use Rattle.body_writer.proofs.CellBytes.{each-run}
use Rattle.body_writer.proofs.Held.{from_item, item-at, items-after, HeldEach, kids-held}
use Rattle.body_writer.proofs.WeightLemmas.{
  own_weights,
  weights_each,
  weights-split,
  own-long,
  weights-long,
  text-long,
  bytes-long,
}
use Rattle.body_writer.proofs.OwnRead.{
  second-here,
  third-here,
  validity-here,
  run_length,
  KidsRead,
  HasSlots,
  own-cell,
  own-sound,
}

-- how many nodes and buffers

own-count : (l : Layout) (cs : List Datum) → length (own_buffers l cs) ≡ own_ranges l
own-count Booleans cs = refl
own-count (Int w s) cs = refl
own-count (Decimal p) cs = refl
own-count (FixedSizeBinary w) cs = refl
own-count (Utf8 o) cs = refl
own-count (Binary o) cs = refl
own-count (Listed o) cs = refl
own-count Struct cs = refl

mutual
  pub buffers-count : (t : Rose Layout) (cs : List Datum) → length (buffers t cs) ≡ ranges_in t
  buffers-count (node l kids) cs =
      let own = own-count l cs in
      let others = below-count l 0 kids cs in
      omega (arith, own, others, length-append (own_buffers l cs) (buffers_below l 0 kids cs))

  pub below-count : (l : Layout) (j : ℕ) (ts : Roses Layout) (cs : List Datum)
      → length (buffers_below l j ts cs) ≡ ranges_below ts
  below-count l j none cs = refl
  below-count l j (more t ts) cs =
      let here = buffers-count t (child_cells l j cs) in
      let others = below-count l (suc j) ts cs in
      omega (arith, here, others, length-append (buffers t (child_cells l j cs)) (buffers_below l (suc j) ts cs))

mutual
  pub nodes-count : (t : Rose Layout) (cs : List Datum) → length (nodes t cs) ≡ rose_size t
  nodes-count (node l kids) cs = ap suc (nodes_below-count l 0 kids cs)

  pub nodes_below-count : (l : Layout) (j : ℕ) (ts : Roses Layout) (cs : List Datum)
      → length (nodes_below l j ts cs) ≡ roses_size ts
  nodes_below-count l j none cs = refl
  nodes_below-count l j (more t ts) cs =
      let here = nodes-count t (child_cells l j cs) in
      let others = nodes_below-count l (suc j) ts cs in
      omega (arith, here, others, length-append (nodes t (child_cells l j cs)) (nodes_below l (suc j) ts cs))

-- some of the nodes and buffers there

pub HoldBuffers-front : (body : List ℕ) (ranges : List BufferRange) (b : ℕ) (xs ys : List (List ℕ))
    → HoldBuffers body ranges b (xs ++ ys) → HoldBuffers body ranges b xs
HoldBuffers-front body ranges b [] ys st = tt
HoldBuffers-front body ranges b (x ∷ xs) ys st = (st.0, st.1, HoldBuffers-front body ranges (suc b) xs ys st.2)

pub HoldBuffers-back : (body : List ℕ) (ranges : List BufferRange) (b k : ℕ) (xs ys : List (List ℕ)) → length xs ≡ k
    → HoldBuffers body ranges b (xs ++ ys) → HoldBuffers body ranges (b + k) ys
HoldBuffers-back body ranges b k [] ys e st =
    let same : b ≡ b + k = omega (arith, e) in
    subst (λ (m : ℕ). HoldBuffers body ranges m ys) same st
HoldBuffers-back body ranges b k (x ∷ xs) ys e st =
    let rest = HoldBuffers-back body ranges (suc b) (length xs) xs ys refl st.2 in
    let same : suc b + length xs ≡ b + k = omega (arith, e) in
    subst (λ (m : ℕ). HoldBuffers body ranges m ys) same rest

pub AreNodes-front : (all : List FieldNode) (n : ℕ) (xs ys : List FieldNode) → AreNodes all n (xs ++ ys)
    → AreNodes all n xs
AreNodes-front all n [] ys st = tt
AreNodes-front all n (x ∷ xs) ys st = (st.0, AreNodes-front all (suc n) xs ys st.1)

pub AreNodes-back : (all : List FieldNode) (n k : ℕ) (xs ys : List FieldNode) → length xs ≡ k
    → AreNodes all n (xs ++ ys) → AreNodes all (n + k) ys
AreNodes-back all n k [] ys e st =
    let same : n ≡ n + k = omega (arith, e) in
    subst (λ (m : ℕ). AreNodes all m ys) same st
AreNodes-back all n k (x ∷ xs) ys e st =
    let rest = AreNodes-back all (suc n) (length xs) xs ys refl st.1 in
    let same : suc n + length xs ≡ n + k = omega (arith, e) in
    subst (λ (m : ℕ). AreNodes all m ys) same rest

-- what is known of a column that was read

record IsRead (body : List ℕ) (all : List FieldNode) (ranges : List BufferRange) (n b : ℕ) (t : Rose Layout)
    (cs : List Datum) : Type 0 where
  read : (i : ℕ) → i < length cs → cell body (placed all ranges n b t) i ≡ Ok (get_or cs i null)
  sound : faults_in body (placed all ranges n b t) ≡ Ok tt
  lies : IsPlaced body (placed all ranges n b t)
  len : len_of (placed all ranges n b t) ≡ length cs

abbrev EachRead : List ℕ → List FieldNode → List BufferRange → ℕ → ℕ → Layout → ℕ → Roses Layout → List Datum → Type 0
EachRead body all ranges n b l j none cs = Unit {0}
EachRead body all ranges n b l j (more t ts) cs =
    IsRead body all ranges n b t (child_cells l j cs)
    × EachRead body all ranges (n + rose_size t) (b + ranges_in t) l (suc j) ts cs

below-sound :
    (body : List ℕ) (all : List FieldNode) (ranges : List BufferRange) (n b : ℕ) (l : Layout) (j : ℕ)
    (ts : Roses Layout) (cs : List Datum)
    → EachRead body all ranges n b l j ts cs → faults_below body (placed_all all ranges n b ts) ≡ Ok tt
below-sound body all ranges n b l j none cs r = refl
below-sound body all ranges n b l j (more t ts) cs r =
    rw (r.0.sound, below-sound body all ranges (n + rose_size t) (b + ranges_in t) l (suc j) ts cs r.1) refl

below-lies :
    (body : List ℕ) (all : List FieldNode) (ranges : List BufferRange) (n b : ℕ) (l : Layout) (j : ℕ)
    (ts : Roses Layout) (cs : List Datum)
    → EachRead body all ranges n b l j ts cs → ArePlaced body (placed_all all ranges n b ts)
below-lies body all ranges n b l j none cs r = tt
below-lies body all ranges n b l j (more t ts) cs r =
    (r.0.lies, below-lies body all ranges (n + rose_size t) (b + ranges_in t) l (suc j) ts cs r.1)

-- the children are long enough

long-step : (x : Rose ArrayData) (n : ℕ) (xs : Roses ArrayData) → n ≤ len_of x → AreLong Struct n xs
    → AreLong Struct n (more x xs)
long-step (node p kids) n xs h rest = (h, rest)

struct-long :
    (body : List ℕ) (all : List FieldNode) (ranges : List BufferRange) (n b j : ℕ) (ts : Roses Layout) (cs : List Datum)
    → EachRead body all ranges n b Struct j ts cs → AreLong Struct (length cs) (placed_all all ranges n b ts)
struct-long body all ranges n b j none cs r = tt
struct-long body all ranges n b j (more t ts) cs r =
    let len = r.0.len in
    let same = length-map cs (part j) in
    long-step (placed all ranges n b t) (length cs) (placed_all all ranges (n + rose_size t) (b + ranges_in t) ts)
    (omega (arith, len, same))
    (struct-long body all ranges (n + rose_size t) (b + ranges_in t) (suc j) ts cs r.1)

kids-long :
    (body : List ℕ) (all : List FieldNode) (ranges : List BufferRange) (n b : ℕ) (l : Layout) (ts : Roses Layout)
    (cs : List Datum)
    → EachRead body all ranges n b l 0 ts cs → AreLong l (length cs) (placed_all all ranges n b ts)
kids-long body all ranges n b Struct ts cs r = struct-long body all ranges n b 0 ts cs r
kids-long body all ranges n b l none cs r = tt
kids-long body all ranges n b l (more t ts) cs r = tt

first-len : (x : Rose ArrayData) (xs : Roses ArrayData) → first_len (more x xs) ≡ len_of x
first-len (node p kids) xs = refl

kids-slots :
    (body : List ℕ) (all : List FieldNode) (ranges : List BufferRange) (n b : ℕ) (l : Layout) (ts : Roses Layout)
    (cs : List Datum) → IsNode l ts
    → EachRead body all ranges n b l 0 ts cs → HasSlots l cs (first_len (placed_all all ranges n b ts))
kids-slots body all ranges n b (Listed o) (more t ts) cs is r =
    first-len (placed all ranges n b t) (placed_all all ranges (n + rose_size t) (b + ranges_in t) ts) ∙ r.0.len
kids-slots body all ranges n b (Listed o) none cs is r = absurd is
kids-slots body all ranges n b l ts cs is r = tt

-- the values as which the children are read

row-read :
    (body : List ℕ) (all : List FieldNode) (ranges : List BufferRange) (n b j : ℕ) (ts : Roses Layout) (cs : List Datum)
    (i : ℕ) (es xs : Items)
    → EachRead body all ranges n b Struct j ts cs → i < length cs → get_or cs i null ≡ structure es
    → from_item j es ≡ xs → HoldsEach ts xs
    → row body (placed_all all ranges n b ts) i ≡ Ok (listed xs)
row-read body all ranges n b j none cs i es no_items r h c e held = refl
row-read body all ranges n b j none cs i es (item d rest) r h c e held = absurd held
row-read body all ranges n b j (more t ts) cs i es no_items r h c e held = absurd held
row-read body all ranges n b j (more t ts) cs i es (item d rest) r h c e held =
    let same = length-map cs (part j) in
    let is : get_or (map (part j) cs) i null ≡ d =
    get_or-map (part j) cs i null null h ∙ ap (part j) c ∙ item-at j es d rest e in
    let here = r.0.read i (omega (arith, h, same)) ∙ ap (λ x. Ok x) is in
    let others =
    row-read body all ranges (n + rose_size t) (b + ranges_in t) (suc j) ts cs i es rest r.1 h c
    (items-after j es d rest e) held.1 in
    rw (here, others) refl

struct-at : (kids : Roses Layout) (c : Datum) (es : Items) → c ≡ structure es → Holds (node Struct kids) c
    → HoldsEach kids es
struct-at kids c es e h = subst (Holds (node Struct kids)) e h

kids-read :
    (body : List ℕ) (all : List FieldNode) (ranges : List BufferRange) (n b : ℕ) (l : Layout) (ts : Roses Layout)
    (cs : List Datum) → IsNode l ts
    → All (Holds (node l ts)) cs → EachRead body all ranges n b l 0 ts cs
    → KidsRead l cs (λ j. first_cell body (placed_all all ranges n b ts) j)
    (λ j. row body (placed_all all ranges n b ts) j)
kids-read body all ranges n b (Listed o) (more t ts) cs is held r = λ j h. r.0.read j h
kids-read body all ranges n b (Listed o) none cs is held r = absurd is
kids-read body all ranges n b Struct ts cs is held r =
    λ i es h c. row-read body all ranges n b 0 ts cs i es es r h c refl
    (struct-at ts (get_or cs i null) es c (held i null h))
kids-read body all ranges n b l ts cs is held r = tt

-- the layouts of the arrays that were found

mutual
  layout-placed : (all : List FieldNode) (ranges : List BufferRange) (n b : ℕ) (t : Rose Layout)
      → layout_of (placed all ranges n b t) ≡ t
  layout-placed all ranges n b (node l kids) = ap (node l) (layouts-placed all ranges (n + 1) (b + own_ranges l) kids)

  layouts-placed : (all : List FieldNode) (ranges : List BufferRange) (n b : ℕ) (ts : Roses Layout)
      → layouts_of (placed_all all ranges n b ts) ≡ ts
  layouts-placed all ranges n b none = refl
  layouts-placed all ranges n b (more t ts) =
      rw (layout-placed all ranges n b t, layouts-placed all ranges (n + rose_size t) (b + ranges_in t) ts) refl

-- where its own buffers lie

nowhere-lies : (body : List ℕ) → 0 + 0 ≤ length body
nowhere-lies body = omega arith

offsets-lie : (l : Layout) (cs : List Datum) (body : List ℕ) (ranges : List BufferRange) (b : ℕ)
    → HoldBuffers body ranges b (own_buffers l cs) → LiesIn body (offsets_at l ranges b)
offsets-lie (Utf8 o) cs body ranges b st =
    (second-here body ranges b (validity cs) (offsets o cs) (joined cs ∷ []) st).0
offsets-lie (Binary o) cs body ranges b st =
    (second-here body ranges b (validity cs) (offsets o cs) (joined cs ∷ []) st).0
offsets-lie (Listed o) cs body ranges b st = (second-here body ranges b (validity cs) (offsets o cs) [] st).0
offsets-lie l cs body ranges b st = nowhere-lies body

values-lie : (l : Layout) (cs : List Datum) (body : List ℕ) (ranges : List BufferRange) (b : ℕ)
    → HoldBuffers body ranges b (own_buffers l cs) → LiesIn body (values_at l ranges b)
values-lie Booleans cs body ranges b st = (second-here body ranges b (validity cs) (truths cs) [] st).0
values-lie (Int w s) cs body ranges b st = (second-here body ranges b (validity cs) (numbers _ cs) [] st).0
values-lie (Decimal p) cs body ranges b st = (second-here body ranges b (validity cs) (numbers 16 cs) [] st).0
values-lie (FixedSizeBinary w) cs body ranges b st = (second-here body ranges b (validity cs) (fixed w cs) [] st).0
values-lie (Utf8 o) cs body ranges b st = (third-here body ranges b (validity cs) (offsets o cs) (joined cs) [] st).0
values-lie (Binary o) cs body ranges b st = (third-here body ranges b (validity cs) (offsets o cs) (joined cs) [] st).0
values-lie (Listed o) cs body ranges b st = nowhere-lies body
values-lie Struct cs body ranges b st = nowhere-lies body

-- what the weight bounds

run-light : (l : Layout) (kids : Roses Layout) (cs : List Datum) → IsNode l kids
    → own_weights l cs + weights_each l 0 kids cs < 2 ^ 31 → run_length l cs < 2 ^ 31
run-light (Utf8 o) kids cs is light = let own = text-long o cs in omega (arith, own, light)
run-light (Binary o) kids cs is light = let own = bytes-long o cs in omega (arith, own, light)
run-light (Listed o) (more t ts) cs is light = let there = weights-long t (items cs) in omega (arith, there, light)
run-light (Listed o) none cs is light = absurd is
run-light l kids cs is light = omega arith

-- one array, when its children were read

own-read :
    (body : List ℕ) (all : List FieldNode) (ranges : List BufferRange) (n b : ℕ) (l : Layout) (kids : Roses Layout)
    (cs : List Datum) → IsNode l kids
    → All (Holds (node l kids)) cs → own_weights l cs + weights_each l 0 kids cs < 2 ^ 31 → node_at all n ≡ own_node cs
    → HoldBuffers body ranges b (own_buffers l cs) → EachRead body all ranges (n + 1) (b + own_ranges l) l 0 kids cs
    → IsRead body all ranges n b (node l kids) cs
own-read body all ranges n b l kids cs is held light saturated st r =
    let parts = placed_all all ranges (n + 1) (b + own_ranges l) kids in
    let short = run-light l kids cs is light in
    let known = kids-read body all ranges (n + 1) (b + own_ranges l) l kids cs is held r in
    let own =
    own-sound l kids cs body all ranges n b (first_len parts) held short st saturated
    (kids-slots body all ranges (n + 1) (b + own_ranges l) l kids cs is r) in
    let below = below-sound body all ranges (n + 1) (b + own_ranges l) l 0 kids cs r in
    let same : layouts_of parts ≡ kids = layouts-placed all ranges (n + 1) (b + own_ranges l) kids in
    let count : (node_at all n).length ≡ length cs = ap (λ (x : FieldNode). x.length) saturated in
    let few = own-long l cs in
    let long : AreLong l (node_at all n).length parts =
    subst (λ (m : ℕ). AreLong l m parts) (sym count)
    (kids-long body all ranges (n + 1) (b + own_ranges l) l kids cs r) in
    record {
      read = λ i h. own-cell l kids cs body all ranges n b (λ j. first_cell body parts j) (λ j. row body parts j) i is
          held short st known h;
      sound = rw (own, below) refl;
      lies = (
        record {
          validity = (validity-here l cs body ranges b st).0;
          offsets = offsets-lie l cs body ranges b st;
          values = values-lie l cs body ranges b st;
          small = omega (arith, count, few, light);
          kids_fit = subst (λ (ts : Roses Layout). IsNode l ts) (sym same) is;
        },
        long,
        below-lies body all ranges (n + 1) (b + own_ranges l) l 0 kids cs r,
      );
      len = count;
    }

mutual
  column-read :
      (t : Rose Layout) (cs : List Datum) (body : List ℕ) (all : List FieldNode) (ranges : List BufferRange) (n b : ℕ)
      → IsLayout t → All (Holds t) cs
      → weights t cs < 2 ^ 31 → AreNodes all n (nodes t cs) → HoldBuffers body ranges b (buffers t cs)
      → IsRead body all ranges n b t cs
  column-read (node l kids) cs body all ranges n b is held light an st =
      let split = weights-split l kids cs is.0 held in
      let next : suc n ≡ n + 1 = omega arith in
      own-read body all ranges n b l kids cs is.0 held (omega (arith, light, split)) an.0
      (HoldBuffers-front body ranges b (own_buffers l cs) (buffers_below l 0 kids cs) st)
      (each-read l 0 kids cs body all ranges (n + 1) (b + own_ranges l) is.1 (kids-held l kids cs is.0 held)
      (omega (arith, light, split))
      (subst (λ (m : ℕ). AreNodes all m (nodes_below l 0 kids cs)) next an.1)
      (HoldBuffers-back body ranges b (own_ranges l) (own_buffers l cs) (buffers_below l 0 kids cs) (own-count l cs) st))

  each-read :
      (l : Layout) (j : ℕ) (ts : Roses Layout) (cs : List Datum) (body : List ℕ) (all : List FieldNode)
      (ranges : List BufferRange) (n b : ℕ)
      → AreLayouts ts → HeldEach l j ts cs → weights_each l j ts cs < 2 ^ 31 → AreNodes all n (nodes_below l j ts cs)
      → HoldBuffers body ranges b (buffers_below l j ts cs) → EachRead body all ranges n b l j ts cs
  each-read l j none cs body all ranges n b is held light an st = tt
  each-read l j (more t ts) cs body all ranges n b is held light an st =
      let mine = child_cells l j cs in (
        column-read t mine body all ranges n b is.0 held.0 (omega (arith, light))
            (AreNodes-front all n (nodes t mine) (nodes_below l (suc j) ts cs) an)
            (HoldBuffers-front body ranges b (buffers t mine) (buffers_below l (suc j) ts cs) st),
        each-read l (suc j) ts cs body all ranges (n + rose_size t) (b + ranges_in t) is.1 held.1 (omega (arith, light))
            (AreNodes-back all n (rose_size t) (nodes t mine) (nodes_below l (suc j) ts cs) (nodes-count t mine) an)
            (HoldBuffers-back body ranges b (ranges_in t) (buffers t mine) (buffers_below l (suc j) ts cs)
            (buffers-count t mine) st),
      )

-- the laws

cells-read : (body : List ℕ) (x : Rose ArrayData) (cs : List Datum) → len_of x ≡ length cs
    → ((i : ℕ) → i < length cs → cell body x i ≡ Ok (get_or cs i null)) → cells body x ≡ Ok cs
unfolding cells
cells-read body x cs len read =
    ap (λ k. each (λ i. cell body x i) 0 k) len
    ∙ each-run (λ i. cell body x i) null cs cs [] 0 (sym (append-nil cs)) read

pub column-law : ColumnLaw
unfolding column_of
column-law t cs body all ranges n b is held light an st =
    let r = column-read t cs body all ranges n b is held light an st in
    rw r.sound (cells-read body (placed all ranges n b t) cs r.len r.read)

pub placed-law : PlacedLaw
placed-law t cs body all ranges n b is held light an st =
    (column-read t cs body all ranges n b is held light an st).lies

are-read :
    (body : List ℕ) (all : List FieldNode) (ranges : List BufferRange) (n b j : ℕ) (ts : Roses Layout)
    (rows : List Datum)
    → EachRead body all ranges n b Struct j ts rows → AreRead body (placed_all all ranges n b ts) j rows
unfolding column_of
are-read body all ranges n b j none rows r = tt
are-read body all ranges n b j (more t ts) rows r =
    let x = placed all ranges n b t in
    let mine : column_of body x ≡ Ok (map (part j) rows) =
    rw r.0.sound (cells-read body x (map (part j) rows) r.0.len r.0.read) in
    (mine, are-read body all ranges (n + rose_size t) (b + ranges_in t) (suc j) ts rows r.1)

pub struct-node : (ts : Roses Layout) → IsNode Struct ts
struct-node none = tt
struct-node (more t ts) = tt

pub batch-law : BatchLaw
batch-law ts rows body all ranges n b is held light an st =
    let split = weights-split Struct ts rows (struct-node ts) held in
    let r = each-read Struct 0 ts rows body all ranges n b is (kids-held Struct ts rows (struct-node ts) held)
    (omega (arith, light, split)) an st in
    (are-read body all ranges n b 0 ts rows r, below-lies body all ranges n b Struct 0 ts rows r)

pub nodes-law : NodesLaw
nodes-law t cs = nodes-count t cs

pub buffers-law : BuffersLaw
buffers-law t cs = buffers-count t cs

pub ruleset column_laws = (column-law, placed-law, batch-law, nodes-law, buffers-law)
