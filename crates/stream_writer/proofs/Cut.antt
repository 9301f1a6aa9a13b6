-- Rows cut into batches.
use Rattle.std.proofs.Common.{
  ◌≡◌,
  ℕ,
  zero,
  suc,
  ◌+◌,
  ◌-◌,
  ◌<◌,
  ◌≤◌,
  List,
  [],
  ◌∷◌,
  ◌++◌,
  length,
  get_or,
  take,
  drop,
  refl,
  ap,
  sym,
  ◌∙◌,
  arith,
  append_assoc,
  length-drop,
  subst,
  inl,
  inr,
}
use Rattle.std.specs.Prelude.{All, Vec, nat_le, if◌then◌else◌}
use Rattle.std.specs.List.{drop-map, take-map}
use Rattle.std.specs.declared.alloc.Global.{Global}
use Rattle.std.proofs.lemmas.Bool.{cases_lt}
use Rattle.std.proofs.lemmas.Bool.Decides.{nat_tests}
use Rattle.std.proofs.lemmas.List.{drop_all, drop_more, get_or-map, length-map, length-take, take_all}
use Rattle.std.proofs.lemmas.List.Elements.{All-drop, All-head, All-take, All-weaker}
use Rattle.values.specs.Limits.{max_batch_rows, max_batch_weight, max_row_weight}
use Rattle.values.specs.Datum.{Datum, items_of}
use Rattle.values.specs.Layouts.{AreLayouts, HoldsEach}
use Rattle.values.specs.Rose.{Rose, node, Roses, none, more, kids_of, rose_size, roses_size}
use Rattle.values.specs.declared.layout.Layout.{Layout}
use Rattle.values.specs.Logical.{NamedType, tree_of, trees_of}
use Rattle.schema_meta.specs.SchemaTree.{AreColumns}
use Rattle.body_writer.specs.Batch.{IsBatch, row_weight, rows_weight}
use Rattle.values.specs.Weights.{saturated}
use Rattle.body_writer.proofs.Rows.{cells_in}
use Rattle.values.proofs.WeightLemmas.{saturated-exact}
use Rattle.stream_writer.specs.Stream.{batch_len, batch_messages, batches, beginning, trees}
use Rattle.stream_writer.specs.Table.{IsRow}

pub cells-at : (rows : List (Vec Datum Global)) (i : ℕ) (row : Vec Datum Global) → i < length rows
    → row ≡ get_or rows i row → cells_in (drop i rows) ≡ row.items ∷ cells_in (drop (i + 1) rows)
cells-at rows i row h e = ap cells_in (drop_more rows i row h)
    ∙ ap (λ r. r.items ∷ cells_in (drop (i + 1) rows)) (sym e)

-- the longest prefix

pub beginning-none : (ls : Roses Layout) (n room : ℕ) → beginning ls n room [] ≡ 0
beginning-none ls zero room = refl
beginning-none ls (suc n) room = refl

pub beginning-heavy : (ls : Roses Layout) (n room : ℕ) (row : List Datum) (rows : List (List Datum))
    → room < row_weight ls row → beginning ls n room (row ∷ rows) ≡ 0
beginning-heavy ls zero room row rows h = refl
beginning-heavy ls (suc n) room row rows h = grind (arith, nat_tests)

pub taken : (weight room others : ℕ) → weight ≤ room → (if nat_le weight room then 1 + others else 0) ≡ 1 + others
taken weight room others h = grind (arith, nat_tests)

pub beginning-light : (ls : Roses Layout) (n room : ℕ) (row : List Datum) (rows : List (List Datum)) → 0 < n
    → row_weight ls row ≤ room
    → beginning ls n room (row ∷ rows) ≡ 1 + beginning ls (n - 1) (room - row_weight ls row) rows
beginning-light ls zero room row rows some h = absurd (omega (arith, some))
beginning-light ls (suc n) room row rows some h =
    let same : suc n - 1 ≡ n = omega arith in
    rw same (taken (row_weight ls row) room (beginning ls n (room - row_weight ls row) rows) h)

pub beginning-few : (ls : Roses Layout) (n room : ℕ) (rows : List (List Datum)) → beginning ls n room rows ≤ n
beginning-few ls zero room rows = omega arith
beginning-few ls (suc n) room [] = omega arith
beginning-few ls (suc n) room (row ∷ rows) = elim (cases_lt room (row_weight ls row)) [
  | inl heavy ↦ let none = beginning-heavy ls (suc n) room row rows heavy in omega (arith, none)
  | inr light ↦ let some = taken (row_weight ls row) room (beginning ls n (room - row_weight ls row) rows) light in
      let rest = beginning-few ls n (room - row_weight ls row) rows in omega (arith, some, rest)
]

pub beginning-within : (ls : Roses Layout) (n room : ℕ) (rows : List (List Datum))
    → (beginning ls n room rows ≤ length rows) × (rows_weight ls (take (beginning ls n room rows) rows) ≤ room)
beginning-within ls zero room rows = (omega arith, omega arith)
beginning-within ls (suc n) room [] = (omega arith, omega arith)
beginning-within ls (suc n) room (row ∷ rows) =
    let P : ℕ → Type 0 = λ k. (k ≤ length (row ∷ rows)) × (rows_weight ls (take k (row ∷ rows)) ≤ room) in
    let others : ℕ = beginning ls n (room - row_weight ls row) rows in
    elim (cases_lt room (row_weight ls row)) [
      | inl heavy ↦ subst P (sym (beginning-heavy ls (suc n) room row rows heavy)) (omega arith, omega arith)
      | inr light ↦
          let rest = beginning-within ls n (room - row_weight ls row) rows in
          let one : suc others ≡ 1 + others = omega arith in
          subst P (sym (taken (row_weight ls row) room others light ∙ sym one)) (
            omega (arith, rest.0),
            omega (arith, rest.1, light),
          )
    ]

-- the same in the loop over rows

pub row-of : (P : List Datum → Type 0) (rows : List (Vec Datum Global)) (i : ℕ) (row : Vec Datum Global)
    → All P (cells_in rows) → i < length rows → row ≡ get_or rows i row → P row.items
row-of P rows i row all h e =
    let items : Vec Datum Global → List Datum = λ r. r.items in
    let same = length-map rows items in
    let read : get_or (cells_in rows) i row.items ≡ row.items =
    get_or-map items rows i row row.items h ∙ ap items (sym e) in
    subst P read (all i row.items (omega (arith, h, same)))

pub saturated-weight :
    (ls : Roses Layout) (rows : List (Vec Datum Global)) (i : ℕ) (row : Vec Datum Global) (ds : List Datum) (w : ℕ)
    → All (λ r. row_weight ls r ≤ max_row_weight) (cells_in rows) → i < length rows → row ≡ get_or rows i row
    → ds ≡ row.items
    → w ≡ saturated (row_weight ls ds) → w ≡ row_weight ls row.items
saturated-weight ls rows i row ds w light h e same is =
    let few : row_weight ls row.items ≤ max_row_weight =
    row-of (λ r. row_weight ls r ≤ max_row_weight) rows i row light h e in
    is ∙ ap (λ xs. saturated (row_weight ls xs)) same ∙ saturated-exact (row_weight ls row.items) (omega (arith, few))

pub stops-heavy : (ls : Roses Layout) (n room : ℕ) (rows : List (Vec Datum Global)) (i : ℕ) (row : Vec Datum Global)
    → i < length rows → row ≡ get_or rows i row → room < row_weight ls row.items
    → beginning ls n room (cells_in (drop i rows)) ≡ 0
stops-heavy ls n room rows i row h e heavy =
    ap (λ cs. beginning ls n room cs) (cells-at rows i row h e)
    ∙ beginning-heavy ls n room row.items (cells_in (drop (i + 1) rows)) heavy

pub stops-end : (ls : Roses Layout) (n room : ℕ) (rows : List (Vec Datum Global)) (i : ℕ) → length rows ≤ i
    → beginning ls n room (cells_in (drop i rows)) ≡ 0
stops-end ls n room rows i h =
    ap (λ rs. beginning ls n room (cells_in rs)) (drop_all i rows h) ∙ beginning-none ls n room

pub goes-on : (ls : Roses Layout) (n room : ℕ) (rows : List (Vec Datum Global)) (i : ℕ) (row : Vec Datum Global)
    → i < length rows → row ≡ get_or rows i row → 0 < n → row_weight ls row.items ≤ room
    → beginning ls n room (cells_in (drop i rows)) ≡ 1 + beginning ls (n - 1) (room - row_weight ls row.items)
    (cells_in (drop (i + 1) rows))
goes-on ls n room rows i row h e some light =
    ap (λ cs. beginning ls n room cs) (cells-at rows i row h e)
    ∙ beginning-light ls n room row.items (cells_in (drop (i + 1) rows)) some light

pub batch_len-few : (ls : Roses Layout) (rows : List (List Datum)) → batch_len ls rows ≤ max_batch_rows
unfolding batch_len
batch_len-few ls rows = beginning-few ls max_batch_rows max_batch_weight rows

pub batch_len-within : (ls : Roses Layout) (rows : List (List Datum))
    → (batch_len ls rows ≤ length rows) × (rows_weight ls (take (batch_len ls rows) rows) ≤ max_batch_weight)
unfolding batch_len
batch_len-within ls rows = beginning-within ls max_batch_rows max_batch_weight rows

-- batches

sound-some : (fs : List (Rose NamedType)) (row : List Datum) (rows : List (List Datum)) → All (IsRow fs) (row ∷ rows)
    → 0 < batch_len (trees fs) (row ∷ rows)
unfolding batch_len
sound-some fs row rows sound =
    let first = (All-head (IsRow fs) row rows sound).light in
    let some =
    beginning-light (trees fs) max_batch_rows max_batch_weight row rows (omega arith) (omega (arith, first)) in
    omega (arith, some)

-- more fuel than rows changes nothing
fuel : (coded : List ℕ) (fs : List (Rose NamedType)) (m k : ℕ) (rows : List (List Datum)) → length rows ≤ m
    → length rows ≤ k
    → All (IsRow fs) rows → batches coded (trees fs) m rows ≡ batches coded (trees fs) k rows
unfolding batches
fuel coded fs zero zero rows low high sound = refl
fuel coded fs zero (suc k) [] low high sound = refl
fuel coded fs zero (suc k) (row ∷ rows) low high sound = absurd (omega (arith, low))
fuel coded fs (suc m) zero [] low high sound = refl
fuel coded fs (suc m) zero (row ∷ rows) low high sound = absurd (omega (arith, high))
fuel coded fs (suc m) (suc k) [] low high sound = refl
fuel coded fs (suc m) (suc k) (row ∷ rows) low high sound =
    let n : ℕ = batch_len (trees fs) (row ∷ rows) in
    let some : 0 < n = sound-some fs row rows sound in
    let left = length-drop n (row ∷ rows) in
    ap (λ rest. batch_messages coded (trees fs) (take n (row ∷ rows)) ++ rest)
    (fuel coded fs m k (drop n (row ∷ rows)) (omega (arith, low, some, left)) (omega (arith, high, some, left))
    (All-drop (IsRow fs) n (row ∷ rows) sound))

pub batches-none : (coded : List ℕ) (ls : Roses Layout) (rows : List (List Datum)) → length rows ≡ 0
    → batches coded ls (length rows) rows ≡ []
unfolding batches
batches-none coded ls [] h = refl
batches-none coded ls (row ∷ rows) h = absurd (omega (arith, h))

pub batches-next : (coded : List ℕ) (fs : List (Rose NamedType)) (rows : List (List Datum)) → 0 < length rows
    → All (IsRow fs) rows →
    batches coded (trees fs) (length rows) rows
    ≡ batch_messages coded (trees fs) (take (batch_len (trees fs) rows) rows)
    ++ batches coded (trees fs) (length (drop (batch_len (trees fs) rows) rows)) (drop (batch_len (trees fs) rows) rows)
unfolding batches
batches-next coded fs [] some sound = absurd (omega (arith, some))
batches-next coded fs (row ∷ rows) some sound =
    let n : ℕ = batch_len (trees fs) (row ∷ rows) in
    let one : 0 < n = sound-some fs row rows sound in
    let left = length-drop n (row ∷ rows) in
    ap (λ rest. batch_messages coded (trees fs) (take n (row ∷ rows)) ++ rest)
    (fuel coded fs (length rows) (length (drop n (row ∷ rows))) (drop n (row ∷ rows)) (omega (arith, one, left))
    (omega arith)
    (All-drop (IsRow fs) n (row ∷ rows) sound))

pub batch-some : (fs : List (Rose NamedType)) (rows : List (List Datum)) → 0 < length rows → All (IsRow fs) rows
    → 0 < batch_len (trees fs) rows
batch-some fs [] some sound = absurd (omega (arith, some))
batch-some fs (row ∷ rows) some sound = sound-some fs row rows sound

-- as many layouts as fields

mutual
  tree-size : (f : Rose NamedType) → rose_size (tree_of f) ≡ rose_size f
  tree-size (node f kids) = ap suc (trees-size kids)

  pub trees-size : (fs : Roses NamedType) → roses_size (trees_of fs) ≡ roses_size fs
  trees-size none = refl
  trees-size (more f fs) = let here = tree-size f in let rest = trees-size fs in omega (arith, here, rest)

pub batch-sound :
    (fs : List (Rose NamedType)) (rows : List (List Datum)) → AreColumns fs → AreLayouts (trees fs)
    → All (IsRow fs) rows
    → IsBatch (trees fs) (take (batch_len (trees fs) rows) rows)
batch-sound fs rows columns layouts sound =
    let n : ℕ = batch_len (trees fs) rows in
    let cut = length-take n rows in
    let few = batch_len-few (trees fs) rows in
    let columns_few = columns.few in
    let same = trees-size (kids_of fs) in
    record {
      few = omega (arith, cut, few);
      held = All-weaker (IsRow fs) (λ row. HoldsEach (trees fs) (items_of row)) (λ row h. h.held) (take n rows)
          (All-take (IsRow fs) n rows sound);
      narrow = omega (arith, columns_few, same);
      layouts = layouts;
      light = (batch_len-within (trees fs) rows).1;
    }

-- the remaining rows after the batch

pub batch-of : (fs : List (Rose NamedType)) (ls : Roses Layout) (rows : List (List Datum)) (n : ℕ) → ls ≡ trees fs
    → AreColumns fs
    → AreLayouts (trees fs) → All (IsRow fs) rows → n ≡ batch_len ls rows → IsBatch ls (take n rows)
batch-of fs ls rows n same columns layouts sound e =
    let Q : Roses Layout → Type 0 = λ us. IsBatch us (take n rows) in
    let P : ℕ → Type 0 = λ k. IsBatch (trees fs) (take k rows) in
    let there : n ≡ batch_len (trees fs) rows = e ∙ ap (λ us. batch_len us rows) same in
    subst Q (sym same) (subst P (sym there) (batch-sound fs rows columns layouts sound))

pub light-of :
    (fs : List (Rose NamedType)) (ls : Roses Layout) (rows : List (List Datum)) → ls ≡ trees fs → All (IsRow fs) rows
    → All (λ row. row_weight ls row ≤ max_row_weight) rows
light-of fs ls rows same sound =
    let Q : Roses Layout → Type 0 = λ us. All (λ row. row_weight us row ≤ max_row_weight) rows in
    subst Q (sym same)
    (All-weaker (IsRow fs) (λ row. row_weight (trees fs) row ≤ max_row_weight) (λ row h. h.light) rows sound)

pub sound-left : (fs : List (Rose NamedType)) (rows left : List (List Datum)) (n : ℕ) → left ≡ drop n rows
    → All (IsRow fs) rows
    → All (IsRow fs) left
sound-left fs rows left n is sound = subst (All (IsRow fs)) (sym is) (All-drop (IsRow fs) n rows sound)

-- the next batch, and what remains after it
pub batches-left : (coded : List ℕ) (fs : List (Rose NamedType)) (rows left : List (List Datum)) (n : ℕ)
    (tail : List ℕ)
    → 0 < length rows
    → All (IsRow fs) rows → n ≡ batch_len (trees fs) rows → left ≡ drop n rows
    → batches coded (trees fs) (length rows) rows ++ tail
    ≡ batch_messages coded (trees fs) (take n rows) ++ (batches coded (trees fs) (length left) left ++ tail)
batches-left coded fs rows left n tail some sound e is =
    let F : ℕ → List ℕ = λ k. batch_messages coded (trees fs) (take k rows)
    ++ batches coded (trees fs) (length (drop k rows)) (drop k rows) in
    let G : List (List Datum) → List ℕ = λ cs. batch_messages coded (trees fs) (take n rows)
    ++ batches coded (trees fs) (length cs) cs in
    ap (λ bs. bs ++ tail) (batches-next coded fs rows some sound ∙ ap F (sym e) ∙ ap G (sym is))
    ∙ append_assoc (batch_messages coded (trees fs) (take n rows)) (batches coded (trees fs) (length left) left) tail

-- rows that are values

left-is : (rows : List (Vec Datum Global)) (n : ℕ) → n ≤ length rows
    → take (length rows - n) (drop n rows) ≡ drop n rows
left-is rows n h = let left = length-drop n rows in take_all (length rows - n) (drop n rows) (omega (arith, left))

pub cells-take : (rows : List (Vec Datum Global)) (n : ℕ) → take n (cells_in rows) ≡ cells_in (take n rows)
cells-take rows n = take-map (λ (r : Vec Datum Global). r.items) n rows

pub cells-left : (rows : List (Vec Datum Global)) (n : ℕ) → n ≤ length rows
    → cells_in (take (length rows - n) (drop n rows)) ≡ drop n (cells_in rows)
cells-left rows n h = ap cells_in (left-is rows n h) ∙ sym (drop-map (λ (r : Vec Datum Global). r.items) n rows)

pub cells-length : (rows : List (Vec Datum Global)) → length (cells_in rows) ≡ length rows
cells-length rows = length-map rows (λ (r : Vec Datum Global). r.items)
