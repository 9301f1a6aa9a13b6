-- The columns of a body, one after another.
use Rattle.std.proofs.Common.{
  ◌≡◌,
  ℕ,
  List,
  [],
  ◌∷◌,
  ◌++◌,
  ◌+◌,
  ◌<◌,
  ◌≤◌,
  length,
  drop,
  take,
  get_or,
  Ok,
  Err,
  refl,
  ap,
  sym,
  subst,
  ◌∙◌,
  append_assoc,
  append-nil,
}
use Rattle.std.specs.Prelude.{All, IfOk, Result, map}
use Rattle.std.proofs.lemmas.List.Elements.{All-cons, All-head, All-nil, All-tail}
use Rattle.std.proofs.lemmas.List.{map-append, take_more, take_all}
use Rattle.values.specs.Datum.{Datum}
use Rattle.values.specs.Reading.{Reading, both, cons, with_front}
use Rattle.values.specs.Rose.{Rose, node, Roses, none, more, rose_size}
use Rattle.values.specs.declared.layout.Layout.{Layout}
use Rattle.values.proofs.Readings.{front_none}
use Rattle.values.proofs.Roses.{kids_step, kids_end}
use Rattle.array_layout.specs.declared.array.FieldNode.{FieldNode}
use Rattle.array_layout.specs.declared.array.BufferRange.{BufferRange}
use Rattle.array_layout.specs.declared.array.ArrayData.{ArrayData}
use Rattle.array_layout.specs.Cells.{column_of}
use Rattle.array_layout.specs.Placing.{layout_of, layouts_of, placed, placed_all, ranges_in}
use Rattle.array_layout.specs.Sound.{ArePlaced, IsPlaced}
use Rattle.array_layout.specs.Typed.{AreTyped, IsTyped}
use Rattle.arrays.specs.Checked.{CheckedColumn}
use Rattle.schema_meta.specs.Rows.{columns_in}
use Rattle.body_writer.specs.Batch.{body_bytes}
use Rattle.body_writer.specs.RowRanges.{cells_in}
use Rattle.column_merge.specs.Merged.{IsWritten, arrays_for}
use Rattle.column_merge.proofs.Places.{nodes_step, ranges_step}

-- arrays whose buffers were found have no dictionaries, and the layouts by which they were found

mutual
  pub placed-typed : (nodes : List FieldNode) (ranges : List BufferRange) (n b : ℕ) (t : Rose Layout)
      → IsTyped (placed nodes ranges n b t)
  placed-typed nodes ranges n b (node l kids) = (tt, all-typed nodes ranges _ _ kids)

  all-typed : (nodes : List FieldNode) (ranges : List BufferRange) (n b : ℕ) (ts : Roses Layout)
      → AreTyped (placed_all nodes ranges n b ts)
  all-typed nodes ranges n b none = tt
  all-typed nodes ranges n b (more t ts) = (placed-typed nodes ranges n b t, all-typed nodes ranges _ _ ts)

mutual
  pub placed-layout : (nodes : List FieldNode) (ranges : List BufferRange) (n b : ℕ) (t : Rose Layout)
      → layout_of (placed nodes ranges n b t) ≡ t
  placed-layout nodes ranges n b (node l kids) = ap (node l) (placed-layouts nodes ranges _ _ kids)

  placed-layouts : (nodes : List FieldNode) (ranges : List BufferRange) (n b : ℕ) (ts : Roses Layout)
      → layouts_of (placed_all nodes ranges n b ts) ≡ ts
  placed-layouts nodes ranges n b none = refl
  placed-layouts nodes ranges n b (more t ts) =
      rw (placed-layout nodes ranges n b t, placed-layouts nodes ranges (n + rose_size t) (b + ranges_in t) ts) refl

-- what was read, and what remains to be read, are the whole
pub record IsBetween
    (bytes : List ℕ) (nodes : List FieldNode) (ranges : List BufferRange) (n b : ℕ) (left : Roses Layout)
    (made : List CheckedColumn) (whole : Reading (List (List Datum)))
    : Type 0 where
  pub placed : ArePlaced bytes (placed_all nodes ranges n b left)
  pub read : with_front (cells_in made) (columns_in bytes (placed_all nodes ranges n b left)) ≡ whole

pub between_start :
    (bytes : List ℕ) (nodes : List FieldNode) (ranges : List BufferRange) (ts : Roses Layout)
    (made : List CheckedColumn)
    → made ≡ [] → ArePlaced bytes (placed_all nodes ranges 0 0 ts)
    → IsBetween bytes nodes ranges 0 0 ts made (columns_in bytes (placed_all nodes ranges 0 0 ts))
between_start bytes nodes ranges ts made empty placed =
    record { placed = placed; read = rw empty (front_none (columns_in bytes (placed_all nodes ranges 0 0 ts))) }

front-one : (xs : List (List Datum)) (x : List Datum) (m : Reading (List (List Datum)))
    → with_front (xs ++ x ∷ []) m ≡ with_front xs (both cons (Ok x) m)
front-one xs x (Ok ys) = ap (λ zs. Ok zs) (append_assoc xs (x ∷ []) ys)
front-one xs x (Err fs) = refl

read-one :
    (bytes : List ℕ) (a : Rose ArrayData) (rest : Roses ArrayData) (made : List CheckedColumn) (c : CheckedColumn)
    (whole : Reading (List (List Datum)))
    → column_of bytes a ≡ Ok c.cells → with_front (cells_in made) (columns_in bytes (more a rest)) ≡ whole
    → with_front (cells_in (made ++ c ∷ [])) (columns_in bytes rest) ≡ whole
unfolding columns_in
read-one bytes a rest made c whole valid all =
    let later : Reading (List (List Datum)) = columns_in bytes rest in
    let P : Reading (List Datum) → Type 0 = λ m. with_front (cells_in made) (both cons m later) ≡ whole in
    let R : List (List Datum) → Type 0 = λ xs. with_front xs later ≡ whole in
    let joined : cells_in (made ++ c ∷ []) ≡ cells_in made ++ c.cells ∷ [] = map-append (λ x. x.cells) made (c ∷ []) in
    subst R (sym joined) (front-one (cells_in made) c.cells later ∙ subst P valid all)

pub between_more :
    (bytes : List ℕ) (nodes : List FieldNode) (ranges : List BufferRange) (n b m k : ℕ) (t : Rose Layout)
    (rest : Roses Layout) (left : Roses Layout) (a : Rose ArrayData) (made : List CheckedColumn) (c : CheckedColumn)
    (whole : Reading (List (List Datum)))
    → left ≡ more t rest → a ≡ placed nodes ranges n b t
    → m ≡ n + rose_size t → k ≡ b + ranges_in t → column_of bytes a ≡ Ok c.cells
    → IsBetween bytes nodes ranges n b left made whole
    → IsBetween bytes nodes ranges m k rest (made ++ c ∷ []) whole
between_more bytes nodes ranges n b m k t rest left a made c whole split here next more_ranges valid h =
    let at : IsBetween bytes nodes ranges n b (more t rest) made whole =
    subst (λ (ts : Roses Layout). IsBetween bytes nodes ranges n b ts made whole) split h in
    rw (next, more_ranges) record {
      placed = at.placed.1;
      read = read-one bytes (placed nodes ranges n b t)
          (placed_all nodes ranges (n + rose_size t) (b + ranges_in t) rest) made c whole
          (subst (λ (x : Rose ArrayData). column_of bytes x ≡ Ok c.cells) here valid) at.read;
    }

pub between_first :
    (bytes : List ℕ) (nodes : List FieldNode) (ranges : List BufferRange) (n b : ℕ) (t : Rose Layout)
    (rest : Roses Layout) (left : Roses Layout) (a : Rose ArrayData) (made : List CheckedColumn)
    (whole : Reading (List (List Datum)))
    → left ≡ more t rest → a ≡ placed nodes ranges n b t
    → IsBetween bytes nodes ranges n b left made whole
    → IsPlaced bytes a
between_first bytes nodes ranges n b t rest left a made whole split here h =
    let at : IsBetween bytes nodes ranges n b (more t rest) made whole =
    subst (λ (ts : Roses Layout). IsBetween bytes nodes ranges n b ts made whole) split h in
    rw here at.placed.0

pub between_end :
    (bytes : List ℕ) (nodes : List FieldNode) (ranges : List BufferRange) (n b : ℕ) (left : Roses Layout)
    (made : List CheckedColumn) (whole : Reading (List (List Datum)))
    → left ≡ none → IsBetween bytes nodes ranges n b left made whole → whole ≡ Ok (cells_in made)
unfolding columns_in
between_end bytes nodes ranges n b left made whole empty h =
    let at : IsBetween bytes nodes ranges n b none made whole =
    subst (λ (ts : Roses Layout). IsBetween bytes nodes ranges n b ts made whole) empty h in
    sym at.read ∙ ap (λ zs. Ok zs) (append-nil (cells_in made))

pub layouts_more :
    (ts : List (Rose Layout)) (k : ℕ) (t d : Rose Layout) (made : List CheckedColumn) (c : CheckedColumn)
    → t ≡ get_or ts k d → k < length ts → c.layouts ≡ t → map (λ x. x.layouts) made ≡ take k ts
    → map (λ x. x.layouts) (made ++ c ∷ []) ≡ take (k + 1) ts
layouts_more ts k t d made c is below typed h =
    map-append (λ (x : CheckedColumn). x.layouts) made (c ∷ [])
    ∙ (λ i. h i ++ (typed ∙ is) i ∷ [])
    ∙ sym (take_more ts k d below)

-- Where columns are read that are as long as there are rows, those that were read are.

cells-long : (n : ℕ) (made : List CheckedColumn) → All (λ (c : List Datum). length c ≡ n) (cells_in made)
    → All (λ c. length c.cells ≡ n) made
cells-long n [] h = All-nil (λ (c : CheckedColumn). length c.cells ≡ n)
cells-long n (c ∷ cs) h =
    All-cons (λ (x : CheckedColumn). length x.cells ≡ n) c cs
    (All-head (λ (x : List Datum). length x ≡ n) c.cells (cells_in cs) h)
    (cells-long n cs (All-tail (λ (x : List Datum). length x ≡ n) c.cells (cells_in cs) h))

abbrev or_none : Reading (List (List Datum)) → List (List Datum)
or_none (Ok xs) = xs
or_none (Err fs) = []

same-cells : (xs ys : List (List Datum)) (m : Reading (List (List Datum))) → m ≡ Ok xs → m ≡ Ok ys → xs ≡ ys
same-cells xs ys m a b = ap or_none (sym a ∙ b)

pub columns_long :
    {X E : Type 0} (ls : Roses Layout) (rows : List (List Datum)) (items : X → List CheckedColumn) (r : Result X E)
    → IsWritten ls rows
    → IfOk r (λ x. columns_in (body_bytes ls rows) (arrays_for ls rows) ≡ Ok (cells_in (items x)))
    → IfOk r (λ x. All (λ c. length c.cells ≡ length rows) (items x))
columns_long ls rows items (Err e) w h = tt
columns_long ls rows items (Ok x) w h =
    let same = same-cells w.cells (cells_in (items x)) (columns_in (body_bytes ls rows) (arrays_for ls rows)) w.read h in
    cells-long (length rows) (items x)
    (subst (λ (cs : List (List Datum)). All (λ (c : List Datum). length c ≡ length rows) cs) same w.long)

pub ruleset reading = (kids_step, kids_end, nodes_step, ranges_step, take_all)
