-- The columns of a batch, gathered from its rows and written one after another.
use Rattle.std.proofs.Common.{
  ◌≡◌,
  ℕ,
  ◌+◌,
  ◌*◌,
  ◌^◌,
  ◌<◌,
  ◌≤◌,
  List,
  [],
  ◌∷◌,
  ◌++◌,
  length,
  get_or,
  drop,
  All,
  Option,
  refl,
  ap,
  sym,
  subst,
  ◌∙◌,
  arith,
  append_assoc,
  append-nil,
}
use Rattle.std.specs.Prelude.{map, unwrap_or, Vec}
use Rattle.std.specs.Option.{option_copied}
use Rattle.std.specs.declared.alloc.Global.{Global}
use Rattle.std.proofs.lemmas.List.{drop_all, drop_more, length-map, map-append}
use Rattle.std.proofs.lemmas.List.Elements.{All-map}
use denote.Ref.{Bor}
use Rattle.values.specs.Limits.{max_body_size}
use Rattle.values.specs.Rose.{Rose, node, Roses, none, more, kids_of, rose_size, roses_size}
use Rattle.values.proofs.Roses.{kids_end}
use Rattle.values.specs.Datum.{Datum, null, items_of}
use Rattle.values.specs.declared.layout.Layout.{Layout}
use Rattle.values.specs.declared.layout.Layout.TheVariants.{
  Bool as Booleans,
  Int,
  Decimal,
  FixedSizeBinary,
  Utf8,
  Binary,
  List as Listed,
  Struct,
}
use Rattle.values.specs.Layouts.{Holds, HoldsEach}
use Rattle.array_layout.specs.Placing.{own_ranges, ranges_in, ranges_below}
use Rattle.body_writer.specs.Slots.{cell_of, cells_of, part}
use Rattle.values.specs.Weights.{weights}
use Rattle.body_writer.specs.Batch.{
  row_cell,
  row_cells,
  rows_weight,
  body_nodes,
  body_buffers,
  body_ranges,
  body_bytes,
  IsBatch,
}
use Rattle.body_writer.specs.declared.body.Body.{Body}
use Rattle.body_writer.proofs.Cells.{part-read}
use Rattle.body_writer.proofs.Held.{kids-held}
use Rattle.body_writer.proofs.WeightLemmas.{weights-split}
use Rattle.body_writer.proofs.SizeLemmas.{batch-size-law}
use Rattle.body_writer.proofs.ColumnRead.{struct-node}
use Rattle.body_writer.proofs.Ahead.{Ahead}

-- rows as the program holds them
abbrev pub cells_in : List (Vec Datum Global) → List (List Datum)
cells_in rows = map (λ (r : Vec Datum Global). r.items) rows

abbrev pub column_at : ℕ → List (Vec Datum Global) → List Datum
column_at j rows = map (part j) (row_cells (cells_in rows))

pub gather-more :
    (j : ℕ) (rows : List (Vec Datum Global)) (i : ℕ) (row : Vec Datum Global) (o : Option (Bor Datum))
    (made : List (Option (Bor Datum))) (whole : List Datum)
    → i < length rows → row ≡ get_or rows i row → unwrap_or (option_copied o) null ≡ get_or row.items j null
    → cells_of made ++ column_at j (drop i rows) ≡ whole
    → cells_of (made ++ o ∷ []) ++ column_at j (drop (i + 1) rows) ≡ whole
gather-more j rows i row o made whole h is read so =
    let here : cell_of o ≡ part j (row_cell row.items) = part-read o j row.items (row_cell row.items) read refl in
    let rest = column_at j (drop (i + 1) rows) in
    let split : column_at j (drop i rows) ≡ cell_of o ∷ rest =
    ap (column_at j) (drop_more rows i row h) ∙ ap (λ (r : Vec Datum Global). part j (row_cell r.items) ∷ rest) (sym is)
    ∙ ap (λ c. c ∷ rest) (sym here) in
    ap (λ xs. xs ++ rest) (map-append cell_of made (o ∷ [])) ∙ append_assoc (cells_of made) (cell_of o ∷ []) rest
    ∙ ap (λ xs. cells_of made ++ xs) (sym split) ∙ so

pub gather-end :
    (j : ℕ) (rows : List (Vec Datum Global)) (i : ℕ) (made whole : List Datum) → length rows ≤ i
    → made ++ column_at j (drop i rows) ≡ whole → made ≡ whole
gather-end j rows i made whole h so =
    sym (append-nil made) ∙ ap (λ rest. made ++ column_at j rest) (sym (drop_all i rows h)) ∙ so

pub ruleset gathering = (gather-end)

-- a row is held by the struct of the columns, and weighs one more than its cells

pub rows-held : (ls : Roses Layout) (rows : List (List Datum)) → All (λ row. HoldsEach ls (items_of row)) rows
    → All (Holds (node Struct ls)) (row_cells rows)
rows-held ls rows h = All-map (Holds (node Struct ls)) row_cell rows h

pub rows-weights : (ls : Roses Layout) (rows : List (List Datum))
    → weights (node Struct ls) (row_cells rows) ≡ length rows + rows_weight ls rows
rows-weights ls [] = refl
rows-weights ls (r ∷ rs) = let rest = rows-weights ls rs in omega (arith, rest)

pub rows-light : (ls : Roses Layout) (rows : List (List Datum)) → IsBatch ls rows
    → weights (node Struct ls) (row_cells rows) < 2 ^ 31
rows-light ls rows batch =
    let same = rows-weights ls rows in
    let few = batch.few in
    let light = batch.light in
    omega (arith, same, few, light)

-- an array has three buffers at most

few-own : (l : Layout) → own_ranges l ≤ 3
few-own Booleans = omega arith
few-own (Int w s) = omega arith
few-own (Decimal p) = omega arith
few-own (FixedSizeBinary w) = omega arith
few-own (Utf8 o) = omega arith
few-own (Binary o) = omega arith
few-own (Listed o) = omega arith
few-own Struct = omega arith

mutual
  few-ranges : (t : Rose Layout) → ranges_in t ≤ 3 * rose_size t
  few-ranges (node l kids) = let own = few-own l in let rest = few-below kids in omega (arith, own, rest)

  pub few-below : (ts : Roses Layout) → ranges_below ts ≤ 3 * roses_size ts
  few-below none = omega arith
  few-below (more t ts) = let here = few-ranges t in let rest = few-below ts in omega (arith, here, rest)

pub body-short : (ls : Roses Layout) (rows : List (List Datum)) → IsBatch ls rows
    → length (body_bytes ls rows) ≤ max_body_size
unfolding body_bytes body_buffers
body-short ls rows batch =
    let same = rows-weights ls rows in
    let light = batch.light in
    let narrow = batch.narrow in
    let ranges = few-below ls in
    let as_many = length-map rows row_cell in
    batch-size-law ls (row_cells rows) batch.layouts (rows-held ls rows batch.held)
    (omega (arith, same, light, as_many)) (omega (arith, ranges, narrow))

-- columns from number j on are still to be written, and then the body is that of the batch
abbrev pub Writing : ℕ → Roses Layout → List (List Datum) → Body → Roses Layout → Type 0
Writing j ts rows now ls =
    Ahead Struct j ts (row_cells rows) now (body_nodes ls rows) (body_ranges ls rows) (body_bytes ls rows)

pub write-start :
    (ls : Roses Layout) (rows : List (List Datum)) (b : Body) → IsBatch ls rows → b.nodes.items ≡ []
    → b.ranges.items ≡ [] → b.bytes.items ≡ []
    → Writing 0 ls rows b ls
unfolding body_nodes body_ranges body_bytes body_buffers
write-start ls rows b batch nodes ranges bytes =
    let held = rows-held ls rows batch.held in
    let split = weights-split Struct ls (row_cells rows) (struct-node ls) held in
    let light = rows-light ls rows batch in
    record {
      layouts = batch.layouts;
      held = kids-held Struct ls (row_cells rows) (struct-node ls) held;
      light = omega (arith, split, light);
      nodes = rw nodes refl;
      ranges = rw (ranges, bytes) refl;
      bytes = rw bytes refl;
    }

pub write-end :
    (ts : List (Rose Layout)) (rows : List (List Datum)) (j : ℕ) (now : Body) → length ts ≤ j
    → Writing j (kids_of (drop j ts)) rows now (kids_of ts)
    → Writing j none rows now (kids_of ts)
write-end ts rows j now h w =
    subst (λ (xs : Roses Layout). Writing j xs rows now (kids_of ts)) (kids_end ts j h) w

pub body-done :
    (ts : List (Rose Layout)) (rows : List (List Datum)) (j : ℕ) (now : Body) → length ts ≤ j
    → Writing j (kids_of (drop j ts)) rows now (kids_of ts)
    → (now.nodes.items ≡ body_nodes (kids_of ts) rows) × (now.ranges.items ≡ body_ranges (kids_of ts) rows)
    × (now.bytes.items ≡ body_bytes (kids_of ts) rows)
body-done ts rows j now h w =
    let e = write-end ts rows j now h w in (
      sym (append-nil now.nodes.items) ∙ e.nodes,
      sym (append-nil now.ranges.items)
          ∙ e.ranges,
      sym (append-nil now.bytes.items) ∙ e.bytes,
    )

pub body-sized :
    (ls : Roses Layout) (rows : List (List Datum)) (bs : List ℕ) → IsBatch ls rows → bs ≡ body_bytes ls rows
    → length bs ≤ max_body_size
body-sized ls rows bs batch is =
    let short = body-short ls rows batch in
    let same = ap length is in
    omega (arith, short, same)

pub ruleset batch = (write-start, body-done, body-sized)
