-- Written rows are read back as they are.
use Rattle.std.proofs.Common.{◌≡◌, ℕ, suc, ◌+◌, ◌≤◌, List, [], ◌∷◌, length, All, refl, ap, ◌∙◌, arith}
use Rattle.std.specs.Prelude.{map}
use Rattle.std.proofs.lemmas.List.{length-map}
use Rattle.std.proofs.lemmas.List.Elements.{All-cons, All-nil}
use Rattle.values.specs.Rose.{Roses, none, more, roses_size}
use Rattle.values.specs.Datum.{Datum}
use Rattle.values.specs.declared.layout.Layout.{Layout}
use Rattle.values.specs.declared.layout.Layout.TheVariants.{Struct}
use Rattle.array_layout.specs.Placing.{ranges_below}
use Rattle.body_writer.specs.Slots.{part}
use Rattle.body_writer.specs.Body.{padded, ranges_from}
use Rattle.body_writer.specs.Columns.{buffers_below}
use Rattle.body_writer.specs.Batch.{row_cell, row_cells, body_nodes, body_buffers, body_ranges, body_bytes}
use Rattle.body_writer.proofs.ColumnRead.{below-count, nodes_below-count}
use Rattle.body_writer.proofs.RowsReadBack.{batch-read, columns-read, columns_from, rows-back}
use Rattle.column_merge.specs.Merged.{WrittenLaw}

-- how many nodes and buffers there are

nodes-long : (ls : Roses Layout) (rows : List (List Datum)) → roses_size ls ≤ length (body_nodes ls rows)
unfolding body_nodes
nodes-long ls rows = let same = nodes_below-count Struct 0 ls (row_cells rows) in omega (arith, same)

ranges_from-length : (at : ℕ) (xs : List (List ℕ)) → length (ranges_from at xs) ≡ length xs
ranges_from-length at [] = refl
ranges_from-length at (x ∷ xs) = ap suc (ranges_from-length (at + length (padded x)) xs)

ranges-long : (ls : Roses Layout) (rows : List (List Datum)) → ranges_below ls ≤ length (body_ranges ls rows)
unfolding body_ranges body_buffers
ranges-long ls rows =
    let buffers = buffers_below Struct 0 ls (row_cells rows) in
    let same = below-count Struct 0 ls (row_cells rows) in
    let as_many = ranges_from-length 0 buffers in
    omega (arith, same, as_many)

columns-long : (j : ℕ) (ts : Roses Layout) (rows : List (List Datum))
    → All (λ (c : List Datum). length c ≡ length rows) (columns_from j ts (row_cells rows))
columns-long j none rows = All-nil (λ (c : List Datum). length c ≡ length rows)
columns-long j (more t ts) rows =
    All-cons (λ (c : List Datum). length c ≡ length rows) (map (part j) (row_cells rows))
    (columns_from (suc j) ts (row_cells rows))
    (length-map (row_cells rows) (part j) ∙ length-map rows row_cell) (columns-long (suc j) ts rows)

pub written-law : WrittenLaw
written-law ls rows b = record {
  nodes = nodes-long ls rows;
  ranges = ranges-long ls rows;
  placed = (batch-read ls rows b).1;
  cells = columns_from 0 ls (row_cells rows);
  read = columns-read (body_bytes ls rows) (body_nodes ls rows) (body_ranges ls rows) 0 0 0 ls (row_cells rows)
      (batch-read ls rows b).0;
  long = columns-long 0 ls rows;
  rows_are = rows-back ls rows b.held;
}
