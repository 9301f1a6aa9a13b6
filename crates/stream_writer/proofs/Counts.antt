-- How many nodes and buffers the body of a batch has.
use Rattle.std.proofs.Common.{◌≡◌, ℕ, suc, ◌+◌, ◌*◌, ◌≤◌, List, [], ◌∷◌, length, refl, ap, ◌∙◌, arith, length-append}
use Rattle.values.specs.Limits.{max_fields}
use Rattle.values.specs.Rose.{Roses, more, none, roses_size}
use Rattle.values.specs.Datum.{Datum}
use Rattle.values.specs.declared.layout.Layout.{Layout}
use Rattle.values.specs.declared.layout.Layout.TheVariants.{Struct}
use Rattle.array_layout.specs.Placing.{ranges_below}
use Rattle.body_writer.specs.Columns.{buffers, buffers_below, child_cells, nodes, nodes_below}
use Rattle.body_writer.specs.Body.{padded, ranges_from}
use Rattle.body_writer.specs.Batch.{row_cells, body_nodes, body_buffers, body_ranges, IsBatch}
use Rattle.body_writer.proofs.ColumnRead.{buffers-count, nodes-count}
use Rattle.body_writer.proofs.Rows.{few-below}

nodes_below-length : (l : Layout) (j : ℕ) (ts : Roses Layout) (cs : List Datum)
    → length (nodes_below l j ts cs) ≡ roses_size ts
nodes_below-length l j none cs = refl
nodes_below-length l j (more t ts) cs =
    let here = nodes-count t (child_cells l j cs) in
    let rest = nodes_below-length l (suc j) ts cs in
    omega (arith, here, rest, length-append (nodes t (child_cells l j cs)) (nodes_below l (suc j) ts cs))

buffers_below-length : (l : Layout) (j : ℕ) (ts : Roses Layout) (cs : List Datum)
    → length (buffers_below l j ts cs) ≡ ranges_below ts
buffers_below-length l j none cs = refl
buffers_below-length l j (more t ts) cs =
    let here = buffers-count t (child_cells l j cs) in
    let rest = buffers_below-length l (suc j) ts cs in
    omega (arith, here, rest, length-append (buffers t (child_cells l j cs)) (buffers_below l (suc j) ts cs))

ranges_from-length : (at : ℕ) (xs : List (List ℕ)) → length (ranges_from at xs) ≡ length xs
ranges_from-length at [] = refl
ranges_from-length at (x ∷ xs) = ap suc (ranges_from-length (at + length (padded x)) xs)

pub body_nodes-length : (ls : Roses Layout) (rows : List (List Datum)) → length (body_nodes ls rows) ≡ roses_size ls
unfolding body_nodes
body_nodes-length ls rows = nodes_below-length Struct 0 ls (row_cells rows)

pub body_buffers-length : (ls : Roses Layout) (rows : List (List Datum))
    → length (body_buffers ls rows) ≡ ranges_below ls
unfolding body_buffers
body_buffers-length ls rows = buffers_below-length Struct 0 ls (row_cells rows)

pub body_ranges-length : (ls : Roses Layout) (rows : List (List Datum)) → length (body_ranges ls rows) ≡ ranges_below ls
unfolding body_ranges
body_ranges-length ls rows = ranges_from-length 0 (body_buffers ls rows) ∙ body_buffers-length ls rows

pub body_nodes-few : (ls : Roses Layout) (rows : List (List Datum)) → IsBatch ls rows
    → length (body_nodes ls rows) ≤ max_fields
body_nodes-few ls rows batch =
    let narrow = batch.narrow in
    let count = body_nodes-length ls rows in
    omega (arith, narrow, count)

pub body_ranges-few : (ls : Roses Layout) (rows : List (List Datum)) → IsBatch ls rows
    → length (body_ranges ls rows) ≤ 3 * max_fields
body_ranges-few ls rows batch =
    let narrow = batch.narrow in
    let count = body_ranges-length ls rows in
    let few = few-below ls in
    omega (arith, narrow, count, few)
