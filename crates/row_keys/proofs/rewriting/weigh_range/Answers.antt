use Rattle.std.proofs.Common.{◌≡◌, ◌+◌, ◌-◌, ap, arith, subst, suc, sym}
use Rattle.values.specs.Rose.{kids_of}
use Rattle.schema_meta.specs.Rows.{row_at, rows_from}
use Rattle.body_writer.specs.Batch.{row_weight, rows_weight}
use Rattle.body_writer.specs.RowRanges.{cells_in, range_rows}
use Rattle.row_keys.specs.RowsLeft.{Bounds}
use Rattle.row_keys.proofs.Weighed.{WeighedTo, range_is, rows_none, rows_split, weighed_first, weighed_more}
use Rattle.row_keys.proofs.rewriting.weigh_range.Goals as goal

pub loop-index-init : goal.loop-index-init
loop-index-init c =
    weighed_first _ _
    (ap (rows_weight (kids_of c.args.layouts.now)) (range_is c.args.range.now c.requires.1.order c.requires.1.within))

pub loop-index-preserved : goal.loop-index-preserved
loop-index-preserved c =
    let ls = kids_of c.args.layouts.now in
    let cells = cells_in c.args.range.now.batch.now.columns.items in
    let i = c.loop-index.index in
    let left = c.args.range.now.to - i in
    let rest = c.args.range.now.to - (i + 1) in
    let below = c.loop-index-test.true in
    let more : left ≡ suc rest = omega (arith, below) in
    let total = rows_weight ls (range_rows c.args.range.now) in
    let bound : Bounds c.in_ok-weigh_row.field-0 (row_weight ls (row_at cells i)) =
    subst (λ ks. Bounds c.in_ok-weigh_row.field-0 (row_weight ls (row_at (cells_in ks) i))) c.deref.ensures.value
    c.in_ok-weigh_row.ensures in
    subst (λ s. WeighedTo total s (rows_weight ls (rows_from cells (i + 1) rest))) (sym c.saturating_add-sum.ensures)
    (weighed_more total c.loop-index.sum c.in_ok-weigh_row.field-0 (rows_weight ls (rows_from cells i left))
    (row_weight ls (row_at cells i)) (rows_weight ls (rows_from cells (i + 1) rest)) bound
    (rows_split ls cells i left rest more) c.loop-index.invariant)

pub returns : goal.returns
returns c =
    let end = c.loop-index-test.false in
    let none : c.args.range.now.to - c.loop-index.index ≡ 0 = omega (arith, end) in
    let left = rows_none (kids_of c.args.layouts.now) (cells_in c.args.range.now.batch.now.columns.items) c.loop-index.index
    (c.args.range.now.to - c.loop-index.index) none in
    λ low. let all = c.loop-index.invariant low in omega (arith, all, left)
