use Rattle.std.proofs.Common.{◌+◌, List, All, arith, refl, subst}
use Rattle.values.specs.declared.causes.Cause.TheVariants as cause
use Rattle.arrays.specs.Checked.{CheckedColumn}
use Rattle.feed.specs.Columns.{cells_in, layouts_in}
use Rattle.row_keys.specs.Batches.{HoldsCells}
use Rattle.body_writer.specs.declared.from_columns.batch.Batch.{Batch}
use Rattle.liveviews.specs.Buffered.{buffered_rows}
use Rattle.body_writer.specs.Heavy.{AreLightUpTo, HasHeavyRow}
use Rattle.liveviews.specs.declared.recasting.buffered_batches.BufferedBatches.{BufferedBatches}
use Rattle.liveviews.proofs.BatchLemmas.{rows-many, rows-refused, taken-rows}
use Rattle.liveviews.proofs.BufferedLemmas.{count-more, fit-rows, kept-more, one-more}
use Rattle.liveviews.proofs.recasting.buffered_batches.BufferedBatches.take.Goals as goal

pub returns-then-count-saturating_sub-clause-refused : goal.returns-then-count-saturating_sub-clause-refused
returns-then-count-saturating_sub-clause-refused c =
    rows-many (layouts_in c.args.columns.items) (cells_in c.args.columns.items) c.args.count c.args.self.now.rows
    (omega (arith, c.if-count-saturating_sub.true, c.saturating_sub.ensures))

pub returns-in_default-clause-refused : goal.returns-in_default-clause-refused
returns-in_default-clause-refused c =
    let P : List CheckedColumn → Type 0 = λ cs. HasHeavyRow (layouts_in cs) (cells_in cs) c.args.count in
    rows-refused (layouts_in c.args.columns.items) (cells_in c.args.columns.items) c.args.count c.args.self.now.rows
    cause.CellTooHeavy
    (subst P c.deref-2.ensures.value (c.heaviest_row.ensures.heavy c.in_default.is))

pub returns-clause-counted : goal.returns-clause-counted
returns-clause-counted c =
    let batch : Batch = record { columns = c.args.columns; rows = c.args.count } in
    count-more c.args.self.now.batches.items c.push.new.self.items batch c.args.self.now.rows (c.args.self.now.rows +
    c.args.count)
    c.in_ok-push.ensures.items c.requires.counted refl

pub returns-clause-taken : goal.returns-clause-taken
returns-clause-taken c = λ before.
    let columns = c.args.columns.items in
    let batch : Batch = record { columns = c.args.columns; rows = c.args.count } in
    let P : List CheckedColumn → Type 0 = λ cs. AreLightUpTo (layouts_in cs) (cells_in cs) c.args.count
    c.in-Some.heaviest in
    let light = subst P c.deref-2.ensures.value c.in-Some.ensures.light in
    let holds = subst (All HoldsCells) c.deref.ensures.value c.columns_law.ensures in
    taken-rows (layouts_in columns) (cells_in columns) (buffered_rows c.args.self.now)
    (buffered_rows (record {
      batches = c.push.new.self;
      rows = c.args.self.now.rows + c.args.count;
      heaviest = c.max-self.result;
    })) c.args.count (one-more c.args.self.now.batches.items c.push.new.self.items batch c.in_ok-push.ensures.items)
    (fit-rows columns c.args.count c.in-Some.heaviest holds c.requires.cells light)
    (omega (arith, c.requires.counted, c.if-count-saturating_sub.false, c.saturating_sub.ensures)) before

pub returns-clause-kept : goal.returns-clause-kept
returns-clause-kept c = λ kept.
    let columns = c.args.columns.items in
    let batch : Batch = record { columns = c.args.columns; rows = c.args.count } in
    let next : BufferedBatches = record {
      batches = c.push.new.self;
      rows = c.args.self.now.rows + c.args.count;
      heaviest = c.max-self.result;
    } in
    let P : List CheckedColumn → Type 0 = λ cs. AreLightUpTo (layouts_in cs) (cells_in cs) c.args.count
    c.in-Some.heaviest in
    let light = subst P c.deref-2.ensures.value c.in-Some.ensures.light in
    kept-more (layouts_in columns) c.args.self.now next batch c.in-Some.heaviest c.in_ok-push.ensures.items
    c.requires.cells refl light
    (omega (arith, c.max-self.ensures)) (omega (arith, c.max-self.ensures)) kept
