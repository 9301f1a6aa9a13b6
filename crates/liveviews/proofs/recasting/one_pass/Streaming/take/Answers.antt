use Rattle.std.proofs.Common.{All, ◌++◌, List, arith, length, map, refl, subst}
use Rattle.std.proofs.lemmas.Result.{err_from_is_err_and}
use Rattle.values.specs.declared.causes.Cause.TheVariants as cause
use Rattle.arrays.specs.Checked.{CheckedColumn}
use Rattle.schema_meta.specs.FieldLayouts.{layouts_of}
use Rattle.schema_meta.specs.Logical.{logical_field}
use Rattle.feed.specs.Columns.{cells_in, layouts_in}
use Rattle.row_keys.specs.Batches.{HoldsCells}
use Rattle.body_writer.specs.RowRanges.{batch_rows}
use Rattle.body_writer.specs.Heavy.{AreLightUpTo, HasHeavyRow}
use Rattle.liveviews.proofs.BatchLemmas.{rows-many, rows-refused}
use Rattle.liveviews.proofs.BroughtLemmas.{brought-refused}
use Rattle.liveviews.proofs.StreamLemmas.{
  batch-streamed,
  beginning-of,
  begins-more,
  brings-knows,
  brought-comes,
  brought-fit,
  refused-within,
  stops-here,
  write-stops,
}
use Rattle.liveviews.proofs.recasting.one_pass.Streaming.take.Goals as goal

pub returns-then-count-saturating_sub-clause-stops : goal.returns-then-count-saturating_sub-clause-stops
returns-then-count-saturating_sub-clause-stops g c = λ start s rows rest written counted br.
    let b = c.args.batch in
    let now = g.S.Sink.sunk c.args.sink.now in
    rw c.fault.ensures
    (refused-within start now _ cause.TooManyRows s (beginning-of start now s c.args.self.now.writer rows written)
    (br.refused cause.TooManyRows
    (rows-many (layouts_of br.fields) (cells_in b.columns.items) b.rows (length rows)
    (omega (arith, c.if-count-saturating_sub.true, c.saturating_sub.ensures, counted)))))

pub returns-in_default-clause-stops : goal.returns-in_default-clause-stops
returns-in_default-clause-stops g c = λ start s rows rest written counted br.
    let b = c.args.batch in
    let now = g.S.Sink.sunk c.args.sink.now in
    let P : List CheckedColumn → Type 0 = λ cs. HasHeavyRow (layouts_in cs) (cells_in cs) b.rows in
    rw c.fault-in_default.ensures
    (refused-within start now _ cause.CellTooHeavy s (beginning-of start now s c.args.self.now.writer rows written)
    (brought-refused s _ rows b rest c.args.self.now.rows cause.CellTooHeavy br counted
    (rows-refused (layouts_in b.columns.items) (cells_in b.columns.items) b.rows c.args.self.now.rows
    cause.CellTooHeavy (subst P c.deref-2.ensures.value (c.heaviest_row.ensures.heavy c.in_default.is)))))

pub take-requires : goal.take-requires
take-requires g c =
    let b = c.args.batch in
    let law = c.logical_law.ensures in
    let r = c.requires.brought in
    let P : List CheckedColumn → Type 0 = λ cs. AreLightUpTo (layouts_in cs) (cells_in cs) b.rows c.in-Some.heaviest in
    let light = subst P c.deref-2.ensures.value c.in-Some.ensures.light in
    let holds = subst (All HoldsCells) c.deref.ensures.value c.columns_law.ensures in
    let x = c.in_ok-writer.ensures.written r.0 r.1 r.2 r.4 (brings-knows r.1 _ r.2 b r.3 r.6) in
    let counted = r.5 in
    record {
      comes = (
        r.0,
        map logical_field x.0,
        r.2,
        x.2,
        brought-comes law.trees law.fits law.rows law.row_weights r.1 _ x.0 r.2 b r.3 c.in-Some.heaviest x.1 r.6
            c.requires.sized holds light
            (omega (arith, c.if-count-saturating_sub.false, c.saturating_sub.ensures, counted)),
      );
    }

pub returns-in_err-take-clause-stops : goal.returns-in_err-take-clause-stops
returns-in_err-take-clause-stops g c =
    let failed = err_from_is_err_and c.from_residual-in_err-take.result c.from_residual-in_err-take.ensures.1 in
    rw (failed.1, failed.2) (λ start s rows rest written counted br.
    let b = c.args.batch in
    let law = c.logical_law.ensures in
    let new = g.S.Sink.sunk c.take.new.sink in
    let fault = c.in_err-take.field-0.0 in
    let P : List CheckedColumn → Type 0 = λ cs. AreLightUpTo (layouts_in cs) (cells_in cs) b.rows c.in-Some.heaviest in
    let light = subst P c.deref-2.ensures.value c.in-Some.ensures.light in
    let holds = subst (All HoldsCells) c.deref.ensures.value c.columns_law.ensures in
    let x = c.in_ok-writer.ensures.written start s rows written (brings-knows s _ rows b rest br) in
    let comes =
    brought-comes law.trees law.fits law.rows law.row_weights s _ x.0 rows b rest c.in-Some.heaviest x.1 br
    c.requires.sized holds light (omega (arith, c.if-count-saturating_sub.false, c.saturating_sub.ensures, counted)) in
    write-stops start new fault s (record {
      entries = x.0;
      rows = rows ++ batch_rows b;
      begins = begins-more s _ x.0 rows b rest c.in-Some.heaviest x.1 br comes;
      writes = stops-here start new fault (map logical_field x.0) (rows ++ batch_rows b)
          (c.in_err-take.ensures.stops start (map logical_field x.0) rows x.2 comes);
    }))

pub returns-clause-streamed : goal.returns-clause-streamed
returns-clause-streamed g c = λ start s rows rest written counted br.
    let b = c.args.batch in
    let law = c.logical_law.ensures in
    let new = g.S.Sink.sunk c.take.new.sink in
    let P : List CheckedColumn → Type 0 = λ cs. AreLightUpTo (layouts_in cs) (cells_in cs) b.rows c.in-Some.heaviest in
    let light = subst P c.deref-2.ensures.value c.in-Some.ensures.light in
    let holds = subst (All HoldsCells) c.deref.ensures.value c.columns_law.ensures in
    let x = c.in_ok-writer.ensures.written start s rows written (brings-knows s _ rows b rest br) in
    let comes =
    brought-comes law.trees law.fits law.rows law.row_weights s _ x.0 rows b rest c.in-Some.heaviest x.1 br
    c.requires.sized holds light (omega (arith, c.if-count-saturating_sub.false, c.saturating_sub.ensures, counted)) in
    let same = c.writer.ensures.rows in
    batch-streamed start new s _ x.0 rows b rest c.in-Some.heaviest _ c.take.new.self x.1 br comes
    (brought-fit s _ rows b rest c.in-Some.heaviest br c.requires.sized holds light)
    (c.in_ok-take.ensures.writing start (map logical_field x.0) rows x.2 comes) refl (omega (arith, same, counted))
