use Rattle.std.proofs.Common.{[], ◌++◌, List, ap, arith, length, sym, subst}
use Rattle.values.specs.Datum.{Datum}
use Rattle.values.specs.Rose.{Rose}
use Rattle.values.specs.declared.layout.Layout.{Layout}
use Rattle.body_writer.specs.RowRanges.{batch_rows}
use Rattle.stream_writer.specs.BatchRows.{FitsBatches, rows_left}
use Rattle.stream_writer.specs.Progress.{HasPut, IsHeld, last_rows}
use Rattle.stream_writer.specs.TableWriters.{rows_held}
use Rattle.stream_writer.proofs.ProgressLemmas.{stops-err-if, stops-memory}
use Rattle.stream_writer.proofs.TableWriterLemmas.{released-writes, source-held, stops-before}
use Rattle.stream_writer.proofs.table_writer.TableWriter.take.Goals as goal

pub hold-requires : goal.hold-requires
hold-requires g c =
    let r = c.requires.comes in
    record { comes = (r.0, g.S.Sink.sunk c.args.sink.now, r.1, r.2, r.3.holds, r.4) }

pub returns-in_default-clause-stops : goal.returns-in_default-clause-stops
returns-in_default-clause-stops g c = λ start fs rows writing comes.
    stops-before start (g.S.Sink.sunk c.args.sink.now) fs rows c.args.self.now c.args.batch c.args.heaviest
    c.hold.new.self.written writing.holds comes c.hold.ensures.same

pub source-requires : goal.source-requires
source-requires g c =
    let r = c.requires.comes in
    let now = g.S.Sink.sunk c.args.sink.now in
    (r.0, now, r.1, r.2 ++ batch_rows c.args.batch, c.in-Ok.ensures.holds r.0 now r.1 r.2 r.3.holds r.4)

pub put_closed-requires-clause-held : goal.put_closed-requires-clause-held
put_closed-requires-clause-held g c =
    let r = c.requires.comes in
    let v = c.hold.new.self in
    let rows = r.2 ++ batch_rows c.args.batch in
    let holds = c.in-Ok.ensures.holds r.0 (g.S.Sink.sunk c.args.sink.now) r.1 r.2 r.3.holds r.4 in (
      r.1,
      rows,
      source-held r.1 v.layouts.items c.deref.result.now rows (rows_held v) (rows_left c.source.result) v.written
          c.deref.ensures.value c.source.ensures.rows holds.held,
    )

pub put_closed-requires-clause-fits : goal.put_closed-requires-clause-fits
put_closed-requires-clause-fits g c =
    subst (λ (ls : List (Rose Layout)). FitsBatches ls c.source.result) (sym c.deref.ensures.value)
    c.source.ensures.fits

pub returns-in_err-written-clause-stops : goal.returns-in_err-written-clause-stops
returns-in_err-written-clause-stops g c =
    stops-err-if c.from_residual.result c.in_err-written.field-0.0 _ c.from_residual.ensures.1
    (λ start fs rows writing comes.
    let now = g.S.Sink.sunk c.args.sink.now in
    let v = c.hold.new.self in
    let all = rows ++ batch_rows c.args.batch in
    let src = rows_left c.source.result in
    let P : List (List Datum) → Type 0 = λ rs. HasPut start now v.written fs [] all rs in
    let holds = c.in-Ok.ensures.holds start now fs rows writing.holds comes in
    c.in_err-written.ensures.goes start fs all
    (source-held fs v.layouts.items c.deref.result.now all (rows_held v) src v.written c.deref.ensures.value
    c.source.ensures.rows holds.held) (subst P (sym c.source.ensures.rows) holds.put))

pub overflow_sub-all : goal.overflow_sub-all
overflow_sub-all g c =
    let r = c.requires.comes in
    let holds = c.in-Ok.ensures.holds r.0 (g.S.Sink.sunk c.args.sink.now) r.1 r.2 r.3.holds r.4 in
    let within = c.in_ok-written.ensures.within in
    let same = ap length c.source.ensures.rows in
    let counted = holds.counted in
    omega (arith, within, same, counted)

pub release-requires-clause-within : goal.release-requires-clause-within
release-requires-clause-within g c =
    let r = c.requires.comes in
    let holds = c.in-Ok.ensures.holds r.0 (g.S.Sink.sunk c.args.sink.now) r.1 r.2 r.3.holds r.4 in
    let counted = holds.counted in
    omega (arith, counted)

pub release-requires-clause-place : goal.release-requires-clause-place
release-requires-clause-place g c =
    let r = c.requires.comes in (c.in-Ok.ensures.holds r.0 (g.S.Sink.sunk c.args.sink.now) r.1 r.2 r.3.holds r.4).place

pub release-requires-clause-small : goal.release-requires-clause-small
release-requires-clause-small g c =
    let r = c.requires.comes in
    let holds = c.in-Ok.ensures.holds r.0 (g.S.Sink.sunk c.args.sink.now) r.1 r.2 r.3.holds r.4 in
    let within = holds.within in
    let few = holds.held.few in
    omega (arith, within, few)

pub returns-in-Ok-release-clause-writing : goal.returns-in-Ok-release-clause-writing
returns-in-Ok-release-clause-writing g c = λ start fs rows writing comes.
    let now = g.S.Sink.sunk c.args.sink.now in
    let new = g.S.Sink.sunk c.put_closed.new.sink in
    let v = c.hold.new.self in
    let all = rows ++ batch_rows c.args.batch in
    let src = rows_left c.source.result in
    let p = c.in_ok-written.field-0 in
    let P : List (List Datum) → Type 0 = λ rs. HasPut start now v.written fs [] all rs in
    let H : List (Rose Layout) → Type 0 = λ ls. IsHeld fs ls all (last_rows p.left src) p.written in
    let holds = c.in-Ok.ensures.holds start now fs rows writing.holds comes in
    let held =
    source-held fs v.layouts.items c.deref.result.now all (rows_held v) src v.written c.deref.ensures.value
    c.source.ensures.rows holds.held in
    let done = c.in-Ok-release.ensures in
    released-writes start now new fs all v c.release.new.self src p.left p.written holds c.source.ensures.rows
    c.in_ok-written.ensures.within c.in_ok-written.ensures.few
    (c.in_ok-written.ensures.goes start fs all held (subst P (sym c.source.ensures.rows) holds.put))
    (subst H c.deref.ensures.value (c.in_ok-written.ensures.held fs all held)) done.same.0 done.same.1 done.same.2
    done.rows done.each done.weights done.place done.bound done.filled done.first

pub returns-in-Err-clause-stops : goal.returns-in-Err-clause-stops
returns-in-Err-clause-stops g c = λ start fs rows writing comes.
    let now = g.S.Sink.sunk c.args.sink.now in
    let v = c.hold.new.self in
    let all = rows ++ batch_rows c.args.batch in
    let src = rows_left c.source.result in
    let p = c.in_ok-written.field-0 in
    let P : List (List Datum) → Type 0 = λ rs. HasPut start now v.written fs [] all rs in
    let holds = c.in-Ok.ensures.holds start now fs rows writing.holds comes in
    let held =
    source-held fs v.layouts.items c.deref.result.now all (rows_held v) src v.written c.deref.ensures.value
    c.source.ensures.rows holds.held in
    stops-memory start (g.S.Sink.sunk c.put_closed.new.sink) p.written fs [] all (last_rows p.left src)
    (c.in_ok-written.ensures.goes start fs all held (subst P (sym c.source.ensures.rows) holds.put))
