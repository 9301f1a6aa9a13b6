use Rattle.std.proofs.Common.{[], ◌∙◌, sym}
use Rattle.std.proofs.lemmas.Result.{err_from_is_err_and}
use Rattle.liveviews.proofs.StreamLemmas.{begin-stops, begin-written, no-rows}
use Rattle.liveviews.proofs.Tables.{table-fits}
use Rattle.liveviews.proofs.recasting.one_pass.begin_writer.Goals as goal

pub begin-requires-clause-columns : goal.begin-requires-clause-columns
begin-requires-clause-columns g c =
    let named = rw c.deref.ensures at c.in-Ok.ensures in
    rw named (c.fields_law.ensures.fit _ c.in-Some.ensures.fields)

pub begin-requires-clause-known : goal.begin-requires-clause-known
begin-requires-clause-known g c =
    let law = c.logical_law.ensures in
    let named = rw c.deref.ensures at c.in-Ok.ensures in
    rw named
    (table-fits law.trees law.fits law.rows law.row_weights c.fields_law.ensures.fit _ [] c.in-Some.ensures.fields
    (no-rows _)).layouts

pub returns-in_err-writer-clause-stops : goal.returns-in_err-writer-clause-stops
returns-in_err-writer-clause-stops g c =
    let law = c.logical_law.ensures in
    let failed = err_from_is_err_and c.from_residual.result c.from_residual.ensures.1 in
    let named = rw c.deref.ensures at c.in-Ok.ensures in
    let table =
    table-fits law.trees law.fits law.rows law.row_weights c.fields_law.ensures.fit _ [] c.in-Some.ensures.fields
    (no-rows _) in
    rw (failed.1, failed.2)
    (λ s knows. begin-stops (g.S.Sink.sunk c.args.sink.now) (g.S.Sink.sunk c.begin.new.sink) c.in_err-writer.field-0.0 s
    _ _ table named (knows.same ∙ sym (c.in-Some.ensures.shown knows.state knows.shows)) c.in_err-writer.ensures.stops)

pub returns-clause-written : goal.returns-clause-written
returns-clause-written g c = λ s knows.
    let law = c.logical_law.ensures in
    let named = rw c.deref.ensures at c.in-Ok.ensures in
    let table =
    table-fits law.trees law.fits law.rows law.row_weights c.fields_law.ensures.fit _ [] c.in-Some.ensures.fields
    (no-rows _) in
    begin-written (g.S.Sink.sunk c.args.sink.now) (g.S.Sink.sunk c.begin.new.sink) c.in_ok-writer.writer s _ _ table
    named (knows.same ∙ sym (c.in-Some.ensures.shown knows.state knows.shows)) c.in_ok-writer.ensures.writing
