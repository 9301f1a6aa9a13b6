use Rattle.std.proofs.lemmas.Result.{err_from_is_err_and}
use Rattle.liveviews.specs.Buffered.{buffered_rows}
use Rattle.liveviews.proofs.BroughtLemmas.{brought-kept, brought-reached, brought-refused}
use Rattle.liveviews.proofs.recasting.table.take_message.Goals as goal

pub returns-in_err-next-clause-refused : goal.returns-in_err-next-clause-refused
returns-in_err-next-clause-refused c =
    let failed = err_from_is_err_and c.from_residual.result c.from_residual.ensures.1 in
    rw (failed.1, failed.2)
    (λ s later taken. c.in_err-next.ensures.refused s (buffered_rows c.args.rows.now) later taken.0)

pub returns-in_default-clause-taken : goal.returns-in_default-clause-taken
returns-in_default-clause-taken c = λ s later taken.
    (c.in_ok-next.ensures.passed c.in_default.is s (buffered_rows c.args.rows.now) later taken.0, taken.1)

pub returns-in_err-take-clause-refused : goal.returns-in_err-take-clause-refused
returns-in_err-take-clause-refused c =
    let failed = err_from_is_err_and c.from_residual-in_err-take.result c.from_residual-in_err-take.ensures.1 in
    let brought = rw c.in-Some.is at c.in_ok-next.ensures.brought in
    rw (failed.1, failed.2)
    (λ s later taken. brought-refused s _ (buffered_rows c.args.rows.now) c.in-Some.batch _ c.args.rows.now.rows
    c.in_err-take.field-0.0 (brought s (buffered_rows c.args.rows.now) later taken.0) c.requires.counted
    c.in_err-take.ensures.refused)

pub returns-clause-taken : goal.returns-clause-taken
returns-clause-taken c = λ s later taken.
    let brought = rw c.in-Some.is at c.in_ok-next.ensures.brought in
    let rows = buffered_rows c.args.rows.now in
    let br = brought s rows later taken.0 in (
      brought-reached s _ rows (buffered_rows c.take.new.self) c.in-Some.batch _ br c.in_ok-take.ensures.rows
          c.in_ok-take.ensures.taken,
      brought-kept s _ rows c.in-Some.batch _ c.args.rows.now c.take.new.self br c.in_ok-take.ensures.kept taken.1,
    )
