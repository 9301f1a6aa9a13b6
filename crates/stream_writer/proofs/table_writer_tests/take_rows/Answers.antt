use Rattle.std.proofs.Common.{◌++◌, [], arith, length-append}
use Rattle.body_writer.specs.declared.from_columns.batch.Batch.{Batch}
use Rattle.body_writer.specs.RowRanges.{batch_rows}
use Rattle.stream_writer.proofs.BatchRowLemmas.{batch-long}
use Rattle.stream_writer.proofs.PlainRows.{plain-comes}
use Rattle.stream_writer.proofs.table_writer_tests.take_rows.Goals as goal

pub take-requires : goal.take-requires
take-requires g c =
    let r = c.requires in
    let b : Batch = record { columns = c.new.result; rows = c.args.count } in
    record { comes = (r.0, [], r.1, r.2, plain-comes r.1 b 0 c.new.ensures.items r.3) }

pub returns : goal.returns
returns g c = λ start rows writing few.
    let b : Batch = record { columns = c.new.result; rows = c.args.count } in
    let both = length-append rows (batch_rows b) in
    let long = batch-long b in (
      rows ++ batch_rows b,
      c.in_ok-take.ensures.writing start [] rows writing (plain-comes rows b 0 c.new.ensures.items few),
      omega (arith, both, long),
    )
