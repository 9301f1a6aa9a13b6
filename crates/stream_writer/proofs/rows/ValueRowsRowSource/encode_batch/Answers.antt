use Rattle.std.proofs.Common.{◌≡◌, List, subst, sym}
use Rattle.std.specs.Prelude.{IfOk}
use Rattle.values.specs.Datum.{Datum}
use Rattle.values.specs.Rose.{kids_of}
use Rattle.body_writer.specs.Batch.{IsBatch}
use Rattle.stream_writer.specs.Stream.{batch_messages}
use Rattle.stream_writer.proofs.Cut.{cells-take}
use Rattle.stream_writer.proofs.rows.ValueRowsRowSource.encode_batch.Goals as goal

pub coded_batch-requires-clause-batch : goal.coded_batch-requires-clause-batch
coded_batch-requires-clause-batch c =
    subst (IsBatch (kids_of c.args.layouts.now)) (cells-take c.args.self.now.rows.now c.args.count) c.requires.batch

pub returns-clause-bytes : goal.returns-clause-bytes
returns-clause-bytes c =
    let P : List (List Datum) → Type 0 =
    λ rows. IfOk c.coded_batch.result
    (λ bytes. bytes ≡ batch_messages c.args.self.now.coded.now (kids_of c.args.layouts.now) rows) in
    subst P (sym (cells-take c.args.self.now.rows.now c.args.count)) c.coded_batch.ensures.bytes
