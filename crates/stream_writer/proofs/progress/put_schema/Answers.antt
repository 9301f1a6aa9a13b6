use Rattle.std.proofs.Common.{◌∙◌, ◌++◌, Bor, List, Option, length, subst, ℕ}
use Rattle.std.specs.Prelude.{IfSome}
use Rattle.stream_writer.specs.Progress.{IsSchemaMessage}
use Rattle.stream_writer.specs.Stream.{batches, coded_canon, end_mark, trees}
use Rattle.stream_writer.proofs.ProgressLemmas.{put-short, schema-put}
use Rattle.stream_writer.proofs.Whole.{first-comes}
use Rattle.stream_writer.proofs.progress.put_schema.Goals as goal

pub returns-in-Some-clause-size : goal.returns-in-Some-clause-size
returns-in-Some-clause-size g c =
    let P : Option (Bor (List ℕ)) → Type 0 =
    λ o. IfSome o (λ m. IsSchemaMessage m.now c.args.coded.now c.args.schema.now.fields.items) in
    put-short c.put_after.result c.in-Some.message.now (subst P c.in-Some.is c.requires.message).short
    c.put_after.ensures.counted

pub returns-in-Some-clause-goes : goal.returns-in-Some-clause-goes
returns-in-Some-clause-goes g c =
    let fs = c.args.schema.now.fields.items in
    let coded = c.args.coded.now in
    let start = g.S.Sink.sunk c.args.sink.now in
    let P : Option (Bor (List ℕ)) → Type 0 = λ o. IfSome o (λ m. IsSchemaMessage m.now coded fs) in
    let right : IsSchemaMessage c.in-Some.message.now coded fs = subst P c.in-Some.is c.requires.message in
    schema-put c.put_after.result start (g.S.Sink.sunk c.put_after.new.sink) fs coded
    (λ more later. c.put_after.ensures.goes start (coded_canon fs coded more)
    (batches coded (trees fs) (length more) more ++ end_mark) (first-comes start fs coded more c.in-Some.message.now
    right.bytes_are))

pub returns-clause-goes : goal.returns-clause-goes
returns-clause-goes g c =
    let fs = c.args.schema.now.fields.items in
    let coded = c.args.coded.now in
    let start = g.S.Sink.sunk c.args.sink.now in
    let bytes = c.deref.ensures.value ∙ c.in_ok-encoded.ensures.bytes in
    schema-put c.put_after-2.result start (g.S.Sink.sunk c.put_after-2.new.sink) fs coded
    (λ more later. c.put_after-2.ensures.goes start (coded_canon fs coded more)
    (batches coded (trees fs) (length more) more ++ end_mark) (first-comes start fs coded more c.deref.result.now bytes))
