use Rattle.std.proofs.Common.{All, drop, subst, sym}
use Rattle.std.proofs.lemmas.List.Elements.{All-drop}
use Rattle.stream_writer.specs.BatchRows.{HasRows, IsInFirst}
use Rattle.stream_writer.specs.TableWriters.{IsWeighable}
use Rattle.stream_writer.proofs.TableWriterLemmas.{released}
use Rattle.stream_writer.proofs.table_writer.TableWriter.release.Goals as goal

pub returns-clause-rows : goal.returns-clause-rows
returns-clause-rows c =
    let w = c.args.self.now in
    released w.held.items c.in_ok-self.field-0.items w.from c.args.count c.find_row-place.result.batches
    c.find_row-place.result.from c.deref.result.now c.deref.ensures.value c.find_row-place.ensures.rows
    c.in_ok-self.ensures.tail

pub returns-clause-each : goal.returns-clause-each
returns-clause-each c = λ ls each.
    subst (All (IsWeighable ls)) (sym c.in_ok-self.ensures.tail)
    (All-drop (IsWeighable ls) c.find_row-place.result.batches c.args.self.now.held.items each)

pub returns-clause-filled : goal.returns-clause-filled
returns-clause-filled c = λ filled.
    subst (All HasRows) (sym c.in_ok-self.ensures.tail)
    (All-drop HasRows c.find_row-place.result.batches c.args.self.now.held.items filled)

pub returns-clause-first : goal.returns-clause-first
returns-clause-first c = λ before.
    let first = c.find_row-place.ensures.first in
    subst (IsInFirst c.find_row-place.result.from) (sym c.in_ok-self.ensures.tail)
    (subst (λ bs. IsInFirst c.find_row-place.result.from (drop c.find_row-place.result.batches bs)) c.deref.ensures.value
    first)
