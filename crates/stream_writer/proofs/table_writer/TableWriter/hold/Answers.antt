use Rattle.std.proofs.Common.{All, ◌++◌, ◌≤◌, List, arith, drop, length, refl, subst, sym}
use Rattle.values.specs.Rose.{kids_of}
use Rattle.body_writer.specs.declared.from_columns.batch.Batch.{Batch}
use Rattle.body_writer.specs.RowRanges.{batch_rows, rows_of}
use Rattle.stream_writer.specs.BatchRows.{AreWeighed, HasRows}
use Rattle.stream_writer.specs.Weights.{HasSizes, IsLightBatch, WeighsAs}
use Rattle.stream_writer.proofs.TableWriterLemmas.{
  comes-bound,
  comes-weighable,
  held-alike,
  held-light,
  held-sizes,
  holds-more,
  holds-none,
}
use Rattle.stream_writer.proofs.table_writer.TableWriter.hold.Goals as goal

pub add_weights-requires-clause-sized : goal.add_weights-requires-clause-sized
add_weights-requires-clause-sized c =
    subst (All HasSizes) (sym c.deref.ensures.value)
    (held-sizes c.args.self.now.layouts.items c.args.self.now.held.items c.requires.comes.4.each)

pub add_weights-requires-clause-light : goal.add_weights-requires-clause-light
add_weights-requires-clause-light c =
    subst (All IsLightBatch) (sym c.deref.ensures.value)
    (held-light c.args.self.now.layouts.items c.args.self.now.held.items c.requires.comes.4.each)

pub add_weights-requires-clause-batch_sized : goal.add_weights-requires-clause-batch_sized
add_weights-requires-clause-batch_sized c = c.requires.comes.5.sized.cells

pub add_weights-requires-clause-batch_light : goal.add_weights-requires-clause-batch_light
add_weights-requires-clause-batch_light c = c.requires.comes.5.light

pub add_weights-requires-clause-place : goal.add_weights-requires-clause-place
add_weights-requires-clause-place c =
    subst (λ (bs : List Batch). c.args.self.now.from ≤ length (rows_of bs)) (sym c.deref.ensures.value)
    c.requires.comes.4.place

pub add_weights-requires-clause-alike : goal.add_weights-requires-clause-alike
add_weights-requires-clause-alike c =
    let ls = c.args.self.now.layouts.items in (
      kids_of ls,
      subst (All (WeighsAs (kids_of ls))) (sym c.deref.ensures.value)
          (held-alike ls c.args.self.now.held.items c.requires.comes.4.each),
    )

pub overflow_add-self : goal.overflow_add-self
overflow_add-self c =
    let within = c.requires.comes.4.within in
    let few = c.requires.comes.5.few in
    omega (arith, within, few)

pub returns-clause-holds : goal.returns-clause-holds
returns-clause-holds c = λ start now fs rows holds comes.
    let w = c.args.self.now in
    let b = c.args.batch in
    let ls = w.layouts.items in
    let us = kids_of ls in
    let P : List Batch → Type 0 = λ bs.
    All (WeighsAs us) bs → AreWeighed us w.weights.items (drop w.from (rows_of bs))
    → AreWeighed us c.add_weights.new.weights.items (drop w.from (rows_of bs) ++ batch_rows b) in
    let one = comes-weighable fs rows b c.args.heaviest ls holds.held.layouts comes in
    let known =
    subst P c.deref.ensures.value
    (λ before weighed. c.in_ok-add_weights.ensures us before one.alike
    (comes-bound fs rows b c.args.heaviest ls holds.held.layouts comes) weighed)
    (held-alike ls w.held.items holds.each) holds.weighed in
    let some : HasRows b = omega (arith, c.if-batch-eq0.false) in
    holds-more start now fs rows w b c.args.heaviest _ holds comes c.in_ok-push.ensures.items refl refl refl refl known some

pub returns-then-batch-eq0-clause-holds : goal.returns-then-batch-eq0-clause-holds
returns-then-batch-eq0-clause-holds c = λ start now fs rows holds comes.
    holds-none start now fs rows _ c.args.batch holds c.if-batch-eq0.true
