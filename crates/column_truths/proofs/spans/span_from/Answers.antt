use Rattle.std.proofs.Common.{arith, subst}
use mir.Syntax.{w128}
use Rattle.std.proofs.Math.Facts.{Fits-of_lt}
use Rattle.std.proofs.lemmas.Int.{ints, to_z-of_z}
use Rattle.column_truths.specs.Spans.{AreBitsOfNumber, numbers_in}
use Rattle.column_truths.proofs.SpanLemmas.{near, numbers_few, span_read, span_taken}
use Rattle.column_truths.proofs.spans.span_from.Goals as goal

pub overflow_cast-result : goal.overflow_cast-result
overflow_cast-result c =
    let close = near c.args.width c.args.signed c.args.last c.args.first c.requires.low c.requires.high in
    let few = numbers_few c.args.width in
    (grind (arith, ints), Fits-of_lt (omega (arith, ints, close, few.1, c.requires.ordered)))

pub returns-clause-span : goal.returns-clause-span
returns-clause-span c =
    let close = near c.args.width c.args.signed c.args.last c.args.first c.requires.low c.requires.high in
    grind (arith, ints)

pub returns-clause-value : goal.returns-clause-value
returns-clause-value c = λ u small.
    let first = to_z-of_z w128 c.args.first c.ranges.first in
    let bits = subst (AreBitsOfNumber (numbers_in c.args.width) c.bits_of.result) first c.bits_of.ensures.value in
    span_taken c.args.width c.args.signed c.args.first c.args.last c.bits_of.result _ u c.requires.low
    c.requires.ordered c.requires.high c.bits_of.ensures.small bits
    (span_read c.args.first c.args.last (numbers_in c.args.width) c.ranges.first c.ranges.last c.requires.ordered
    (near c.args.width c.args.signed c.args.last c.args.first c.requires.low c.requires.high) (numbers_few c.args.width).1)
    small
