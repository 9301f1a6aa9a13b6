use Rattle.std.proofs.Common.{◌∙◌, ap, sym}
use mir.Syntax.{w128}
use Rattle.std.specs.Ordering.{int_cmp}
use Rattle.std.proofs.lemmas.Int.{to_z-of_z}
use Rattle.array_layout.specs.Buffers.{number_by}
use Rattle.values.specs.Layouts.{bytes_in}
use Rattle.view_lang.specs.Truth.{holds}
use Rattle.column_truths.specs.Spans.{is_between}
use Rattle.column_truths.proofs.SpanLemmas.{highest, lowest, number_far, taken_Above, taken_Below}
use Rattle.column_truths.proofs.spans.span_of.Goals as goal

pub returns-in-Above-clause-value : goal.returns-in-Above-clause-value
returns-in-Above-clause-value c = λ u small.
    let z = number_by c.args.signed (bytes_in c.args.width) u in
    let same = to_z-of_z w128 c.args.constant c.ranges.constant in
    ap (λ t. holds t (int_cmp z c.args.constant)) c.in-Above.is
    ∙ taken_Above c.args.width lowest z c.args.constant c.span_between-in-Above.result c.others-in-Above.result u
    (number_far c.args.width c.args.signed u small).0
    (ap (λ k. is_between lowest k z) (sym same) ∙ c.span_between-in-Above.ensures.value u small)
    c.others-in-Above.ensures.low c.others-in-Above.ensures.span c.others-in-Above.ensures.inside

pub returns-in-Below-clause-value : goal.returns-in-Below-clause-value
returns-in-Below-clause-value c = λ u small.
    let z = number_by c.args.signed (bytes_in c.args.width) u in
    let same = to_z-of_z w128 c.args.constant c.ranges.constant in
    ap (λ t. holds t (int_cmp z c.args.constant)) c.in-Below.is
    ∙ taken_Below c.args.width highest z c.args.constant c.span_between-in-Below.result c.others-in-Below.result u
    (number_far c.args.width c.args.signed u small).1
    (ap (λ k. is_between k highest z) (sym same) ∙ c.span_between-in-Below.ensures.value u small)
    c.others-in-Below.ensures.low c.others-in-Below.ensures.span c.others-in-Below.ensures.inside
