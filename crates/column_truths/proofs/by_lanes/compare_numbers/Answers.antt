use Rattle.std.proofs.Common.{◌∙◌, ap, length, subst, sym}
use mir.Syntax.{w128}
use Rattle.std.proofs.lemmas.Int.{to_z-of_z}
use Rattle.values.specs.Rose.{kids_of}
use Rattle.column_truths.proofs.LaneRuns.{length-nulls_by, length-passing_span}
use Rattle.column_truths.proofs.NumberTruths.{IsSpanOf, numbers_compared}
use Rattle.column_truths.proofs.by_lanes.compare_numbers.Goals as goal

pub new-requires : goal.new-requires
new-requires c =
    ap length (c.bits.ensures ∙ c.in_ok-known.ensures) ∙ length-passing_span c.args.width c.span_of-span.result _ _
    ∙ sym (ap length c.in_ok-unknown.ensures ∙ length-nulls_by _ _)

pub returns : goal.returns
returns c =
    let span = c.span_of-span.result in
    let value =
    subst (λ k. IsSpanOf c.args.comparison k c.args.width c.args.signed span)
    (to_z-of_z w128 c.args.constant c.ranges.constant) c.span_of-span.ensures.value in
    c.in_ok-truths.ensures
    ∙ numbers_compared c.args.body.now c.buffer-2.result.now c.buffer.result.now c.args.own.now
    (kids_of c.args.children.now) c.args.width c.args.signed c.args.comparison c.args.constant span c.bits.result
    c.in_ok-unknown.unknown c.requires.valid c.requires.plain c.requires.layout c.buffer-2.ensures c.buffer.ensures
    value (λ j. (c.type_inv.body j).fits) (c.bits.ensures ∙ c.in_ok-known.ensures) c.in_ok-unknown.ensures
