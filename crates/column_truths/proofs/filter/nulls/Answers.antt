use Rattle.std.proofs.Common.{◌∙◌, ap, arith, get_or, length}
use Rattle.values.specs.Datum.{null, is_null}
use Rattle.std.specs.Prelude.{Some}
use Rattle.column_truths.specs.Compared.{nulls_in}
use Rattle.column_truths.proofs.JoinedTruths.{
  gathered_step,
  gathered_known,
  gathered_unknown,
  gathered_end,
}
use Rattle.column_truths.proofs.filter.nulls.Goals as goal

pub push_truth-requires-clause-known : goal.push_truth-requires-clause-known
push_truth-requires-clause-known c =
    let count = gathered_known _ c.loop-i.known c.loop-i.unknown c.loop-i.i c.loop-i.invariant in
    omega (arith, count, c.loop-i-test.true, c.len-i-end.type_inv)

pub push_truth-requires-clause-unknown : goal.push_truth-requires-clause-unknown
push_truth-requires-clause-unknown c =
    let count = gathered_unknown _ c.loop-i.known c.loop-i.unknown c.loop-i.i c.loop-i.invariant in
    omega (arith, count, c.loop-i-test.true, c.len-i-end.type_inv)

pub loop-i-preserved : goal.loop-i-preserved
loop-i-preserved c =
    gathered_step _ c.loop-i.known c.loop-i.unknown c.push_truth.new.known c.push_truth.new.unknown c.loop-i.i
    (Some c.is_null.result) c.loop-i.invariant (ap (λ b. Some b) c.is_null.ensures)
    c.in_ok-push_truth.ensures.known c.in_ok-push_truth.ensures.unknown

pub returns : goal.returns
unfolding nulls_in
returns c =
    let cells = c.args.column.now.cells in
    c.in_ok-truths.ensures
    ∙ gathered_end (λ i. Some (is_null (get_or cells i null))) c.loop-i.known
    c.loop-i.unknown c.bits.result c.loop-i.i (length cells) c.loop-i.invariant
    (omega (arith, c.loop-i-test.false, c.loop-i.auto.i-end, c.len-i-end.ensures)) c.bits.ensures
