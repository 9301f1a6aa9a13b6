use Rattle.std.proofs.Common.{◌∙◌, ap, arith, get_or, length, sym}
use Rattle.std.proofs.lemmas.Option.{get_or_from_slice_get}
use Rattle.values.specs.Datum.{null}
use Rattle.view_lang.specs.Truth.{compared}
use Rattle.column_truths.specs.Compared.{columns_compared}
use Rattle.column_truths.proofs.JoinedTruths.{
  gathered_step,
  gathered_known,
  gathered_unknown,
  gathered_end,
}
use Rattle.column_truths.proofs.filter.compare_columns.Goals as goal

pub push_truth-requires-clause-known : goal.push_truth-requires-clause-known
push_truth-requires-clause-known c =
    let count = gathered_known _ c.loop-i.known c.loop-i.unknown c.loop-i.i c.loop-i.invariant in
    omega (arith, count, c.loop-i-test.true, c.len-i-end.type_inv)

pub push_truth-requires-clause-unknown : goal.push_truth-requires-clause-unknown
push_truth-requires-clause-unknown c =
    let count = gathered_unknown _ c.loop-i.known c.loop-i.unknown c.loop-i.i c.loop-i.invariant in
    omega (arith, count, c.loop-i-test.true, c.len-i-end.type_inv)

pub loop-i-preserved : goal.loop-i-preserved
loop-i-preserved c =
    let xs = c.args.first.now.cells in
    let ys = c.args.second.now.cells in
    let here = get_or_from_slice_get xs c.loop-i.i c.in_ok-a.a null c.in_ok-a.ensures.value in
    let there = get_or_from_slice_get ys c.loop-i.i c.in_ok-b.b null c.in_ok-b.ensures.value in
    gathered_step _ c.loop-i.known c.loop-i.unknown c.push_truth.new.known c.push_truth.new.unknown c.loop-i.i
    c.compared.result c.loop-i.invariant
    (c.compared.ensures ∙ ap (λ d. compared c.args.comparison d c.in_ok-b.b) (sym here)
    ∙ ap (compared c.args.comparison (get_or xs c.loop-i.i null)) (sym there))
    c.in_ok-push_truth.ensures.known c.in_ok-push_truth.ensures.unknown

pub returns : goal.returns
unfolding columns_compared
returns c =
    let xs = c.args.first.now.cells in
    let ys = c.args.second.now.cells in
    c.in_ok-truths.ensures
    ∙ gathered_end (λ i. compared c.args.comparison (get_or xs i null) (get_or ys i null)) c.loop-i.known
    c.loop-i.unknown c.bits.result c.loop-i.i (length xs) c.loop-i.invariant
    (omega (arith, c.loop-i-test.false, c.loop-i.auto.i-end, c.len-i-end.ensures)) c.bits.ensures
