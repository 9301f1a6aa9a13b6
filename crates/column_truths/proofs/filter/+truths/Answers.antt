use Rattle.std.proofs.Common.{◌∙◌, ap, length, sym}
use Rattle.column_truths.proofs.RowLemmas.{all_none, one_none, length-truths_in}
use Rattle.column_truths.proofs.filter.+truths.Goals as goal

pub truths_of_all-loop-part-init : goal.truths_of_all-loop-part-init
truths_of_all-loop-part-init t c =
    all_none c.args.rows c.args.columns.now c.args.parts.now c.in_ok-known.known c.in_ok-known.ensures

pub truths_of_all-and-requires : goal.truths_of_all-and-requires
truths_of_all-and-requires t c =
    ap length c.in_ok-more.ensures ∙ length-truths_in c.args.rows c.args.columns.now _
    ∙ sym c.loop-part.invariant.many

pub truths_of_any-loop-part-init : goal.truths_of_any-loop-part-init
truths_of_any-loop-part-init t c =
    one_none c.args.rows c.args.columns.now c.args.parts.now c.in_ok-known.known c.in_ok-known.ensures

pub truths_of_any-or-requires : goal.truths_of_any-or-requires
truths_of_any-or-requires t c =
    ap length c.in_ok-more.ensures ∙ length-truths_in c.args.rows c.args.columns.now _
    ∙ sym c.loop-part.invariant.many
