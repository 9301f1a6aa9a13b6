use Rattle.std.proofs.Common.{◌+◌, drop, refl, arith, subst, sym}
use Rattle.row_keys.proofs.Weighed.{WeighedTo, weighed_first, weighed_more}
use Rattle.row_keys.proofs.WeighedCells.{cells_none, cells_split, weight_from}
use Rattle.row_keys.proofs.weighing.weigh_row.Goals as goal

pub loop-place-init : goal.loop-place-init
loop-place-init c = weighed_first _ _ refl

pub loop-place-preserved : goal.loop-place-preserved
loop-place-preserved c =
    let ts = c.args.layouts.now in
    let cs = c.args.columns.now in
    let i = c.args.index in
    let k = c.loop-place.place in
    let below = c.loop-place-test.true in
    subst (λ s. WeighedTo (weight_from ts cs i) s (weight_from (drop (k + 1) ts) (drop (k + 1) cs) i))
    (sym c.saturating_add-sum.ensures)
    (weighed_more (weight_from ts cs i) c.loop-place.sum c.in_ok-weigh_cell.field-0
    (weight_from (drop k ts) (drop k cs) i) _ (weight_from (drop (k + 1) ts) (drop (k + 1) cs) i)
    c.in_ok-weigh_cell.ensures
    (cells_split ts cs i k c.index-layouts-place.result c.index-columns-place.result c.index-layouts-place.is
    c.index-columns-place.is
    (omega (arith, below)) (omega (arith, below))) c.loop-place.invariant)

pub returns : goal.returns
returns c =
    let end = c.loop-place-test.false in
    let none = cells_none c.args.layouts.now c.args.columns.now c.args.index c.loop-place.place (omega (arith, end)) in
    λ low. let all = c.loop-place.invariant low in omega (arith, all, none)
