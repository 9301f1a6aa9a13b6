use Rattle.std.proofs.Common.{arith, ◌<◌, ◌++◌, sym, subst, length}
use Rattle.std.specs.Prelude.{slice_index_or}
use Rattle.group_state.specs.Cells.{KeepsCells}
use Rattle.group_state.specs.AccumulatedColumns.{counted}
use Rattle.group_state.specs.Rows.{cells}
use Rattle.group_state.specs.declared.accumulated_columns.AccumulatedColumn.{AccumulatedColumn}
use Rattle.group_state.specs.declared.tally.Tally.{Tally}
use Rattle.group_state.proofs.Halfway.{halfway-all, halfway-more, halfway-none}
use Rattle.group_state.proofs.Moves.{cells-append}
use Rattle.group_state.proofs.group.give_up_each.Goals as goal

pub loop-i-init : goal.loop-i-init
loop-i-init c = λ columns rest moved k l. halfway-none _ _ _ _ k

pub loop-i-preserved : goal.loop-i-preserved
loop-i-preserved c = λ columns rest moved k l.
    let h = c.loop-i.invariant columns rest moved k l in
    let b = c.loop-i-test.true in
    let n = l.count in
    let within : c.loop-i.i < length columns = omega (arith, b, n) in
    let at : AccumulatedColumn = slice_index_or columns c.loop-i.i (counted 0) in
    halfway-more columns c.loop-i.tallies c.loop-i.i rest (moved ++ rest) c.give_up.new.self h within (counted 0)
    (c.give_up.ensures at.form (cells at.column rest) (cells at.column moved)
    (subst (KeepsCells at.form (slice_index_or c.loop-i.tallies c.loop-i.i c.index-tallies-i.result))
    (cells-append at.column moved rest)
    (h.ahead c.loop-i.i (counted 0) c.index-tallies-i.result (omega arith) within))
    (subst (λ (x : Tally). KeepsCells at.form x (cells at.column moved)) (sym c.index-others-i.is)
    (l.each c.loop-i.i (counted 0) c.index-others-i.result within)))

pub returns : goal.returns
returns c = λ columns rest moved k l.
    let a = c.loop-i-test.false in
    let n = l.count in
    halfway-all columns c.loop-i.tallies c.loop-i.i rest (moved ++ rest) (omega (arith, a, n))
    (c.loop-i.invariant columns rest moved k l)
