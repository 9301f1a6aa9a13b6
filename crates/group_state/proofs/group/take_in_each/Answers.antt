use Rattle.std.proofs.Common.{arith, ◌<◌, ◌++◌, sym, subst, length}
use Rattle.std.specs.Prelude.{slice_index_or}
use Rattle.group_state.specs.Cells.{KeepsCells}
use Rattle.group_state.specs.AccumulatedColumns.{counted}
use Rattle.group_state.specs.Rows.{cells}
use Rattle.group_state.specs.declared.accumulated_columns.AccumulatedColumn.{AccumulatedColumn}
use Rattle.group_state.specs.declared.tally.Tally.{Tally}
use Rattle.group_state.proofs.Halfway.{halfway-all, halfway-more, halfway-none}
use Rattle.group_state.proofs.Moves.{cells-append, cells-few}
use Rattle.group_state.proofs.group.take_in_each.Goals as goal

pub take_in-requires : goal.take_in-requires
take_in-requires c =
    let columns = c.requires.0 in
    let rest = c.requires.1 in
    let moved = c.requires.2 in
    let k = c.requires.3 in
    let at : AccumulatedColumn = slice_index_or columns c.loop-i.i (counted 0) in
    let h = c.loop-i.invariant columns rest moved k.0 k.1.0 in
    let b = c.loop-i-test.true in
    let n = k.1.0.count in
    let within : c.loop-i.i < length columns = omega (arith, b, n) in
    let part : KeepsCells at.form c.index-others-i.result (cells at.column moved) =
    subst (λ (t : Tally). KeepsCells at.form t (cells at.column moved)) (sym c.index-others-i.is)
    (k.1.0.each c.loop-i.i (counted 0) c.index-others-i.result within) in (
      at.form,
      cells at.column rest,
      cells at.column moved,
      (
        h.ahead c.loop-i.i (counted 0) c.index-tallies-i.result (omega arith) within,
        (part, cells-few at.column rest moved k.1.1),
      ),
    )

pub loop-i-init : goal.loop-i-init
loop-i-init c = λ columns rest moved k l. halfway-none _ _ _ _ k

pub loop-i-preserved : goal.loop-i-preserved
loop-i-preserved c = λ columns rest moved k l.
    let h = c.loop-i.invariant columns rest moved k l in
    let b = c.loop-i-test.true in
    let n = l.count in
    let within : c.loop-i.i < length columns = omega (arith, b, n) in
    let at : AccumulatedColumn = slice_index_or columns c.loop-i.i (counted 0) in
    halfway-more columns c.loop-i.tallies c.loop-i.i (moved ++ rest) rest c.take_in.new.self h within (counted 0)
    (subst (KeepsCells at.form c.take_in.new.self) (sym (cells-append at.column moved rest))
    (c.in_ok-take_in.ensures at.form (cells at.column rest) (cells at.column moved)
    (h.ahead c.loop-i.i (counted 0) c.index-tallies-i.result (omega arith) within)
    (subst (λ (x : Tally). KeepsCells at.form x (cells at.column moved)) (sym c.index-others-i.is)
    (l.each c.loop-i.i (counted 0) c.index-others-i.result within))))

pub returns : goal.returns
returns c = λ columns rest moved k l.
    let a = c.loop-i-test.false in
    let n = l.count in
    halfway-all columns c.loop-i.tallies c.loop-i.i (moved ++ rest) rest (omega (arith, a, n))
    (c.loop-i.invariant columns rest moved k l)
