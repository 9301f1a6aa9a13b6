use Rattle.std.proofs.Common.{◌∙◌, All, List, ap, length, map, subst, sym}
use Rattle.std.proofs.lemmas.Result.{IfOk-weaker}
use Rattle.body_writer.specs.RowRanges.{IsRange, ranges_rows}
use Rattle.body_writer.specs.declared.from_columns.batch.RowRange.{RowRange}
use Rattle.row_keys.specs.LookedUp.{row_for}
use Rattle.row_keys.proofs.store.RowStore.look_up.Goals as goal

pub look_up_all-requires-clause-ranges : goal.look_up_all-requires-clause-ranges
look_up_all-requires-clause-ranges c =
    let n = length c.args.self.now.table.columns in
    (n, subst (λ (rs : List RowRange). All (IsRange n) rs) (sym c.deref.ensures.value) c.in_ok-ranges.ensures.ranges)

pub returns-clause-rows : goal.returns-clause-rows
returns-clause-rows c =
    IfOk-weaker c.look_up_all.result _ _
    (λ numbers found. found
    ∙ ap (λ (rs : List RowRange). map (row_for c.args.side.now c.args.on) (ranges_rows rs)) c.deref.ensures.value
    ∙ ap (map (row_for c.args.side.now c.args.on)) c.in_ok-ranges.ensures.rows)
    c.look_up_all.ensures.rows
