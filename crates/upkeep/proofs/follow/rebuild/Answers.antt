use Rattle.std.proofs.Common.{[], ap, length, subst, ◌∙◌}
use Rattle.view_lang.specs.Config.{Table}
use Rattle.view_lang.specs.Shifts.{NumberedRows}
use Rattle.upkeep.specs.Inputs.{side_by}
use Rattle.upkeep.specs.Stores.{rows_in, tables_in}
use Rattle.upkeep.specs.ViewStates.{IsCurrent}
use Rattle.upkeep.proofs.FollowedRows.{main_width, none_current, rebuild_needs, rebuilt}
use Rattle.upkeep.proofs.follow.rebuild.Goals as goal

pub follow-requires-clause-fits : goal.follow-requires-clause-fits
follow-requires-clause-fits c =
    let stores = c.args.stores.now.items in
    let width = c.len-width.ensures ∙ c.behind-index.inside.columns.ok.0
    ∙ ap (λ (t : Table). length t.columns) (c.behind-index.view_is ∙ c.table.ensures.value)
    ∙ main_width stores c.index-2.result.now c.index-2.ensures c.requires.main in (
      [],
      (
        none_current (tables_in stores) c.args.view.now
            (side_by (tables_in stores) (rows_in stores) c.args.view.now)
            c.in_ok-state.state c.in_ok-state.ensures.kept
            (c.in_ok-state.ensures.right (tables_in stores) width) c.in_ok-state.ensures.links,
        rebuild_needs c.numbers_law.ensures.all stores c.index.result.now c.in_ok-numbers.numbers.items
            c.deref.result.now c.index.ensures c.requires.main c.deref.ensures.value c.in_ok-numbers.ensures.numbers
            c.in_ok-numbers.ensures.rows c.in_ok-numbers.ensures.few,
      ),
    )

pub returns-clause-current : goal.returns-clause-current
returns-clause-current c =
    let v = c.args.view.now in
    let stores = c.args.stores.now.items in
    let width = c.len-width.ensures ∙ c.behind-index.inside.columns.ok.0
    ∙ ap (λ (t : Table). length t.columns) (c.behind-index.view_is ∙ c.table.ensures.value)
    ∙ main_width stores c.index-2.result.now c.index-2.ensures c.requires.main in
    let needs = rebuild_needs c.numbers_law.ensures.all stores c.index.result.now c.in_ok-numbers.numbers.items
    c.deref.result.now c.index.ensures c.requires.main c.deref.ensures.value c.in_ok-numbers.ensures.numbers
    c.in_ok-numbers.ensures.rows c.in_ok-numbers.ensures.few in
    subst (λ (rows : NumberedRows). IsCurrent (tables_in stores) v (side_by (tables_in stores) (rows_in stores) v)
    c.follow.new.state rows)
    (rebuilt c.numbers_law.ensures.all stores c.index.result.now c.in_ok-numbers.numbers.items c.deref.result.now
    c.index.ensures c.requires.main c.deref.ensures.value c.in_ok-numbers.ensures.numbers)
    (c.in_ok-follow.ensures.kept [] needs.0
    (none_current (tables_in stores) v (side_by (tables_in stores) (rows_in stores) v) c.in_ok-state.state
    c.in_ok-state.ensures.kept (c.in_ok-state.ensures.right (tables_in stores) width) c.in_ok-state.ensures.links))
