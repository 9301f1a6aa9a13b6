use Rattle.std.proofs.Common.{◌≡◌, ◌∷◌, ◌<◌, ℕ, List, arith, length, subst, sym}
use Rattle.std.proofs.lemmas.Result.{err_from_is_err_and}
use Rattle.view_lang.specs.Config.{Table, View}
use Rattle.view_lang.specs.Edits.{Edit}
use Rattle.row_keys.specs.Store.{Refuses}
use Rattle.upkeep.specs.Stores.{Rows, rows_at, rows_in, tables_in}
use Rattle.upkeep.specs.StoreLaws.{rows_length}
use Rattle.session.specs.Changes.{edit_by}
use Rattle.upkeep.specs.Touched.{OpensOnce, touched}
use Rattle.session.specs.Shows.{HoldsBack, ShowsPast}
use Rattle.session.specs.Steps.{unfit_in}
use Rattle.session.proofs.Pasts.{edit_refused, edit_shown, edit_whole}
use Rattle.session.proofs.TouchedRows.{opens_after}
use Rattle.session.proofs.edit.edit.Goals as goal

pub returns-in_err-change-clause-edits : goal.returns-in_err-change-clause-edits
returns-in_err-change-clause-edits c =
    let failed = err_from_is_err_and c.from_residual.result c.from_residual.ensures.1 in
    let e : Edit = edit_by c.args.role c.args.columns.items c.args.rows in
    let many = rows_length c.args.tables.now.stores in
    let there = c.requires.there in
    let below : e.table < length (rows_in c.args.tables.now.stores) = omega (arith, many, there) in
    rw (failed.1, failed.2) (λ past shown.
    let P : Rows → Type 0 = λ rows. Refuses (unfit_in (tables_in c.args.tables.now.stores) past e)
    c.in_err-change.field-0.0
    × ShowsPast (tables_in c.args.tables.now.stores) rows c.args.records.now.items past in
    subst P (sym c.edit.ensures.within.others)
    (edit_refused (tables_in c.args.tables.now.stores) e (rows_in c.args.tables.now.stores)
    (rows_at (rows_in c.edit.new.self.stores) e.table) c.args.records.now.items past c.in_err-change.field-0.0 below
    c.in_err-change.ensures.makes shown))

pub record_change-requires-clause-holds : goal.record_change-requires-clause-holds
record_change-requires-clause-holds c =
    let e : Edit = edit_by c.args.role c.args.columns.items c.args.rows in
    let many = rows_length c.args.tables.now.stores in
    let there = c.requires.there in
    let below : e.table < length (rows_in c.args.tables.now.stores) = omega (arith, many, there) in (
      e ∷ c.requires.past.0.edits,
      (edit_whole (tables_in c.args.tables.now.stores) (tables_in c.edit.new.self.stores) e
          (rows_in c.args.tables.now.stores) (rows_in c.edit.new.self.stores) c.table_of-table.result
          c.args.records.now.items c.requires.past.0 c.in_ok-change.change below c.in_ok-change.ensures.makes
          c.in_ok-change.ensures.kind c.in_ok-change.ensures.within.others c.in_ok-change.ensures.within.tables
          c.table_of-table.ensures c.requires.past.1).1,
    )

pub returns-clause-edits : goal.returns-clause-edits
returns-clause-edits c = λ past shown.
    let e : Edit = edit_by c.args.role c.args.columns.items c.args.rows in
    let many = rows_length c.args.tables.now.stores in
    let there = c.requires.there in
    let below : e.table < length (rows_in c.args.tables.now.stores) = omega (arith, many, there) in
    let held =
    edit_whole (tables_in c.args.tables.now.stores) (tables_in c.edit.new.self.stores) e
    (rows_in c.args.tables.now.stores) (rows_in c.edit.new.self.stores) c.table_of-table.result
    c.args.records.now.items past c.in_ok-change.change below c.in_ok-change.ensures.makes
    c.in_ok-change.ensures.kind c.in_ok-change.ensures.within.others c.in_ok-change.ensures.within.tables
    c.table_of-table.ensures shown in
    let P : List Table → Type 0 = λ ts. HoldsBack ts (rows_in c.record_change.new.tables.stores)
    c.record_change.new.records.items (e ∷ past.edits) in (
      held.0,
      edit_shown (tables_in c.args.tables.now.stores) (rows_in c.record_change.new.tables.stores)
          c.args.records.now.items c.record_change.new.records.items past
          (record { table = c.table_of-table.result; change = c.in_ok-change.change }) e shown.depth
          c.record_change.ensures.records
          (subst P c.in_ok-change.ensures.within.tables (c.record_change.ensures.holds (e ∷ past.edits) held.1)),
    )

pub returns-clause-visits : goal.returns-clause-visits
returns-clause-visits c =
    let T : List Table → Type 0 = λ ts.
    touched ts c.edit.new.self.views (rows_in c.record_change.new.tables.stores) c.table_of-table.result
    c.in_ok-change.change
    ≡ touched ts c.edit.new.self.views (rows_in c.edit.new.self.stores) c.table_of-table.result
    c.in_ok-change.change in
    let V : List View → Type 0 = λ vs.
    touched (tables_in c.args.tables.now.stores) vs (rows_in c.record_change.new.tables.stores)
    c.table_of-table.result c.in_ok-change.change
    ≡ touched (tables_in c.args.tables.now.stores) vs (rows_in c.edit.new.self.stores) c.table_of-table.result
    c.in_ok-change.change in
    let N : ℕ → Type 0 = λ n.
    OpensOnce c.args.tables.now
    (touched (tables_in c.args.tables.now.stores) c.args.tables.now.views (rows_in c.edit.new.self.stores) n
    c.in_ok-change.change) c.edit.new.self in
    opens_after c.args.tables.now c.edit.new.self c.record_change.new.tables c.record_change.new.records.items
    (record { table = c.table_of-table.result; change = c.in_ok-change.change }) c.args.records.now.items
    c.record_change.ensures.records (subst N (sym c.table_of-table.ensures) c.in_ok-change.ensures.visits)
    c.record_change.ensures.visits
    (subst V c.in_ok-change.ensures.within.views (subst T c.in_ok-change.ensures.within.tables
    c.record_change.ensures.touched))
