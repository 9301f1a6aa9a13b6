use Rattle.std.proofs.Common.{◌≡◌, ◌∙◌, ◌∷◌, ◌++◌, ◌-◌, [], List, ap, arith, subst, sym, take}
use Rattle.view_lang.specs.Limits.{max_undo_depth}
use Rattle.upkeep.specs.Stores.{Rows, rows_in, tables_in}
use Rattle.upkeep.specs.StoreLaws.{rows_length}
use Rattle.upkeep.specs.Touched.{touched}
use Rattle.session.specs.Shows.{HoldsBack}
use Rattle.session.specs.declared.undo.UndoRecord.{UndoRecord}
use Rattle.session.proofs.records.record_change.Goals as goal

pub release-requires-clause-there : goal.release-requires-clause-there
release-requires-clause-there c =
    let P : List UndoRecord → Type 0 = λ rs.
    HoldsBack (tables_in c.args.tables.now.stores) (rows_in c.args.tables.now.stores) rs c.requires.holds.0 in
    let out =
    c.release_law.ensures.out (tables_in c.args.tables.now.stores) (rows_in c.args.tables.now.stores)
    c.push_record.new.records.items c.in-Some.oldest c.requires.holds.0
    (subst P c.in-Some.ensures.oldest c.requires.holds.1) in
    let many = rows_length c.args.tables.now.stores in
    let below = out.0 in
    omega (arith, below, many)

pub release-requires-clause-out : goal.release-requires-clause-out
release-requires-clause-out c =
    let P : List UndoRecord → Type 0 = λ rs.
    HoldsBack (tables_in c.args.tables.now.stores) (rows_in c.args.tables.now.stores) rs c.requires.holds.0 in
    (c.release_law.ensures.out (tables_in c.args.tables.now.stores) (rows_in c.args.tables.now.stores)
    c.push_record.new.records.items c.in-Some.oldest c.requires.holds.0
    (subst P c.in-Some.ensures.oldest c.requires.holds.1)).1

pub returns-in-Some-clause-holds : goal.returns-in-Some-clause-holds
returns-in-Some-clause-holds c = λ edits holds.
    let P : List UndoRecord → Type 0 = λ rs.
    HoldsBack (tables_in c.args.tables.now.stores) (rows_in c.args.tables.now.stores) rs edits in
    let Q : Rows → Type 0 = λ rows.
    HoldsBack (tables_in c.args.tables.now.stores) rows c.push_record.new.records.items edits in
    subst Q (sym c.release.ensures.rows)
    (c.release_law.ensures.go (tables_in c.args.tables.now.stores) (rows_in c.args.tables.now.stores)
    c.push_record.new.records.items c.in-Some.oldest edits (subst P c.in-Some.ensures.oldest holds))

pub returns-in-Some-clause-touched : goal.returns-in-Some-clause-touched
returns-in-Some-clause-touched c =
    let P : List UndoRecord → Type 0 = λ rs.
    HoldsBack (tables_in c.args.tables.now.stores) (rows_in c.args.tables.now.stores) rs c.requires.holds.0 in
    let all : c.args.newest ∷ c.args.records.now.items ≡ c.args.newest ∷ take (max_undo_depth - 1) c.args.records.now.items
    ++ c.in-Some.oldest ∷ [] =
    c.in-Some.ensures.oldest
    ∙ ap (λ (rs : List UndoRecord). rs ++ c.in-Some.oldest ∷ []) c.push_record.ensures.records in
    ap (λ (rows : Rows). touched (tables_in c.args.tables.now.stores) c.args.tables.now.views rows
    c.args.newest.table c.args.newest.change) c.release.ensures.rows
    ∙ c.release_law.ensures.touches (tables_in c.args.tables.now.stores) c.args.tables.now.views
    (rows_in c.args.tables.now.stores) c.args.newest (take (max_undo_depth - 1) c.args.records.now.items) c.in-Some.oldest
    c.requires.holds.0 (subst P all c.requires.holds.1)

pub returns-in_default-clause-holds : goal.returns-in_default-clause-holds
returns-in_default-clause-holds c = λ edits holds.
    let P : List UndoRecord → Type 0 = λ rs.
    HoldsBack (tables_in c.args.tables.now.stores) (rows_in c.args.tables.now.stores) rs edits in
    subst P (sym (c.push_record.ensures.all c.in_default.is)) holds
