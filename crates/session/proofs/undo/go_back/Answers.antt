use Rattle.std.proofs.Common.{ap, arith, sym, ◌∙◌}
use Rattle.std.specs.Option.{option_copied}
use Rattle.std.proofs.lemmas.Result.{err_from_is_err_and}
use Rattle.upkeep.specs.StoreLaws.{rows_length}
use Rattle.upkeep.specs.Stores.{rows_in, tables_in}
use Rattle.session.proofs.Pasts.{can_undo, undo_refused, undo_shown}
use Rattle.session.proofs.undo.go_back.Goals as goal

pub go_back-requires-clause-there : goal.go_back-requires-clause-there
go_back-requires-clause-there c =
    let can =
    can_undo (tables_in c.args.tables.now.stores) (rows_in c.args.tables.now.stores) c.args.records.now.items
    c.in-Some.latest.now c.requires.0 (sym c.front.ensures ∙ ap option_copied c.in-Some.is) c.requires.1 in
    let many = rows_length c.args.tables.now.stores in
    omega (arith, can.0, many)

pub go_back-requires-clause-can : goal.go_back-requires-clause-can
go_back-requires-clause-can c =
    (can_undo (tables_in c.args.tables.now.stores) (rows_in c.args.tables.now.stores) c.args.records.now.items
    c.in-Some.latest.now c.requires.0 (sym c.front.ensures ∙ ap option_copied c.in-Some.is) c.requires.1).2

pub go_back-requires-clause-kind : goal.go_back-requires-clause-kind
go_back-requires-clause-kind c =
    (can_undo (tables_in c.args.tables.now.stores) (rows_in c.args.tables.now.stores) c.args.records.now.items
    c.in-Some.latest.now c.requires.0 (sym c.front.ensures ∙ ap option_copied c.in-Some.is) c.requires.1).1

pub returns-in_err-go_back-clause-undoes : goal.returns-in_err-go_back-clause-undoes
returns-in_err-go_back-clause-undoes c = λ past shown.
    let failed = err_from_is_err_and c.from_residual.result c.from_residual.ensures.1 in
    rw (failed.1, failed.2)
    (undo_refused (tables_in c.args.tables.now.stores) (rows_in c.args.tables.now.stores)
    (rows_in c.go_back.new.self.stores) c.args.records.now.items c.in-Some.latest.now past
    (sym c.front.ensures ∙ ap option_copied c.in-Some.is) c.in_err-go_back.ensures.unchanged shown)

pub returns-clause-undoes : goal.returns-clause-undoes
returns-clause-undoes c = λ past shown.
    rw (c.pop_front.ensures.items)
    (undo_shown (tables_in c.args.tables.now.stores) (rows_in c.args.tables.now.stores)
    (rows_in c.go_back.new.self.stores) c.args.records.now.items c.in-Some.latest.now past
    (sym c.front.ensures ∙ ap option_copied c.in-Some.is) c.in_ok-go_back.ensures.rows shown)
