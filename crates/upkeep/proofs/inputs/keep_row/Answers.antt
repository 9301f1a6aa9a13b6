use Rattle.std.proofs.Common.{ap, false, refl, sym, true, ◌∙◌}
use Rattle.view_lang.specs.Joined.{joined_by, looked_up}
use Rattle.upkeep.proofs.InputRows.{row_kept}
use Rattle.upkeep.proofs.inputs.keep_row.Goals as goal

pub returns-then-keeps : goal.returns-then-keeps
returns-then-keeps c = λ side.
    let v = c.args.view.now in
    let row = c.args.row in
    row_kept v side row (looked_up v.lookup side row) (joined_by v.lookup row (looked_up v.lookup side row)) row true refl
    refl (ap (λ l. joined_by l row (looked_up l side row)) c.requires) (sym c.if-keeps.true ∙ c.keeps.ensures)

pub returns-else-keeps : goal.returns-else-keeps
returns-else-keeps c = λ side.
    let v = c.args.view.now in
    let row = c.args.row in
    row_kept v side row (looked_up v.lookup side row) (joined_by v.lookup row (looked_up v.lookup side row)) row false refl
    refl (ap (λ l. joined_by l row (looked_up l side row)) c.requires) (sym c.if-keeps.false ∙ c.keeps.ensures)
