use Rattle.std.proofs.Common.{[], ◌∷◌, Some, subst, sym}
use Rattle.view_lang.specs.Shifts.{NumberedRows}
use Rattle.lookups.specs.Keeping.{Keeps}
use Rattle.upkeep.proofs.RowByRow.{come_fits, come_patched, go_fits, go_patched}
use Rattle.upkeep.proofs.turning.turn_referrer.Goals as goal

pub returns-in-Come : goal.returns-in-Come
returns-in-Come c = λ d same rows fits k.
    let f = come_fits c.args.turn c.args.number (Some (d ∷ [])) rows c.in-Come.is fits in
    let P : NumberedRows → Type 0 = λ rs. Keeps c.come.new.self rs in
    subst P (sym (come_patched c.args.turn c.args.number (Some (d ∷ [])) rows c.in-Come.is))
    (c.in_ok-come-in-Come.ensures.kept rows d same f.0 f.1 k)

pub returns-in-Go : goal.returns-in-Go
returns-in-Go c = λ d same rows fits k.
    let f = go_fits c.args.turn c.args.number (Some (d ∷ [])) rows c.in-Go.is fits in
    let P : NumberedRows → Type 0 = λ rs. Keeps c.go.new.self rs in
    subst P (sym (go_patched c.args.turn c.args.number (Some (d ∷ [])) rows c.in-Go.is))
    (c.in_ok-go-in-Go.ensures.kept rows d same f.0 f.1 k)
