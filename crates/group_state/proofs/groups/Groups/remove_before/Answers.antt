use Rattle.std.proofs.Common.{List, subst, sym}
use Rattle.std.specs.Prelude.{Option}
use Rattle.values.specs.Datum.{Datum}
use Rattle.view_lang.specs.Shifts.{push_some}
use Rattle.group_state.specs.Groups.{Keeps}
use Rattle.group_state.specs.Touched.{StayBut, is_of}
use Rattle.group_state.proofs.groups.Groups.remove_before.Goals as goal

pub returns-in_ok-remove-clause-kept : goal.returns-in_ok-remove-clause-kept
returns-in_ok-remove-clause-kept c = λ rows k.
    let P : Option (List Datum) → Type 0 = λ o. Keeps c.args.self.now (push_some o rows) in
    c.in_ok-remove.ensures.kept rows (subst P (sym c.in-Some.ensures) k)

pub returns-in_ok-remove-clause-others : goal.returns-in_ok-remove-clause-others
returns-in_ok-remove-clause-others c =
    subst (λ (o : Option (List Datum)). StayBut (λ t. is_of c.args.self.now.keys t o) c.args.self.now c.remove.new.self)
    c.in-Some.ensures c.in_ok-remove.ensures.others
