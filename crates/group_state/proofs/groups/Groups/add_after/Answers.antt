use Rattle.std.proofs.Common.{List, subst}
use Rattle.std.specs.Prelude.{Option}
use Rattle.values.specs.Datum.{Datum}
use Rattle.view_lang.specs.Shifts.{push_some}
use Rattle.group_state.specs.Groups.{Keeps}
use Rattle.group_state.specs.Touched.{StayBut, is_of}
use Rattle.group_state.proofs.groups.Groups.add_after.Goals as goal

pub returns-in_ok-add-clause-kept : goal.returns-in_ok-add-clause-kept
returns-in_ok-add-clause-kept c = λ rows k.
    let P : Option (List Datum) → Type 0 = λ o. Keeps c.add.new.self (push_some o rows) in
    subst P c.in-Some.ensures (c.in_ok-add.ensures.kept rows k)

pub returns-in_ok-add-clause-others : goal.returns-in_ok-add-clause-others
returns-in_ok-add-clause-others c =
    subst (λ (o : Option (List Datum)). StayBut (λ t. is_of c.args.self.now.keys t o) c.args.self.now c.add.new.self)
    c.in-Some.ensures c.in_ok-add.ensures.others
