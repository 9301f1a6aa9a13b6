use Rattle.std.proofs.Common.{[], ◌∷◌}
use Rattle.std.specs.Prelude.{Some, None}
use Rattle.std.specs.Map.{values_of}
use Rattle.std.proofs.lemmas.Map.Entries.{length-values_of}
use Rattle.view_lang.specs.Shifts.{Fits, shift}
use Rattle.view_lang.specs.Counted.{counted}
use Rattle.group_state.proofs.Same.{keeps-same}
use Rattle.group_state.proofs.groups.Groups.come_to.Goals as goal

pub add_to-requires-clause-rows : goal.add_to-requires-clause-rows
add_to-requires-clause-rows g c = (values_of c.requires.rows.0, (c.requires.rows.1.0, rw length-values_of c.requires.rows.1.1))

pub returns-clause-kept : goal.returns-clause-kept
returns-clause-kept g c = λ rows n s is k.
    let change = shift n None (Some (g.R.RowView.cells c.args.row.now)) ∷ [] in
    let fits : Fits rows change = record { ascending = s; in_turn = (is, tt) } in
    keeps-same _ _ (counted rows change fits) c.add_to.new.self (c.in_ok-add_to.ensures.kept (values_of rows) k)
