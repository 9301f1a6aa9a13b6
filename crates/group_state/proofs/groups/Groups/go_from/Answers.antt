use Rattle.std.proofs.Common.{[], ◌∷◌}
use Rattle.std.specs.Prelude.{Some, None}
use Rattle.std.specs.Map.{values_of}
use Rattle.view_lang.specs.Shifts.{Fits, shift, with_at}
use Rattle.view_lang.specs.Counted.{counted}
use Rattle.group_state.proofs.Same.{keeps-same}
use Rattle.group_state.proofs.groups.Groups.go_from.Goals as goal

pub remove_from-requires-clause-rows : goal.remove_from-requires-clause-rows
remove_from-requires-clause-rows g c =
    let rows = c.requires.rows.0 in
    let n = c.requires.rows.1 in
    let k = c.requires.rows.2 in
    let change = shift n (Some (g.R.RowView.cells c.args.row.now)) None ∷ [] in
    let fits : Fits rows change = record { ascending = k.1.0; in_turn = (k.1.1, tt) } in
    (values_of (with_at n None rows), keeps-same _ _ (counted rows change fits) c.args.self.now k.0)

pub returns-clause-kept : goal.returns-clause-kept
returns-clause-kept g c = λ rows n s is k.
    let change = shift n (Some (g.R.RowView.cells c.args.row.now)) None ∷ [] in
    let fits : Fits rows change = record { ascending = s; in_turn = (is, tt) } in
    c.in_ok-remove_from.ensures.kept (values_of (with_at n None rows))
    (keeps-same _ _ (counted rows change fits) c.args.self.now k)
