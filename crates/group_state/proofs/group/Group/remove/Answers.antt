use Rattle.std.proofs.Common.{sym, ◌∙◌, List, ◌∷◌, arith, subst}
use Rattle.std.proofs.lemmas.List.{with_items_is}
use Rattle.group_state.specs.declared.tally.Tally.{Tally}
use Rattle.group_state.specs.GroupCounts.{GroupCounts}
use Rattle.group_state.specs.Rows.{KeepsEach, KeepsRows}
use Rattle.group_state.proofs.group.Group.remove.Goals as goal

pub returns : goal.returns
returns g c = λ rows k.
    let v = subst (λ (x : GroupCounts). KeepsRows c.args.columns.now x (g.R.RowView.cells c.args.row.now ∷ rows)) (sym c.self.view_is) k
    in
    let n = c.remove_each.auto.tallies ∙ c.as_mut_slice.ensures.len in
    let t = rw (← c.as_mut_slice.ensures.value) at v.tallies_are in
    record {
      rows_are = let m = v.rows_are in omega (arith, m);
      tallies_are =
          subst (λ (ts : List Tally). KeepsEach c.args.columns.now ts rows)
          (sym (with_items_is c.self.inside.tallies c.remove_each.new.tallies n)) (c.in_ok-remove_each.ensures rows t);
    }
