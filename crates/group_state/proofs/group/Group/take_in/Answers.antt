use Rattle.std.proofs.Common.{◌++◌, ◌∙◌, List, arith, sym, subst}
use Rattle.std.proofs.lemmas.List.{length-append, with_items_is}
use Rattle.group_state.specs.declared.tally.Tally.{Tally}
use Rattle.group_state.specs.GroupCounts.{GroupCounts}
use Rattle.group_state.specs.Rows.{KeepsEach, KeepsRows}
use Rattle.group_state.proofs.group.Group.take_in.Goals as goal

pub returns-clause-kept : goal.returns-clause-kept
returns-clause-kept c = λ columns rest moved k l.
    let v = subst (λ (x : GroupCounts). KeepsRows columns x rest) (sym c.self.view_is) k in
    let w = subst (λ (x : GroupCounts). KeepsRows columns x moved) (sym c.other.view_is) l in
    let n = c.take_in_each.auto.tallies ∙ c.as_mut_slice.ensures.len in
    let held = rw (← c.as_mut_slice.ensures.value) at v.tallies_are in
    let came = rw (← c.as_slice.ensures.value) at w.tallies_are in
    record {
      rows_are =
          let a = v.rows_are in let b = w.rows_are in let long = length-append moved rest in omega (arith, a, b, long);
      tallies_are =
          subst (λ (ts : List Tally). KeepsEach columns ts (moved ++ rest))
          (sym (with_items_is c.self.inside.tallies c.take_in_each.new.tallies n))
          (c.in_ok-take_in_each.ensures columns rest moved held came);
    }
