use Rattle.std.proofs.Common.{sym, subst, List}
use Rattle.values.specs.declared.key.Key.{Key}
use Rattle.group_state.specs.Grouped.{Grouped}
use Rattle.group_state.specs.Groups.{Keeps as KeepsGroups}
use Rattle.group_state.specs.Moves.{IsPartOf}
use Rattle.group_order.specs.Ranked.{IsRanked, Ranked, named}
use Rattle.group_order.proofs.OrderedGroups.{Replaces, ranked-at, read-placed}
use Rattle.group_order.proofs.ranked.RankedGroups.give_up_from_entry.Goals as goal

pub returns-clause-kept : goal.returns-clause-kept
returns-clause-kept c = λ all moved others part k.
    let t : List Key = c.args.tuple.now in
    let next : Grouped = c.give_up.new.self in
    let was : Ranked = record {
      groups = c.self.inside.groups;
      ranking = c.self.inside.ranking;
      entries = c.self.inside.entries;
    } in
    let own = subst (λ (r : Ranked). IsPartOf r.groups.keys r.groups.columns t c.args.group.now all moved others)
    (sym c.self.view_is) part in
    let before = c.in_ok-keys.keys.before in
    let after = c.in_ok-keys.keys.after in
    record {
      groups_are =
          subst (λ (x : Grouped). KeepsGroups x others) (sym c.replace.ensures.groups)
          (c.give_up.ensures.kept all moved others own
          (subst (λ (r : Ranked). KeepsGroups r.groups all) (sym c.self.view_is) k.groups_are));
      ranked =
          ranked-at was c.replace.new.self t next (named t before) (named t after)
          c.give_up.ensures.others c.give_up.ensures.columns c.replace.ensures.groups
          c.replace.ensures.ranking
          (read-placed was.ranking was.groups t before (rw c.outputs.ensures at c.in_ok-keys.ensures.before))
          (read-placed was.ranking next t after (rw c.outputs.ensures at c.in_ok-keys.ensures.after))
          (subst (λ (u : List Key). Replaces (named u before) (named u after) was.entries c.replace.new.self.entries)
          c.in_ok-copy.ensures c.in_ok-replace.ensures.entries)
          (subst IsRanked (sym c.self.view_is) k.ranked);
    }
