use Rattle.std.proofs.Common.{sym, subst, List}
use Rattle.std.specs.Prelude.{None}
use Rattle.std.specs.Map.{values_of}
use Rattle.values.specs.Datum.{Datum}
use Rattle.values.specs.declared.key.Key.{Key}
use Rattle.view_lang.specs.Shifts.{with_at}
use Rattle.group_state.specs.Grouped.{Grouped}
use Rattle.group_state.specs.Groups.{Keeps as KeepsGroups}
use Rattle.group_order.specs.Ranked.{IsRanked, Ranked, named}
use Rattle.group_order.proofs.OrderedGroups.{ranked-one, read-placed}
use Rattle.group_order.proofs.ranked.RankedGroups.go_from_entry.Goals as goal

pub returns-clause-kept : goal.returns-clause-kept
returns-clause-kept g c = λ rows n s is k.
    let cells : List Datum = g.R.RowView.cells c.args.row.now in
    let t : List Key = c.in_ok-tuple.tuple in
    let next : Grouped = c.go_from.new.self in
    let was : Ranked = record {
      groups = c.self.inside.groups;
      ranking = c.self.inside.ranking;
      entries = c.self.inside.entries;
    } in
    let before = c.in_ok-keys.keys.before in
    let after = c.in_ok-keys.keys.after in
    record {
      groups_are =
          subst (λ (x : Grouped). KeepsGroups x (values_of (with_at n None rows))) (sym c.replace.ensures.groups)
          (c.in_ok-keys.ensures.kept rows n s is
          (subst (λ (r : Ranked). KeepsGroups r.groups (values_of rows)) (sym c.self.view_is) k.groups_are));
      ranked =
          ranked-one was c.replace.new.self was.groups.keys cells t next (named t before) (named t after)
          c.in_ok-tuple.ensures c.in_ok-keys.ensures.others c.go_from.ensures.columns c.replace.ensures.groups
          c.replace.ensures.ranking
          (read-placed was.ranking was.groups t before (rw c.outputs.ensures at c.in_ok-keys.ensures.before))
          (read-placed was.ranking next t after (rw c.outputs.ensures at c.in_ok-keys.ensures.after))
          c.in_ok-replace.ensures.entries (subst IsRanked (sym c.self.view_is) k.ranked);
    }
