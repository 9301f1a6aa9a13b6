use Rattle.std.proofs.Common.{◌≡◌, ap, sym, ◌∙◌, subst}
use Rattle.std.specs.Prelude.{List}
use Rattle.std.specs.List.{list_any}
use Rattle.std.specs.Map.{values_of}
use Rattle.values.specs.declared.key.Key.{Key}
use Rattle.view_lang.specs.Shifts.{patched}
use Rattle.group_state.specs.Grouped.{Grouped}
use Rattle.group_state.specs.Groups.{Keeps as KeepsGroups}
use Rattle.group_state.specs.Touched.{StayBut, touches}
use Rattle.group_order.specs.Ranked.{Ranked}
use Rattle.group_order.proofs.OrderedGroups.{ranked-again, through}
use Rattle.group_order.proofs.ranked.RankedGroups.change_entries.Goals as goal

pub returns-clause-kept : goal.returns-clause-kept
returns-clause-kept c = λ rows fits k.
    let old : Ranked = c.args.self.now in
    let es = c.args.change.now in
    let ns : List (List Key) = c.in_ok-touched.touched.items in
    let next : Grouped = c.apply_change.new.self in
    let e : c.self-2.inside.groups ≡ old.groups =
    ap (λ (r : Ranked). r.groups) c.self-2.view_is ∙ c.take_all.ensures.groups in
    let same = ap (λ (r : Ranked). r.ranking) c.self-2.view_is ∙ c.take_all.ensures.ranking in
    record {
      groups_are =
          subst (λ (g : Grouped). KeepsGroups g (values_of (patched rows es))) (sym c.put_all.ensures.groups)
          (c.in_ok-apply_change.ensures.kept rows fits
          (subst (λ (g : Grouped). KeepsGroups g (values_of rows)) (sym e) k.groups_are));
      ranked =
          ranked-again old c.put_all.new.self ns es next
          (λ t. c.in_ok-touched.ensures t ∙ ap (λ (r : Ranked). list_any (touches r.groups.keys t) es) c.self.view_is)
          (subst (λ (g : Grouped). StayBut (λ t. list_any (touches g.keys t) es) g next) e
          c.in_ok-apply_change.ensures.others)
          (c.apply_change.ensures.columns ∙ ap (λ (g : Grouped). g.columns) e)
          c.put_all.ensures.groups (c.put_all.ensures.ranking ∙ same)
          (through old _ next ns c.as_slice.result.now c.as_slice-2.result.now c.take_all.new.self.entries
          c.self-2.inside.entries c.put_all.new.self.entries c.as_slice.ensures.value c.as_slice-2.ensures.value
          (ap (λ (r : Ranked). r.entries) c.self-2.view_is) same c.in_ok-take_all.ensures.entries
          c.in_ok-put_all.ensures.entries k.ranked);
    }

pub returns-clause-keys : goal.returns-clause-keys
returns-clause-keys c =
    ap (λ (g : Grouped). g.keys) c.put_all.ensures.groups ∙ c.apply_change.ensures.keys
    ∙ ap (λ (r : Ranked). r.groups.keys) c.self-2.view_is ∙ ap (λ (g : Grouped). g.keys) c.take_all.ensures.groups

pub returns-clause-columns : goal.returns-clause-columns
returns-clause-columns c =
    ap (λ (g : Grouped). g.columns) c.put_all.ensures.groups ∙ c.apply_change.ensures.columns
    ∙ ap (λ (r : Ranked). r.groups.columns) c.self-2.view_is ∙ ap (λ (g : Grouped). g.columns) c.take_all.ensures.groups
