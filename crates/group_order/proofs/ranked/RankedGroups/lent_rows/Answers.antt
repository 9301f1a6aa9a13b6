use Rattle.std.proofs.Common.{◌≡◌, ap, sym, ◌∙◌, subst, length}
use Rattle.group_order.specs.Ranked.{Ranked, has_entries}
use Rattle.group_order.proofs.RankedRows.{first-ranked, first-unranked}
use Rattle.group_order.proofs.ranked.RankedGroups.lent_rows.Goals as goal

pub first_rows-requires : goal.first_rows-requires
first_rows-requires c =
    subst (λ (r : Ranked). (length r.groups.keys ≡ 0) × (length r.groups.groups ≡ 0) → ⊥) (sym c.self.view_is) c.requires

pub returns-then-not-has_entries : goal.returns-then-not-has_entries
returns-then-not-has_entries c =
    first-unranked c.args.self.now c.self.inside.groups c.outputs-outputs.result.now c.in_ok-made.made.items
    c.args.most
    (sym (ap (λ (r : Ranked). has_entries r.ranking) c.self.view_is) ∙ sym c.has_entries.ensures ∙ c.if-not-has_entries.true)
    (ap (λ (r : Ranked). r.groups) c.self.view_is)
    (c.outputs-outputs.ensures ∙ ap (λ (r : Ranked). r.ranking.outputs) c.self.view_is)
    c.in_ok-made.ensures

pub returns : goal.returns
returns c =
    first-ranked c.group_law.ensures.ask c.group_law.ensures.ascending c.group_law.ensures.of_rows c.args.self.now
    c.self.inside.groups c.self.inside.ranking c.self.inside.entries c.outputs-outputs.result.now c.in_ok-made-2.made.items
    c.args.most c.self.view_is c.outputs-outputs.ensures c.in_ok-made-2.ensures c.tuples_ascend.ensures c.ascending_law.ensures
    (sym c.has_entries.ensures ∙ c.if-not-has_entries.false) c.requires
