use Rattle.std.proofs.Common.{◌≡◌, sym, ◌∙◌, subst, true≢false, length}
use Rattle.group_order.specs.Ranked.{Ranked}
use Rattle.group_order.proofs.ranked.RankedGroups.first_group_rows.Goals as goal

pub lent_rows-requires : goal.lent_rows-requires
lent_rows-requires c =
    subst (λ (r : Ranked). (length r.groups.keys ≡ 0) × (length r.groups.groups ≡ 0) → ⊥) c.self.view_is
    (λ n. true≢false (sym (c.is_bare.ensures.1 n) ∙ c.if-is_bare.false))
