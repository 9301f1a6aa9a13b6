use Rattle.std.proofs.Common.{◌≡◌, ◌&&◌, Option, Some, ap, false, refl, subst, sym, ◌∙◌}
use Rattle.std.specs.Prelude.{nat_lt}
use Rattle.view_lang.specs.Config.{View}
use Rattle.view_lang.specs.Outputs.{Outputs, groups}
use Rattle.view_lang.specs.OutputsSeen.{outputs_of}
use Rattle.view_lang.specs.declared.view.Lookup.{Lookup}
use Rattle.sub_groups.specs.FilterParts.{are_decided, conjuncts}
use Rattle.sub_groups.specs.Moved.{KeepRead, moves_by}
use Rattle.sub_groups.specs.SubGroups.{are_main, sub_keys}
use Rattle.sub_groups.proofs.MovedViews.{unmoved}
use Rattle.sub_groups.proofs.sub_groups.SubGroups.of.Goals as goal

pub returns-clause-right : goal.returns-clause-right
returns-clause-right c = record {
  look = c.in-Some-Groups.lookup;
  by = c.in-Some-Groups.by.items;
  outputs = c.in-Some-Groups.columns-1.items;
  having = c.in-Some-Groups.having-1;
  grouped = sym (ap (λ (v : View). v.outputs) c.view.view_is) ∙ ap outputs_of c.in-Some-Groups.is-1;
  can = record {
    lookup = sym (ap (λ (v : View). v.lookup) c.view.view_is) ∙ c.in-Some-Groups.is-0;
    on = c.if-not-can_sub_group.ensures.on refl;
    decided = rw (c.deref-2.ensures.value, c.in_ok-keys.ensures, c.deref.ensures.value) at c.if-not-can_sub_group.ensures.decided refl;
    of_main = rw (c.in_ok-groups.ensures.columns) (c.if-not-can_sub_group.ensures.of_main refl);
  };
  keyed = rw (c.in_ok-groups.ensures.keys, c.deref-3.ensures.value, c.in_ok-keys.ensures, c.deref.ensures.value) refl;
}

-- A view that can't be kept by sub-groups doesn't move them.
pub returns-then-not-can_sub_group-clause-none : goal.returns-then-not-can_sub_group-clause-none
returns-then-not-can_sub_group-clause-none c = λ none read.
    let look : c.args.view.now.lookup ≡ Some c.in-Some-Groups.lookup =
    sym (ap (λ (v : View). v.lookup) c.view.view_is) ∙ c.in-Some-Groups.is-0 in
    let outs : c.args.view.now.outputs
    ≡ groups c.in-Some-Groups.by.items c.in-Some-Groups.columns-1.items c.in-Some-Groups.having-1 =
    sym (ap (λ (v : View). v.outputs) c.view.view_is) ∙ ap outputs_of c.in-Some-Groups.is-1 in
    let cannot : (nat_lt c.in-Some-Groups.lookup.on c.args.width
    && (are_main c.args.width c.args.columns.now
    && are_decided c.args.width (sub_keys c.args.width c.in-Some-Groups.lookup c.in-Some-Groups.by.items)
    (conjuncts c.args.view.now.filter))) ≡ false =
    rw (c.deref-2.ensures.value, c.in_ok-keys.ensures, c.deref.ensures.value)
    at (sym c.can_sub_group.ensures.value ∙ c.if-not-can_sub_group.true) in
    subst (λ (l : Option Lookup). moves_by c.args.width l c.args.view.now.filter c.args.view.now.outputs ≡ false)
    (sym look)
    (subst (λ (o : Outputs). moves_by c.args.width (Some c.in-Some-Groups.lookup) c.args.view.now.filter o ≡ false)
    (sym outs)
    (unmoved c.args.width c.in-Some-Groups.columns-1.items c.args.columns.now
    (nat_lt c.in-Some-Groups.lookup.on c.args.width)
    (are_decided c.args.width (sub_keys c.args.width c.in-Some-Groups.lookup c.in-Some-Groups.by.items)
    (conjuncts c.args.view.now.filter))
    (subst (λ (o : Outputs). KeepRead o c.args.columns.now) outs read) cannot))
