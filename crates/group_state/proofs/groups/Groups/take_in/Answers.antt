use Rattle.std.proofs.Common.{sym, subst}
use Rattle.group_state.specs.Grouped.{Grouped}
use Rattle.group_state.specs.Groups.{Keeps}
use Rattle.group_state.specs.Moves.{IsPartOf}
use Rattle.group_state.proofs.Moves.{keeps-in, put-needs}
use Rattle.group_state.proofs.groups.Groups.take_in.Goals as goal

pub put_group-requires : goal.put_group-requires
put_group-requires g c =
    let need = c.requires.part in
    let part = subst (λ (s : Grouped). IsPartOf s.keys s.columns c.args.tuple.now c.args.group.now need.0 need.1 need.2)
    (sym c.self.view_is) need.3.1.0 in
    let k = subst (λ (s : Grouped). Keeps s need.2) (sym c.self.view_is) need.3.0 in
    rw c.as_slice.ensures.value
    (put-needs c.self.inside.keys.items c.self.inside.columns.items c.self.inside.groups.entries
    c.self.inside.groups.entries c.args.tuple.now c.args.group.now need.0 need.1 need.2 part k need.3.1.1)

pub returns-clause-kept : goal.returns-clause-kept
returns-clause-kept g c = λ all moved others part k.
    let own = subst (λ (s : Grouped). IsPartOf s.keys s.columns c.args.tuple.now c.args.group.now all moved others)
    (sym c.self.view_is) part in
    let held = subst (λ (s : Grouped). Keeps s others) (sym c.self.view_is) k in
    let here = rw c.as_slice.ensures.value at c.in_ok-put_group.ensures.here in
    keeps-in c.self.inside.keys.items c.self.inside.columns.items c.self.inside.groups.entries
    c.put_group.new.groups.entries c.args.tuple.now c.args.group.now all moved others own
    c.in_ok-put_group.ensures.others (λ m. here m moved own.some own.kept) held
