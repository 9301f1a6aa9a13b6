use Rattle.std.proofs.Common.{sym, subst}
use Rattle.group_state.specs.Grouped.{Grouped}
use Rattle.group_state.specs.Groups.{Keeps}
use Rattle.group_state.specs.Moves.{IsPartOf}
use Rattle.group_state.proofs.Moves.{keeps-out, take-needs}
use Rattle.group_state.proofs.groups.Groups.give_up.Goals as goal

pub take_group-requires : goal.take_group-requires
take_group-requires g c =
    let need = c.requires.part in
    let part = subst (λ (s : Grouped). IsPartOf s.keys s.columns c.args.tuple.now c.args.group.now need.0 need.1 need.2)
    (sym c.self.view_is) need.3.1 in
    let k = subst (λ (s : Grouped). Keeps s need.0) (sym c.self.view_is) need.3.0 in
    let found =
    take-needs c.self.inside.keys.items c.self.inside.columns.items c.self.inside.groups.entries
    c.self.inside.groups.entries c.args.tuple.now c.args.group.now need.0 need.1 need.2 part k in
    (c.self.inside.columns.items, found.0, found.1, found.2)

pub returns-clause-kept : goal.returns-clause-kept
returns-clause-kept g c = λ all moved others part k.
    let own = subst (λ (s : Grouped). IsPartOf s.keys s.columns c.args.tuple.now c.args.group.now all moved others)
    (sym c.self.view_is) part in
    let held = subst (λ (s : Grouped). Keeps s all) (sym c.self.view_is) k in
    keeps-out c.self.inside.keys.items c.self.inside.columns.items c.self.inside.groups.entries
    c.take_group.new.groups.entries c.args.tuple.now c.args.group.now all moved others own
    c.take_group.ensures.others
    (λ m. c.take_group.ensures.here c.self.inside.columns.items m moved own.kept) held
