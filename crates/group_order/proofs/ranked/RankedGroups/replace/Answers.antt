use Rattle.std.proofs.Common.{ap, sym, ◌∙◌}
use Rattle.std.specs.Prelude.{None, Some}
use Rattle.group_order.specs.Ranked.{Ranked, named}
use Rattle.group_order.proofs.EntryChanges.{inserted, removed}
use Rattle.group_order.proofs.OrderedGroups.{said-replaced}
use Rattle.group_order.proofs.ranked.RankedGroups.replace.Goals as goal

pub returns-in_ok-exchange-in-Some-Some-clause-entries : goal.returns-in_ok-exchange-in-Some-Some-clause-entries
returns-in_ok-exchange-in-Some-Some-clause-entries c =
    let t = c.args.tuple in
    said-replaced (Some (c.in-Some-Some.before, t)) (named t c.args.before) (Some (c.in-Some-Some.after, t))
    (named t c.args.after) c.self.inside.entries c.args.self.now.entries c.exchange.new.entries
    (ap (named t) (sym c.in-Some-Some.is-0)) (ap (named t) (sym c.in-Some-Some.is-1))
    (ap (λ (r : Ranked). r.entries) c.self.view_is) c.in_ok-exchange-in-Some-Some.ensures

pub returns-in_ok-remove-in-Some-None-clause-entries : goal.returns-in_ok-remove-in-Some-None-clause-entries
returns-in_ok-remove-in-Some-None-clause-entries c =
    let t = c.args.tuple in
    said-replaced (Some (c.in-Some-None.before, t)) (named t c.args.before) None (named t c.args.after)
    c.self.inside.entries c.args.self.now.entries c.remove.new.self (ap (named t) (sym c.in-Some-None.is-0))
    (ap (named t) (sym c.in-Some-None.is-1)) (ap (λ (r : Ranked). r.entries) c.self.view_is)
    (λ there p. removed c.self.inside.entries c.remove.new.self (c.in-Some-None.before, t) c.ascending_law.ensures
    c.in_ok-remove-in-Some-None.ensures.removed p)

pub returns-in_ok-insert-in-None-Some-clause-entries : goal.returns-in_ok-insert-in-None-Some-clause-entries
returns-in_ok-insert-in-None-Some-clause-entries c =
    let t = c.args.tuple in
    said-replaced None (named t c.args.before) (Some (c.in-None-Some.after, t)) (named t c.args.after)
    c.self.inside.entries c.args.self.now.entries c.insert.new.self (ap (named t) (sym c.in-None-Some.is-0))
    (ap (named t) (sym c.in-None-Some.is-1)) (ap (λ (r : Ranked). r.entries) c.self.view_is)
    (λ there p. inserted c.self.inside.entries c.insert.new.self (c.in-None-Some.after, t)
    c.in_ok-insert-in-None-Some.ensures p)
