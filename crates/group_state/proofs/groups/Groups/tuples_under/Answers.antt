use Rattle.std.proofs.Common.{◌≡◌, ap, ◌∙◌, rules, List, []}
use Rattle.std.specs.Prelude.{◌&&◌}
use Rattle.std.specs.BTreeMap.{is_at}
use Rattle.std.specs.List.{list_any}
use Rattle.std.specs.Map.{keys_of}
use Rattle.values.specs.declared.key.Key.{Key}
use Rattle.group_state.specs.Keys.{tuple_cmp}
use Rattle.group_state.specs.Moves.{begins_with}
use Rattle.group_state.proofs.Under.{begins-among, under-none}
use Rattle.group_state.proofs.groups.Groups.tuples_under.Goals as goal

pub returns-clause-tuples : goal.returns-clause-tuples
returns-clause-tuples c = λ t.
    let none : c.loop-first.first-iterator ≡ [] = search rules in
    let given : c.into_iter-first-iterator.result ≡ c.in_ok-firsts.firsts.keys =
    c.into_iter-first-iterator.ensures.into_iter_gives.0 in
    let g = list_any (is_at (tuple_cmp t)) (keys_of c.args.self.now.groups) in
    ap (list_any (is_at (tuple_cmp t))) c.in_ok-listed.ensures.value
    ∙ under-none t c.loop-first.first-iterator (list_any (is_at (tuple_cmp t)) c.loop-first.tuples.keys) g _ none
    (c.loop-first.invariant t)
    ∙ ap (λ (ks : List Key). list_any (λ (k : Key). begins_with k t) ks && g) given
    ∙ ap (λ b. b && g) (begins-among c.in_ok-firsts.firsts.keys c.args.values.now c.in_ok-firsts.ensures t)
