use Rattle.std.proofs.Common.{◌||◌, ◌∙◌, ap, option_map, sym}
use Rattle.std.specs.BTreeMap.{is_at}
use Rattle.std.specs.List.{list_any}
use Rattle.group_state.specs.Keys.{tuple_cmp}
use Rattle.group_state.specs.Touched.{is_of}
use Rattle.group_state.proofs.Touched.{inserted}
use Rattle.group_state.proofs.groups.insert_tuple.Goals as goal

pub returns-in_ok-insert : goal.returns-in_ok-insert
returns-in_ok-insert c = λ t.
    inserted c.args.keys.now c.in-Some.row.now t c.in_ok-of.field-0
    (list_any (is_at (tuple_cmp t)) c.args.tuples.now.keys) _ c.in_ok-of.ensures (c.in_ok-insert.ensures.updates.0 t)
    ∙ ap (λ o. list_any (is_at (tuple_cmp t)) c.args.tuples.now.keys
    || is_of c.args.keys.now t (option_map (λ r. r.now) o)) (sym c.in-Some.is)
