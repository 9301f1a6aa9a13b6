use Rattle.std.proofs.Common.{◌≡◌, arith, rules}
use Rattle.std.specs.BTreeMap.{is_at}
use Rattle.std.specs.Map.{lookup}
use Rattle.std.specs.Option.{unwrap_or}
use Rattle.std.specs.Ordering.{int_cmp}
use Rattle.group_state.proofs.Numbers.{had-numbered, put-numbered}
use Rattle.group_state.proofs.many_numbers.add_to.Goals as goal

pub overflow_add-counts : goal.overflow_add-counts
overflow_add-counts c =
    let es = c.args.counts.now.entries in
    let had : c.or_insert.result.now ≡ unwrap_or (lookup (is_at (int_cmp c.args.number)) es) 0 = search rules in
    let same = had-numbered c.args.number c.args.times es es in
    omega (arith, had, same, c.requires)

pub returns-clause-ok : goal.returns-clause-ok
returns-clause-ok c = put-numbered c.args.number c.args.times c.args.counts.now.entries _ (search rules)
