use Rattle.std.proofs.Common.{◌∙◌, ap, sym}
use Rattle.std.specs.Prelude.{Some, cond, true}
use Rattle.group_state.specs.Keys.{tuple_cmp}
use Rattle.top_rows.specs.Ties.{is_entry_by, stands_by}
use Rattle.group_order.specs.GroupEntries.{GroupEntry}
use Rattle.group_order.specs.Ranked.{Ranked, named, placed_at}
use Rattle.group_order.proofs.EntryChanges.{inserted}
use Rattle.group_order.proofs.OrderedGroups.{is-placed}
use Rattle.group_order.proofs.ranked.RankedGroups.put_in.Goals as goal

pub returns-in_ok-insert-clause-entries : goal.returns-in_ok-insert-clause-entries
returns-in_ok-insert-clause-entries c = λ p.
    let s : Ranked = c.args.self.now in
    let t = c.args.tuple.now in
    let row = placed_at s.ranking s.groups t in
    let keys = c.in-Some.sort_keys in
    let entry : GroupEntry = (keys, c.in_ok-tuple.tuple) in
    inserted c.self.inside.entries c.insert.new.self entry c.in_ok-insert.ensures p
    ∙ ap (λ b. cond b true (stands_by tuple_cmp c.self.inside.entries p))
    (is-placed s.ranking.order t row entry p (named t c.in_ok-sort_keys.field-0)
    (ap (named t) c.in-Some.is ∙ ap (λ u. Some (keys, u)) (sym c.in_ok-tuple.ensures)) c.in_ok-sort_keys.ensures)
    ∙ ap (λ (r : Ranked). cond (is_entry_by tuple_cmp s.ranking.order t row p) true (stands_by tuple_cmp r.entries p))
    c.self.view_is
