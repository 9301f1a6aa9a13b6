use Rattle.std.proofs.Common.{◌≡◌, [], ◌∷◌, ◌++◌, rules, refl, ap, ap₂, sym, ◌∙◌, ℕ, List, map}
use Rattle.group_state.specs.Keys.{tuple_cmp}
use Rattle.top_rows.proofs.Appended.{insert-next}
use Rattle.top_rows.proofs.ShortEntries.{ascending-pairs}
use Rattle.top_rows.specs.ShortEntries.{one-ordered, short_entry, sort_keys_of_one}
use Rattle.top_rows.specs.contracts.short_key.ShortKeyOrd.TheImpl as order
use Rattle.group_order.specs.GroupEntries.{GroupEntry, group_entry_cmp, group_entry_total}
use Rattle.group_order.proofs.group_entries.widened.Goals as goal

pub loop-key-preserved : goal.loop-key-preserved
loop-key-preserved c =
    let entry_of = short_entry sort_keys_of_one in
    let rest = c.next.new.self in
    let left : c.loop-key.key-iterator ≡ c.in-Some.field-0.now ∷ rest = search rules in
    let is : c.new-in-loop-key.result ≡ entry_of c.in-Some.field-0.now =
    c.new-in-loop-key.ensures ∙ ap₂ (λ keys tuple. (keys, tuple)) c.in_ok-sort_keys.ensures c.in_ok-copy.ensures in
    let whole = ap (λ l. c.loop-key.entries.keys ++ map entry_of l) (sym left) ∙ c.loop-key.invariant in
    ap (λ (l : List GroupEntry). l ++ map entry_of rest) c.in_ok-insert.ensures.keys
    ∙ insert-next group_entry_cmp group_entry_total entry_of c.loop-key.entries.keys c.new-in-loop-key.result c.in-Some.field-0.now
    rest c.args.pairs.now.keys is whole
    (ascending-pairs order.ghosts.cmp tuple_cmp sort_keys_of_one one-ordered c.args.pairs.now.keys _ refl
    c.len-size.ensures.ordered)
