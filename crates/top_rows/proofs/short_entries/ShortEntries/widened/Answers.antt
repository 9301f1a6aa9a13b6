use Rattle.std.proofs.Common.{◌≡◌, [], ◌∷◌, ◌++◌, rules, refl, ap, sym, ◌∙◌, ℕ, List, map}
use Rattle.std.specs.Ordering.{nat_cmp}
use Rattle.top_rows.proofs.Appended.{insert-next}
use Rattle.top_rows.proofs.ShortEntries.{ascending-pairs}
use Rattle.top_rows.specs.EntryOrder.{RowEntry, entry_cmp, entry_total}
use Rattle.top_rows.specs.ShortEntries.{short_entry}
use Rattle.top_rows.proofs.short_entries.ShortEntries.widened.Goals as goal

pub loop-keys-preserved : goal.loop-keys-preserved
loop-keys-preserved g c =
    let entry_of = short_entry g.K.ShortKeys.sort_keys in
    let rest = c.next.new.self in
    let left : c.loop-keys.keys-iterator ≡ c.in-Some.field-0.now ∷ rest = search rules in
    let is : c.new.result ≡ entry_of c.in-Some.field-0.now =
    c.new.ensures ∙ ap (λ keys. (keys, c.in-Some.field-0.now.1)) c.in_ok-widened.ensures in
    let whole = ap (λ l. c.loop-keys.entries.keys ++ map entry_of l) (sym left) ∙ c.loop-keys.invariant ∙ sym c.self.view_is in
    ap (λ (l : List RowEntry). l ++ map entry_of rest) c.in_ok-insert.ensures.keys
    ∙ insert-next entry_cmp entry_total entry_of c.loop-keys.entries.keys c.new.result c.in-Some.field-0.now rest
    c.self.inside.pairs.keys is whole
    (ascending-pairs g.K.Ord.cmp nat_cmp g.K.ShortKeys.sort_keys g.met.K.ShortKeys.ordered c.self.inside.pairs.keys _ refl
    c.len-size.ensures.ordered)
    ∙ c.self.view_is
