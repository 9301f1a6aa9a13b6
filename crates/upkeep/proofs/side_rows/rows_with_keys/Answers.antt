use Rattle.std.proofs.Common.{◌≡◌, List, map, subst, sym, true≢false}
use Rattle.std.specs.BTreeMap.{is_at}
use Rattle.std.specs.Map.{lookup}
use Rattle.std.specs.Prelude.{Some, cond}
use Rattle.std.proofs.lemmas.List.{take_all}
use Rattle.lookups.specs.Refers.{key_cmp}
use Rattle.values.specs.Keys.{datum_of_key}
use Rattle.values.specs.declared.key.Key.{Key}
use Rattle.view_lang.specs.Contents.{is_among}
use Rattle.view_lang.specs.Joined.{side_of}
use Rattle.row_keys.specs.Slots.{contents_of}
use Rattle.upkeep.specs.SideRows.{AreOfKeys}
use Rattle.upkeep.proofs.SidesByKey.{one_more}
use Rattle.upkeep.proofs.side_rows.rows_with_keys.Goals as goal

pub loop-key-init : goal.loop-key-init
unfolding is_among
loop-key-init c = λ d among. absurd (true≢false (sym among))

pub loop-key-preserved : goal.loop-key-preserved
loop-key-preserved c =
    let side = side_of c.args.store.now.table (contents_of c.args.store.now.slots) in
    one_more c.key_law.ensures.ordered side c.loop-key.rows.entries c.insert.new.self.entries c.key-item.result
    c.in_ok-row.row c.in_ok-row.ensures
    (λ q. subst (λ (k : Key). lookup (is_at (key_cmp q)) c.insert.new.self.entries
    ≡ cond (is_at (key_cmp k) q) (Some c.in_ok-row.row) (lookup (is_at (key_cmp q)) c.loop-key.rows.entries))
    c.in_ok-copy.ensures (c.in_ok-insert.ensures.updates.0 q))
    c.args.keys.now c.loop-key.key-index c.loop-key-test.true c.key-item.is c.loop-key.invariant

pub returns : goal.returns
returns c =
    subst (λ (ks : List Key). AreOfKeys (map datum_of_key ks)
    (side_of c.args.store.now.table (contents_of c.args.store.now.slots)) c.loop-key.rows.entries)
    (take_all c.loop-key.key-index c.args.keys.now c.loop-key-test.false) c.loop-key.invariant
