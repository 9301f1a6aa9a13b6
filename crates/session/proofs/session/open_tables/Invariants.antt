use Rattle.std.proofs.Common.{◌≡◌, ◌++◌, All, length, map}
use Rattle.std.specs.Prelude.{string_bytes}
use Rattle.std.specs.Vec.Iter.{into_iter_items, into_iter_len}
use Rattle.view_lang.specs.Config.{SideTable}
use Rattle.view_lang.specs.TableRules.{IsTable}
use Rattle.row_keys.specs.Store.{no_rows}
use Rattle.session.proofs.session.open_tables.Given as goal

abbrev pub invariant-loop-side : goal.invariant-loop-side
invariant-loop-side l =
    (l.yielded ++ into_iter_items l.side-iterator ≡ into_iter_items l.initial.side-iterator)
    × (map string_bytes l.names.items ≡ map (λ (s : SideTable). s.name) l.yielded)
    × (l.stores.items ≡ l.initial.stores.items ++ map (λ (s : SideTable). no_rows s.table) l.yielded)
    × All (λ (s : SideTable). IsTable s.table) (into_iter_items l.side-iterator)
    × (into_iter_len l.side-iterator ≡ length (into_iter_items l.side-iterator))
