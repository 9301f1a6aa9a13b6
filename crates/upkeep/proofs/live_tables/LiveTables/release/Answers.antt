use Rattle.std.proofs.Common.{◌<◌, ◌∙◌, ap, length, subst, sym}
use Rattle.row_keys.specs.Slots.{AllOut}
use Rattle.upkeep.specs.LiveParts.{LiveParts}
use Rattle.upkeep.specs.Stores.{rows_at, rows_in, tables_in}
use Rattle.upkeep.specs.Stores.{released_at}
use Rattle.row_keys.specs.TableChanges.{restores}
use Rattle.upkeep.proofs.GoneRows.{live_released, out_there, rows_released, tables_same}
use Rattle.upkeep.proofs.live_tables.LiveTables.release.Goals as goal

pub release_replaced-requires : goal.release_replaced-requires
release_replaced-requires c =
    let below : c.args.table < length c.self.inside.stores.items =
    subst (λ n. c.args.table < n) (ap (λ (p : LiveParts). length p.stores) (sym c.self.view_is)) c.requires.there in
    let P : LiveParts → Type 0 = λ p. AllOut (restores c.args.change.now) (rows_at (rows_in p.stores) c.args.table) in
    out_there c.self.inside.stores.items c.args.table c.index_mut.result.now (restores c.args.change.now)
    c.index_mut.ensures.value below (subst P (sym c.self.view_is) c.requires.out)

below_there : (c : goal.After-self-1) → c.args.table < length c.self.inside.stores.items
below_there c =
    subst (λ n. c.args.table < n) (ap (λ (p : LiveParts). length p.stores) (sym c.self.view_is)) c.requires.there

all_out : (c : goal.After-self-1)
    → AllOut (restores c.args.change.now) (rows_at (rows_in c.self.inside.stores.items) c.args.table)
all_out c =
    let P : LiveParts → Type 0 = λ p. AllOut (restores c.args.change.now) (rows_at (rows_in p.stores) c.args.table) in
    subst P (sym c.self.view_is) c.requires.out

pub invariant_of-self : goal.invariant_of-self
invariant_of-self c =
    live_released c.numbers_law.ensures.released c.self.inside.stores.items c.args.table c.index_mut.result.now
    c.release_replaced.new.self (restores c.args.change.now) c.index_mut.ensures.value (below_there c) (all_out c)
    c.release_replaced.ensures c.self.inside.views.items c.self.inside.states.items c.self.invariant

pub returns-clause-rows : goal.returns-clause-rows
returns-clause-rows c =
    rows_released c.numbers_law.ensures.released c.self.inside.stores.items c.args.table c.index_mut.result.now
    c.release_replaced.new.self (restores c.args.change.now) c.index_mut.ensures.value (below_there c) (all_out c)
    c.release_replaced.ensures
    ∙ ap (λ (p : LiveParts). released_at c.args.table (restores c.args.change.now) (rows_in p.stores)) c.self.view_is

pub returns-clause-tables : goal.returns-clause-tables
returns-clause-tables c =
    tables_same c.numbers_law.ensures.released c.self.inside.stores.items c.args.table c.index_mut.result.now
    c.release_replaced.new.self (restores c.args.change.now) c.index_mut.ensures.value (below_there c) (all_out c)
    c.release_replaced.ensures
    ∙ ap (λ (p : LiveParts). tables_in p.stores) c.self.view_is
