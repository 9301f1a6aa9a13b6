use Rattle.std.proofs.Common.{◌≡◌, ◌∙◌, All, ap, get_or, length, map, subst, sym, true}
use Rattle.std.specs.Prelude.{IfSome}
use Rattle.std.proofs.lemmas.Result.{IfOk-weaker}
use Rattle.body_writer.specs.Locations.{IsLocated}
use Rattle.row_keys.specs.Locations.{row_if}
use Rattle.row_keys.specs.Slots.{no_slot, row_of}
use Rattle.row_keys.specs.Store.{Store}
use Rattle.row_keys.proofs.LiveRanges.{live_kept_if, live_mapped_if, live_wide_if}
use Rattle.row_keys.proofs.store.RowStore.locations_if.Goals as goal

pub locations_if-requires : goal.locations_if-requires
locations_if-requires c =
    let P : Store → Type 0 = λ s. All (λ o. IfSome o (λ n. (get_or s.slots n no_slot).live ≡ true)) c.args.numbers.now in
    live_kept_if c.self.inside.table c.self.inside.rows c.self.inside.numbers c.self.invariant c.args.numbers.now
    (subst P (sym c.self.view_is) c.requires.live)

pub returns-clause-rows : goal.returns-clause-rows
returns-clause-rows c =
    let P : Store → Type 0 = λ s. All (λ o. IfSome o (λ n. (get_or s.slots n no_slot).live ≡ true)) c.args.numbers.now in
    IfOk-weaker c.locations_if.result _ _
    (λ found rows. rows
    ∙ live_mapped_if c.self.inside.table c.self.inside.rows c.self.inside.numbers c.self.invariant c.args.numbers.now
    (subst P (sym c.self.view_is) c.requires.live)
    ∙ ap (λ (s : Store). map (row_if (row_of s.slots)) c.args.numbers.now) c.self.view_is)
    c.locations_if.ensures.rows

pub returns-clause-placed : goal.returns-clause-placed
returns-clause-placed c =
    let P : Store → Type 0 = λ s. All (λ o. IfSome o (λ n. (get_or s.slots n no_slot).live ≡ true)) c.args.numbers.now in
    let wide = live_wide_if c.self.inside.table c.self.inside.rows c.self.inside.numbers c.self.invariant
    c.args.numbers.now (subst P (sym c.self.view_is) c.requires.live) in
    IfOk-weaker c.locations_if.result _ _
    (λ found placed.
    subst (λ (s : Store). All (IsLocated (length s.table.columns) found.batches.items) found.locations.items)
    c.self.view_is (placed (length c.self.inside.table.columns) wide))
    c.locations_if.ensures.placed
