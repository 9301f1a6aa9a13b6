use Rattle.std.proofs.Common.{◌≡◌, Bool, List, [], ◌∷◌, None, ap, false, get_or, map, not, refl, subst, sym, true, true≢false, ◌∙◌}
use Rattle.std.specs.Option.{option_copied, option_map}
use Rattle.view_lang.specs.Images.{shift_image}
use Rattle.row_keys.specs.Slots.{no_slot, row_of}
use Rattle.row_keys.specs.Store.{Store}
use Rattle.upkeep.specs.Arrivals.{DescribesRow, DescribesSome}
use Rattle.upkeep.specs.Inputs.{side_by}
use Rattle.upkeep.specs.Stores.{rows_at, rows_in, tables_in}
use Rattle.upkeep.specs.ViewStates.{IsMaterialized, KeepsLinks, link_row, projected_row, turned}
use Rattle.upkeep.specs.declared.view_state.Turn.TheVariants as turn
use Rattle.upkeep.proofs.ArrivalRows.{dropped_link, made_none}
use Rattle.upkeep.proofs.FollowedLookups.{on_ok}
use Rattle.upkeep.proofs.RowByRow.{dead_change, live_change, same_change, still_kept}
use Rattle.upkeep.proofs.follow.follow_number.Goals as goal

not_true : (b : Bool) → not b ≡ true → b ≡ false
not_true true h = absurd (true≢false (sym h))
not_true false h = refl

pub returns-then-is_gone-clause-kept : goal.returns-then-is_gone-clause-kept
returns-then-is_gone-clause-kept c = λ rows fits k.
    let v = c.args.view.now in
    let stores = c.args.stores.now.items in
    let slots = rows_at (rows_in stores) 0 in
    let make = projected_row v (side_by (tables_in stores) (rows_in stores) v) in
    let gone = c.is_gone.ensures.gone c.if-is_gone.true in
    let dead = subst (λ (ss : List Store). (get_or (rows_at (rows_in ss) 0) c.args.number no_slot).live ≡ false)
    c.deref.ensures.value gone.1 in
    still_kept (IsMaterialized v c.args.state.now.kept) (map (shift_image make) (turned c.args.turn slots
    (c.args.number ∷ []))) c.args.turn c.args.number None rows
    (dead_change make slots c.args.number c.args.turn gone.0 dead) refl fits k

pub returns-then-is_gone-clause-links : goal.returns-then-is_gone-clause-links
returns-then-is_gone-clause-links c = λ rows fits k.
    let v = c.args.view.now in
    let stores = c.args.stores.now.items in
    let slots = rows_at (rows_in stores) 0 in
    let make = link_row c.args.state.now.links v in
    let gone = c.is_gone.ensures.gone c.if-is_gone.true in
    let dead = subst (λ (ss : List Store). (get_or (rows_at (rows_in ss) 0) c.args.number no_slot).live ≡ false)
    c.deref.ensures.value gone.1 in
    still_kept (KeepsLinks c.args.state.now.links) (map (shift_image make) (turned c.args.turn slots
    (c.args.number ∷ []))) c.args.turn c.args.number None rows
    (dead_change make slots c.args.number c.args.turn gone.0 dead) refl fits k

-- A row that is known to be dropped

pub returns-then-drops-clause-kept : goal.returns-then-drops-clause-kept
returns-then-drops-clause-kept c =
    let v = c.args.view.now in
    let stores = c.args.stores.now.items in
    let slots = rows_at (rows_in stores) 0 in
    let make = projected_row v (side_by (tables_in stores) (rows_in stores) v) in
    let live = subst (λ (ss : List Store). c.args.turn ≡ turn.Go
    → (get_or (rows_at (rows_in ss) 0) c.args.number no_slot).live ≡ true)
    c.deref.ensures.value (c.is_gone.ensures.there c.if-is_gone.false) in
    let row = row_of slots c.args.number in
    let told : DescribesRow v c.in-Some.arrival c.args.index row =
    subst (λ o. DescribesSome v o c.args.index row) c.in-Some.is c.requires.known in
    let none = made_none v (side_by (tables_in stores) (rows_in stores) v) row
    (told.dropped (not_true _ (sym c.drops.ensures ∙ c.if-drops.true))) in
    on_ok _ _ c.turn_dropped.result
    (λ done rows fits k. still_kept (IsMaterialized v c.args.state.now.kept) (map (shift_image make)
    (turned c.args.turn slots (c.args.number ∷ []))) c.args.turn c.args.number (make row) rows
    (live_change make slots c.args.number c.args.turn live) none fits k)
    c.turn_dropped.ensures.kept

pub returns-then-drops-clause-links : goal.returns-then-drops-clause-links
returns-then-drops-clause-links c =
    let v = c.args.view.now in
    let stores = c.args.stores.now.items in
    let slots = rows_at (rows_in stores) 0 in
    let make = link_row c.args.state.now.links v in
    let live = subst (λ (ss : List Store). c.args.turn ≡ turn.Go
    → (get_or (rows_at (rows_in ss) 0) c.args.number no_slot).live ≡ true)
    c.deref.ensures.value (c.is_gone.ensures.there c.if-is_gone.false) in
    let row = row_of slots c.args.number in
    let told : DescribesRow v c.in-Some.arrival c.args.index row =
    subst (λ o. DescribesSome v o c.args.index row) c.in-Some.is c.requires.known in
    let dropped = dropped_link c.args.state.now.links v row (option_copied c.looked_up.result)
    (told.refers ∙ ap (option_map (λ d. d ∷ [])) (sym c.looked_up.ensures))
    (told.apart (not_true _ (sym c.drops.ensures ∙ c.if-drops.true))) in
    on_ok _ _ c.turn_dropped.result
    (λ turned_one. same_change (KeepsLinks c.args.state.now.links) (KeepsLinks c.turn_dropped.new.links) _ _
    (sym (live_change make slots c.args.number c.args.turn live))
    (turned_one (make row) dropped))
    c.turn_dropped.ensures.kept

pub turn_visited-requires-clause-live : goal.turn_visited-requires-clause-live
turn_visited-requires-clause-live c =
    subst (λ (ss : List Store). c.args.turn ≡ turn.Go
    → (get_or (rows_at (rows_in ss) 0) c.args.number no_slot).live ≡ true)
    c.deref.ensures.value (c.is_gone.ensures.there c.if-is_gone.false)
