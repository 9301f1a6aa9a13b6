use Rattle.std.proofs.Common.{◌≡◌, ◌<◌, ◌∙◌, All, List, [], ap, get_or, length, map, subst, sym, true, ℕ}
use Rattle.std.proofs.lemmas.Result.{IfOk-weaker}
use Rattle.body_writer.specs.RowRanges.{IsRange}
use Rattle.row_keys.specs.Slots.{no_slot, row_of}
use Rattle.row_keys.specs.Store.{Store}
use Rattle.row_keys.proofs.LiveRanges.{live_kept, live_mapped, live_wide}
use Rattle.row_keys.proofs.store.RowStore.visited_ranges.Goals as goal

pub ranges-requires : goal.ranges-requires
ranges-requires c =
    let P : Store → Type 0 = λ s. All (λ n. (get_or s.slots n no_slot).live ≡ true) c.args.visits.now in
    let A : List ℕ → Type 0 = λ ns. All (λ n. 0 < length (get_or c.self.inside.rows n [])) ns in
    subst A (sym c.numbers.ensures)
    (live_kept c.self.inside.table c.self.inside.rows c.self.inside.numbers c.self.invariant c.args.visits.now
    (subst P (sym c.self.view_is) c.requires))

pub returns-clause-rows : goal.returns-clause-rows
returns-clause-rows c =
    let P : Store → Type 0 = λ s. All (λ n. (get_or s.slots n no_slot).live ≡ true) c.args.visits.now in
    IfOk-weaker c.ranges-2.result _ _
    (λ ranges rows. rows ∙ ap (map (λ n. get_or c.self.inside.rows n [])) c.numbers.ensures
    ∙ live_mapped c.self.inside.table c.self.inside.rows c.self.inside.numbers c.self.invariant c.args.visits.now
    (subst P (sym c.self.view_is) c.requires)
    ∙ ap (λ (s : Store). map (row_of s.slots) c.args.visits.now) c.self.view_is)
    c.ranges-2.ensures.rows

pub returns-clause-ranges : goal.returns-clause-ranges
returns-clause-ranges c =
    let P : Store → Type 0 = λ s. All (λ n. (get_or s.slots n no_slot).live ≡ true) c.args.visits.now in
    let A : List ℕ → Type 0 = λ ns. All (λ n. length (get_or c.self.inside.rows n []) ≡ length c.self.inside.table.columns) ns in
    let wide = live_wide c.self.inside.table c.self.inside.rows c.self.inside.numbers c.self.invariant c.args.visits.now
    (subst P (sym c.self.view_is) c.requires) in
    IfOk-weaker c.ranges-2.result _ _
    (λ ranges sized. subst (λ (s : Store). All (IsRange (length s.table.columns)) ranges.items) c.self.view_is
    (sized (length c.self.inside.table.columns) (subst A (sym c.numbers.ensures) wide)))
    c.ranges-2.ensures.ranges
