use Rattle.std.proofs.Common.{ℕ, ◌≤◌, List, ap, arith, length, refl, subst, sym, ◌∙◌}
use Rattle.std.specs.List.Sorted.{IsStrictlySortedBy}
use Rattle.std.specs.Ordering.{nat_cmp}
use Rattle.lookups.specs.Refers.{is_among}
use Rattle.view_lang.specs.Images.{image}
use Rattle.row_keys.specs.Numbered.{numbered}
use Rattle.row_keys.specs.Slots.{Slot, live}
use Rattle.upkeep.specs.Inputs.{side_by}
use Rattle.upkeep.specs.Stores.{Rows, rows_at, rows_in, tables_in}
use Rattle.upkeep.specs.StoreLaws.{rows_length, rows_there}
use Rattle.upkeep.specs.ViewStates.{AreLinks, IsBefore, IsCurrent, IsCurrentWith, KeepsLinks, link_row, swapped_at}
use Rattle.upkeep.specs.declared.view_state.Links.{Links}
use Rattle.upkeep.proofs.FollowedLookups.{
  AreFound,
  Laws,
  counted,
  current_without,
  is_seen,
  left_as_was,
  looked_side,
  on_ok,
  on_ok_two,
  refer_all,
  remade_kept,
  remake_needs,
  there,
}
use Rattle.upkeep.proofs.FollowedRows.{links_stay}
use Rattle.upkeep.proofs.lookup_views.follow_lookup.Goals as goal
use Rattle.upkeep.proofs.lookup_views.follow_lookup.Goals.{After-deref, In-SubGroups}

pub returns-then-state-looks_up-clause-kept : goal.returns-then-state-looks_up-clause-kept
returns-then-state-looks_up-clause-kept c = λ old before current.
    left_as_was (tables_in c.args.stores.now.items) c.args.table c.args.turn c.args.change.now old
    (rows_in c.args.stores.now.items) c.args.view.now c.args.state.now c.requires.side c.looks_up.ensures
    c.if-state-looks_up.true before current

-- the branch of referrers
module _ (c : After-deref) where
  laws : Laws
  laws = record {
    fits = c.image_law.ensures.fits;
    at = c.image_law.ensures.at;
    keys = c.key_law.ensures.ordered;
    ascend = c.numbers_law.ensures.ascend;
    live = c.numbers_law.ensures.live;
    numbers = c.numbers_law.ensures.at;
    can_go = c.numbers_law.ensures.can_go;
    few = c.numbers_law.ensures.few_retracted;
  }

  found : AreFound (tables_in c.args.stores.now.items) c.args.table c.args.change.now
      (rows_in c.args.stores.now.items) c.args.view.now c.args.state.now c.args.keys.now c.deref.result.now
      c.in-Rows.referrers
  found =
      let seen = is_seen c.args.state.now.stale c.looks_up.ensures c.if-state-looks_up.false in
      let many = rows_length c.args.stores.now.items in
      record {
        side = c.requires.side;
        below = omega (arith, c.requires.there, many);
        looks = seen.1;
        fresh = seen.0;
        named = c.requires.keys;
        ascending =
            subst (λ (ns : List ℕ). IsStrictlySortedBy nat_cmp ns) (sym c.deref.ensures.value)
            c.in_ok-numbers-in-Rows.ensures.ascending;
        is = c.in-Rows.is;
        are = λ m. ap (λ ns. is_among ns m) c.deref.ensures.value ∙ c.in_ok-numbers-in-Rows.ensures.numbers m;
      }

pub remake_rows-requires : goal.remake_rows-requires
remake_rows-requires c =
    let place = (goal.at.remake_rows-requires c).After-deref in
    let before = c.requires.current in
    let few : length (live (rows_at (rows_in c.args.stores.now.items) 0)) ≤ c.index.result.now.table.max_rows =
    subst (λ (slots : List Slot). length (live slots) ≤ c.index.result.now.table.max_rows)
    (sym (rows_there c.args.stores.now.items 0 c.index.result.now c.index.ensures c.requires.main))
    c.rows_law.ensures.few in
    record {
      main = c.requires.main;
      there = c.requires.there;
      side =
          looked_side (tables_in c.args.stores.now.items) c.args.view.now.lookup c.args.table c.requires.view.lookup
          (found place).looks;
      swaps = c.requires.swaps;
      numbers = there (laws place) c.args.turn (found place) before.0 before.1 before.2;
      refer = refer_all (laws place) c.args.turn (found place) before.0 before.1 before.2;
      fits =
          remake_needs (laws place) c.args.turn (found place) before.0 before.1 before.2 c.index.result.now.table
          c.rows_law.ensures.table few;
    }

pub returns-in_ok-numbers-in-Rows-clause-visits : goal.returns-in_ok-numbers-in-Rows-clause-visits
returns-in_ok-numbers-in-Rows-clause-visits c =
    let place = (goal.at.returns-in_ok-numbers-in-Rows-clause-visits c).After-deref in
    let opened = c.remake_rows.ensures.visits in
    let less = counted (laws place) c.args.turn (found place) c.requires.current.0 c.requires.current.1
    c.requires.current.2 in
    omega (arith, opened, less)

pub returns-in_ok-numbers-in-Rows-clause-kept : goal.returns-in_ok-numbers-in-Rows-clause-kept
returns-in_ok-numbers-in-Rows-clause-kept c =
    let place = (goal.at.returns-in_ok-numbers-in-Rows-clause-kept c).After-deref in
    on_ok _ _ c.remake_rows.result
    (λ kept old before current.
    remade_kept (laws place) c.args.turn (found place) old before current
    (record { stale = c.args.state.now.stale; kept = c.remake_rows.new.kept; links = c.args.state.now.links })
    refl kept)
    c.remake_rows.ensures.kept

-- the branch of sub-groups: what was stored is that of the rows without the change
was : (c : In-SubGroups) (old : Rows)
    → IsBefore c.args.table c.args.turn c.args.change.now old (rows_in c.args.stores.now.items)
    → IsCurrentWith (tables_in c.args.stores.now.items) old c.args.view.now c.args.state.now
    → IsCurrent (tables_in c.args.stores.now.items) c.args.view.now
    (side_by (tables_in c.args.stores.now.items)
    (swapped_at c.args.table c.args.turn c.args.change.now (rows_in c.args.stores.now.items)) c.args.view.now)
    c.args.state.now (numbered (rows_at (rows_in c.args.stores.now.items) 0))
was c old before current =
    current_without (tables_in c.args.stores.now.items) c.args.table c.args.turn c.args.change.now old
    (rows_in c.args.stores.now.items) c.args.view.now c.args.state.now c.requires.side before current

pub move_sub_groups-requires : goal.move_sub_groups-requires
move_sub_groups-requires c =
    let place = (goal.at.move_sub_groups-requires c).In-SubGroups in
    let before = c.requires.current in
    let seen = is_seen c.args.state.now.stale c.looks_up.ensures c.if-state-looks_up.false in
    let kept = was place before.0 before.1 before.2 seen.0 in
    record {
      view = c.requires.view;
      main = c.requires.main;
      side = c.requires.side;
      there = c.requires.there;
      looks = seen.1;
      swaps = c.requires.swaps;
      right =
          subst (AreLinks (tables_in c.args.stores.now.items) c.args.view.now c.args.state.now.kept) c.in-SubGroups.is
          kept.1.0;
      kept = kept.0;
      links =
          subst (λ (l : Links). KeepsLinks l (image (link_row l c.args.view.now)
          (numbered (rows_at (rows_in c.args.stores.now.items) 0)))) c.in-SubGroups.is kept.1.1;
    }

pub returns-in-SubGroups-clause-kept : goal.returns-in-SubGroups-clause-kept
returns-in-SubGroups-clause-kept c =
    let place = (goal.at.returns-in-SubGroups-clause-kept c).In-SubGroups in
    on_ok_two _ _ _ c.move_sub_groups.result
    (λ kept columns old before current still.
    let links = (was place old before current still).1 in (
      kept,
      (
        links_stay (tables_in c.args.stores.now.items) c.args.view.now c.args.state.now.kept c.move_sub_groups.new.kept
            c.args.state.now.links c.args.state.now.links columns refl links.0,
        links.1,
      ),
    ))
    c.move_sub_groups.ensures.kept c.move_sub_groups.ensures.columns
