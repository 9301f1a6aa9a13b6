use Rattle.std.proofs.Common.{◌∙◌, Some, ap}
use Rattle.std.specs.Option.{option_map}
use Rattle.view_lang.specs.Joined.{Side}
use Rattle.view_lang.specs.Views.{side_in}
use Rattle.upkeep.specs.Stores.{rows_in, tables_in, world_of}
use Rattle.upkeep.proofs.MovedSubGroups.{joined_alone, joined_left, joined_more}
use Rattle.upkeep.proofs.sub_group_moves.joined.Goals as goal

pub returns-in_default : goal.returns-in_default
returns-in_default c =
    let side : Side = side_in (tables_in c.args.stores.now) (world_of (rows_in c.args.stores.now)) c.args.lookup in
    joined_alone c.args.lookup side c.args.row.items c.in_default.is

pub returns-in_default-2 : goal.returns-in_default-2
returns-in_default-2 c =
    let side : Side = side_in (tables_in c.args.stores.now) (world_of (rows_in c.args.stores.now)) c.args.lookup in
    joined_left c.in-Some.lookup c.args.lookup side c.args.row.items c.in_ok-side.side
    (option_map (λ cells. cells.items) c.in_ok-cells.field-0) c.in-Some.is
    (rw (c.as_slice.ensures.value) at c.in_ok-side.ensures) c.in_ok-cells.ensures
    (ap (option_map (λ cells. cells.items)) c.in_default-2.is)

pub returns : goal.returns
returns c =
    let side : Side = side_in (tables_in c.args.stores.now) (world_of (rows_in c.args.stores.now)) c.args.lookup in
    ap Some c.in_ok-extend.ensures
    ∙ joined_more c.in-Some.lookup c.args.lookup side c.args.row.items c.in-Some-2.cells.items c.in_ok-side.side
    (option_map (λ cells. cells.items) c.in_ok-cells.field-0) c.in-Some.is
    (rw (c.as_slice.ensures.value) at c.in_ok-side.ensures) c.in_ok-cells.ensures
    (ap (option_map (λ cells. cells.items)) c.in-Some-2.is)
