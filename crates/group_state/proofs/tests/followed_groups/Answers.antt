use Rattle.std.proofs.Common.{[], ap, arith, refl, sym, ◌∙◌}
use Rattle.std.specs.Prelude.{List, Some}
use Rattle.std.specs.Map.{values_of}
use Rattle.values.specs.Datum.{Datum}
use Rattle.view_lang.specs.Shifts.{NumberedRows, with_at}
use Rattle.group_state.specs.Groups.{Keeps}
use Rattle.group_state.proofs.SampleFits.{none-up, one-up, two-up}
use Rattle.group_state.proofs.tests.followed_groups.Goals as goal

pub come-requires : goal.come-requires
come-requires c = ([], (c.in_ok-groups.ensures.kept, omega arith))

pub come-requires-2 : goal.come-requires-2
come-requires-2 c =
    let x : List Datum = c.as_slice.result.now in
    let kept : Keeps c.come.new.self (values_of (with_at 0 (Some x) [])) =
    c.in_ok-come.ensures.kept [] 0 (none-up [] refl) refl c.in_ok-groups.ensures.kept in
    (with_at 0 (Some x) [], (kept, omega arith))

pub go-requires : goal.go-requires
go-requires c =
    let x : List Datum = c.as_slice.result.now in
    let y : List Datum = c.as_slice-2.result.now in
    let kept : Keeps c.come.new.self (values_of (with_at 0 (Some x) [])) =
    c.in_ok-come.ensures.kept [] 0 (none-up [] refl) refl c.in_ok-groups.ensures.kept in
    let rows : NumberedRows = with_at 1 (Some y) (with_at 0 (Some x) []) in
    let after : Keeps c.come-2.new.self (values_of rows) =
    c.in_ok-come-2.ensures.kept (with_at 0 (Some x) []) 1 (one-up x) refl kept in
    (rows, 0, (after, (two-up x y, ap Some (c.as_slice.ensures.value ∙ sym c.as_slice-3.ensures.value))))
