-- How a state follows changes of the rows that it was computed from.
use Rattle.std.specs.Prelude.{◌<◌, ◌≤◌, List, length}
use Rattle.values.specs.Limits.{max_main_rows}
use Rattle.view_lang.specs.Config.{View}
use Rattle.view_lang.specs.Limits.{max_appended_rows}
use Rattle.view_lang.specs.Shifts.{Fits, IsFew, NumberedRows, Shift, patched}
use Rattle.row_keys.specs.Store.{Store}
use Rattle.upkeep.specs.ViewStates.{AreCurrentFor, IsCurrentFor, IsMaterialized, KeepsLinks}
use Rattle.upkeep.specs.declared.view_state.Materialized.{Materialized}
use Rattle.upkeep.specs.declared.view_state.Links.{Links}
use Rattle.upkeep.specs.declared.view_state.ViewState.{ViewState}

-- A state follows a change: where it was that of rows that the change fits, it is that of the rows after it.
abbrev pub Follows : (NumberedRows → Type 0) → (NumberedRows → Type 0) → List Shift → Type 0
Follows was is change = (rows : NumberedRows) → Fits rows change → was rows → is (patched rows change)

-- The state can follow: it is that of some rows that the change fits, and there are few of both.
abbrev pub CanFollow : (NumberedRows → Type 0) → List Shift → Type 0
CanFollow keeps change = (rows : NumberedRows) × (keeps rows × (Fits rows change × IsFew rows change))

-- The same where the change is at one number: there are few rows.
abbrev pub CanTurn : (NumberedRows → Type 0) → List Shift → Type 0
CanTurn keeps change = (rows : NumberedRows) × (keeps rows × (Fits rows change × (length rows < max_appended_rows)))

-- The same of the rows of a main table: there are no more than it may have.
abbrev pub CanFollowMain : (NumberedRows → Type 0) → List Shift → Type 0
CanFollowMain keeps change = (rows : NumberedRows) × (keeps rows × (Fits rows change × (length rows ≤ max_main_rows)))

-- what is stored for a view's projected rows
abbrev pub MaterializedFollows : View → Materialized → Materialized → List Shift → Type 0
MaterializedFollows v old new change = Follows (IsMaterialized v old) (IsMaterialized v new) change

-- what links store
abbrev pub LinksFollow : Links → Links → List Shift → Type 0
LinksFollow old new change = Follows (KeepsLinks old) (KeepsLinks new) change

-- a view, and views
abbrev pub ViewFollows : List Store → View → ViewState → ViewState → List Shift → Type 0
ViewFollows stores v old new change = Follows (IsCurrentFor stores v old) (IsCurrentFor stores v new) change

abbrev pub ViewsFollow : List Store → List View → List ViewState → List ViewState → List Shift → Type 0
ViewsFollow stores views old new change =
    Follows (AreCurrentFor stores views old) (AreCurrentFor stores views new) change
