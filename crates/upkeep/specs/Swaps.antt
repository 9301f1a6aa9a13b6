-- Changes of side tables that are hidden for a while, and shown again.
use Rattle.std.specs.Prelude.{List}
use Rattle.view_lang.specs.Config.{Table}
use Rattle.row_keys.specs.HiddenChanges.{IsHidden, hidden, shown}
use Rattle.row_keys.specs.Slots.{Slot}
use Rattle.row_keys.specs.TableChanges.{CanGoBack, IsChangeOf}
use Rattle.row_keys.specs.declared.table_change.TableChange.{TableChange}
use Rattle.upkeep.specs.declared.view_state.Turn.{Turn}
use Rattle.upkeep.specs.declared.view_state.Turn.TheVariants as turn

-- The change of a side table is made, or it is hidden; either can be turned into the other.
abbrev pub CanSwap : Turn → Table → TableChange → List Slot → Type 0
CanSwap turn.Come t c slots = IsChangeOf 1 c × CanGoBack t c slots
CanSwap turn.Go t c slots = IsChangeOf 1 c × IsHidden t c slots

abbrev pub swapped : Turn → TableChange → List Slot → List Slot
swapped turn.Come c slots = hidden c slots
swapped turn.Go c slots = shown c slots

abbrev pub opposite : Turn → Turn
opposite turn.Come = turn.Go
opposite turn.Go = turn.Come
