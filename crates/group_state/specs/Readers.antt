-- What is read from the rows of groups where they lie.
use Rattle.std.specs.Prelude.{List, Option}
use Rattle.std.specs.Option.{option_and_then, option_map}
use Rattle.values.specs.Datum.{Datum}
use Rattle.values.specs.declared.key.Key.{Key}
use Rattle.view_lang.specs.Outputs.{GroupOutput}
use Rattle.group_state.specs.Aggregates.{seen_row}
use Rattle.group_state.specs.GroupCounts.{GroupCounts}
use Rattle.group_state.specs.Grouped.{Grouped}
use Rattle.group_state.specs.Groups.{group_at}
use Rattle.group_state.specs.declared.accumulated_columns.AccumulatedColumn.{AccumulatedColumn}

-- what is read from the row that outputs show of a tuple's group: nothing where there is no such group
abbrev pub read_under :
    {X : Type 0} → (List Datum → Option X) → List AccumulatedColumn → List GroupOutput → List (List Key × GroupCounts)
    → List Key → Option X
read_under reads columns outs groups t =
    option_and_then reads (option_map (λ c. seen_row columns outs (t, c)) (group_at groups t))

-- the same of groups with their columns
abbrev pub read_at : {X : Type 0} → (List Datum → Option X) → List GroupOutput → Grouped → List Key → Option X
read_at reads outs g t = read_under reads g.columns outs g.groups t
