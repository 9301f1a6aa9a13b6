-- Which views can be kept by sub-groups.
use Rattle.std.specs.Prelude.{◌&&◌, ℕ, Bool, false, not, List, Option, None, Some, nat_lt}
use Rattle.std.specs.List.{list_any}
use Rattle.view_lang.specs.Aggregates.{column_read}
use Rattle.view_lang.specs.Config.{View}
use Rattle.view_lang.specs.Filter.{Filter}
use Rattle.view_lang.specs.Outputs.{GroupOutput, Outputs, columns, groups}
use Rattle.view_lang.specs.declared.aggregate.Aggregate.{Aggregate}
use Rattle.view_lang.specs.declared.view.Lookup.{Lookup}
use Rattle.group_state.specs.Aggregates.{AreReadBy}
use Rattle.group_state.specs.declared.accumulated_columns.AccumulatedColumn.{AccumulatedColumn}
use Rattle.sub_groups.specs.FilterParts.{are_decided, conjuncts, is_main}
use Rattle.sub_groups.specs.SubGroups.{sub_keys}

-- whether a column isn't one of the main table, if there is one
abbrev pub is_side : ℕ → Option ℕ → Bool
is_side n None = false
is_side n (Some k) = not (is_main n k)

-- whether an output counts, sums or compares the values of a column that isn't the main table's
abbrev pub reads_side : ℕ → Aggregate → Bool
reads_side n a = is_side n (column_read a)

-- whether one of these outputs does
abbrev pub read_side : ℕ → List GroupOutput → Bool
read_side n outs = list_any (λ o. reads_side n o.aggregate) outs

abbrev pub moves_by : ℕ → Option Lookup → Option Filter → Outputs → Bool
moves_by n None filter outputs = false
moves_by n (Some l) filter (columns outputs) = false
moves_by n (Some l) filter (groups by outputs having) =
    nat_lt l.on n && (not (read_side n outputs) && are_decided n (sub_keys n l by) (conjuncts filter))

-- Whether a view moves rows of the main table, which has n columns, from group to group together where rows of the side
-- table change: it is one of groups, its outputs read columns of the main table alone, and each part of its filter
-- names none but such columns, or none but such in which rows that move together are alike.
abbrev pub is_moved : ℕ → View → Bool
is_moved n v = moves_by n v.lookup v.filter v.outputs

-- Groups with these outputs accumulate only columns that an output reads.
abbrev pub KeepRead : Outputs → List AccumulatedColumn → Type 0
KeepRead (columns outputs) kept = Unit {0}
KeepRead (groups by outputs having) kept = AreReadBy outputs kept
