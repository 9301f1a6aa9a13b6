-- The limits of a configuration and of its table, each by its name.
use Rattle.std.specs.Prelude.{ℕ, ◌^◌}

-- columns of a declared table or view, and bytes of a column's name
abbrev pub max_columns : ℕ
max_columns = 64

abbrev pub max_column_name_len : ℕ
max_column_name_len = 255

abbrev pub max_feeds : ℕ
max_feeds = 16

abbrev pub max_views : ℕ
max_views = 32

-- rows of a table by all accepted appends and puts that aren't undone, removed ones too
abbrev pub max_appended_rows : ℕ
max_appended_rows = 2 ^ 62

abbrev pub max_sides : ℕ
max_sides = 4

-- rows of a side table
abbrev pub max_side_rows : ℕ
max_side_rows = 2 ^ 20

-- accepted edits that can be undone
abbrev pub max_undo_depth : ℕ
max_undo_depth = 64

-- digits of a decimal that is summed
abbrev pub max_sum_precision : ℕ
max_sum_precision = 28
