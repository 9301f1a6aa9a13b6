-- The limits of this profile, each by its name.
use Rattle.std.specs.Prelude.{ℕ, ◌^◌, ◌-◌}

-- bytes of a message's metadata, and of its body
abbrev pub max_metadata_size : ℕ
max_metadata_size = 2 ^ 24

abbrev pub max_body_size : ℕ
max_body_size = 2 ^ 28

-- fields of a schema, at all levels together, and levels
abbrev pub max_fields : ℕ
max_fields = 1024

abbrev pub max_depth : ℕ
max_depth = 16

-- bytes of a field's name, and of a time zone
abbrev pub max_name_len : ℕ
max_name_len = 4096

-- digits of a decimal, and bytes of a value of FixedSizeBinary
abbrev pub max_precision : ℕ
max_precision = 38

abbrev pub max_fixed_width : ℕ
max_fixed_width = 65536

-- the weight of a null of a field's type, and how many values a dictionary may have
abbrev pub max_null_weight : ℕ
max_null_weight = 2 ^ 20

abbrev pub max_dictionary_values : ℕ
max_dictionary_values = 2 ^ 20

-- rows of a batch that is read, and slots of an array below its columns
abbrev pub max_batch_length : ℕ
max_batch_length = 2 ^ 24

abbrev pub max_node_length : ℕ
max_node_length = 2 ^ 31 - 1

-- rows that are recast
abbrev pub max_main_rows : ℕ
max_main_rows = 2 ^ 24

-- weights of a cell, and of a row
abbrev pub max_cell_weight : ℕ
max_cell_weight = 2 ^ 20

abbrev pub max_row_weight : ℕ
max_row_weight = 2 ^ 26

-- rows of a batch that is written, and their weights together
abbrev pub max_batch_rows : ℕ
max_batch_rows = 1024

abbrev pub max_batch_weight : ℕ
max_batch_weight = 2 ^ 27
