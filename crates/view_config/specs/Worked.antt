-- Worked configurations: what each means, and texts with one fault each.
use Rattle.std.specs.Prelude.{codes, ◌≡◌, ℕ, zero, suc, pos, neg_ℤ, ◌^◌, ◌-◌, true, false, Some, None, Err, List, []}
use Rattle.std.specs.Prelude.{◌∷◌, ◌++◌}
use Rattle.toml.specs.Data.{integer, string}
use Rattle.values.specs.Datum.{bytes, whole}
use Rattle.values.specs.Limits.{max_main_rows}
use Rattle.values.specs.Reading.{IsValid, one}
use Rattle.values.specs.declared.layout.IntWidth.TheVariants as int
use Rattle.values.specs.declared.layout.OffsetWidth.TheVariants as offset
use Rattle.values.specs.declared.col_type.ColType.{ColType}
use Rattle.values.specs.declared.col_type.ColType.TheVariants as col
use Rattle.view_lang.specs.Config.{Config, Table, View}
use Rattle.view_lang.specs.Limits.{max_side_rows}
use Rattle.view_lang.specs.Outputs.{Output, columns}
use Rattle.view_lang.specs.declared.config.Role.TheVariants as role
use Rattle.view_lang.specs.declared.aggregate.Aggregate.TheVariants as aggregate
use Rattle.view_lang.specs.declared.view.Direction.TheVariants as direction
use Rattle.view_lang.specs.declared.view.Missing.TheVariants as missing
use Rattle.view_config.specs.ColumnTypes.{leaf}
use Rattle.view_config.specs.Config.{config_by, text_means}
use Rattle.view_config.specs.Constants.{constant_in}
use Rattle.view_config.specs.Feeds.{feed_named}
use Rattle.view_config.specs.Outputs.{all_groups, group_output_named, output_named}
use Rattle.view_config.specs.Sides.{side_named}
use Rattle.view_config.specs.Tables.{keyed}
use Rattle.view_config.specs.Views.{sorted_by, view_named}
use Rattle.view_config.specs.declared.faults.ConfigFault.{ConfigFault}
use Rattle.view_config.specs.declared.faults.ConfigFault.TheVariants as fault

abbrev int64 : ColType
int64 = col.Int int.Bits64 true

abbrev utf8 : ColType
utf8 = col.Utf8 offset.Bits32

-- lines of a text
abbrev lines : List (List ℕ) → List ℕ
lines [] = []
lines (l ∷ ls) = l ++ (codes "\n" ++ lines ls)

-- Amounts in groups, to which rows are added and from which they are removed, and a view of all of them.
abbrev pub amounts_text : List ℕ
amounts_text = lines (
    codes "[main]"
    ∷ codes "key = \"id\""
    ∷ codes "columns = [[\"id\", \"int64\"], [\"grp\", \"utf8\"], [\"amt\", \"int64\"]]"
    ∷ codes "[feed.add]"
    ∷ codes "role = \"append\""
    ∷ codes "[feed.del]"
    ∷ codes "role = \"retract\""
    ∷ codes "[view.rows]"
    ∷ codes "columns = [[\"id\", \"col\", \"id\"], [\"grp\", \"col\", \"grp\"], [\"amt\", \"col\", \"amt\"]]"
    ∷ [])

-- a view that shows columns of each row
abbrev plain : List ℕ → List Output → View
plain name outputs = view_named name None None (columns outputs) [] [] None

abbrev pub amounts : Config
amounts =
    config_by
    (keyed max_main_rows (leaf (codes "id") int64 ∷ leaf (codes "grp") utf8 ∷ leaf (codes "amt") int64 ∷ []) 0) []
    (feed_named (codes "add") role.Append ∷ feed_named (codes "del") role.Retract ∷ [])
    (plain (codes "rows")
    (output_named (codes "id") 0 ∷ output_named (codes "grp") 1 ∷ output_named (codes "amt") 2 ∷ []) ∷ [])

-- Pairs of numbers, to which rows are added, and a view of all of them.
abbrev pub pairs_text : List ℕ
pairs_text = lines (
    codes "[main]"
    ∷ codes "key = \"k\""
    ∷ codes "columns = [[\"k\", \"int64\"], [\"v\", \"int64\"]]"
    ∷ codes "[feed.add]"
    ∷ codes "role = \"append\""
    ∷ codes "[view.t]"
    ∷ codes "columns = [[\"k\", \"col\", \"k\"], [\"v\", \"col\", \"v\"]]"
    ∷ [])

abbrev pub pairs : Config
pairs =
    config_by (keyed max_main_rows (leaf (codes "k") int64 ∷ leaf (codes "v") int64 ∷ []) 0) []
    (feed_named (codes "add") role.Append ∷ [])
    (plain (codes "t") (output_named (codes "k") 0 ∷ output_named (codes "v") 1 ∷ []) ∷ [])

-- Amounts in groups, of which each is in a zone: a lookup, groups, an order, a view of one row. Entries are in the
-- order of their names.
abbrev pub zones_text : List ℕ
zones_text = lines (
    codes "[main]"
    ∷ codes "key = \"id\""
    ∷ codes "columns = [[\"id\", \"int64\"], [\"grp\", \"utf8\"], [\"amt\", \"int64\"]]"
    ∷ codes "[side.zones]"
    ∷ codes "key = \"grp\""
    ∷ codes "columns = [[\"grp\", \"utf8\"], [\"zone\", \"utf8\"]]"
    ∷ codes "[feed.add]"
    ∷ codes "role = \"append\""
    ∷ codes "[feed.del]"
    ∷ codes "role = \"retract\""
    ∷ codes "[feed.put]"
    ∷ codes "role = \"put\""
    ∷ codes "side = \"zones\""
    ∷ codes "[feed.cut]"
    ∷ codes "role = \"drop\""
    ∷ codes "side = \"zones\""
    ∷ codes "[view.top]"
    ∷ codes "columns = [[\"id\", \"col\", \"id\"], [\"amt\", \"col\", \"amt\"]]"
    ∷ codes "order = [[\"amt\", \"asc\"]]"
    ∷ codes "first = 2"
    ∷ codes "[view.sums]"
    ∷ codes "group = [\"grp\"]"
    ∷ codes "columns = [[\"grp\", \"col\", \"grp\"], [\"n\", \"count\"],"
    ∷ codes "  [\"s\", \"sum\", \"amt\"], [\"hi\", \"greatest\", \"amt\"]]"
    ∷ codes "[view.zone]"
    ∷ codes "lookup = { side = \"zones\", on = \"grp\", missing = \"drop\" }"
    ∷ codes "group = [[\"side\", \"zone\"]]"
    ∷ codes "columns = [[\"zone\", \"col\", [\"side\", \"zone\"]], [\"n\", \"count\"]]"
    ∷ codes "[view.all]"
    ∷ codes "group = []"
    ∷ codes "columns = [[\"n\", \"count\"], [\"s\", \"sum\", \"amt\"]]"
    ∷ [])

abbrev zones_table : Table
zones_table = keyed max_side_rows (leaf (codes "grp") utf8 ∷ leaf (codes "zone") utf8 ∷ []) 0

abbrev all_view : View
all_view =
    view_named (codes "all") None None
    (all_groups []
    (group_output_named (codes "n") aggregate.Count ∷ group_output_named (codes "s") (aggregate.Sum 2) ∷ [])) [] [] None

abbrev sums_view : View
sums_view =
    view_named (codes "sums") None None
    (all_groups (1 ∷ [])
    (group_output_named (codes "grp") (aggregate.Key 0) ∷ group_output_named (codes "n") aggregate.Count
    ∷ group_output_named (codes "s") (aggregate.Sum 2) ∷ group_output_named (codes "hi") (aggregate.Greatest 2) ∷ []))
    [] [] None

abbrev top_view : View
top_view =
    view_named (codes "top") None None (columns (output_named (codes "id") 0 ∷ output_named (codes "amt") 2 ∷ []))
    (sorted_by direction.Ascending 1 ∷ []) [] (Some 2)

-- The columns of the side table come after the three of the main table.
abbrev zone_view : View
zone_view =
    view_named (codes "zone") (Some (record { side = 0; on = 1; missing = missing.Drop; columns = 2 })) None
    (all_groups (4 ∷ [])
    (group_output_named (codes "zone") (aggregate.Key 0) ∷ group_output_named (codes "n") aggregate.Count ∷ [])) []
    [] None

abbrev pub zones : Config
zones =
    config_by
    (keyed max_main_rows (leaf (codes "id") int64 ∷ leaf (codes "grp") utf8 ∷ leaf (codes "amt") int64 ∷ []) 0)
    (side_named (codes "zones") zones_table ∷ [])
    (feed_named (codes "add") role.Append ∷ feed_named (codes "cut") (role.Drop 0)
    ∷ feed_named (codes "del") role.Retract ∷ feed_named (codes "put") (role.Put 0) ∷ [])
    (all_view ∷ sums_view ∷ top_view ∷ zone_view ∷ [])

-- A view of two texts and a number, of which the texts are written with dictionaries.
abbrev pub texts_text : List ℕ
texts_text = lines (
    codes "[main]"
    ∷ codes "key = \"id\""
    ∷ codes "columns = [[\"id\", \"int64\"], [\"x\", \"utf8\"], [\"y\", \"utf8\"]]"
    ∷ codes "[view.t]"
    ∷ codes "columns = [[\"a\", \"col\", \"x\"], [\"i\", \"col\", \"id\"], [\"b\", \"col\", \"y\"]]"
    ∷ codes "dict = [\"b\", \"a\"]"
    ∷ [])

abbrev pub texts : Config
texts =
    config_by
    (keyed max_main_rows (leaf (codes "id") int64 ∷ leaf (codes "x") utf8 ∷ leaf (codes "y") utf8 ∷ []) 0) [] []
    (view_named (codes "t") None None
    (columns (output_named (codes "a") 1 ∷ output_named (codes "i") 0 ∷ output_named (codes "b") 2 ∷ [])) []
    (0 ∷ 2 ∷ [])
    None ∷ [])

-- a text that is refused for this cause and for no other
abbrev pub HasFault : List ℕ → ConfigFault → Type 0
HasFault text c = text_means text ≡ Err (one c)

-- a main table with this key, and these columns
abbrev main_text : List ℕ → List ℕ → List ℕ
main_text key fields =
    lines (codes "[main]" ∷ (codes "key = \"" ++ (key ++ codes "\"")) ∷ (codes "columns = [" ++ (fields ++ codes "]"))
    ∷ [])

-- one with a key column `id`, and another of this type
abbrev with_column : List ℕ → List ℕ
with_column t = main_text (codes "id") (codes "[\"id\", \"int64\"], [\"x\", " ++ (t ++ codes "]"))

-- one with further lines, and one with a view that has these outputs
abbrev with_lines : List (List ℕ) → List ℕ
with_lines ls = with_column (codes "\"utf8\"") ++ lines ls

abbrev with_view : List ℕ → List ℕ
with_view outputs = with_lines (codes "[view.v]" ∷ (codes "columns = [" ++ (outputs ++ codes "]")) ∷ [])

-- a main table with columns of many types, a side table, and a view with these lines
abbrev many : List (List ℕ) → List ℕ
many ls =
    lines (codes "[main]" ∷ codes "key = \"id\""
    ∷ codes "columns = [[\"id\", \"int64\"], [\"b\", \"int8\"], [\"d\", [\"decimal\", 6, 2]],"
    ∷ codes "  [\"l\", [\"list\", \"utf8\"]], [\"w\", [\"decimal\", 29, 0]], [\"x\", \"utf8\"]]"
    ∷ codes "[side.z]" ∷ codes "key = \"k\"" ∷ codes "columns = [[\"k\", \"utf8\"], [\"v\", \"int64\"]]"
    ∷ codes "[view.v]" ∷ ls)

-- one that shows a column, with a line more
abbrev shows : List ℕ → List ℕ
shows line = many (line ∷ codes "columns = [[\"a\", \"col\", \"id\"], [\"c\", \"col\", \"l\"]]" ∷ [])

-- one that shows a number and a text, with a line more
abbrev shows_text : List ℕ → List ℕ
shows_text line = many (line ∷ codes "columns = [[\"a\", \"col\", \"id\"], [\"t\", \"col\", \"x\"]]" ∷ [])

-- one of all rows, which shows their number and the least text, with a line more
abbrev with_count : List ℕ → List ℕ
with_count line =
    many (line ∷ codes "group = []" ∷ codes "columns = [[\"n\", \"count\"], [\"l\", \"least\", \"x\"]]" ∷ [])

abbrev filtered : List ℕ → List ℕ
filtered f = shows (codes "filter = " ++ f)

-- one grouped by these columns, which shows this
abbrev grouped : List ℕ → List ℕ → List ℕ
grouped by outputs = many ((codes "group = " ++ by) ∷ (codes "columns = [" ++ (outputs ++ codes "]")) ∷ [])

-- one grouped by a text, with its number of rows and of distinct decimals, of which these are shown
abbrev with_having : List ℕ → List ℕ
with_having f =
    many (codes "group = [\"x\"]"
    ∷ codes "columns = [[\"x\", \"col\", \"x\"], [\"n\", \"count\"], [\"d\", \"distinct\", \"d\"]]"
    ∷ (codes "having = " ++ f) ∷ [])

-- a test inside n negations
abbrev within : ℕ → List ℕ
within zero = codes "[\"is_null\", \"x\"]"
within (suc n) = codes "[\"not\", " ++ (within n ++ codes "]")

-- n tests and one more, as the last parts of an array
abbrev tests : ℕ → List ℕ
tests zero = codes "[\"is_null\", \"x\"]]"
tests (suc n) = codes "[\"is_null\", \"x\"], " ++ tests n

abbrev any_of : ℕ → List ℕ
any_of n = codes "[\"or\", " ++ tests n

-- 16 children of a struct that weigh more than 2^20 together
abbrev wide_child : ℕ → List ℕ
wide_child c = codes ", [\"" ++ (c ∷ codes "\", [\"fixed\", 65536]]")

abbrev wide : List ℕ → List ℕ
wide [] = []
wide (c ∷ cs) = wide_child c ++ wide cs

pub record FaultsAreFound : Type 0 where
  pub not_toml : HasFault (codes "[main\n") fault.NotToml
  pub unknown_key : HasFault (main_text (codes "ix") (codes "[\"id\", \"int64\"]")) fault.UnknownName
  pub unknown_column : HasFault (with_view (codes "[\"a\", \"col\", [\"main\", \"y\"]]")) fault.UnknownName
  pub no_side : HasFault (with_view (codes "[\"a\", \"col\", [\"side\", \"x\"]]")) fault.UnknownName
  pub twice : HasFault (main_text (codes "id") (codes "[\"id\", \"int64\"], [\"id\", \"utf8\"]")) fault.DuplicateColumn
  pub child_twice :
      HasFault (with_column (codes "[\"struct\", [\"a\", \"bool\"], [\"a\", \"bool\"]]")) fault.DuplicateColumn
  pub output_twice :
      HasFault (with_view (codes "[\"a\", \"col\", \"x\"], [\"a\", \"col\", \"id\"]")) fault.DuplicateColumn
  pub no_type : HasFault (with_column (codes "\"int65\"")) fault.TypeText
  pub precision : HasFault (with_column (codes "[\"decimal\", 39, 0]")) fault.TypeText
  pub scale : HasFault (with_column (codes "[\"decimal\", 5, 6]")) fault.TypeText
  pub empty_zone : HasFault (with_column (codes "[\"timestamp\", \"us\", \"\"]")) fault.TypeText
  pub wide_fixed : HasFault (with_column (codes "[\"fixed\", 65537]")) fault.TypeText
  pub list_as_key : HasFault (main_text (codes "id") (codes "[\"id\", [\"list\", \"utf8\"]]")) fault.OrderType
  pub no_columns : HasFault (main_text (codes "id") []) fault.OverLimit
  pub empty_name : HasFault (with_view (codes "[\"\", \"col\", \"x\"]")) fault.OverLimit
  pub heavy :
      HasFault (with_column (codes "[\"struct\"" ++ (wide (codes "abcdefghijklmnop") ++ codes "]"))) fault.OverLimit
  pub no_main : HasFault [] fault.Shape
  pub misspelt : HasFault (lines (codes "[main]" ∷ codes "key = \"id\"" ∷ codes "colums = []" ∷ [])) fault.Shape
  pub other_entry : HasFault (with_lines (codes "[table.zones]" ∷ [])) fault.Shape
  pub other_role : HasFault (with_lines (codes "[feed.add]" ∷ codes "role = \"merge\"" ∷ [])) fault.Shape
  pub side_of_append :
      HasFault (with_lines (codes "[feed.add]" ∷ codes "role = \"append\"" ∷ codes "side = \"z\"" ∷ [])) fault.Shape
  pub other_word : HasFault (with_view (codes "[\"n\", \"count\"]")) fault.Shape
  pub other_name : HasFault (with_lines (codes "[feed.\"a b\"]" ∷ codes "role = \"append\"" ∷ [])) fault.Shape
  pub put_without_side : HasFault (with_lines (codes "[feed.add]" ∷ codes "role = \"put\"" ∷ [])) fault.Shape
  pub put_to_no_side :
      HasFault (with_lines (codes "[feed.add]" ∷ codes "role = \"put\"" ∷ codes "side = \"z\"" ∷ []))
      fault.UnknownName
  pub lookup_in_no_side :
      HasFault (shows (codes "lookup = { side = \"y\", on = \"x\", missing = \"null\" }")) fault.UnknownName
  pub lookup_of_another_type :
      HasFault (shows (codes "lookup = { side = \"z\", on = \"id\", missing = \"null\" }")) fault.ConstantType
  pub lookup_of_list :
      HasFault (shows (codes "lookup = { side = \"z\", on = \"l\", missing = \"null\" }")) fault.OrderType
  pub other_missing :
      HasFault (shows (codes "lookup = { side = \"z\", on = \"x\", missing = \"keep\" }")) fault.Shape
  pub lookup_entry :
      HasFault (shows (codes "lookup = { side = \"z\", on = \"x\", missing = \"null\", as = \"y\" }")) fault.Shape
  pub side_without_lookup : HasFault (filtered (codes "[\"is_null\", [\"side\", \"v\"]]")) fault.UnknownName
  pub other_comparison : HasFault (filtered (codes "[\"is\", \"id\", 1]")) fault.Shape
  pub no_parts : HasFault (filtered (codes "[\"and\"]")) fault.Shape
  pub two_negated : HasFault (filtered (codes "[\"not\", [\"is_null\", \"x\"], 1]")) fault.Shape
  pub above_width : HasFault (filtered (codes "[\"lt\", \"b\", 128]")) fault.ConstantType
  pub below_width : HasFault (filtered (codes "[\"lt\", \"b\", -129]")) fault.ConstantType
  pub one_place : HasFault (filtered (codes "[\"lt\", \"d\", \"1.5\"]")) fault.ConstantType
  pub five_digits : HasFault (filtered (codes "[\"lt\", \"d\", \"10000.00\"]")) fault.ConstantType
  pub number_for_text : HasFault (filtered (codes "[\"eq\", \"x\", 1]")) fault.ConstantType
  pub date : HasFault (filtered (codes "[\"eq\", \"id\", 2020-01-01]")) fault.ConstantType
  pub other_column : HasFault (filtered (codes "[\"eq\", \"id\", [\"main\", \"x\"]]")) fault.ConstantType
  pub list_compared : HasFault (filtered (codes "[\"eq\", \"l\", 1]")) fault.OrderType
  pub deep_filter : HasFault (filtered (within 16)) fault.OverLimit
  pub many_parts : HasFault (filtered (any_of 255)) fault.OverLimit
  pub grouped_twice :
      HasFault (grouped (codes "[\"x\", [\"main\", \"x\"]]") (codes "[\"n\", \"count\"]")) fault.DuplicateColumn
  pub grouped_by_list : HasFault (grouped (codes "[\"l\"]") (codes "[\"n\", \"count\"]")) fault.OrderType
  pub not_grouped : HasFault (grouped (codes "[\"x\"]") (codes "[\"n\", \"col\", \"id\"]")) fault.UnknownName
  pub sum_of_text : HasFault (grouped (codes "[]") (codes "[\"s\", \"sum\", \"x\"]")) fault.SumType
  pub sum_of_29_digits : HasFault (grouped (codes "[]") (codes "[\"s\", \"sum\", \"w\"]")) fault.SumType
  pub least_list : HasFault (grouped (codes "[]") (codes "[\"s\", \"least\", \"l\"]")) fault.OrderType
  pub distinct_lists : HasFault (grouped (codes "[]") (codes "[\"d\", \"distinct\", \"l\"]")) fault.OrderType
  pub having_of_rows : HasFault (shows (codes "having = [\"is_null\", \"a\"]")) fault.Shape
  pub having_of_column : HasFault (with_having (codes "[\"ge\", [\"main\", \"d\"], 2]")) fault.Shape
  pub having_of_side : HasFault (with_having (codes "[\"ge\", [\"side\", \"v\"], 2]")) fault.Shape
  pub having_of_none : HasFault (with_having (codes "[\"ge\", \"m\", 2]")) fault.UnknownName
  pub having_of_text : HasFault (with_having (codes "[\"ge\", \"d\", \"2\"]")) fault.ConstantType
  pub having_of_columns : HasFault (with_having (codes "[\"ge\", \"d\", [\"out\", \"x\"]]")) fault.ConstantType
  pub out_of_rows : HasFault (filtered (codes "[\"is_null\", [\"out\", \"a\"]]")) fault.Shape
  pub sum_of_rows : HasFault (grouped (codes "[]") (codes "[\"s\", \"sum\"]")) fault.Shape
  pub order_of_none : HasFault (shows (codes "order = [[\"id\", \"asc\"]]")) fault.UnknownName
  pub ordered_twice :
      HasFault (shows (codes "order = [[\"a\", \"asc\"], [\"a\", \"desc\"]]")) fault.DuplicateColumn
  pub order_of_list : HasFault (shows (codes "order = [[\"c\", \"asc\"]]")) fault.OrderType
  pub other_direction : HasFault (shows (codes "order = [[\"a\", \"up\"]]")) fault.Shape
  pub dict_of_none : HasFault (shows_text (codes "dict = [\"id\"]")) fault.UnknownName
  pub dict_twice : HasFault (shows_text (codes "dict = [\"t\", \"t\"]")) fault.DuplicateColumn
  pub dict_of_number : HasFault (shows_text (codes "dict = [\"t\", \"a\"]")) fault.DictType
  pub dict_of_list : HasFault (shows (codes "dict = [\"c\"]")) fault.DictType
  pub dict_of_count : HasFault (with_count (codes "dict = [\"n\"]")) fault.DictType
  pub dict_alone : HasFault (shows_text (codes "dict = \"t\"")) fault.Shape
  pub dict_by_place : HasFault (shows_text (codes "dict = [0]")) fault.Shape
  pub first_above : HasFault (shows (codes "first = 16777217")) fault.OverLimit
  pub first_below : HasFault (shows (codes "first = -1")) fault.OverLimit
  pub first_text : HasFault (shows (codes "first = \"1\"")) fault.Shape

-- texts at the limits
pub record LimitsAreAccepted : Type 0 where
  pub deep_filter : IsValid (text_means (filtered (within 15)))
  pub many_parts : IsValid (text_means (filtered (any_of 254)))
  pub first : IsValid (text_means (shows (codes "first = 16777216")))
  pub no_group : IsValid (text_means (grouped (codes "[]") (codes "[\"s\", \"sum\", \"d\"]")))
  pub having : IsValid (text_means (with_having (codes "[\"lt\", \"d\", [\"out\", \"n\"]]")))
  pub dict : IsValid (text_means (shows_text (codes "dict = [\"t\"]")))
  pub dict_of_least : IsValid (text_means (with_count (codes "dict = [\"l\"]")))
  pub no_dict : IsValid (text_means (shows (codes "dict = []")))
  pub no_order : IsValid (text_means (shows (codes "order = []")))
  pub sides : IsValid (text_means (filtered (codes "[\"or\", [\"le\", \"b\", -128], [\"ge\", \"b\", 127]]")))

-- constants at the borders of their forms
pub record ConstantsRead : Type 0 where
  pub leading_zeros :
      constant_in (col.Decimal 6 2) (string (codes "0009999.99")) ≡ Some (whole (pos 999999))
  pub negative : constant_in (col.Decimal 6 2) (string (codes "-9999.99")) ≡ Some (whole (neg_ℤ (pos 999999)))
  pub negative_zero : constant_in (col.Decimal 6 2) (string (codes "-0.00")) ≡ Some (whole (pos 0))
  pub whole_digits : constant_in (col.Decimal 3 0) (string (codes "-999")) ≡ Some (whole (neg_ℤ (pos 999)))
  pub too_many_digits : constant_in (col.Decimal 3 0) (string (codes "1000")) ≡ None
  pub no_whole_digit : constant_in (col.Decimal 3 1) (string (codes ".5")) ≡ None
  pub no_digit : constant_in (col.Decimal 3 0) (string (codes "-")) ≡ None
  pub plus : constant_in (col.Decimal 3 0) (string (codes "+1")) ≡ None
  pub point_alone : constant_in (col.Decimal 3 0) (string (codes "1.")) ≡ None
  pub greatest : constant_in (col.Int int.Bits64 false) (integer (pos (2 ^ 63 - 1))) ≡ Some (whole (pos (2 ^ 63 - 1)))
  pub unsigned : constant_in (col.Int int.Bits8 false) (integer (neg_ℤ (pos 1))) ≡ None
  pub pairs : constant_in (col.Binary offset.Bits32) (string (codes "00ff")) ≡ Some (bytes (0 ∷ 255 ∷ []))
  pub no_pairs : constant_in (col.Binary offset.Bits32) (string []) ≡ Some (bytes [])
  pub upper_case : constant_in (col.Binary offset.Bits32) (string (codes "FF")) ≡ None
  pub odd : constant_in (col.Binary offset.Bits32) (string (codes "00f")) ≡ None
  pub fixed : constant_in (col.FixedSizeBinary 1) (string (codes "0a")) ≡ Some (bytes (10 ∷ []))
  pub fixed_short : constant_in (col.FixedSizeBinary 2) (string (codes "0a")) ≡ None
