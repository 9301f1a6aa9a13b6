-- The worked configurations, by computation.
use Rattle.std.specs.Prelude.{◌≡◌, ⊤, Ok, refl}
use Rattle.toml.proofs.OnLiterals.{toml_on_literals}
use Rattle.view_config.specs.Tree.{each_item, each_member}
use Rattle.view_config.specs.Limits.{column_limits}
use Rattle.view_config.specs.ColumnTypes.{decimal_of, timestamp_of, simple_of, list_of, child_of, struct_of, array_of, type_by, field_of}
use Rattle.view_config.specs.Tables.{column_of, columns_of, main_of, ordered_column, table_of}
use Rattle.view_config.specs.Sides.{side_of}
use Rattle.view_config.specs.Feeds.{feed_of, role_by, role_of, side_number}
use Rattle.view_config.specs.Scope.{ordered_reference, reference, reference_in}
use Rattle.view_config.specs.Constants.{constant_in, decimal, pairs as hexadecimal, pointed, unscaled}
use Rattle.view_config.specs.Filters.{comparison_of, filter_by, filter_of, filter_with, negation_of, null_of, operand_of, whole_filter}
use Rattle.view_config.specs.Outputs.{group_of, group_output_of, output_limits, output_of, outputs_in, grouping_column, outputs_of}
use Rattle.view_config.specs.Aggregates.{aggregate_by}
use Rattle.view_config.specs.Lookups.{lookup_of}
use Rattle.view_config.specs.Dict.{coded_output, dict_of}
use Rattle.view_config.specs.Views.{having_in, order_by_of, order_of, view_in, view_of}
use Rattle.view_config.specs.Config.{config_of, text_means}
use Rattle.view_config.specs.Worked.{ConstantsRead, FaultsAreFound, LimitsAreAccepted, amounts, amounts_text, pairs, pairs_text, texts, texts_text, zones, zones_text}

-- what a sample unfolds: the words of types, of tables, of filters, and of all else
unfoldable types_on_literals : ⊤
unfolding decimal_of timestamp_of simple_of list_of child_of struct_of array_of type_by field_of column_limits
types_on_literals = tt

unfoldable tables_on_literals : ⊤
unfolding each_item each_member column_of columns_of ordered_column table_of main_of
tables_on_literals = tt

unfoldable sides_on_literals : ⊤
unfolding tables_on_literals side_of feed_of role_of role_by side_number lookup_of
sides_on_literals = tt

unfoldable constants_on_literals : ⊤
unfolding constant_in decimal hexadecimal pointed unscaled
constants_on_literals = tt

unfoldable filters_on_literals : ⊤
unfolding constants_on_literals reference_in reference ordered_reference operand_of comparison_of null_of negation_of
    filter_by filter_with filter_of whole_filter
filters_on_literals = tt

unfoldable views_on_literals : ⊤
unfolding group_of grouping_column aggregate_by output_of group_output_of outputs_in output_limits outputs_of
views_on_literals = tt

unfoldable all_on_literals : ⊤
unfolding types_on_literals sides_on_literals filters_on_literals views_on_literals having_in order_by_of order_of
    coded_output dict_of view_in view_of
all_on_literals = tt

pub sample-amounts : text_means amounts_text ≡ Ok amounts
unfolding toml_on_literals all_on_literals config_of text_means
sample-amounts = refl

pub sample-pairs : text_means pairs_text ≡ Ok pairs
unfolding toml_on_literals all_on_literals config_of text_means
sample-pairs = refl

pub sample-zones : text_means zones_text ≡ Ok zones
unfolding toml_on_literals all_on_literals config_of text_means
sample-zones = refl

pub sample-texts : text_means texts_text ≡ Ok texts
unfolding toml_on_literals all_on_literals config_of text_means
sample-texts = refl

pub sample-faults : FaultsAreFound
unfolding toml_on_literals all_on_literals config_of text_means
sample-faults = record {
  not_toml = refl;
  unknown_key = refl;
  unknown_column = refl;
  no_side = refl;
  twice = refl;
  child_twice = refl;
  output_twice = refl;
  no_type = refl;
  precision = refl;
  scale = refl;
  empty_zone = refl;
  wide_fixed = refl;
  list_as_key = refl;
  no_columns = refl;
  empty_name = refl;
  heavy = refl;
  no_main = refl;
  misspelt = refl;
  other_entry = refl;
  other_role = refl;
  side_of_append = refl;
  other_word = refl;
  other_name = refl;
  put_without_side = refl;
  put_to_no_side = refl;
  lookup_in_no_side = refl;
  lookup_of_another_type = refl;
  lookup_of_list = refl;
  other_missing = refl;
  lookup_entry = refl;
  side_without_lookup = refl;
  other_comparison = refl;
  no_parts = refl;
  two_negated = refl;
  above_width = refl;
  below_width = refl;
  one_place = refl;
  five_digits = refl;
  number_for_text = refl;
  date = refl;
  other_column = refl;
  list_compared = refl;
  deep_filter = refl;
  many_parts = refl;
  grouped_twice = refl;
  grouped_by_list = refl;
  not_grouped = refl;
  sum_of_text = refl;
  sum_of_29_digits = refl;
  least_list = refl;
  distinct_lists = refl;
  having_of_rows = refl;
  having_of_column = refl;
  having_of_side = refl;
  having_of_none = refl;
  having_of_text = refl;
  having_of_columns = refl;
  out_of_rows = refl;
  sum_of_rows = refl;
  order_of_none = refl;
  ordered_twice = refl;
  order_of_list = refl;
  other_direction = refl;
  dict_of_none = refl;
  dict_twice = refl;
  dict_of_number = refl;
  dict_of_list = refl;
  dict_of_count = refl;
  dict_alone = refl;
  dict_by_place = refl;
  first_above = refl;
  first_below = refl;
  first_text = refl;
}

pub sample-limits : LimitsAreAccepted
unfolding toml_on_literals all_on_literals config_of text_means
sample-limits = record {
  deep_filter = tt;
  many_parts = tt;
  first = tt;
  no_group = tt;
  having = tt;
  dict = tt;
  dict_of_least = tt;
  no_dict = tt;
  no_order = tt;
  sides = tt;
}

pub sample-constants : ConstantsRead
unfolding toml_on_literals all_on_literals config_of text_means
sample-constants = record {
  leading_zeros = refl;
  negative = refl;
  negative_zero = refl;
  whole_digits = refl;
  too_many_digits = refl;
  no_whole_digit = refl;
  no_digit = refl;
  plus = refl;
  point_alone = refl;
  greatest = refl;
  unsigned = refl;
  pairs = refl;
  no_pairs = refl;
  upper_case = refl;
  odd = refl;
  fixed = refl;
  fixed_short = refl;
}
