use Rattle.std.proofs.Common.{refl}
use Rattle.view_lang.specs.Contents.{is_among}
use Rattle.view_lang.specs.Groups.{group_row, group_rows, rows_with, tuples_of}
use Rattle.view_lang.specs.Folds.{distinct, first_in, total}
use Rattle.view_lang.specs.Joined.{joined, joined_row, side_of}
use Rattle.view_lang.specs.RowOrder.{row_cmp, tuple_cmp}
use Rattle.view_lang.specs.Sorted.{sorted}
use Rattle.view_lang.specs.Truth.{passes, truth}
use Rattle.view_lang.specs.Views.{output_rows, shown_rows, view_input, view_rows}
use Rattle.view_lang.proofs.view_laws.worked_law.Goals as goal

pub returns-clause-unknown : goal.returns-clause-unknown
unfolding view_rows view_input shown_rows output_rows joined joined_row passes sorted row_cmp truth
returns-clause-unknown c = refl

pub returns-clause-nulls_last : goal.returns-clause-nulls_last
unfolding view_rows view_input shown_rows output_rows joined joined_row passes sorted row_cmp
returns-clause-nulls_last c = refl

pub returns-clause-first : goal.returns-clause-first
unfolding view_rows view_input shown_rows output_rows joined joined_row passes sorted row_cmp
returns-clause-first c = refl

pub returns-clause-ties : goal.returns-clause-ties
unfolding view_rows view_input shown_rows output_rows joined joined_row passes sorted row_cmp
returns-clause-ties c = refl

pub returns-clause-groups : goal.returns-clause-groups
unfolding view_rows view_input shown_rows output_rows joined joined_row passes sorted row_cmp group_rows group_row
    tuples_of rows_with total first_in tuple_cmp
returns-clause-groups c = refl

pub returns-clause-having : goal.returns-clause-having
unfolding view_rows view_input shown_rows output_rows joined joined_row passes sorted row_cmp truth group_rows group_row
    tuples_of rows_with distinct is_among tuple_cmp
returns-clause-having c = refl

pub returns-clause-no_rows : goal.returns-clause-no_rows
unfolding view_rows view_input shown_rows output_rows joined joined_row passes sorted row_cmp group_rows group_row
    tuples_of rows_with total first_in tuple_cmp
returns-clause-no_rows c = refl

pub returns-clause-missing_null : goal.returns-clause-missing_null
unfolding view_rows view_input shown_rows output_rows joined joined_row passes sorted row_cmp side_of
returns-clause-missing_null c = refl

pub returns-clause-missing_drop : goal.returns-clause-missing_drop
unfolding view_rows view_input shown_rows output_rows joined joined_row passes sorted row_cmp side_of
returns-clause-missing_drop c = refl
