-- The sample's answers, by computation.
use Rattle.std.proofs.Common.{◌≡◌, None, Some, refl}
use Rattle.view_lang.specs.Causes.{
  all_among,
  any_among,
  any_heavy,
  cause_in,
  cause_of,
  has_heavy_cell,
  has_null,
  has_repeated,
  is_heavy,
}
use Rattle.view_lang.specs.Contents.{is_among, without}
use Rattle.view_lang.specs.Joined.{joined, joined_row, side_of}
use Rattle.view_lang.specs.RowOrder.{row_cmp}
use Rattle.view_lang.specs.Sample.{
  heavy_row,
  light_row,
  live_key,
  many_rows,
  null_key,
  put_again,
  put_many,
  put_twice,
  repeated_key,
  sample_edits,
  sample_shown,
  sample_tables,
  sample_view,
  sample_world,
  unknown_key,
}
use Rattle.view_lang.specs.Sorted.{sorted}
use Rattle.view_lang.specs.Truth.{passes}
use Rattle.view_lang.specs.Views.{output_rows, shown_rows, view_input, view_of, view_rows}
use Rattle.view_lang.specs.World.{world}
use Rattle.view_lang.specs.declared.unfit.Unfit.TheVariants as unfit

pub sample_leaves : world sample_tables sample_edits ≡ sample_world
unfolding world is_among without
sample_leaves = refl

pub sample_shows : view_of sample_tables sample_view sample_world ≡ sample_shown
unfolding view_rows shown_rows view_input joined joined_row side_of passes output_rows sorted row_cmp
sample_shows = refl

pub null_key_told : cause_in sample_tables sample_world null_key ≡ Some unfit.NullKey
unfolding cause_of has_null has_repeated any_among all_among is_among without any_heavy is_heavy has_heavy_cell
null_key_told = refl

pub live_key_told : cause_in sample_tables sample_world live_key ≡ Some unfit.DuplicateKey
unfolding cause_of has_null has_repeated any_among all_among is_among without any_heavy is_heavy has_heavy_cell
live_key_told = refl

pub repeated_key_told : cause_in sample_tables sample_world repeated_key ≡ Some unfit.DuplicateKey
unfolding cause_of has_null has_repeated any_among all_among is_among without any_heavy is_heavy has_heavy_cell
repeated_key_told = refl

pub unknown_key_told : cause_in sample_tables sample_world unknown_key ≡ Some unfit.UnknownKey
unfolding cause_of has_null has_repeated any_among all_among is_among without any_heavy is_heavy has_heavy_cell
unknown_key_told = refl

pub many_rows_told : cause_in sample_tables sample_world many_rows ≡ Some unfit.TooManyRows
unfolding cause_of has_null has_repeated any_among all_among is_among without any_heavy is_heavy has_heavy_cell
many_rows_told = refl

pub heavy_row_told : cause_in sample_tables sample_world heavy_row ≡ Some unfit.CellTooHeavy
unfolding cause_of has_null has_repeated any_among all_among is_among without any_heavy is_heavy has_heavy_cell
heavy_row_told = refl

pub light_row_told : cause_in sample_tables sample_world light_row ≡ None
unfolding cause_of has_null has_repeated any_among all_among is_among without any_heavy is_heavy has_heavy_cell
light_row_told = refl

pub put_again_told : cause_in sample_tables sample_world put_again ≡ None
unfolding cause_of has_null has_repeated any_among all_among is_among without any_heavy is_heavy has_heavy_cell
put_again_told = refl

pub put_twice_told : cause_in sample_tables sample_world put_twice ≡ Some unfit.DuplicateKey
unfolding cause_of has_null has_repeated any_among all_among is_among without any_heavy is_heavy has_heavy_cell
put_twice_told = refl

pub put_many_told : cause_in sample_tables sample_world put_many ≡ Some unfit.TooManyRows
unfolding cause_of has_null has_repeated any_among all_among is_among without any_heavy is_heavy has_heavy_cell
put_many_told = refl
