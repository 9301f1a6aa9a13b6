use Rattle.view_lang.proofs.Sample.{
  heavy_row_told,
  light_row_told,
  live_key_told,
  many_rows_told,
  null_key_told,
  put_again_told,
  put_many_told,
  put_twice_told,
  repeated_key_told,
  sample_leaves,
  sample_shows,
  unknown_key_told,
}
use Rattle.view_lang.proofs.laws.sample_law.Goals as goal

pub returns : goal.returns
returns c = record {
  tables = sample_leaves;
  view = sample_shows;
  null_key = null_key_told;
  live_key = live_key_told;
  repeated_key = repeated_key_told;
  unknown_key = unknown_key_told;
  many = many_rows_told;
  heavy = heavy_row_told;
  fits = light_row_told;
  put_again = put_again_told;
  put_twice = put_twice_told;
  put_many = put_many_told;
}
