-- The sample's answers, by computation.
use Rattle.std.proofs.Common.{◌≡◌, ℕ, ◌<◌, ◌≤◌, true, All, List, [], ◌∷◌, length, Some, Ok, Err, arith, refl, lit≤, lit<}
use Rattle.std.specs.Str.{chars, is_utf8}
use Rattle.std.proofs.Math.Utf8.{encode}
use Rattle.std.proofs.lemmas.List.Elements.{All-cons, All-nil}
use Rattle.values.specs.Coded.{AreCoded, IsTextColumn}
use Rattle.values.specs.declared.causes.Cause.TheVariants as cause
use Rattle.feed.specs.Events.{given}
use Rattle.schema_meta.specs.Rows.{rows_from}
use Rattle.view_lang.specs.Causes.{any_among, any_heavy, cause_of, has_heavy_cell, has_null, has_repeated, is_heavy}
use Rattle.view_lang.specs.Config.{SideTable, View}
use Rattle.view_lang.specs.ConfigRules.{IsConfig, IsFeed, IsOutput, IsView}
use Rattle.view_lang.specs.Fields.{IsOrdered}
use Rattle.view_lang.specs.Contents.{is_among}
use Rattle.view_lang.specs.Limits.{max_side_rows}
use Rattle.view_lang.specs.TableRules.{AreColumns, IsTable}
use Rattle.view_lang.specs.ViewColumns.{joined_columns, view_columns}
use Rattle.view_lang.specs.World.{world}
use Rattle.view_lang.specs.declared.view.OrderBy.{OrderBy}
use Rattle.view_lang.specs.declared.config.Role.TheVariants as role
use Rattle.stream_writer.specs.Sample.{sample_field, sample_fields}
use Rattle.values.specs.Limits.{max_main_rows}
use Rattle.values.specs.Logical.{NamedType}
use Rattle.values.specs.Rose.{Rose}
use Rattle.session.specs.Sample.{
  add_feed,
  after_two,
  both_view,
  drop_feed,
  keys_view,
  named_view,
  output,
  put_feed,
  row_again,
  sample_config,
  sample_feeds,
  sample_side,
  sample_tables,
  two_rows,
}
use Rattle.session.specs.Steps.{no_edits, push_answer, push_past, pushed, undone}
use Rattle.session.specs.declared.calls.Event.TheVariants as event

k_is_text : is_utf8 (107 ∷ []) ≡ true
unfolding is_utf8 chars encode
k_is_text = refl

v_is_text : is_utf8 (118 ∷ []) ≡ true
unfolding is_utf8 chars encode
v_is_text = refl

columns_right : AreColumns sample_fields
columns_right = record {
  some = lit≤ tt;
  few = lit≤ tt;
  small = lit≤ tt;
  shallow = lit≤ tt;
  within = (((lit≤ tt, lit≤ tt), tt, tt), (((lit≤ tt, lit≤ tt), tt, tt), tt));
  slim = ((lit≤ tt, tt), ((lit≤ tt, tt), tt));
  layouts = ((tt, tt), ((tt, tt), tt));
  logical = ((k_is_text, refl, refl, tt), ((v_is_text, refl, refl, tt), tt));
}

table_right : (rows : ℕ) → rows ≤ max_main_rows → IsTable (record { key = 0; max_rows = rows; columns = sample_fields })
table_right rows few = record { columns = columns_right; key = (sample_field 107, refl, tt); few = few }

k_output : (fields : List (Rose NamedType)) → 0 < length fields → IsOutput fields (output 107 0)
k_output fields below = (((lit≤ tt, lit≤ tt), k_is_text), below)

v_output : (fields : List (Rose NamedType)) (n : ℕ) → n < length fields → IsOutput fields (output 118 n)
v_output fields n below = (((lit≤ tt, lit≤ tt), v_is_text), below)

two_outputs : (fields : List (Rose NamedType)) (n : ℕ) → 0 < length fields → n < length fields
    → All (IsOutput fields) (output 107 0 ∷ output 118 n ∷ [])
two_outputs fields n some below =
    All-cons (IsOutput fields) (output 107 0) (output 118 n ∷ []) (k_output fields some)
    (All-cons (IsOutput fields) (output 118 n) [] (v_output fields n below) (All-nil (IsOutput fields)))

abbrev IsDirection : View → OrderBy → Type 0
IsDirection v o = IsOrdered (view_columns sample_tables v) o.column

none_coded : (fields : List (Rose NamedType)) → AreCoded [] fields
none_coded fields = record { ascending = λ i j d lt within. absurd (omega (arith, within)); texts = All-nil (IsTextColumn fields) }

both_right : IsView sample_tables both_view
both_right = record {
  lookup = tt;
  filter = tt;
  outputs = two_outputs sample_fields 1 (lit< tt) (lit< tt);
  some = lit≤ tt;
  few = lit≤ tt;
  small = lit≤ tt;
  having = tt;
  order = All-nil (IsDirection both_view);
  coded = none_coded (view_columns sample_tables both_view);
}

keys_right : IsView sample_tables keys_view
keys_right = record {
  lookup = tt;
  filter = tt;
  outputs =
      All-cons (IsOutput sample_fields) (output 107 0) [] (k_output sample_fields (lit< tt))
      (All-nil (IsOutput sample_fields));
  some = lit≤ tt;
  few = lit≤ tt;
  small = lit≤ tt;
  having = tt;
  order = All-nil (IsDirection keys_view);
  coded = none_coded (view_columns sample_tables keys_view);
}

named_right : IsView sample_tables named_view
named_right = record {
  lookup = (lit< tt, (lit< tt, tt), refl, refl);
  filter = tt;
  outputs = two_outputs (joined_columns sample_tables named_view.lookup) 3 (lit< tt) (lit< tt);
  some = lit≤ tt;
  few = lit≤ tt;
  small = lit≤ tt;
  having = tt;
  order = All-nil (IsDirection named_view);
  coded = none_coded (view_columns sample_tables named_view);
}

feeds_right : All (IsFeed sample_tables) sample_feeds
feeds_right =
    All-cons (IsFeed sample_tables) add_feed (put_feed ∷ drop_feed ∷ []) (lit< tt)
    (All-cons (IsFeed sample_tables) put_feed (drop_feed ∷ []) (lit< tt)
    (All-cons (IsFeed sample_tables) drop_feed [] (lit< tt) (All-nil (IsFeed sample_tables))))

pub config_right : IsConfig sample_config
config_right = record {
  main = table_right max_main_rows (lit≤ tt);
  main_rows = refl;
  sides =
      All-cons (λ (s : SideTable). IsTable s.table) sample_side [] (table_right max_side_rows (lit≤ tt))
      (All-nil (λ (s : SideTable). IsTable s.table));
  side_rows =
      All-cons (λ (s : SideTable). s.table.max_rows ≡ max_side_rows) sample_side [] refl
      (All-nil (λ (s : SideTable). s.table.max_rows ≡ max_side_rows));
  few_sides = lit≤ tt;
  feeds = feeds_right;
  few_feeds = lit≤ tt;
  views =
      All-cons (IsView sample_tables) both_view (keys_view ∷ named_view ∷ []) both_right
      (All-cons (IsView sample_tables) keys_view (named_view ∷ []) keys_right
      (All-cons (IsView sample_tables) named_view [] named_right (All-nil (IsView sample_tables))));
  few_views = lit≤ tt;
}

pub two_accepted :
    push_answer sample_tables role.Append no_edits (Ok (given 208 (Some two_rows))) ≡ Ok (pushed 208 (Some event.Batch))
unfolding world cause_of has_null has_repeated any_among is_among any_heavy is_heavy has_heavy_cell rows_from
two_accepted = refl

pub two_edits : push_past sample_tables role.Append no_edits (Ok (given 208 (Some two_rows))) ≡ after_two
unfolding world cause_of has_null has_repeated any_among is_among any_heavy is_heavy has_heavy_cell rows_from
two_edits = refl

pub again_unfit :
    push_answer sample_tables role.Append after_two (Ok (given 208 (Some row_again))) ≡ Err
    (record { cause = cause.DuplicateKey; used = 208 })
unfolding world cause_of has_null has_repeated any_among is_among any_heavy is_heavy has_heavy_cell rows_from
again_unfit = refl

pub again_kept : push_past sample_tables role.Append after_two (Ok (given 208 (Some row_again))) ≡ after_two
unfolding world cause_of has_null has_repeated any_among is_among any_heavy is_heavy has_heavy_cell rows_from
again_kept = refl

pub two_undone : undone after_two ≡ no_edits
unfolding undone
two_undone = refl

pub none_undone : undone no_edits ≡ no_edits
unfolding undone
none_undone = refl

pub ruleset sample = (config_right, two_accepted, two_edits, again_unfit, again_kept, two_undone, none_undone)
