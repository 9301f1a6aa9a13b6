-- The cells of rows of groups that are read where they lie.
use Rattle.std.proofs.Common.{◌≡◌, ℕ, List, ◌<◌, ◌≤◌, length, get_or, refl, ap, sym, ◌∙◌}
use Rattle.std.specs.Option.{option_map, unwrap_or}
use Rattle.std.proofs.lemmas.Option.{
  get_or_from_slice_get,
  slice_get-map,
  slice_get_past,
  slice_get_read,
  unwrap_or-slice_get,
}
use Rattle.values.specs.Datum.{null}
use Rattle.values.specs.declared.key.Key.{Key}
use Rattle.view_lang.specs.Cells.{cell_at}
use Rattle.view_lang.specs.Outputs.{GroupOutput}
use Rattle.group_state.specs.GroupCounts.{GroupCounts}
use Rattle.group_state.specs.declared.accumulated_columns.AccumulatedColumn.{AccumulatedColumn}
use Rattle.group_state.specs.Aggregates.{seen_cell, seen_row}

pub seen-there : (columns : List AccumulatedColumn) (outs : List GroupOutput) (e : List Key × GroupCounts) (k : ℕ) (o : GroupOutput)
    → o ≡ get_or outs k o → k < length outs → cell_at (seen_row columns outs e) k ≡ seen_cell columns e o.aggregate
seen-there columns outs e k o is below =
    get_or_from_slice_get (seen_row columns outs e) k (seen_cell columns e o.aggregate) null
    (slice_get-map (λ x. seen_cell columns e x.aggregate) outs k
    ∙ ap (option_map (λ (x : GroupOutput). seen_cell columns e x.aggregate))
    (slice_get_read outs (length outs) k o refl below is))

pub seen-past : (columns : List AccumulatedColumn) (outs : List GroupOutput) (e : List Key × GroupCounts) (k : ℕ)
    → length outs ≤ k → cell_at (seen_row columns outs e) k ≡ null
seen-past columns outs e k all =
    sym (unwrap_or-slice_get (seen_row columns outs e) k null)
    ∙ ap (λ o. unwrap_or o null)
    (slice_get-map (λ x. seen_cell columns e x.aggregate) outs k
    ∙ ap (option_map (λ (x : GroupOutput). seen_cell columns e x.aggregate)) (slice_get_past outs k all))

pub ruleset seen_cells = (seen-there, seen-past)
