use Rattle.std.proofs.Common.{of_calls, rules}
use Rattle.std.proofs.lemmas.List.Elements.{filter_from_retain}
use Rattle.row_keys.specs.Chunks.{has_columns}
use Rattle.row_keys.proofs.stored_rows.sweep.Goals as goal

pub returns : goal.returns
returns c =
    filter_from_retain _ has_columns (λ p x b q h. search (rules, of_calls)) _ _ _ c.retain.ensures.filtered
