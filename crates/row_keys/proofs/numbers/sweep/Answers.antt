use Rattle.std.proofs.Common.{of_calls, rules}
use Rattle.std.proofs.lemmas.List.Elements.{filter_from_retain}
use Rattle.row_keys.specs.Entries.{is_kept}
use Rattle.row_keys.proofs.numbers.sweep.Goals as goal

pub returns : goal.returns
returns c =
    filter_from_retain _ is_kept (λ p x b q h. search (rules, of_calls)) _ _ _ c.retain.ensures.filtered
