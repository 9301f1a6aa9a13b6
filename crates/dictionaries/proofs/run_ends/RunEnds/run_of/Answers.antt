use Rattle.std.proofs.Common.{rules, ap, sym, ◌∙◌}
use Rattle.std.specs.Prelude.{nat_le}
use Rattle.std.specs.List.{prefix_len}
use Rattle.dictionaries.specs.Runs.{ends_in}
use Rattle.dictionaries.proofs.RunLemmas.{run-counted}
use Rattle.dictionaries.proofs.run_ends.RunEnds.run_of.Goals as goal

pub returns-in-Single : goal.returns-in-Single
returns-in-Single c =
    run-counted c.in-Single.count c.args.i c.min.result (search rules)
    ∙ ap (λ r. prefix_len (λ end. nat_le end c.args.i) (ends_in r)) (sym c.in-Single.is)
