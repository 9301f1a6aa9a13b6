use Rattle.std.proofs.Common.{List, subst}
use Rattle.std.specs.Prelude.{IfErr}
use Rattle.row_keys.specs.KeyColumns.{RefusesKeys}
use Rattle.row_keys.specs.Numbers.{Numbered}
use Rattle.row_keys.proofs.SingleKeys.{on_ok_alone}
use Rattle.row_keys.proofs.key_columns.check_keys.Goals as goal

pub returns-clause-pushed : goal.returns-clause-pushed
returns-clause-pushed c =
    on_ok_alone c.push_keys.result c.args.column.now.cells c.new-seen.result c.push_keys.new.numbers c.new-seen.ensures
    c.push_keys.ensures.pushed

pub returns-clause-refused : goal.returns-clause-refused
returns-clause-refused c =
    subst (λ (xs : List Numbered). IfErr c.push_keys.result (RefusesKeys c.args.column.now.cells xs)) c.new-seen.ensures
    c.push_keys.ensures.refused
