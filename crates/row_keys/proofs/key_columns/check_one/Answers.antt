use Rattle.std.proofs.Common.{sym, ◌∙◌}
use Rattle.row_keys.proofs.SingleKeys.{null_alone, stands_alone}
use Rattle.row_keys.proofs.key_columns.check_one.Goals as goal

pub returns-then-is_null-clause-refused : goal.returns-then-is_null-clause-refused
returns-then-is_null-clause-refused c =
    null_alone c.args.column.now.cells c.requires.one (sym c.is_null.ensures ∙ c.if-is_null.true)

pub returns-clause-pushed : goal.returns-clause-pushed
returns-clause-pushed c =
    stands_alone c.args.column.now.layouts c.args.column.now.cells c.requires.one c.requires.keys c.law.ensures
    (sym c.is_null.ensures ∙ c.if-is_null.false)
