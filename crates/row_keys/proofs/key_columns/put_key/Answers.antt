use Rattle.row_keys.proofs.KeysOfBatch.{null_told}
use Rattle.row_keys.proofs.key_columns.put_key.Goals as goal

pub returns-then-is_null_key-clause-refused : goal.returns-then-is_null_key-clause-refused
returns-then-is_null_key-clause-refused c =
    null_told c.args.column.now.cells c.args.index c.in_ok-key.key c.is_null_key.result c.requires.below
    c.in_ok-key.ensures c.is_null_key.ensures
    c.if-is_null_key.true
