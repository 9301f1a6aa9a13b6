use Rattle.std.proofs.Common.{◌≡◌, ap, arith, get_or, subst}
use Rattle.view_lang.specs.Config.{Table}
use Rattle.row_keys.proofs.AppendedBatches.{key_column, key_within, keys_of_rows}
use Rattle.row_keys.proofs.BatchKeys.{puts_same, refuses_put}
use Rattle.row_keys.proofs.key_columns.put_batch.Goals as goal

pub bounds-columns-table-inside : goal.bounds-columns-table-inside
bounds-columns-table-inside c =
    let below = key_within c.args.table.now c.args.columns.now c.args.rows c.requires.table c.requires.batch in
    let same : c.table.inside.key ≡ c.args.table.now.key = ap (λ (t : Table). t.key) c.table.view_is in
    omega (arith, below, same)

pub put_keys-requires-clause-keys : goal.put_keys-requires-clause-keys
put_keys-requires-clause-keys c =
    let P : Table
    → Type 0 = λ t. c.index-columns-table.result ≡ get_or c.args.columns.now t.key c.index-columns-table.result in
    key_column c.args.table.now c.args.columns.now c.args.rows c.index-columns-table.result c.requires.table
    c.requires.batch
    (subst P c.table.view_is c.index-columns-table.is)

pub returns-clause-put : goal.returns-clause-put
returns-clause-put c =
    let P : Table
    → Type 0 = λ t. c.index-columns-table.result ≡ get_or c.args.columns.now t.key c.index-columns-table.result in
    puts_same c.put_keys.result c.index-columns-table.result.cells _ c.args.numbers.now c.put_keys.new.numbers
    (keys_of_rows c.args.table.now c.args.columns.now c.args.rows c.index-columns-table.result c.requires.table
    c.requires.batch
    (subst P c.table.view_is c.index-columns-table.is)) c.put_keys.ensures.put

pub returns-clause-refused : goal.returns-clause-refused
returns-clause-refused c =
    let P : Table
    → Type 0 = λ t. c.index-columns-table.result ≡ get_or c.args.columns.now t.key c.index-columns-table.result in
    refuses_put c.put_keys.result c.index-columns-table.result.cells _
    (keys_of_rows c.args.table.now c.args.columns.now c.args.rows c.index-columns-table.result c.requires.table
    c.requires.batch
    (subst P c.table.view_is c.index-columns-table.is)) c.put_keys.ensures.refused
