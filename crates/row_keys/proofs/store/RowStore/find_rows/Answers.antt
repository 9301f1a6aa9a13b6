use Rattle.std.proofs.Common.{◌≡◌, None, ap, subst, ◌∙◌}
use Rattle.std.proofs.lemmas.Result.{err_from_is_err_and}
use Rattle.view_lang.specs.Causes.{cause_of}
use Rattle.view_lang.specs.Edits.{TableEdit, retract}
use Rattle.row_keys.specs.Slots.{contents_of}
use Rattle.row_keys.specs.Store.{Refuses}
use Rattle.row_keys.proofs.RetractedKeys.{are_keys, keys_edit}
use Rattle.row_keys.proofs.store.RowStore.find_rows.Goals as goal

pub find_all-requires : goal.find_all-requires
find_all-requires c =
    are_keys c.args.self.now.table c.args.columns.now c.index-columns-0.result c.args.rows c.requires
    c.index-columns-0.is

pub returns-in_err-numbers-clause-refused : goal.returns-in_err-numbers-clause-refused
returns-in_err-numbers-clause-refused c =
    let failed = err_from_is_err_and c.from_residual.result c.from_residual.ensures.1 in
    let same =
    keys_edit c.args.self.now.table c.args.columns.now c.index-columns-0.result c.args.rows c.requires
    c.index-columns-0.is in
    rw (failed.1, failed.2)
    (subst (λ (e : TableEdit). Refuses (cause_of c.args.self.now.table (contents_of c.args.self.now.slots) e)
    c.in_err-numbers.field-0.0) same c.in_err-numbers.ensures.refused)

pub returns-clause-keys : goal.returns-clause-keys
returns-clause-keys c =
    ap retract c.in_ok-numbers.ensures.keys
    ∙ keys_edit c.args.self.now.table c.args.columns.now c.index-columns-0.result c.args.rows c.requires
    c.index-columns-0.is

pub returns-clause-fits : goal.returns-clause-fits
returns-clause-fits c =
    subst (λ (e : TableEdit). cause_of c.args.self.now.table (contents_of c.args.self.now.slots) e ≡ None)
    (keys_edit c.args.self.now.table c.args.columns.now c.index-columns-0.result c.args.rows c.requires
    c.index-columns-0.is)
    c.in_ok-numbers.ensures.fits
