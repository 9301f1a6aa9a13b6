use Rattle.std.proofs.Common.{ℕ, IfOk, ap, subst, sym}
use Rattle.view_lang.specs.Edits.{table_of}
use Rattle.row_keys.specs.TableChanges.{IsChangeOf}
use Rattle.row_keys.proofs.ChangeKinds.{kind_of_put, kind_of_retract}
use Rattle.row_keys.proofs.store.RowStore.edit.Goals as goal

pub returns-in-Put-clause-kind : goal.returns-in-Put-clause-kind
returns-in-Put-clause-kind c =
    let P : ℕ → Type 0 = λ n. IfOk c.put_batch.result (IsChangeOf n) in
    subst P (ap table_of (sym c.in-Put.is)) (kind_of_put c.put_batch.result c.in-Put.field-0 c.put_batch.ensures.kind)

pub returns-in-Retract-clause-kind : goal.returns-in-Retract-clause-kind
returns-in-Retract-clause-kind c =
    kind_of_retract c.retract_batch.result (table_of c.args.role) c.retract_batch.ensures.kind
