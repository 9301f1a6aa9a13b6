use Rattle.std.proofs.Common.{◌++◌, ap, sym, ◌∙◌}
use Rattle.std.proofs.lemmas.Result.{IfOk-weaker}
use Rattle.row_keys.specs.HiddenChanges.{named_numbers}
use Rattle.row_keys.specs.Slots.{last_numbers}
use Rattle.row_keys.specs.declared.table_change.TableChange.{TableChange}
use Rattle.row_keys.proofs.NamedRows.{listed_there}
use Rattle.row_keys.proofs.store.RowStore.named_numbers.Goals as goal

pub returns-in-Retracted-clause-there : goal.returns-in-Retracted-clause-there
returns-in-Retracted-clause-there c =
    IfOk-weaker c.from_slice.result _ _
    (λ numbers same. listed_there c.args.change.now c.args.self.now.slots numbers.items c.requires
    (same ∙ c.deref.ensures.value
    ∙ sym (ap (λ (x : TableChange). named_numbers x c.args.self.now.slots) c.in-Retracted.is)))
    c.from_slice.ensures.items

pub returns-in_ok-extend_from_slice-in-Put-clause-there :
    goal.returns-in_ok-extend_from_slice-in-Put-clause-there
returns-in_ok-extend_from_slice-in-Put-clause-there c =
    listed_there c.args.change.now c.args.self.now.slots c.extend_from_slice.new.self.items c.requires
    (c.in_ok-extend_from_slice-in-Put.ensures.items
    ∙ ap (λ ns. ns ++ c.deref-in-Put.result.now) c.in_ok-numbers-in-Put.ensures
    ∙ ap (λ ns. last_numbers c.in-Put.rows c.args.self.now.slots ++ ns) c.deref-in-Put.ensures.value
    ∙ sym (ap (λ (x : TableChange). named_numbers x c.args.self.now.slots) c.in-Put.is))
