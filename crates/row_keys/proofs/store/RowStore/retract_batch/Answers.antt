use Rattle.std.proofs.Common.{ap, refl, ◌∙◌}
use Rattle.std.proofs.lemmas.Result.{err_from_is_err_and}
use Rattle.view_lang.specs.Contents.{applied}
use Rattle.view_lang.specs.Edits.{TableEdit}
use Rattle.row_keys.specs.Slots.{contents_of}
use Rattle.row_keys.proofs.store.RowStore.retract_batch.Goals as goal

pub returns-in_err-numbers-clause-makes : goal.returns-in_err-numbers-clause-makes
returns-in_err-numbers-clause-makes c =
    let failed = err_from_is_err_and c.from_residual.result c.from_residual.ensures.1 in
    rw (failed.1, failed.2) (c.in_err-numbers.ensures.refused, refl)

pub returns-clause-makes : goal.returns-clause-makes
returns-clause-makes c =
    let there = rw c.deref.ensures.value at c.retract.ensures.contents in
    let can = rw c.deref.ensures.value at c.retract.ensures.can_go_back in
    let back = rw c.deref.ensures.value at c.retract.ensures.back in (
      c.in_ok-numbers.ensures.fits,
      there
          ∙ ap (λ (e : TableEdit). applied c.args.self.now.table e (contents_of c.args.self.now.slots))
          c.in_ok-numbers.ensures.keys,
      can,
      back,
    )
