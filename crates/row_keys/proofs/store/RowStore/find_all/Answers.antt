use Rattle.std.proofs.Common.{◌≡◌, None, refl, subst}
use Rattle.view_lang.specs.Causes.{cause_of}
use Rattle.view_lang.specs.Edits.{retract}
use Rattle.row_keys.specs.Slots.{CanRetract, contents_of, keys_at}
use Rattle.row_keys.specs.Store.{Store}
use Rattle.row_keys.proofs.FoundRows.{found_can, found_fits, found_keys}
use Rattle.row_keys.proofs.store.RowStore.find_all.Goals as goal

pub returns-in-Some-clause-numbers : goal.returns-in-Some-clause-numbers
returns-in-Some-clause-numbers c =
    let P : Store → Type 0 = λ s. CanRetract c.in-Some.found.items s.slots in
    let alone = (rw c.in-Some.is at c.in_ok-found.ensures.alone) refl in
    subst P c.self.view_is
    (found_can c.self.inside.table c.self.inside.rows c.args.keys.now.cells c.self.inside.numbers c.in-Some.found.items
    c.self.invariant.keyed (rw c.in-Some.is at c.in_ok-found.ensures.found) alone.1.single)

pub returns-in-Some-clause-keys : goal.returns-in-Some-clause-keys
returns-in-Some-clause-keys c =
    let P : Store → Type 0 = λ s. keys_at s.table c.in-Some.found.items s.slots ≡ c.args.keys.now.cells in
    subst P c.self.view_is
    (found_keys c.self.inside.table c.self.inside.rows c.args.keys.now.cells c.self.inside.numbers
    c.in-Some.found.items c.self.invariant.keyed (rw c.in-Some.is at c.in_ok-found.ensures.found))

pub returns-in-Some-clause-fits : goal.returns-in-Some-clause-fits
returns-in-Some-clause-fits c =
    let P : Store → Type 0 = λ s. cause_of s.table (contents_of s.slots) (retract c.args.keys.now.cells) ≡ None in
    let alone = (rw c.in-Some.is at c.in_ok-found.ensures.alone) refl in
    subst P c.self.view_is
    (found_fits c.self.inside.table c.self.inside.rows c.self.inside.numbers alone.0 c.args.keys.now.cells
    c.in-Some.found.items c.self.invariant alone.1 (rw c.in-Some.is at c.in_ok-found.ensures.found))
