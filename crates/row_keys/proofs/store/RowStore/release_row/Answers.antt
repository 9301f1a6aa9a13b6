use Rattle.std.proofs.Common.{◌≡◌, ◌∙◌, [], ap, false, get_or, subst, sym}
use Rattle.std.specs.Prelude.{slice_set}
use Rattle.row_keys.specs.Numbers.{no_row}
use Rattle.row_keys.specs.Slots.{IsOut, emptied}
use Rattle.row_keys.specs.Store.{Store, with_slots}
use Rattle.row_keys.specs.Stored.{joined}
use Rattle.row_keys.proofs.StoreStates.{joined_gone, live_joined, number_within, stored_gone}
use Rattle.row_keys.proofs.store.RowStore.release_row.Goals as goal

out : (c : goal.After-release-2) → IsOut (joined c.self.inside.rows c.self.inside.numbers) c.args.number
out c = let P : Store → Type 0 = λ s. IsOut s.slots c.args.number in subst P (sym c.self.view_is) c.requires

off : (c : goal.After-release-2) → (get_or c.self.inside.numbers c.args.number no_row).live ≡ false
off c =
    sym (live_joined c.self.inside.rows c.self.inside.numbers c.args.number (out c).0) ∙ (out c).1

pub release-requires-2-clause-there : goal.release-requires-2-clause-there
release-requires-2-clause-there c =
    let P : Store → Type 0 = λ s. IsOut s.slots c.args.number in
    let out : IsOut (joined c.self.inside.rows c.self.inside.numbers) c.args.number =
    subst P (sym c.self.view_is) c.requires in
    (number_within c.self.inside.table c.self.inside.rows c.self.inside.numbers c.args.number c.self.invariant out.0).1

pub release-requires-2-clause-out : goal.release-requires-2-clause-out
release-requires-2-clause-out c =
    let P : Store → Type 0 = λ s. IsOut s.slots c.args.number in
    let out : IsOut (joined c.self.inside.rows c.self.inside.numbers) c.args.number =
    subst P (sym c.self.view_is) c.requires in
    sym (live_joined c.self.inside.rows c.self.inside.numbers c.args.number out.0) ∙ out.1

pub invariant_of-self : goal.invariant_of-self
invariant_of-self c =
    rw (c.release.ensures, c.release-2.ensures)
    (stored_gone c.self.inside.table c.self.inside.rows c.self.inside.numbers c.args.number c.self.invariant (off c))

pub returns : goal.returns
returns c =
    ap (λ rows. record {
      table = c.self.inside.table;
      slots = joined rows c.release-2.new.self;
      visits = c.self.inside.visits;
    })
    c.release.ensures
    ∙ ap (λ xs. record {
      table = c.self.inside.table;
      slots = joined (slice_set c.self.inside.rows c.args.number []) xs;
      visits = c.self.inside.visits;
    })
    c.release-2.ensures
    ∙ ap (λ ss. record { table = c.self.inside.table; slots = ss; visits = c.self.inside.visits })
    (joined_gone c.self.inside.rows c.self.inside.numbers c.args.number)
    ∙ ap (λ (s : Store). with_slots s (emptied s.slots c.args.number)) c.self.view_is
