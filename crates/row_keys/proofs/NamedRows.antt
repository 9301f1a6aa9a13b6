-- The rows that a change names exist.
use Rattle.std.proofs.Common.{◌≡◌, ◌<◌, All, List, ℕ, length, refl, subst, sym}
use Rattle.std.proofs.lemmas.List.Elements.{All-append}
use Rattle.row_keys.specs.HiddenChanges.{NamesRows, named_numbers}
use Rattle.row_keys.specs.Slots.{Slot, last_numbers}
use Rattle.row_keys.specs.declared.table_change.TableChange.{TableChange}
use Rattle.row_keys.specs.declared.table_change.TableChange.TheVariants.{Appended, Put, Retracted}
use Rattle.row_keys.proofs.NumberRanges.{last_there}

named_there : (c : TableChange) (slots : List Slot) → NamesRows c slots
    → All (λ k. k < length slots) (named_numbers c slots)
named_there (Appended n) slots named = absurd named
named_there (Retracted ns) slots named = named
named_there (Put n replaced) slots named =
    All-append (λ k. k < length slots) (last_numbers n slots) replaced.items
    (last_there n slots (last_numbers n slots) named.0 refl) named.1

pub listed_there : (c : TableChange) (slots : List Slot) (ns : List ℕ) → NamesRows c slots
    → ns ≡ named_numbers c slots → All (λ k. k < length slots) ns
listed_there c slots ns named is =
    subst (λ (ms : List ℕ). All (λ k. k < length slots) ms) (sym is) (named_there c slots named)
