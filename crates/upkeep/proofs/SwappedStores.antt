-- Stores of which one is turned to its rows with a change, or without it, or is as it was.
use Rattle.std.proofs.Common.{◌≡◌, ℕ, zero, suc, List, [], ◌∷◌, ap, get_or, refl, sym, ◌∙◌}
use Rattle.std.specs.Prelude.{slice_set}
use Rattle.row_keys.specs.Store.{Store, with_slots}
use Rattle.row_keys.specs.declared.table_change.TableChange.{TableChange}
use Rattle.upkeep.specs.Stores.{rows_in}
use Rattle.upkeep.specs.StoreLaws.{rows_set, rows_there}
use Rattle.upkeep.specs.Swaps.{swapped}
use Rattle.upkeep.specs.ViewStates.{swapped_at}
use Rattle.upkeep.specs.declared.view_state.Turn.{Turn}
use Rattle.upkeep.proofs.SideEdits.{Changed}

pub turned_rows :
    {ss : List Store} {n : ℕ} {s t : Store} (u : Turn) (c : TableChange) → Changed ss n s t
    → t ≡ with_slots s (swapped u c s.slots) → rows_in (slice_set ss n t) ≡ swapped_at n u c (rows_in ss)
turned_rows {ss = ss} {n = n} {s = s} {t = t} u c changed turned =
    rows_set ss n t
    ∙ ap (slice_set (rows_in ss) n)
    (ap (λ (x : Store). x.slots) turned
    ∙ ap (swapped u c) (sym (rows_there ss n s changed.is changed.below)))

-- stores of which one is what it was
pub kept_store : (ss : List Store) (n : ℕ) (s t : Store) → s ≡ get_or ss n s → t ≡ s → slice_set ss n t ≡ ss
kept_store [] n s t is same = refl
kept_store (x ∷ xs) zero s t is same = ap (λ (y : Store). y ∷ xs) (same ∙ is)
kept_store (x ∷ xs) (suc n) s t is same = ap (λ (ys : List Store). x ∷ ys) (kept_store xs n s t is same)
