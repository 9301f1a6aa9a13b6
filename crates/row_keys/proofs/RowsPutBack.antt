-- Rows that were restored can be retracted, which leads back.
use Rattle.std.proofs.Common.{◌≡◌, ℕ, zero, suc, true, false, List, [], ◌∷◌, length, refl, ap, sym, subst, ◌∙◌}
use Rattle.std.proofs.lemmas.Option.{none-some}
use Rattle.view_lang.specs.Config.{Table}
use Rattle.row_keys.specs.Slots.{AreRetracted, CanRetract, IsThere, Slot, marked, put_back, retracted, slot}
use Rattle.row_keys.proofs.Places.{some_same}
use Rattle.row_keys.proofs.RetractedRows.{length_marked}

live_again : (slots : List Slot) (n : ℕ) → IsThere slots n false → IsThere (marked true slots n) n true
live_again [] n there = absurd (none-some (slot there.0 false) there.1)
live_again (s ∷ ss) zero there = (s.row, refl)
live_again (s ∷ ss) (suc n) there = live_again ss n there

marked_off_again : (slots : List Slot) (n : ℕ) → IsThere slots n false → marked false (marked true slots n) n ≡ slots
marked_off_again [] n there = absurd (none-some (slot there.0 false) there.1)
marked_off_again (s ∷ ss) zero there =
    let same : s ≡ slot there.0 false = some_same s (slot there.0 false) there.1 in
    ap (λ b. slot s.row b ∷ ss) (sym (ap (λ x. x.live) same))
marked_off_again (s ∷ ss) (suc n) there = ap (λ xs. s ∷ xs) (marked_off_again ss n there)

pub can_retract_again : (t : Table) (ns : List ℕ) (slots : List Slot) → AreRetracted t ns slots
    → CanRetract ns (put_back ns slots)
unfolding CanRetract put_back AreRetracted
can_retract_again t [] slots are = tt
can_retract_again t (n ∷ ns) slots are =
    let P : List Slot → Type 0 = λ xs. CanRetract ns xs in (
      live_again (put_back ns slots) n are.1,
      subst P (sym (marked_off_again (put_back ns slots) n are.1)) (can_retract_again t ns slots are.0),
    )

pub retracted_again : (t : Table) (ns : List ℕ) (slots : List Slot) → AreRetracted t ns slots
    → retracted ns (put_back ns slots) ≡ slots
unfolding retracted put_back AreRetracted
retracted_again t [] slots are = refl
retracted_again t (n ∷ ns) slots are =
    ap (λ xs. retracted ns xs) (marked_off_again (put_back ns slots) n are.1) ∙ retracted_again t ns slots are.0

pub length_put_back : (ns : List ℕ) (slots : List Slot) → length (put_back ns slots) ≡ length slots
unfolding put_back
length_put_back [] slots = refl
length_put_back (n ∷ ns) slots = length_marked true (put_back ns slots) n ∙ length_put_back ns slots
