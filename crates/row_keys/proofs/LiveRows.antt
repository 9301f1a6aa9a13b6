-- Live rows by number.
use Rattle.std.proofs.Common.{◌≡◌, ℕ, zero, suc, ◌<◌, All, Bool, true, false, List, [], ◌∷◌, get_or, length, refl, ap, arith}
use Rattle.std.specs.Prelude.{if◌then◌else◌}
use Rattle.std.proofs.lemmas.List.Elements.{All-head, All-tail}
use Rattle.values.specs.Datum.{Datum, items_of}
use Rattle.values.specs.Layouts.{HoldsEach}
use Rattle.values.specs.Logical.{NamedType, trees_of}
use Rattle.values.specs.Rose.{Rose, kids_of}
use Rattle.row_keys.specs.Slots.{Slot, live, no_slot, row_of}

pub live_within : (slots : List Slot) (n : ℕ) → (get_or slots n no_slot).live ≡ true → n < length slots
live_within [] n is = absurd (cc)
live_within (s ∷ ss) zero is = omega arith
live_within (s ∷ ss) (suc n) is = omega (arith, live_within ss n is)

-- what holds of all live rows holds of the one of that number
pub live_row_is : (P : List Datum → Type 0) (slots : List Slot) (n : ℕ) → All P (live slots)
    → (get_or slots n no_slot).live ≡ true → P (row_of slots n)
unfolding live
live_row_is P [] n all is = absurd (cc)
live_row_is P (s ∷ ss) zero all is = by s.live is all
  where
    by : (b : Bool) → b ≡ true → All P (if b then s.row ∷ live ss else live ss) → P s.row
    by true h rows = All-head P s.row (live ss) rows
    by false h rows = absurd (cc)
live_row_is P (s ∷ ss) (suc n) all is = live_row_is P ss n (by s.live all) is
  where
    by : (b : Bool) → All P (if b then s.row ∷ live ss else live ss) → All P (live ss)
    by true rows = All-tail P s.row (live ss) rows
    by false rows = rows

-- a row has one cell for each column
pub held_long : (fs : List (Rose NamedType)) (row : List Datum) → HoldsEach (trees_of (kids_of fs)) (items_of row)
    → length row ≡ length fs
held_long [] [] held = refl
held_long [] (d ∷ ds) held = absurd held
held_long (f ∷ fs) [] held = absurd held
held_long (f ∷ fs) (d ∷ ds) held = ap suc (held_long fs ds held.1)
