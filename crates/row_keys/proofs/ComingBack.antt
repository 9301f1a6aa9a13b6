-- Live rows that are retracted, and restored where they were.
use Rattle.std.proofs.Common.{◌≡◌, refl, ap, sym, ◌∙◌, subst}
use Rattle.std.specs.Prelude.{ℕ, zero, suc, Bool, true, false, cond, List, [], ◌∷◌, Some, None}
use Rattle.std.specs.List.{AllByRecursion, IsDistinct}
use Rattle.std.specs.Ordering.{eq_by_cmp, nat_cmp}
use Rattle.std.proofs.lemmas.List.Elements.{recursion_from_All}
use Rattle.std.proofs.lemmas.Map.Keys.{IsDistinct-from_sorted}
use Rattle.std.proofs.lemmas.Option.{none-some}
use Rattle.view_lang.specs.Shifts.{row_at}
use Rattle.row_keys.specs.NumberLaws.{LiveCanGo, RetractedComeBack}
use Rattle.row_keys.specs.Numbered.{live_at, live_row, numbered}
use Rattle.row_keys.specs.Slots.{CanRetract, IsThere, Slot, marked, retracted, row_of, slot}
use Rattle.row_keys.proofs.NumberedChanges.{is_named, is_same, leads, same_is}
use Rattle.row_keys.proofs.RowsByNumber.{
  Lives,
  at_numbered,
  at_retracted,
  distinct_retracted,
  marked_off,
  numbered_up,
  retracted_lived,
  same_self,
}
use Rattle.row_keys.proofs.RetractedRows.{row_marked}

is_there : (slots : List Slot) (n : ℕ) → Lives slots n → IsThere slots n true
is_there [] n h = absurd (none-some [] h)
is_there (s ∷ ss) zero h = by s.live refl
  where
    by : (b : Bool) → s.live ≡ b → IsThere (s ∷ ss) 0 true
    by true e = (s.row, ap (λ x. Some (slot s.row x)) e)
    by false e = absurd (none-some s.row (sym (ap (λ x. live_row (slot s.row x)) e) ∙ h))
is_there (s ∷ ss) (suc n) h = is_there ss n h

lives_after : (slots : List Slot) (n : ℕ) (ms : List ℕ) → AllByRecursion (λ m. eq_by_cmp nat_cmp n m ≡ false) ms
    → AllByRecursion (Lives slots) ms → AllByRecursion (Lives (marked false slots n)) ms
lives_after slots n [] d h = tt
lives_after slots n (m ∷ ms) d h = (
  marked_off slots n m ∙ ap (λ b. cond b None (live_at slots m)) d.0 ∙ h.0
      ∙ ap Some (sym (row_marked false slots n m)),
  lives_after slots n ms d.1 h.1,
)

can_go : (ns : List ℕ) (slots : List Slot) → IsDistinct (eq_by_cmp nat_cmp) ns → AllByRecursion (Lives slots) ns
    → CanRetract ns slots
unfolding CanRetract IsDistinct
can_go [] slots d h = tt
can_go (n ∷ ns) slots d h =
    (is_there slots n h.0, can_go ns (marked false slots n) d.1 (lives_after slots n ns d.0 h.1))

pub live_can_go : LiveCanGo
live_can_go ns slots ascending live =
    can_go ns slots (IsDistinct-from_sorted nat_cmp ns ascending) (recursion_from_All (Lives slots) ns live)

-- numbers among some

true_still : (b c : Bool) → c ≡ true → cond b true c ≡ true
true_still true c h = refl
true_still false c h = h

all_named : (ms ns : List ℕ) → ((m : ℕ) → is_named m ms ≡ true → is_named m ns ≡ true)
    → AllByRecursion (λ n. is_named n ns ≡ true) ms
all_named [] ns f = tt
all_named (m ∷ ms) ns f = (
  f m (ap (λ b. cond b true (is_named m ms)) (same_self m)),
  all_named ms ns (λ k h. f k (true_still (is_same m k) (is_named k ms) h)),
)

named_lives : (slots : List Slot) (ns : List ℕ) (m : ℕ) → AllByRecursion (Lives slots) ns → is_named m ns ≡ true
    → Lives slots m
named_lives slots [] m h named = absurd (cc)
named_lives slots (n ∷ ns) m h named = by (named_lives slots ns m h.1) (is_same n m) refl named
  where
    by : (is_named m ns ≡ true → Lives slots m) → (b : Bool) → is_same n m ≡ b → cond b true (is_named m ns) ≡ true
        → Lives slots m
    by rest true e x = subst (Lives slots) (same_is n m e) h.0
    by rest false e x = rest x

free_after : (slots : List Slot) (ns ms : List ℕ) → AllByRecursion (λ n. is_named n ns ≡ true) ms
    → AllByRecursion (λ n. row_at n (numbered (retracted ns slots)) ≡ None) ms
free_after slots ns [] h = tt
free_after slots ns (m ∷ ms) h = (
  at_numbered (retracted ns slots) m ∙ at_retracted ns slots m
      ∙ ap (λ b. cond b None (live_at slots m)) h.0,
  free_after slots ns ms h.1,
)

pub retracted_come_back : RetractedComeBack
retracted_come_back ns slots can =
    leads (λ n. None) (λ n. Some (row_of slots n)) ns (numbered (retracted ns slots)) (numbered slots)
    (numbered_up 0 (retracted ns slots)) (numbered_up 0 slots) (distinct_retracted ns slots can)
    (free_after slots ns ns (all_named ns ns (λ m h. h)))
    (λ m. at_numbered slots m ∙ at m (is_named m ns) refl
    ∙ sym (ap (λ o. cond (is_named m ns) (Some (row_of slots m)) o)
    (at_numbered (retracted ns slots) m ∙ at_retracted ns slots m)))
  where
    at : (m : ℕ) (b : Bool) → is_named m ns ≡ b
        → live_at slots m ≡ cond (is_named m ns) (Some (row_of slots m)) (cond (is_named m ns) None (live_at slots m))
    at m true e =
        named_lives slots ns m (retracted_lived ns slots can) e
        ∙ sym (ap (λ b. cond b (Some (row_of slots m)) (cond b None (live_at slots m))) e)
    at m false e = sym (ap (λ b. cond b (Some (row_of slots m)) (cond b None (live_at slots m))) e)
