-- The laws of puts that are hidden and shown, and how many rows are deleted or inserted.
use Rattle.std.proofs.Common.{
  ◌≡◌,
  ℕ,
  zero,
  suc,
  Bool,
  true,
  false,
  List,
  [],
  ◌∷◌,
  Some,
  length,
  refl,
  ap,
  subst,
  ◌∙◌,
  arith,
}
use Rattle.std.specs.Prelude.{None, if◌then◌else◌}
use Rattle.std.proofs.lemmas.Option.{none-some}
use Rattle.view_lang.specs.Shifts.{Shift, shift}
use Rattle.row_keys.specs.NumberLaws.{FewPutBack, FewRetracted, HiddenPutGoes, Leads, ShownPutComes}
use Rattle.row_keys.specs.Numbered.{come, gone, numbered}
use Rattle.row_keys.specs.Slots.{
  CanPutBack,
  CanRetract,
  IsThere,
  Slot,
  last_numbers,
  live,
  marked,
  put_back,
  put_hidden,
  put_shown,
  retracted,
  row_of,
  slot,
}
use Rattle.row_keys.proofs.NumberedChanges.{changes_add}
use Rattle.row_keys.proofs.HiddenRows.{hide_can}
use Rattle.row_keys.proofs.NumberLaw.{put_back_come, retracted_go}
use Rattle.row_keys.proofs.Places.{some_same}
use Rattle.row_keys.proofs.RowsPutBack.{can_retract_again}
use Rattle.row_keys.proofs.RetractedRows.{row_retracted}

-- how many

one_fewer : (slots : List Slot) (n : ℕ) → IsThere slots n true
    → length (live slots) ≡ suc (length (live (marked false slots n)))
unfolding live
one_fewer [] n there = absurd (none-some (slot there.0 true) there.1)
one_fewer (s ∷ ss) zero there =
    ap (λ x. length (if x.live then s.row ∷ live ss else live ss)) (some_same s (slot there.0 true) there.1)
one_fewer (s ∷ ss) (suc n) there = by s.live (one_fewer ss n there)
  where
    by : (b : Bool) → length (live ss) ≡ suc (length (live (marked false ss n)))
        → length (if b then s.row ∷ live ss else live ss)
        ≡ suc (length (if b then s.row ∷ live (marked false ss n) else live (marked false ss n)))
    by true h = ap suc h
    by false h = h

pub few_retracted : FewRetracted
unfolding CanRetract
few_retracted [] slots can = omega arith
few_retracted (n ∷ ns) slots can =
    let one = one_fewer slots n can.0 in
    let rest = few_retracted ns (marked false slots n) can.1 in
    omega (arith, one, rest)

pub few_put_back : FewPutBack
unfolding CanPutBack
few_put_back t ns slots can = few_retracted ns (put_back ns slots) (can_retract_again t ns slots can.0)

-- rows that are inserted after others were deleted

come_same : (ms ns : List ℕ) (slots : List Slot) → come (retracted ms slots) ns ≡ come slots ns
come_same ms [] slots = refl
come_same ms (n ∷ ns) slots =
    ap (λ r. shift n None (Some r) ∷ come (retracted ms slots) ns) (row_retracted ms slots n)
    ∙ ap (λ es. shift n None (Some (row_of slots n)) ∷ es) (come_same ms ns slots)

pub hidden_put_goes : HiddenPutGoes
hidden_put_goes t ns n slots can =
    let last : List ℕ = last_numbers n slots in
    let off : List Slot = retracted last slots in
    let P : List Shift → Type 0 = λ es. Leads (numbered off) es (numbered (put_hidden n ns slots)) in
    changes_add (numbered slots) (numbered off) (numbered (put_hidden n ns slots)) (gone slots last) (come slots ns)
    (retracted_go last slots can.2)
    (subst P (come_same last ns slots) (put_back_come t ns off (hide_can t n ns slots can)))

pub shown_put_comes : ShownPutComes
shown_put_comes t ns n slots can =
    let last : List ℕ = last_numbers n slots in
    let off : List Slot = retracted ns slots in
    let P : List Shift → Type 0 = λ es. Leads (numbered off) es (numbered (put_shown n ns slots)) in
    changes_add (numbered slots) (numbered off) (numbered (put_shown n ns slots)) (gone slots ns) (come slots last)
    (retracted_go ns slots can.1)
    (subst P (come_same ns last slots) (put_back_come t last off can.2))
