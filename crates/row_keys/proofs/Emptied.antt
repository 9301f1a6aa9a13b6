-- Slots of which one is emptied, whose row isn't live: the live rows are the same, and what doesn't bring it back is as
-- before.
use Rattle.std.proofs.Common.{
  ◌≡◌,
  ℕ,
  zero,
  suc,
  ◌-◌,
  ◌<◌,
  ◌≤◌,
  Bool,
  true,
  false,
  Some,
  List,
  [],
  ◌∷◌,
  length,
  take,
  get_or,
  refl,
  ap,
  sym,
  subst,
  ◌∙◌,
  arith,
  true≢false,
}
use Rattle.std.specs.Prelude.{if◌then◌else◌}
use Rattle.std.proofs.lemmas.Option.{none-some}
use Rattle.values.specs.Datum.{Datum, is_null}
use Rattle.view_lang.specs.Config.{Table}
use Rattle.view_lang.specs.Contents.{Contents, is_among, key_in, keys_in}
use Rattle.row_keys.specs.NumberLaws.{ReleasedUnseen}
use Rattle.row_keys.specs.Numbered.{numbered_from}
use Rattle.row_keys.specs.Slots.{AllOut, AreRetracted, CanPutBack, CanRetract, CanRevert, IsOut, IsThere, Slot, contents_of, emptied, live, marked, no_slot, put_back, reverted, row_of, slot}

-- The row of this number isn't live.
abbrev pub IsOff : List Slot → ℕ → Type 0
IsOff slots n = (get_or slots n no_slot).live ≡ false

-- n is none of these
abbrev pub Spares : ℕ → List ℕ → Type 0
Spares n [] = Unit {0}
Spares n (m ∷ ms) = (m ≡ n → ⊥) × Spares n ms

some_same : {X : Type 0} (x y : X) → Some x ≡ Some y → x ≡ y
some_same x y h = cc h

-- one slot is emptied

pub length_emptied : (slots : List Slot) (n : ℕ) → length (emptied slots n) ≡ length slots
length_emptied [] n = refl
length_emptied (s ∷ ss) zero = refl
length_emptied (s ∷ ss) (suc n) = ap suc (length_emptied ss n)

pub live_emptied : (slots : List Slot) (n : ℕ) → IsOff slots n → live (emptied slots n) ≡ live slots
unfolding live
live_emptied [] n off = refl
live_emptied (s ∷ ss) zero off = sym (ap (λ b. if b then s.row ∷ live ss else live ss) off)
live_emptied (s ∷ ss) (suc n) off = ap (λ xs. if s.live then s.row ∷ xs else xs) (live_emptied ss n off)

pub numbered_emptied : (slots : List Slot) (m n : ℕ) → IsOff slots n
    → numbered_from m (emptied slots n) ≡ numbered_from m slots
numbered_emptied [] m n off = refl
numbered_emptied (s ∷ ss) m zero off =
    sym (ap (λ b. if b then (m, s.row) ∷ numbered_from (suc m) ss else numbered_from (suc m) ss) off)
numbered_emptied (s ∷ ss) m (suc n) off =
    ap (λ xs. if s.live then (m, s.row) ∷ xs else xs) (numbered_emptied ss (suc m) n off)

pub contents_emptied : (slots : List Slot) (n : ℕ) → IsOff slots n → contents_of (emptied slots n) ≡ contents_of slots
contents_emptied slots n off =
    let f : List (List Datum) → Contents = λ xs. record { live = xs; appended = length (emptied slots n) } in
    let g : ℕ → Contents = λ k. record { live = live slots; appended = k } in
    ap f (live_emptied slots n off) ∙ ap g (length_emptied slots n)

marked_emptied : (b : Bool) (slots : List Slot) (m n : ℕ) → (m ≡ n → ⊥)
    → marked b (emptied slots n) m ≡ emptied (marked b slots m) n
marked_emptied b [] m n other = refl
marked_emptied b (s ∷ ss) zero zero other = absurd (other refl)
marked_emptied b (s ∷ ss) zero (suc n) other = refl
marked_emptied b (s ∷ ss) (suc m) zero other = refl
marked_emptied b (s ∷ ss) (suc m) (suc n) other =
    ap (λ xs. s ∷ xs) (marked_emptied b ss m n (λ e. other (ap suc e)))

take_emptied : (k : ℕ) (slots : List Slot) (n : ℕ) → take k (emptied slots n) ≡ emptied (take k slots) n
take_emptied zero [] n = refl
take_emptied (suc k) [] n = refl
take_emptied zero (s ∷ ss) zero = refl
take_emptied zero (s ∷ ss) (suc n) = refl
take_emptied (suc k) (s ∷ ss) zero = refl
take_emptied (suc k) (s ∷ ss) (suc n) = ap (λ xs. s ∷ xs) (take_emptied k ss n)

there_emptied : (slots : List Slot) (m n : ℕ) (b : Bool) → (m ≡ n → ⊥) → IsThere slots m b
    → IsThere (emptied slots n) m b
there_emptied [] m n b other there = there
there_emptied (s ∷ ss) zero zero b other there = absurd (other refl)
there_emptied (s ∷ ss) zero (suc n) b other there = there
there_emptied (s ∷ ss) (suc m) zero b other there = there
there_emptied (s ∷ ss) (suc m) (suc n) b other there = there_emptied ss m n b (λ e. other (ap suc e)) there

-- The other rows are what they were.
pub row_emptied : (slots : List Slot) (m n : ℕ) → (m ≡ n → ⊥) → row_of (emptied slots n) m ≡ row_of slots m
row_emptied [] m n other = refl
row_emptied (s ∷ ss) zero zero other = absurd (other refl)
row_emptied (s ∷ ss) zero (suc n) other = refl
row_emptied (s ∷ ss) (suc m) zero other = refl
row_emptied (s ∷ ss) (suc m) (suc n) other = row_emptied ss m n (λ e. other (ap suc e))

-- which rows aren't live

off_marked : (b : Bool) (slots : List Slot) (m n : ℕ) → (m ≡ n → ⊥) → IsOff slots n → IsOff (marked b slots m) n
off_marked b [] m n other off = off
off_marked b (s ∷ ss) zero zero other off = absurd (other refl)
off_marked b (s ∷ ss) zero (suc n) other off = off
off_marked b (s ∷ ss) (suc m) zero other off = off
off_marked b (s ∷ ss) (suc m) (suc n) other off = off_marked b ss m n (λ e. other (ap suc e)) off

off_before : (b : Bool) (slots : List Slot) (m n : ℕ) → (m ≡ n → ⊥) → IsOff (marked b slots m) n → IsOff slots n
off_before b [] m n other off = off
off_before b (s ∷ ss) zero zero other off = absurd (other refl)
off_before b (s ∷ ss) zero (suc n) other off = off
off_before b (s ∷ ss) (suc m) zero other off = off
off_before b (s ∷ ss) (suc m) (suc n) other off = off_before b ss m n (λ e. other (ap suc e)) off

pub off_false : (slots : List Slot) (m n : ℕ) → IsOff slots n → IsOff (marked false slots m) n
off_false [] m n off = off
off_false (s ∷ ss) zero zero off = refl
off_false (s ∷ ss) zero (suc n) off = off
off_false (s ∷ ss) (suc m) zero off = off
off_false (s ∷ ss) (suc m) (suc n) off = off_false ss m n off

pub off_emptied : (slots : List Slot) (m n : ℕ) → IsOff slots m → IsOff (emptied slots n) m
off_emptied [] m n off = off
off_emptied (s ∷ ss) zero zero off = refl
off_emptied (s ∷ ss) zero (suc n) off = off
off_emptied (s ∷ ss) (suc m) zero off = off
off_emptied (s ∷ ss) (suc m) (suc n) off = off_emptied ss m n off

off_taken : (k : ℕ) (slots : List Slot) (n : ℕ) → IsOff slots n → IsOff (take k slots) n
off_taken zero [] n off = off
off_taken (suc k) [] n off = off
off_taken zero (s ∷ ss) n off = refl
off_taken (suc k) (s ∷ ss) zero off = off
off_taken (suc k) (s ∷ ss) (suc n) off = off_taken k ss n off

out_untaken : (k : ℕ) (slots : List Slot) (n : ℕ) → IsOut (take k slots) n → IsOut slots n
out_untaken zero [] n out = out
out_untaken (suc k) [] n out = out
out_untaken zero (s ∷ ss) n out = absurd (omega (arith, out.0))
out_untaken (suc k) (s ∷ ss) zero out = (omega arith, out.1)
out_untaken (suc k) (s ∷ ss) (suc n) out =
    let below : n < length (take k ss) = omega (arith, out.0) in
    let rest : IsOut ss n = out_untaken k ss n (below, out.1) in
    (omega (arith, rest.0), rest.1)

pub there_off : (slots : List Slot) (n : ℕ) → IsThere slots n true → IsOff slots n → ⊥
there_off [] n there off = none-some (slot there.0 true) there.1
there_off (s ∷ ss) zero there off =
    true≢false (sym (ap (λ x. x.live) (some_same s (slot there.0 true) there.1)) ∙ off)
there_off (s ∷ ss) (suc n) there off = there_off ss n there off

pub there_out : (slots : List Slot) (n : ℕ) → IsThere slots n false → IsOut slots n
there_out [] n there = absurd (none-some (slot there.0 false) there.1)
there_out (s ∷ ss) zero there = (omega arith, ap (λ x. x.live) (some_same s (slot there.0 false) there.1))
there_out (s ∷ ss) (suc n) there =
    let rest : IsOut ss n = there_out ss n there in
    (omega (arith, rest.0), rest.1)

live_then : (slots : List Slot) (n : ℕ) → IsThere slots n false → IsThere (marked true slots n) n true
live_then [] n there = absurd (none-some (slot there.0 false) there.1)
live_then (s ∷ ss) zero there = (s.row, refl)
live_then (s ∷ ss) (suc n) there = live_then ss n there

length_marked : (b : Bool) (slots : List Slot) (n : ℕ) → length (marked b slots n) ≡ length slots
length_marked b [] n = refl
length_marked b (s ∷ ss) zero = refl
length_marked b (s ∷ ss) (suc n) = ap suc (length_marked b ss n)

-- rows that are restored

pub put_back_emptied : (ns : List ℕ) (slots : List Slot) (n : ℕ) → Spares n ns
    → put_back ns (emptied slots n) ≡ emptied (put_back ns slots) n
unfolding put_back
put_back_emptied [] slots n spares = refl
put_back_emptied (m ∷ ms) slots n spares =
    ap (λ xs. marked true xs m) (put_back_emptied ms slots n spares.1)
    ∙ marked_emptied true (put_back ms slots) m n spares.0

pub off_put_back : (ns : List ℕ) (slots : List Slot) (n : ℕ) → Spares n ns → IsOff slots n → IsOff (put_back ns slots) n
unfolding put_back
off_put_back [] slots n spares off = off
off_put_back (m ∷ ms) slots n spares off =
    off_marked true (put_back ms slots) m n spares.0 (off_put_back ms slots n spares.1 off)

are_emptied : (t : Table) (ns : List ℕ) (slots : List Slot) (n : ℕ) → Spares n ns → IsOff slots n
    → AreRetracted t ns slots → AreRetracted t ns (emptied slots n)
unfolding AreRetracted put_back
are_emptied t [] slots n spares off are = tt
are_emptied t (m ∷ ms) slots n spares off are =
    let P : List Slot → Type 0 = λ xs. IsThere xs m false in
    let same : put_back ms (emptied slots n) ≡ emptied (put_back ms slots) n = put_back_emptied ms slots n spares.1 in (
      are_emptied t ms slots n spares.1 off are.0,
      subst P (sym same) (there_emptied (put_back ms slots) m n false spares.0 are.1),
      ap (λ r. is_among (key_in t r) (keys_in t (live (put_back ms (emptied slots n))))) (row_emptied slots m n spares.0)
          ∙ ap (λ xs. is_among (key_in t (row_of slots m)) (keys_in t (live xs))) same
          ∙ ap (λ rows. is_among (key_in t (row_of slots m)) (keys_in t rows))
          (live_emptied (put_back ms slots) n (off_put_back ms slots n spares.1 off))
          ∙ are.2,
      ap (λ r. is_null (key_in t r)) (row_emptied slots m n spares.0) ∙ are.3,
    )

pub can_put_emptied : (t : Table) (ns : List ℕ) (slots : List Slot) (n : ℕ) → Spares n ns → IsOff slots n
    → CanPutBack t ns slots → CanPutBack t ns (emptied slots n)
unfolding CanPutBack
can_put_emptied t ns slots n spares off can =
    let few : length (live (put_back ns (emptied slots n))) ≡ length (live (put_back ns slots)) =
    ap (λ xs. length (live xs)) (put_back_emptied ns slots n spares)
    ∙ ap length (live_emptied (put_back ns slots) n (off_put_back ns slots n spares off)) in (
      are_emptied t ns slots n spares off can.0,
      subst (λ k. k ≤ t.max_rows) (sym few) can.1,
    )

pub can_retract_emptied : (ns : List ℕ) (slots : List Slot) (n : ℕ) → IsOff slots n → CanRetract ns slots
    → CanRetract ns (emptied slots n)
unfolding CanRetract
can_retract_emptied [] slots n off can = tt
can_retract_emptied (m ∷ ms) slots n off can =
    let other : m ≡ n → ⊥ = λ e. there_off slots n (subst (λ k. IsThere slots k true) e can.0) off in
    let P : List Slot → Type 0 = λ xs. CanRetract ms xs in (
      there_emptied slots m n true other can.0,
      subst P (sym (marked_emptied false slots m n other))
          (can_retract_emptied ms (marked false slots m) n (off_false slots m n off) can.1),
    )

pub taken_emptied : (k : ℕ) (slots : List Slot) (n : ℕ) → reverted k (emptied slots n) ≡ emptied (reverted k slots) n
unfolding reverted
taken_emptied k slots n =
    ap (λ l. take (l - k) (emptied slots n)) (length_emptied slots n) ∙ take_emptied (length slots - k) slots n

pub off_reverted : (k : ℕ) (slots : List Slot) (n : ℕ) → IsOff slots n → IsOff (reverted k slots) n
unfolding reverted
off_reverted k slots n off = off_taken (length slots - k) slots n off

pub out_unreverted : (k : ℕ) (slots : List Slot) (n : ℕ) → IsOut (reverted k slots) n → IsOut slots n
unfolding reverted
out_unreverted k slots n out = out_untaken (length slots - k) slots n out

pub can_take_emptied : (k : ℕ) (slots : List Slot) (n : ℕ) → CanRevert k slots → CanRevert k (emptied slots n)
unfolding CanRevert
can_take_emptied k slots n can = subst (λ l. k ≤ l) (sym (length_emptied slots n)) can

-- which rows a change can bring back

pub out_before : (t : Table) (ns : List ℕ) (slots : List Slot) (n : ℕ) → AreRetracted t ns slots
    → IsOut (put_back ns slots) n → IsOut slots n × Spares n ns
unfolding AreRetracted put_back
out_before t [] slots n are out = (out, tt)
out_before t (m ∷ ms) slots n are out =
    let xs : List Slot = put_back ms slots in
    let P : ℕ → Type 0 = λ k. IsThere (marked true (put_back ms slots) m) k true in
    let other : m ≡ n → ⊥ =
    λ e. there_off (marked true (put_back ms slots) m) n (subst P e (live_then (put_back ms slots) m are.1)) out.1 in
    let below : n < length (put_back ms slots) =
    subst (λ l. n < l) (length_marked true (put_back ms slots) m) out.0 in
    let rest : IsOut slots n × Spares n ms =
    out_before t ms slots n are.0 (below, off_before true (put_back ms slots) m n other out.1) in
    (rest.0, (other, rest.1))

pub all_out : (t : Table) (ns : List ℕ) (slots : List Slot) → AreRetracted t ns slots → AllOut ns slots
unfolding AreRetracted put_back
all_out t [] slots are = tt
all_out t (m ∷ ms) slots are = (
  (out_before t ms slots m are.0 (there_out (put_back ms slots) m are.1)).0,
  all_out t ms slots are.0,
)

pub all_untaken : (k : ℕ) (ns : List ℕ) (slots : List Slot) → AllOut ns (reverted k slots) → AllOut ns slots
all_untaken k [] slots out = tt
all_untaken k (n ∷ ns) slots out = (out_unreverted k slots n out.0, all_untaken k ns slots out.1)

-- Several rows are released.

pub out_emptied : (ns : List ℕ) (slots : List Slot) (n : ℕ) → AllOut ns slots → AllOut ns (emptied slots n)
out_emptied [] slots n out = tt
out_emptied (m ∷ ms) slots n out =
    let many = length_emptied slots n in
    let within = out.0.0 in
    ((omega (arith, many, within), off_emptied slots m n out.0.1), out_emptied ms slots n out.1)

pub released_unseen : ReleasedUnseen
released_unseen [] slots out = (refl, refl)
released_unseen (n ∷ ns) slots out =
    let rest = released_unseen ns (emptied slots n) (out_emptied ns slots n out.1) in (
      rest.0 ∙ contents_emptied slots n out.0.1,
      rest.1 ∙ numbered_emptied slots 0 n out.0.1,
    )
