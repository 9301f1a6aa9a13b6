-- A cell has a fault exactly where a slot that it reaches has it.
use Rattle.std.proofs.Common.{
  ◌≡◌,
  ◌⊎◌,
  inl,
  inr,
  ℕ,
  ℤ,
  zero,
  suc,
  List,
  ◌+◌,
  ◌-◌,
  ◌^◌,
  ◌<◌,
  ◌≤◌,
  ◌<ℤ◌,
  ◌≤ℤ◌,
  pos,
  negsuc,
  length,
  refl,
  sym,
  subst,
  ◌∙◌,
  arith,
}
use Rattle.std.specs.Prelude.{Option, None, Some, Ok, Err, Bool, true, false, if◌then◌else◌, nat_lt, nat_abs, slice_get}
use Rattle.std.proofs.lemmas.Option.{slice_get-get_or, none-some}
use Rattle.std.proofs.lemmas.Bool.{cases_lt}
use Rattle.std.specs.Str.{is_utf8}
use Rattle.values.specs.declared.faults.StreamFault.{StreamFault}
use Rattle.values.specs.declared.faults.StreamFault.TheVariants as fault
use Rattle.values.specs.Reading.{Reading, one, cons, mapped, must, each, FailsWith}
use Rattle.values.proofs.Readings.{both_left, both_right, stands_both, stands_each, stands_mapped}
use Rattle.values.specs.Rose.{Rose, node, Roses, none, more}
use Rattle.values.specs.Datum.{Datum, null, whole, text}
use Rattle.values.specs.declared.layout.Layout.{Layout}
use Rattle.values.specs.declared.layout.Layout.TheVariants.{
  Bool as Booleans,
  Int,
  Decimal,
  FixedSizeBinary,
  Utf8,
  Binary,
  List as Listed,
  Struct,
}
use Rattle.values.specs.Layouts.{bytes_in}
use Rattle.array_layout.specs.declared.array.DictionaryValues.{DictionaryValues}
use Rattle.array_layout.specs.declared.array.ArrayData.{ArrayData}
use Rattle.array_layout.specs.Placing.{bytes_of}
use Rattle.array_layout.specs.Buffers.{is_null, number_at, offset_at, slice_at}
use Rattle.array_layout.specs.Cells.{
  cell,
  first_cell,
  row,
  cell_by,
  slot_by,
  coded_by,
  indexed,
  value_by,
  text_of,
  decimal_of,
}
use Rattle.arrays.proofs.DictionaryLemmas.{index_negative, index_past}
use Rattle.arrays.specs.Reached.{
  Below,
  BelowSlot,
  Reaches,
  ReachesFirst,
  ReachesBeside,
  OwnFault,
  HasNoValue,
  SlotFault,
  HasFault,
  Found,
}

unmapped : {X Y : Type 0} (f : X → Y) (m : Reading X) (c : StreamFault) → FailsWith (mapped f m) c → FailsWith m c
unmapped f (Ok x) c h = h
unmapped f (Err fs) c h = h

text_fault : (t : List ℕ) (c : StreamFault) → FailsWith (text_of t) c → (is_utf8 t ≡ false) × (fault.NotUtf8 ≡ c)
text_fault t c stands = by_cases (is_utf8 t) stands where
  by_cases : (u : Bool) → FailsWith (if u then Ok (text t) else Err (one fault.NotUtf8)) c
      → (u ≡ false) × (fault.NotUtf8 ≡ c)
  by_cases true h = absurd h
  by_cases false h = (refl, h)

fault_text : (t : List ℕ) (c : StreamFault) → is_utf8 t ≡ false → fault.NotUtf8 ≡ c → FailsWith (text_of t) c
fault_text t c not is =
    let P : Bool → Type 0 = λ u. FailsWith (if u then Ok (text t) else Err (one fault.NotUtf8)) c in subst P (sym not) is

decimal_fault : (d : ℕ) (z : ℤ) (c : StreamFault) → FailsWith (decimal_of d z) c
    → (10 ^ d ≤ nat_abs z) × (fault.DecimalRange ≡ c)
decimal_fault d z c stands = by_cases (nat_lt (nat_abs z) (10 ^ d)) refl stands where
  by_cases :
      (u : Bool) → nat_lt (nat_abs z) (10 ^ d) ≡ u → FailsWith (if u then Ok (whole z) else Err (one fault.DecimalRange)) c
      → (10 ^ d ≤ nat_abs z) × (fault.DecimalRange ≡ c)
  by_cases true same h = absurd h
  by_cases false same h = (grind arith, h)

fault_decimal : (d : ℕ) (z : ℤ) (c : StreamFault) → 10 ^ d ≤ nat_abs z → fault.DecimalRange ≡ c
    → FailsWith (decimal_of d z) c
fault_decimal d z c large is =
    let P : Bool → Type 0 = λ u. FailsWith (if u then Ok (whole z) else Err (one fault.DecimalRange)) c in
    let not : nat_lt (nat_abs z) (10 ^ d) ≡ false = grind arith in
    subst P (sym not) is

each_stands : {X : Type 0} (f : ℕ → Reading X) (i n k : ℕ) (c : StreamFault) → k < n → FailsWith (f (i + k)) c
    → FailsWith (each f i n) c
unfolding each
each_stands f i zero k c below h = absurd (omega arith)
each_stands f i (suc n) zero c below h =
    let same : i + 0 ≡ i = omega arith in
    both_left cons (f i) (each f (i + 1) n) c (subst (λ (m : ℕ). FailsWith (f m) c) same h)
each_stands f i (suc n) (suc k) c below h =
    let same : i + suc k ≡ (i + 1) + k = omega arith in
    both_right cons (f i) (each f (i + 1) n) c
    (each_stands f (i + 1) n k c (omega arith) (subst (λ (m : ℕ). FailsWith (f m) c) same h))

-- one level, from the faults
value_found :
    (l : Layout) (b : List ℕ) (p : ArrayData) (here : ℕ → Reading Datum) (beside : ℕ
    → Reading (List Datum)) (i : ℕ) (c : StreamFault)
    (F : ℕ → Type 0) (G : Type 0) → ((k : ℕ) → FailsWith (here k) c → F k) → (FailsWith (beside i) c → G)
    → FailsWith (value_by l b p here beside i) c → OwnFault l b p i c ⊎ Below l (bytes_of b p.offsets) F G i
value_found Booleans b p here beside i c F G f g h = absurd h
value_found (Int w s) b p here beside i c F G f g h = absurd h
value_found (Decimal d) b p here beside i c F G f g h =
    inl (decimal_fault d (number_at true 16 (bytes_of b p.values) i) c h)
value_found (FixedSizeBinary w) b p here beside i c F G f g h = absurd h
value_found (Utf8 o) b p here beside i c F G f g h =
    inl (text_fault (slice_at o (bytes_of b p.offsets) (bytes_of b p.values) i) c h)
value_found (Binary o) b p here beside i c F G f g h = absurd h
value_found (Listed o) b p here beside i c F G f g h =
    let from : ℕ = offset_at o (bytes_of b p.offsets) i in
    let to : ℕ = offset_at o (bytes_of b p.offsets) (i + 1) in
    let found = stands_each here from (to - from) c (unmapped _ (each here from (to - from)) c h) in
    let within : found.0 < to - from = found.1 in
    inr (from + found.0, omega arith, omega (arith, within), f (from + found.0) found.2)
value_found Struct b p here beside i c F G f g h = inr (g (unmapped _ (beside i) c h))

-- and to them
own_stands :
    (l : Layout) (b : List ℕ) (p : ArrayData) (here : ℕ → Reading Datum) (beside : ℕ
    → Reading (List Datum)) (i : ℕ) (c : StreamFault)
    → OwnFault l b p i c → FailsWith (value_by l b p here beside i) c
own_stands Booleans b p here beside i c h = absurd h
own_stands (Int w s) b p here beside i c h = absurd h
own_stands (Decimal d) b p here beside i c h = fault_decimal d (number_at true 16 (bytes_of b p.values) i) c h.0 h.1
own_stands (FixedSizeBinary w) b p here beside i c h = absurd h
own_stands (Utf8 o) b p here beside i c h =
    fault_text (slice_at o (bytes_of b p.offsets) (bytes_of b p.values) i) c h.0 h.1
own_stands (Binary o) b p here beside i c h = absurd h
own_stands (Listed o) b p here beside i c h = absurd h
own_stands Struct b p here beside i c h = absurd h

below_stands :
    (l : Layout) (b : List ℕ) (p : ArrayData) (here : ℕ → Reading Datum) (beside : ℕ
    → Reading (List Datum)) (i : ℕ) (c : StreamFault)
    (F : ℕ → Type 0) (G : Type 0) → ((k : ℕ) → F k → FailsWith (here k) c) → (G → FailsWith (beside i) c)
    → Below l (bytes_of b p.offsets) F G i → FailsWith (value_by l b p here beside i) c
below_stands Booleans b p here beside i c F G f g h = absurd h
below_stands (Int w s) b p here beside i c F G f g h = absurd h
below_stands (Decimal d) b p here beside i c F G f g h = absurd h
below_stands (FixedSizeBinary w) b p here beside i c F G f g h = absurd h
below_stands (Utf8 o) b p here beside i c F G f g h = absurd h
below_stands (Binary o) b p here beside i c F G f g h = absurd h
below_stands (Listed o) b p here beside i c F G f g h =
    let from : ℕ = offset_at o (bytes_of b p.offsets) i in
    let to : ℕ = offset_at o (bytes_of b p.offsets) (i + 1) in
    let low : from ≤ h.0 = h.1 in
    let high : h.0 < to = h.2 in
    let same : h.0 ≡ from + (h.0 - from) = omega (arith, low) in
    let P : ℕ → Type 0 = λ k. FailsWith (here k) c in
    stands_mapped _ (each here from (to - from)) c
    (each_stands here from (to - from) (h.0 - from) c (omega (arith, low, high)) (subst P same (f h.0 h.3)))
below_stands Struct b p here beside i c F G f g h = stands_mapped _ (beside i) c (g h)

-- the same of an index
past : (ds : List Datum) (n : ℕ) → slice_get ds n ≡ None → pos (length ds) ≤ℤ pos n
past ds n none_there = elim (cases_lt n (length ds)) [
  | inl below ↦ let there = slice_get-get_or ds n null below in absurd (none-some _ (sym none_there ∙ there))
  | inr above ↦ grind arith
]

indexed_fault :
    (ds : List Datum) (z : ℤ) (c : StreamFault) → FailsWith (indexed ds z) c
    → ((z <ℤ pos 0) ⊎ (pos (length ds) ≤ℤ z)) × (fault.DictionaryIndex ≡ c)
indexed_fault ds (pos n) c h = by_cases (slice_get ds n) refl h where
  by_cases :
      (o : Option Datum) → slice_get ds n ≡ o → FailsWith (must fault.DictionaryIndex o) c
      → ((pos n <ℤ pos 0) ⊎ (pos (length ds) ≤ℤ pos n)) × (fault.DictionaryIndex ≡ c)
  by_cases None none_there stands = (inr (past ds n none_there), stands)
  by_cases (Some d) there stands = absurd stands
indexed_fault ds (negsuc n) c h = (inl (grind arith), h)

fault_indexed :
    (ds : List Datum) (z : ℤ) (c : StreamFault) → (z <ℤ pos 0) ⊎ (pos (length ds) ≤ℤ z) → fault.DictionaryIndex ≡ c
    → FailsWith (indexed ds z) c
fault_indexed ds z c none_there is =
    let P : Reading Datum → Type 0 = λ m. FailsWith m c in
    elim none_there [
      | inl h ↦ subst P (index_negative ds z h) is
      | inr h ↦ subst P (index_past ds z h) is
    ]

coded_fault :
    (l : Layout) (ds : List Datum) (indices : List ℕ) (i : ℕ) (c : StreamFault) → FailsWith (coded_by l ds indices i) c
    → HasNoValue l ds indices i × (fault.DictionaryIndex ≡ c)
coded_fault Booleans ds indices i c h = (tt, h)
coded_fault (Int w s) ds indices i c h = indexed_fault ds (number_at s (bytes_in w) indices i) c h
coded_fault (Decimal d) ds indices i c h = (tt, h)
coded_fault (FixedSizeBinary w) ds indices i c h = (tt, h)
coded_fault (Utf8 o) ds indices i c h = (tt, h)
coded_fault (Binary o) ds indices i c h = (tt, h)
coded_fault (Listed o) ds indices i c h = (tt, h)
coded_fault Struct ds indices i c h = (tt, h)

fault_coded :
    (l : Layout) (ds : List Datum) (indices : List ℕ) (i : ℕ) (c : StreamFault) → HasNoValue l ds indices i
    → fault.DictionaryIndex ≡ c
    → FailsWith (coded_by l ds indices i) c
fault_coded Booleans ds indices i c h is = is
fault_coded (Int w s) ds indices i c h is = fault_indexed ds (number_at s (bytes_in w) indices i) c h is
fault_coded (Decimal d) ds indices i c h is = is
fault_coded (FixedSizeBinary w) ds indices i c h is = is
fault_coded (Utf8 o) ds indices i c h is = is
fault_coded (Binary o) ds indices i c h is = is
fault_coded (Listed o) ds indices i c h is = is
fault_coded Struct ds indices i c h is = is

-- and of any valid slot
slot_found :
    (o : Option DictionaryValues) (b : List ℕ) (p : ArrayData) (here : ℕ → Reading Datum) (beside : ℕ
    → Reading (List Datum)) (i : ℕ) (c : StreamFault)
    (F : ℕ → Type 0) (G : Type 0) → ((k : ℕ) → FailsWith (here k) c → F k) → (FailsWith (beside i) c → G)
    → FailsWith (slot_by o b p here beside i) c → SlotFault o b p i c ⊎ BelowSlot o p.layout (bytes_of b p.offsets) F G i
slot_found None b p here beside i c F G f g h = value_found p.layout b p here beside i c F G f g h
slot_found (Some w) b p here beside i c F G f g h = inl (coded_fault p.layout w.values (bytes_of b p.values) i c h)

slot_own :
    (o : Option DictionaryValues) (b : List ℕ) (p : ArrayData) (here : ℕ → Reading Datum) (beside : ℕ
    → Reading (List Datum)) (i : ℕ) (c : StreamFault)
    → SlotFault o b p i c → FailsWith (slot_by o b p here beside i) c
slot_own None b p here beside i c h = own_stands p.layout b p here beside i c h
slot_own (Some w) b p here beside i c h = fault_coded p.layout w.values (bytes_of b p.values) i c h.0 h.1

slot_below :
    (o : Option DictionaryValues) (b : List ℕ) (p : ArrayData) (here : ℕ → Reading Datum) (beside : ℕ
    → Reading (List Datum)) (i : ℕ) (c : StreamFault)
    (F : ℕ → Type 0) (G : Type 0) → ((k : ℕ) → F k → FailsWith (here k) c) → (G → FailsWith (beside i) c)
    → BelowSlot o p.layout (bytes_of b p.offsets) F G i → FailsWith (slot_by o b p here beside i) c
slot_below None b p here beside i c F G f g h = below_stands p.layout b p here beside i c F G f g h
slot_below (Some w) b p here beside i c F G f g h = absurd h

null_found : (n : Bool) (m : Reading Datum) (c : StreamFault) → FailsWith (if n then Ok null else m) c
    → (n ≡ false) × FailsWith m c
null_found true m c h = absurd h
null_found false m c h = (refl, h)

-- what is found below a slot is found from it
abbrev FoundFirst : List ℕ → Roses ArrayData → ℕ → StreamFault → Type 0
FoundFirst b kids k c = (u : Rose ArrayData) × (j : ℕ) × ReachesFirst b kids k u j × HasFault b u j c

abbrev FoundBeside : List ℕ → Roses ArrayData → ℕ → StreamFault → Type 0
FoundBeside b kids i c = (u : Rose ArrayData) × (j : ℕ) × ReachesBeside b kids i u j × HasFault b u j c

below_found :
    (l : Layout) (b offsets : List ℕ) (kids : Roses ArrayData) (i : ℕ) (c : StreamFault)
    → Below l offsets (λ k. FoundFirst b kids k c) (FoundBeside b kids i c) i
    → (u : Rose ArrayData) × (j : ℕ) × Below l offsets (λ k. ReachesFirst b kids k u j) (ReachesBeside b kids i u j) i
    × HasFault b u j c
below_found Booleans b offsets kids i c h = absurd h
below_found (Int w s) b offsets kids i c h = absurd h
below_found (Decimal d) b offsets kids i c h = absurd h
below_found (FixedSizeBinary w) b offsets kids i c h = absurd h
below_found (Utf8 o) b offsets kids i c h = absurd h
below_found (Binary o) b offsets kids i c h = absurd h
below_found (Listed o) b offsets kids i c h =
    let found : FoundFirst b kids h.0 c = h.3 in
    (found.0, found.1, (h.0, h.1, h.2, found.2), found.3)
below_found Struct b offsets kids i c h = h

slot_below_found :
    (o : Option DictionaryValues) (l : Layout) (b offsets : List ℕ) (kids : Roses ArrayData) (i : ℕ) (c : StreamFault)
    → BelowSlot o l offsets (λ k. FoundFirst b kids k c) (FoundBeside b kids i c) i
    → (u : Rose ArrayData) × (j : ℕ)
    × BelowSlot o l offsets (λ k. ReachesFirst b kids k u j) (ReachesBeside b kids i u j) i × HasFault b u j c
slot_below_found None l b offsets kids i c h = below_found l b offsets kids i c h
slot_below_found (Some w) l b offsets kids i c h = absurd h

mutual
  unfolding cell_by

  pub found_cell : (b : List ℕ) (t : Rose ArrayData) (i : ℕ) (c : StreamFault) → FailsWith (cell b t i) c → Found b t i c
  found_cell b (node p kids) i c stands =
      let valid =
      null_found (is_null (bytes_of b p.validity) i)
      (slot_by p.dictionary b p (λ j. first_cell b kids j) (λ j. row b kids j) i) c stands in
      elim (slot_found p.dictionary b p (λ j. first_cell b kids j) (λ j. row b kids j) i c (λ k. FoundFirst b kids k c)
      (FoundBeside b kids i c)
      (λ k h. found_first b kids k c h) (λ h. found_beside b kids i c h) valid.1) [
        | inl own ↦ (node p kids, i, inl (refl, refl), (valid.0, own))
        | inr below ↦
            let found = slot_below_found p.dictionary p.layout b (bytes_of b p.offsets) kids i c below in
            (found.0, found.1, inr (valid.0, found.2), found.3)
      ]

  found_first : (b : List ℕ) (kids : Roses ArrayData) (k : ℕ) (c : StreamFault) → FailsWith (first_cell b kids k) c
      → FoundFirst b kids k c
  found_first b none k c h = absurd h
  found_first b (more t ts) k c h = found_cell b t k c h

  found_beside : (b : List ℕ) (kids : Roses ArrayData) (i : ℕ) (c : StreamFault) → FailsWith (row b kids i) c
      → FoundBeside b kids i c
  found_beside b none i c h = absurd h
  found_beside b (more t ts) i c h =
      elim (stands_both cons (cell b t i) (row b ts i) c h) [
        | inl here ↦ let found = found_cell b t i c here in (found.0, found.1, inl found.2, found.3)
        | inr rest ↦ let found = found_beside b ts i c rest in (found.0, found.1, inr found.2, found.3)
      ]

null_stands : (n : Bool) (m : Reading Datum) (c : StreamFault) → n ≡ false → FailsWith m c
    → FailsWith (if n then Ok null else m) c
null_stands n m c there h = let P : Bool → Type 0 = λ x. FailsWith (if x then Ok null else m) c in subst P (sym there) h

mutual
  unfolding cell_by

  pub reached_stands :
      (b : List ℕ) (t : Rose ArrayData) (i : ℕ) (u : Rose ArrayData) (j : ℕ) (c : StreamFault) → Reaches b t i u j
      → HasFault b u j c → FailsWith (cell b t i) c
  reached_stands b (node p kids) i u j c reaches has =
      elim reaches [
        | inl same ↦
            let P : Rose ArrayData → Type 0 = λ v. HasFault b v j c in
            let Q : ℕ → Type 0 = λ k. HasFault b (node p kids) k c in
            let own : HasFault b (node p kids) i c = subst Q (sym same.1) (subst P (sym same.0) has) in
            null_stands _ _ c own.0 (slot_own p.dictionary b p (λ k. first_cell b kids k) (λ k. row b kids k) i c own.1)
        | inr below ↦
            null_stands _ _ c below.0
            (slot_below p.dictionary b p (λ k. first_cell b kids k) (λ k. row b kids k) i c
            (λ k. ReachesFirst b kids k u j) (ReachesBeside b kids i u j)
            (λ k h. first_stands b kids k u j c h has) (λ h. beside_stands b kids i u j c h has) below.1)
      ]

  first_stands :
      (b : List ℕ) (kids : Roses ArrayData) (i : ℕ) (u : Rose ArrayData) (j : ℕ) (c : StreamFault)
      → ReachesFirst b kids i u j → HasFault b u j c
      → FailsWith (first_cell b kids i) c
  first_stands b none i u j c h has = absurd h
  first_stands b (more t ts) i u j c h has = reached_stands b t i u j c h has

  beside_stands :
      (b : List ℕ) (kids : Roses ArrayData) (i : ℕ) (u : Rose ArrayData) (j : ℕ) (c : StreamFault)
      → ReachesBeside b kids i u j → HasFault b u j c
      → FailsWith (row b kids i) c
  beside_stands b none i u j c h has = absurd h
  beside_stands b (more t ts) i u j c h has =
      elim h [
        | inl here ↦ both_left cons (cell b t i) (row b ts i) c (reached_stands b t i u j c here has)
        | inr rest ↦ both_right cons (cell b t i) (row b ts i) c (beside_stands b ts i u j c rest has)
      ]

pub found_stands : (b : List ℕ) (t : Rose ArrayData) (i : ℕ) (c : StreamFault) → Found b t i c → FailsWith (cell b t i) c
found_stands b t i c found = reached_stands b t i found.0 found.1 c found.2 found.3

pub ruleset reaching = (found_cell, found_stands)
