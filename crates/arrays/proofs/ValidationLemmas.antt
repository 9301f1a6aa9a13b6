-- What is known of a slot of a sound array, and how ranges of its slots are validated: child by child, list by list.
use Rattle.std.proofs.Common.{
  ◌≡◌,
  inl,
  inr,
  ℕ,
  zero,
  suc,
  List,
  [],
  ◌∷◌,
  ◌+◌,
  ◌-◌,
  ◌*◌,
  ◌<◌,
  ◌≤◌,
  length,
  drop,
  get_or,
  refl,
  ap,
  sym,
  subst,
  ◌∙◌,
  arith,
}
use Rattle.std.specs.Prelude.{Result, Option, None, Some, Ok, Err, Bool, true, false, if◌then◌else◌}
use Rattle.std.proofs.lemmas.Bool.{cases_lt}
use Rattle.values.specs.Limits.{max_precision}
use Rattle.values.specs.declared.faults.StreamFault.{StreamFault}
use Rattle.values.specs.Reading.{Reading, cons, second, mapped, each, FailsWith, IsValid, Passes, Decides}
use Rattle.values.proofs.Readings.{
  both_left,
  both_right,
  both_valid,
  stands_both,
  valid_left,
  valid_right,
  decides_both,
  decides_both_fault,
  stands_mapped,
}
use Rattle.values.specs.Rose.{Rose, node, Roses, none, more, kids_of, rose_size, roses_size}
use Rattle.values.proofs.Roses.{kids_step, kids_end, kid_within, kid_smaller}
use Rattle.values.specs.Datum.{Datum, null}
use Rattle.values.specs.declared.layout.IntWidth.{IntWidth}
use Rattle.values.specs.declared.layout.OffsetWidth.{OffsetWidth}
use Rattle.values.specs.declared.layout.Layout.{Layout}
use Rattle.values.specs.declared.layout.Layout.TheVariants.{
  Bool as Booleans,
  Int,
  Decimal,
  FixedSizeBinary,
  Utf8,
  Binary,
  List as Listed,
  Struct,
}
use Rattle.values.specs.Layouts.{IsNode}
use Rattle.array_layout.specs.declared.array.DictionaryValues.{DictionaryValues}
use Rattle.array_layout.specs.declared.array.ArrayData.{ArrayData}
use Rattle.array_layout.specs.Placing.{bytes_of, layouts_of}
use Rattle.array_layout.specs.Buffers.{is_null, number_at, offset_at, slice_at}
use Rattle.array_layout.specs.Sound.{first_len, HasRoom, AreFit, AreLong, IsSound, AreSound}
use Rattle.array_layout.specs.Cells.{
  cell,
  first_cell,
  row,
  len_of,
  cell_by,
  slot_by,
  coded_by,
  value_by,
  items_at,
  list_of,
  structure_of,
  text_of,
  decimal_of,
}
use Rattle.array_layout.proofs.SoundLemmas.{kid_sound}
use Rattle.arrays.specs.AlwaysValid.{is_always_valid}
use Rattle.arrays.specs.Ranges.{where_valid, columns}
use Rattle.arrays.proofs.AlwaysValidLemmas.{always_valid_cell}
use Rattle.arrays.proofs.DictionaryLemmas.{index_rooms}
use Rattle.arrays.proofs.RangeLemmas.{buffer_long, each-valid, each-same, each-fault, valid-at, fault-at, slot_fault}
use Rattle.arrays.proofs.TextLemmas.{offsets_rise, offsets_end, fit_less}

-- what a layout requires of the buffers
pub text_fit :
    (b : List ℕ) (p : ArrayData) (kids : Roses ArrayData) (o : OffsetWidth) (i : ℕ) → IsSound b (node p kids)
    → p.layout ≡ Utf8 o → i < p.len
    → AreFit o (bytes_of b p.offsets) p.len p.values.len
text_fit b p kids o i sound is below =
    let P : Layout → Type 0 = λ l. HasRoom l b p (first_len kids) in
    let room : HasRoom (Utf8 o) b p (first_len kids) = subst P is sound.0.room in
    room (omega (arith, below))

pub bytes_fit :
    (b : List ℕ) (p : ArrayData) (kids : Roses ArrayData) (o : OffsetWidth) (i : ℕ) → IsSound b (node p kids)
    → p.layout ≡ Binary o → i < p.len
    → AreFit o (bytes_of b p.offsets) p.len p.values.len
bytes_fit b p kids o i sound is below =
    let P : Layout → Type 0 = λ l. HasRoom l b p (first_len kids) in
    let room : HasRoom (Binary o) b p (first_len kids) = subst P is sound.0.room in
    room (omega (arith, below))

pub list_fit :
    (b : List ℕ) (p : ArrayData) (kids : Roses ArrayData) (o : OffsetWidth) (i : ℕ) → IsSound b (node p kids)
    → p.layout ≡ Listed o → i < p.len
    → AreFit o (bytes_of b p.offsets) p.len (first_len kids)
list_fit b p kids o i sound is below =
    let P : Layout → Type 0 = λ l. HasRoom l b p (first_len kids) in
    let room : HasRoom (Listed o) b p (first_len kids) = subst P is sound.0.room in
    room (omega (arith, below))

pub decimal_room :
    (b : List ℕ) (p : ArrayData) (kids : Roses ArrayData) (d : ℕ) → IsSound b (node p kids) → p.layout ≡ Decimal d
    → 16 * p.len ≤ p.values.len
decimal_room b p kids d sound is =
    let P : Layout → Type 0 = λ l. HasRoom l b p (first_len kids) in subst P is sound.0.room

pub decimal_digits : (b : List ℕ) (p : ArrayData) (kids : Roses ArrayData) (d : ℕ) → IsSound b (node p kids)
    → p.layout ≡ Decimal d → d ≤ max_precision
decimal_digits b p kids d sound is = by_kids kids (subst P is sound.0.own.kids_fit) where
  P : Layout → Type 0
  P l = IsNode l (layouts_of kids)

  by_kids : (ks : Roses ArrayData) → IsNode (Decimal d) (layouts_of ks) → d ≤ max_precision
  by_kids none h = h
  by_kids (more t ts) h = absurd h

longer : (n m : ℕ) (kids : Roses ArrayData) → m ≤ n → AreLong Struct n kids → AreLong Struct m kids
longer n m none less long = tt
longer n m (more (node p ks) ts) less long = (omega (arith, less, long.0), longer n m ts less long.1)

pub struct_long :
    (b : List ℕ) (p : ArrayData) (kids : Roses ArrayData) (i : ℕ) → IsSound b (node p kids) → p.layout ≡ Struct
    → i < p.len
    → AreLong Struct (i + 1) kids
struct_long b p kids i sound is below =
    let P : Layout → Type 0 = λ l. AreLong l p.len kids in
    longer p.len (i + 1) kids (omega (arith, below)) (subst P is sound.1)

pub kids_sound : (b : List ℕ) (p : ArrayData) (kids : Roses ArrayData) → IsSound b (node p kids) → AreSound b kids
kids_sound b p kids sound = sound.2

-- the child of a list
pub list_child :
    (b : List ℕ) (p : ArrayData) (ts : List (Rose ArrayData)) (o : OffsetWidth) → IsSound b (node p (kids_of ts))
    → p.layout ≡ Listed o → 0 < length ts
list_child b p ts o sound is = by_kids ts (subst P is sound.0.own.kids_fit) where
  P : Layout → Type 0
  P l = IsNode l (layouts_of (kids_of ts))

  by_kids : (ks : List (Rose ArrayData)) → IsNode (Listed o) (layouts_of (kids_of ks)) → 0 < length ks
  by_kids [] h = absurd h
  by_kids (t ∷ ks) h = omega arith

pub child_sound :
    (b : List ℕ) (p : ArrayData) (ts : List (Rose ArrayData)) (e d : Rose ArrayData) → IsSound b (node p (kids_of ts))
    → e ≡ get_or ts 0 d → 0 < length ts
    → IsSound b e
child_sound b p ts e d sound is some = kid_sound b ts 0 e d is some sound.2

child_len : (ts : List (Rose ArrayData)) (e d : Rose ArrayData) → e ≡ get_or ts 0 d → 0 < length ts
    → first_len (kids_of ts) ≡ len_of e
child_len [] e d is some = absurd (omega (arith, some))
child_len (node p kids ∷ ts) e d is some = ap len_of (sym is)

pub child_within :
    (b : List ℕ) (p : ArrayData) (ts : List (Rose ArrayData)) (e d : Rose ArrayData) (o : OffsetWidth) (i : ℕ)
    → IsSound b (node p (kids_of ts))
    → p.layout ≡ Listed o → i < p.len → e ≡ get_or ts 0 d → 0 < length ts
    → offset_at o (bytes_of b p.offsets) (i + 1) ≤ len_of e
child_within b p ts e d o i sound listed below is some =
    let P : ℕ → Type 0 = λ n. offset_at o (bytes_of b p.offsets) (i + 1) ≤ n in
    let fit : AreFit o (bytes_of b p.offsets) p.len (first_len (kids_of ts)) =
    list_fit b p (kids_of ts) o i sound listed below in
    subst P (child_len ts e d is some) (fit.within i below)

pub child_smaller :
    (ts : List (Rose ArrayData)) (e d : Rose ArrayData) → e ≡ get_or ts 0 d → 0 < length ts
    → rose_size e ≤ roses_size (kids_of ts)
child_smaller ts e d is some = kid_smaller ts 0 e d is some

pub at_least : (n : ℕ) (t : Rose ArrayData) (ts : Roses ArrayData) → AreLong Struct n (more t ts) → n ≤ len_of t
at_least n (node p kids) ts long = long.0

pub and_rest : (n : ℕ) (t : Rose ArrayData) (ts : Roses ArrayData) → AreLong Struct n (more t ts) → AreLong Struct n ts
and_rest n (node p kids) ts long = long.1

pub kid_long :
    (ts : List (Rose ArrayData)) (k : ℕ) (e d : Rose ArrayData) (i : ℕ) → e ≡ get_or ts k d → k < length ts
    → AreLong Struct (i + 1) (kids_of ts)
    → i < len_of e
kid_long ts k e d i is below long =
    let most : i + 1 ≤ len_of e =
    kid_within (λ t. i + 1 ≤ len_of t) (AreLong Struct (i + 1)) (at_least (i + 1)) (and_rest (i + 1)) ts k e d is
    below long in
    omega (arith, most)

-- a struct, child by child
where_fault : (b : Bool) (m : Reading Datum) (c : StreamFault) → FailsWith (if b then Ok null else m) c
    → (b ≡ false) × FailsWith m c
where_fault true m c h = absurd h
where_fault false m c h = (refl, h)

where_valid_if : (b : Bool) (m : Reading Datum) → (b ≡ false → IsValid m) → IsValid (if b then Ok null else m)
where_valid_if true m h = tt
where_valid_if false m h = h refl

valid_where : (b : Bool) (m : Reading Datum) → b ≡ false → IsValid (if b then Ok null else m) → IsValid m
valid_where true m e h = cc
valid_where false m e h = h

row_valid :
    (b bits : List ℕ) (kids : Roses ArrayData) (i n k : ℕ) → IsValid (columns b bits kids i n) → i ≤ k → k < i + n
    → is_null bits k ≡ false → IsValid (row b kids k)
unfolding where_valid
row_valid b bits none i n k valid low high here = tt
row_valid b bits (more t ts) i n k valid low high here =
    let all = each (where_valid bits (cell b t)) i n in
    let rest = columns b bits ts i n in
    let at = valid-at (where_valid bits (cell b t)) i n k (valid_left second all rest valid) low high in
    both_valid cons (cell b t k) (row b ts k) (valid_where (is_null bits k) (cell b t k) here at)
    (row_valid b bits ts i n k (valid_right second all rest valid) low high here)

row_faulty :
    (b bits : List ℕ) (kids : Roses ArrayData) (i n : ℕ) (c : StreamFault) → FailsWith (columns b bits kids i n) c
    → (k : ℕ) × (i ≤ k) × (k < i + n) × (is_null bits k ≡ false) × FailsWith (row b kids k) c
unfolding where_valid
row_faulty b bits none i n c h = absurd h
row_faulty b bits (more t ts) i n c h =
    elim (stands_both second (each (where_valid bits (cell b t)) i n) (columns b bits ts i n) c h) [
      | inl a ↦
          let r = fault-at (where_valid bits (cell b t)) i n c a in
          let f = where_fault (is_null bits r.0) (cell b t r.0) c r.3 in
          (r.0, r.1, r.2, f.0, both_left cons (cell b t r.0) (row b ts r.0) c f.1)
      | inr a ↦
          let r = row_faulty b bits ts i n c a in
          (r.0, r.1, r.2, r.3, both_right cons (cell b t r.0) (row b ts r.0) c r.4)
    ]

valid_mapped : {X Y : Type 0} (f : X → Y) (m : Reading X) → IsValid m → IsValid (mapped f m)
valid_mapped f (Ok x) h = tt
valid_mapped f (Err fs) h = absurd h

-- the faults of the columns are those of the rows
pub rows_start :
    (b bits : List ℕ) (kids : Roses ArrayData) (i n : ℕ)
    → Decides (columns b bits kids i n) (each (where_valid bits (λ j. structure_of (row b kids j))) i n)
unfolding where_valid
rows_start b bits kids i n = record {
  valid = λ h. each-valid (where_valid bits (λ j. structure_of (row b kids j))) i n
      (λ k low high. where_valid_if (is_null bits k) (structure_of (row b kids k))
      (λ here. valid_mapped _ (row b kids k) (row_valid b bits kids i n k h low high here)));
  fault = λ c h.
      let r = row_faulty b bits kids i n c h in
      each-fault (where_valid bits (λ j. structure_of (row b kids j))) i n r.0 c r.1 r.2
      (slot_fault bits (λ j. structure_of (row b kids j)) r.0 c r.3 (stands_mapped _ (row b kids r.0) c r.4));
}

pub columns_step :
    {W : Type 0} (b bits : List ℕ) (ts : List (Rose ArrayData)) (k : ℕ) (e d : Rose ArrayData) (i n : ℕ)
    (w : Reading W) → e ≡ get_or ts k d → k < length ts
    → IsValid (each (where_valid bits (cell b e)) i n) → Decides (columns b bits (kids_of (drop k ts)) i n) w
    → Decides (columns b bits (kids_of (drop (k + 1) ts)) i n) w
columns_step b bits ts k e d i n w is below valid left =
    let P : Roses ArrayData → Type 0 = λ r. Decides (columns b bits r i n) w in
    decides_both second (each (where_valid bits (cell b e)) i n) (columns b bits (kids_of (drop (k + 1) ts)) i n) w
    valid
    (subst P (kids_step ts k e d is below) left)

pub columns_fault :
    {W : Type 0} (b bits : List ℕ) (ts : List (Rose ArrayData)) (k : ℕ) (e d : Rose ArrayData) (i n : ℕ)
    (w : Reading W) (c : StreamFault) → e ≡ get_or ts k d → k < length ts
    → FailsWith (each (where_valid bits (cell b e)) i n) c → Decides (columns b bits (kids_of (drop k ts)) i n) w
    → FailsWith w c
columns_fault b bits ts k e d i n w c is below stands left =
    let P : Roses ArrayData → Type 0 = λ r. Decides (columns b bits r i n) w in
    decides_both_fault second (each (where_valid bits (cell b e)) i n) (columns b bits (kids_of (drop (k + 1) ts)) i n)
    w c stands
    (subst P (kids_step ts k e d is below) left)

pub columns_end :
    {W : Type 0} (b bits : List ℕ) (ts : List (Rose ArrayData)) (k i n : ℕ) (w : Reading W) → length ts ≤ k
    → Decides (columns b bits (kids_of (drop k ts)) i n) w
    → IsValid w
columns_end b bits ts k i n w past left =
    let P : Roses ArrayData → Type 0 = λ r. Decides (columns b bits r i n) w in
    let done : Decides (columns b bits none i n) w = subst P (kids_end ts k past) left in
    done.valid tt

pub kid_longer :
    (ts : List (Rose ArrayData)) (k : ℕ) (e d : Rose ArrayData) (n : ℕ) → e ≡ get_or ts k d → k < length ts
    → AreLong Struct n (kids_of ts)
    → n ≤ len_of e
kid_longer ts k e d n is below long =
    kid_within (λ t. n ≤ len_of t) (AreLong Struct n) (at_least n) (and_rest n) ts k e d is below long

pub ruleset row_laws = (rows_start, columns_step, columns_fault, columns_end, kid_longer, kid_sound, kid_smaller)

-- where a child needs no check
pub child_always_valid :
    (b bits : List ℕ) (t : Rose ArrayData) (i n : ℕ) → is_always_valid t ≡ true
    → IsValid (each (where_valid bits (cell b t)) i n)
unfolding where_valid
child_always_valid b bits t i n always =
    each-valid (where_valid bits (cell b t)) i n
    (λ k low high. where_valid_if (is_null bits k) (cell b t k) (λ here. always_valid_cell b t k always))

pub ruleset child_laws = (child_always_valid)

-- lists: the slot in whose range item j lies
slot_holding :
    (at : ℕ → ℕ) (i n j : ℕ) → at i ≤ j → j < at (i + n)
    → (k : ℕ) × (i ≤ k) × (k < i + n) × (at k ≤ j) × (j < at (k + 1))
slot_holding at i zero j low high =
    let e : i + 0 ≡ i = omega arith in
    let none : j < at i = subst (λ m. j < at m) e high in
    absurd (omega (arith, none, low))
slot_holding at i (suc n) j low high = elim (cases_lt j (at (i + 1))) [
  | inl here ↦ (i, omega arith, omega arith, low, here)
  | inr past ↦
      let e : i + suc n ≡ i + 1 + n = omega arith in
      let r = slot_holding at (i + 1) n j past (subst (λ m. j < at m) e high) in
      (r.0, omega (arith, r.1), omega (arith, r.2), r.3, r.4)
]

pub lists_valid :
    (item : ℕ → Reading Datum) (o : OffsetWidth) (offsets : List ℕ) (to limit at end : ℕ)
    → AreFit o offsets to limit → at < end → end ≤ to
    → IsValid (each item (offset_at o offsets at) (offset_at o offsets end - offset_at o offsets at))
    → IsValid (each (λ i. list_of (items_at item o offsets i)) at (end - at))
lists_valid item o offsets to limit at end fit up in_range valid =
    let off = offset_at o offsets in
    each-valid (λ i. list_of (items_at item o offsets i)) at (end - at)
    (λ k low high.
    let before : off at ≤ off k = offsets_rise o offsets to limit at k fit low (omega (arith, high, up, in_range)) in
    let after : off (k + 1) ≤ off end =
    offsets_rise o offsets to limit (k + 1) end fit (omega (arith, high, up)) in_range in
    valid_mapped _ (items_at item o offsets k)
    (each-valid item (off k) (off (k + 1) - off k)
    (λ j l h. valid-at item (off at) (off end - off at) j valid (omega (arith, before, l))
    (omega (arith, l, h, before, after)))))

pub lists_fault :
    (item : ℕ → Reading Datum) (o : OffsetWidth) (offsets : List ℕ) (to limit at end : ℕ) (c : StreamFault)
    → AreFit o offsets to limit → at < end → end ≤ to
    → FailsWith (each item (offset_at o offsets at) (offset_at o offsets end - offset_at o offsets at)) c
    → FailsWith (each (λ i. list_of (items_at item o offsets i)) at (end - at)) c
lists_fault item o offsets to limit at end c fit up in_range stands =
    let off = offset_at o offsets in
    let all : off at ≤ off end = offsets_rise o offsets to limit at end fit (omega (arith, up)) in_range in
    let r = fault-at item (off at) (off end - off at) c stands in
    let e : end ≡ at + (end - at) = omega (arith, up) in
    let below : r.0 < off end = omega (arith, r.1, r.2, all) in
    let s = slot_holding off at (end - at) r.0 r.1 (subst (λ m. r.0 < off m) e below) in
    let in_slot = each-fault item (off s.0) (off (s.0 + 1) - off s.0) r.0 c s.3 (omega (arith, s.3, s.4)) r.3 in
    each-fault (λ i. list_of (items_at item o offsets i)) at (end - at) s.0 c s.1 s.2
    (stands_mapped _ (items_at item o offsets s.0) c in_slot)

pub ruleset list_laws = (offsets_rise, offsets_end, lists_valid, lists_fault)

-- arrays by layout

one_cell :
    (b : List ℕ) (p : ArrayData) (kids : Roses ArrayData) (l : Layout) (k : ℕ) → p.dictionary ≡ None → p.layout ≡ l
    → cell b (node p kids) k
    ≡ where_valid (bytes_of b p.validity) (value_by l b p (λ j. first_cell b kids j) (λ j. row b kids j)) k
unfolding cell_by where_valid
one_cell b p kids l k plain is =
    let n = is_null (bytes_of b p.validity) k in
    let F : Option DictionaryValues → Reading Datum =
    λ w. if n then Ok null else slot_by w b p (λ j. first_cell b kids j) (λ j. row b kids j) k in
    let G : Layout → Reading Datum =
    λ m. if n then Ok null else value_by m b p (λ j. first_cell b kids j) (λ j. row b kids j) k in
    ap F plain ∙ ap G is

all_cells :
    (b : List ℕ) (p : ArrayData) (kids : Roses ArrayData) (l : Layout) (i n : ℕ) → p.dictionary ≡ None → p.layout ≡ l
    → each (where_valid (bytes_of b p.validity) (value_by l b p (λ j. first_cell b kids j) (λ j. row b kids j))) i n
    ≡ each (cell b (node p kids)) i n
all_cells b p kids l i n plain is =
    each-same (where_valid (bytes_of b p.validity) (value_by l b p (λ j. first_cell b kids j) (λ j. row b kids j)))
    (cell b (node p kids)) i n (λ k low high. sym (one_cell b p kids l k plain is))

plain_valid :
    (b : List ℕ) (p : ArrayData) (kids : Roses ArrayData) (l : Layout) (i n : ℕ) → p.dictionary ≡ None → p.layout ≡ l
    → ((k : ℕ) → IsValid (value_by l b p (λ j. first_cell b kids j) (λ j. row b kids j) k))
    → IsValid (each (cell b (node p kids)) i n)
unfolding where_valid
plain_valid b p kids l i n plain is valid =
    let f = value_by l b p (λ j. first_cell b kids j) (λ j. row b kids j) in
    let bits = bytes_of b p.validity in
    subst IsValid (all_cells b p kids l i n plain is)
    (each-valid (where_valid bits f) i n (λ k low high. where_valid_if (is_null bits k) (f k) (λ here. valid k)))

pub bools_valid : (b : List ℕ) (p : ArrayData) (kids : Roses ArrayData) (i n : ℕ) → p.dictionary ≡ None
    → p.layout ≡ Booleans → IsValid (each (cell b (node p kids)) i n)
bools_valid b p kids i n plain is = plain_valid b p kids Booleans i n plain is (λ k. tt)

pub ints_valid :
    (b : List ℕ) (p : ArrayData) (kids : Roses ArrayData) (i n : ℕ) (w : IntWidth) (s : Bool) → p.dictionary ≡ None
    → p.layout ≡ Int w s → IsValid (each (cell b (node p kids)) i n)
ints_valid b p kids i n w s plain is = plain_valid b p kids (Int w s) i n plain is (λ k. tt)

pub fixed_valid : (b : List ℕ) (p : ArrayData) (kids : Roses ArrayData) (i n w : ℕ) → p.dictionary ≡ None
    → p.layout ≡ FixedSizeBinary w → IsValid (each (cell b (node p kids)) i n)
fixed_valid b p kids i n w plain is = plain_valid b p kids (FixedSizeBinary w) i n plain is (λ k. tt)

pub bytes_valid :
    (b : List ℕ) (p : ArrayData) (kids : Roses ArrayData) (i n : ℕ) (o : OffsetWidth) → p.dictionary ≡ None
    → p.layout ≡ Binary o → IsValid (each (cell b (node p kids)) i n)
bytes_valid b p kids i n o plain is = plain_valid b p kids (Binary o) i n plain is (λ k. tt)

pub passes_decimals :
    (r : Result (Unit {0}) StreamFault) (b : List ℕ) (p : ArrayData) (kids : Roses ArrayData) (d : ℕ)
    (bits values : List ℕ) (i n : ℕ)
    → p.dictionary ≡ None → p.layout ≡ Decimal d → bits ≡ bytes_of b p.validity → values ≡ bytes_of b p.values
    → Passes r (each (where_valid bits (λ j. decimal_of d (number_at true 16 values j))) i n)
    → Passes r (each (cell b (node p kids)) i n)
passes_decimals r b p kids d bits values i n plain is bits_are values_are h =
    let P : List ℕ → Type 0 =
    λ x. Passes r (each (where_valid x (λ j. decimal_of d (number_at true 16 values j))) i n) in
    let Q : List ℕ → Type 0 =
    λ x. Passes r (each (where_valid (bytes_of b p.validity) (λ j. decimal_of d (number_at true 16 x j))) i n) in
    subst (Passes r) (all_cells b p kids (Decimal d) i n plain is) (subst Q values_are (subst P bits_are h))

pub passes_texts :
    (r : Result (Unit {0}) StreamFault) (b : List ℕ) (p : ArrayData) (kids : Roses ArrayData) (o : OffsetWidth)
    (bits offsets values : List ℕ) (i n : ℕ)
    → p.dictionary ≡ None → p.layout ≡ Utf8 o → bits ≡ bytes_of b p.validity → offsets ≡ bytes_of b p.offsets
    → values ≡ bytes_of b p.values
    → Passes r (each (where_valid bits (λ j. text_of (slice_at o offsets values j))) i n)
    → Passes r (each (cell b (node p kids)) i n)
passes_texts r b p kids o bits offsets values i n plain is bits_are offsets_are values_are h =
    let P : List ℕ → Type 0 = λ x. Passes r (each (where_valid x (λ j. text_of (slice_at o offsets values j))) i n) in
    let Q : List ℕ → Type 0 =
    λ x. Passes r (each (where_valid (bytes_of b p.validity) (λ j. text_of (slice_at o x values j))) i n) in
    let R : List ℕ → Type 0 =
    λ x. Passes r
    (each (where_valid (bytes_of b p.validity) (λ j. text_of (slice_at o (bytes_of b p.offsets) x j))) i n) in
    subst (Passes r) (all_cells b p kids (Utf8 o) i n plain is)
    (subst R values_are (subst Q offsets_are (subst P bits_are h)))

-- the items of a list are its child's cells
items_are :
    (r : Result (Unit {0}) StreamFault) (b : List ℕ) (ts : List (Rose ArrayData)) (e d : Rose ArrayData)
    (o : OffsetWidth) (bits offsets : List ℕ) (i n : ℕ) → e ≡ get_or ts 0 d → 0 < length ts
    → Passes r (each (where_valid bits (λ j. list_of (items_at (cell b e) o offsets j))) i n)
    → Passes r (each (where_valid bits (λ j. list_of (items_at (λ k. first_cell b (kids_of ts) k) o offsets j))) i n)
items_are r b [] e d o bits offsets i n is some h = absurd (omega (arith, some))
items_are r b (t ∷ ts) e d o bits offsets i n is some h =
    let P : Rose ArrayData → Type 0 =
    λ u. Passes r (each (where_valid bits (λ j. list_of (items_at (cell b u) o offsets j))) i n) in
    subst P is h

pub passes_lists :
    (r : Result (Unit {0}) StreamFault) (b : List ℕ) (p : ArrayData) (ts : List (Rose ArrayData)) (e d : Rose ArrayData)
    (o : OffsetWidth) (bits offsets : List ℕ) (i n : ℕ)
    → p.dictionary ≡ None → p.layout ≡ Listed o → e ≡ get_or ts 0 d → 0 < length ts → bits ≡ bytes_of b p.validity
    → offsets ≡ bytes_of b p.offsets
    → Passes r (each (where_valid bits (λ j. list_of (items_at (cell b e) o offsets j))) i n)
    → Passes r (each (cell b (node p (kids_of ts))) i n)
passes_lists r b p ts e d o bits offsets i n plain is child some bits_are offsets_are h =
    let item : ℕ → Reading Datum = λ k. first_cell b (kids_of ts) k in
    let P : List ℕ → Type 0 = λ x. Passes r (each (where_valid x (λ j. list_of (items_at item o offsets j))) i n) in
    let Q : List ℕ → Type 0 =
    λ x. Passes r (each (where_valid (bytes_of b p.validity) (λ j. list_of (items_at item o x j))) i n) in
    subst (Passes r) (all_cells b p (kids_of ts) (Listed o) i n plain is)
    (subst Q offsets_are (subst P bits_are (items_are r b ts e d o bits offsets i n child some h)))

pub passes_rows :
    (r : Result (Unit {0}) StreamFault) (b : List ℕ) (p : ArrayData) (kids : Roses ArrayData) (bits : List ℕ) (i n : ℕ)
    → p.dictionary ≡ None → p.layout ≡ Struct → bits ≡ bytes_of b p.validity
    → Passes r (each (where_valid bits (λ j. structure_of (row b kids j))) i n)
    → Passes r (each (cell b (node p kids)) i n)
passes_rows r b p kids bits i n plain is bits_are h =
    let P : List ℕ → Type 0 = λ x. Passes r (each (where_valid x (λ j. structure_of (row b kids j))) i n) in
    subst (Passes r) (all_cells b p kids Struct i n plain is) (subst P bits_are h)

pub passes_indices :
    (r : Result (Unit {0}) StreamFault) (b : List ℕ) (p : ArrayData) (kids : Roses ArrayData) (w : DictionaryValues)
    (bits indices : List ℕ) (i n : ℕ)
    → p.dictionary ≡ Some w → bits ≡ bytes_of b p.validity → indices ≡ bytes_of b p.values
    → Passes r (each (where_valid bits (coded_by p.layout w.values indices)) i n)
    → Passes r (each (cell b (node p kids)) i n)
unfolding cell_by where_valid
passes_indices r b p kids w bits indices i n is bits_are indices_are h =
    let P : List ℕ → Type 0 = λ x. Passes r (each (where_valid x (coded_by p.layout w.values indices)) i n) in
    let Q : List ℕ → Type 0 =
    λ x. Passes r (each (where_valid (bytes_of b p.validity) (coded_by p.layout w.values x)) i n) in
    let F : ℕ → Option DictionaryValues → Reading Datum =
    λ k o. if is_null (bytes_of b p.validity) k then Ok null
    else slot_by o b p (λ j. first_cell b kids j) (λ j. row b kids j) k in
    subst (Passes r)
    (each-same (where_valid (bytes_of b p.validity) (coded_by p.layout w.values (bytes_of b p.values)))
    (cell b (node p kids)) i n (λ k low high. ap (F k) (sym is)))
    (subst Q indices_are (subst P bits_are h))

-- how many slots the buffers of a sound array have
pub bits_room : (b : List ℕ) (p : ArrayData) (kids : Roses ArrayData) (bits : List ℕ) (n : ℕ) → IsSound b (node p kids)
    → bits ≡ bytes_of b p.validity → n ≤ p.len → 0 < length bits → n ≤ 8 * length bits
bits_room b p kids bits n sound are less some =
    let long : length bits ≡ p.validity.len = ap length are ∙ buffer_long b p.validity sound.0.own.validity in
    omega (arith, less, long, sound.0.bits (omega (arith, some, long)))

pub decimals_room :
    (b : List ℕ) (p : ArrayData) (kids : Roses ArrayData) (d : ℕ) (values : List ℕ) (n : ℕ) → IsSound b (node p kids)
    → p.layout ≡ Decimal d → values ≡ bytes_of b p.values → n ≤ p.len → 16 * n ≤ length values
decimals_room b p kids d values n sound is are less =
    let long : length values ≡ p.values.len = ap length are ∙ buffer_long b p.values sound.0.own.values in
    omega (arith, less, long, decimal_room b p kids d sound is)

pub texts_fit :
    (b : List ℕ) (p : ArrayData) (kids : Roses ArrayData) (o : OffsetWidth) (offsets values : List ℕ) (i n : ℕ)
    → IsSound b (node p kids) → p.layout ≡ Utf8 o → offsets ≡ bytes_of b p.offsets → values ≡ bytes_of b p.values
    → i < n → n ≤ p.len → AreFit o offsets n (length values)
texts_fit b p kids o offsets values i n sound is offsets_are values_are some less =
    let long : length values ≡ p.values.len = ap length values_are ∙ buffer_long b p.values sound.0.own.values in
    let fit = text_fit b p kids o i sound is (omega (arith, some, less)) in
    subst (AreFit o offsets n) (sym long)
    (subst (λ x. AreFit o x n p.values.len) (sym offsets_are)
    (fit_less o (bytes_of b p.offsets) p.len n p.values.len fit less))

pub items_fit :
    (b : List ℕ) (p : ArrayData) (ts : List (Rose ArrayData)) (e d : Rose ArrayData) (o : OffsetWidth)
    (offsets : List ℕ) (i n : ℕ)
    → IsSound b (node p (kids_of ts)) → p.layout ≡ Listed o → offsets ≡ bytes_of b p.offsets → e ≡ get_or ts 0 d
    → 0 < length ts → i < n → n ≤ p.len → AreFit o offsets n (len_of e)
items_fit b p ts e d o offsets i n sound is offsets_are child some up less =
    let fit = list_fit b p (kids_of ts) o i sound is (omega (arith, up, less)) in
    subst (AreFit o offsets n) (child_len ts e d child some)
    (subst (λ x. AreFit o x n (first_len (kids_of ts))) (sym offsets_are)
    (fit_less o (bytes_of b p.offsets) p.len n (first_len (kids_of ts)) fit less))

pub rows_long :
    (b : List ℕ) (p : ArrayData) (kids : Roses ArrayData) (n : ℕ) → IsSound b (node p kids) → p.layout ≡ Struct
    → n ≤ p.len → AreLong Struct n kids
rows_long b p kids n sound is less =
    let P : Layout → Type 0 = λ l. AreLong l p.len kids in longer p.len n kids less (subst P is sound.1)

pub ruleset own_laws = (passes_indices, index_rooms, bits_room)

pub ruleset value_laws = (
  bools_valid,
  ints_valid,
  fixed_valid,
  bytes_valid,
  bits_room,
  decimals_room,
  decimal_digits,
  texts_fit,
  items_fit,
  list_child,
  child_sound,
  child_smaller,
  rows_long,
  kids_sound,
)
