-- How valid cells are copied.
use Rattle.std.proofs.Common.{
  ◌≡◌,
  ℕ,
  ℤ,
  List,
  [],
  ◌∷◌,
  ◌++◌,
  ◌+◌,
  ◌*◌,
  ◌-◌,
  ◌^◌,
  ◌<◌,
  ◌≤◌,
  length,
  drop,
  get_or,
  refl,
  ap,
  sym,
  subst,
  ◌∙◌,
  arith,
  append_assoc,
  append-nil,
}
use Rattle.std.specs.Prelude.{Option, None, Some, Ok, Err, Bool, true, false, if◌then◌else◌, nat_lt, nat_abs}
use Rattle.std.specs.Str.{is_utf8}
use Rattle.std.proofs.Math.Nat.{mul-le-mul_left}
use Rattle.values.specs.declared.faults.StreamFault.TheVariants as fault
use Rattle.values.specs.Reading.{Reading, one, both, cons, mapped, each, IsValid, with_front}
use Rattle.values.proofs.Readings.{valid_left, valid_right, each_step, front_none}
use Rattle.values.specs.Rose.{Rose, node, Roses, kids_of}
use Rattle.values.proofs.Roses.{kids_step, kids_end, kid_smaller}
use Rattle.values.specs.Datum.{Datum, null, whole, text, list, structure, items_of}
use Rattle.values.specs.declared.layout.IntWidth.{IntWidth}
use Rattle.values.specs.declared.layout.OffsetWidth.{OffsetWidth}
use Rattle.values.specs.declared.layout.Layout.{Layout}
use Rattle.values.specs.declared.layout.Layout.TheVariants.{
  Bool as Booleans,
  Int,
  Decimal,
  FixedSizeBinary,
  Utf8,
  List as Listed,
  Struct,
}
use Rattle.values.specs.Layouts.{bytes_in}
use Rattle.array_layout.specs.declared.array.DictionaryValues.{DictionaryValues}
use Rattle.array_layout.specs.declared.array.ArrayData.{ArrayData}
use Rattle.array_layout.specs.Placing.{bytes_of}
use Rattle.array_layout.specs.Buffers.{is_null, number_at, slice_at}
use Rattle.array_layout.specs.Sound.{first_len, HasRoom, IsSound}
use Rattle.array_layout.specs.Cells.{
  cell,
  first_cell,
  row,
  cell_by,
  slot_by,
  coded_by,
  value_by,
  items_at,
  list_of,
  structure_of,
  text_of,
  decimal_of,
}
use Rattle.array_layout.proofs.SoundLemmas.{kid_sound}
use Rattle.arrays.proofs.DictionaryLemmas.{index_room}
use Rattle.arrays.proofs.ValidationLemmas.{
  text_fit,
  bytes_fit,
  list_fit,
  decimal_room,
  struct_long,
  kids_sound,
  list_child,
  child_sound,
  child_within,
  child_smaller,
  kid_long,
}

-- a valid cell that isn't null is in a valid slot
valid_slot :
    (b : List ℕ) (p : ArrayData) (here : ℕ → Reading Datum) (beside : ℕ
    → Reading (List Datum)) (o : Option DictionaryValues) (i : ℕ)
    → is_null (bytes_of b p.validity) i ≡ false → p.dictionary ≡ o → IsValid (cell_by b p here beside i)
    → IsValid (slot_by o b p here beside i)
unfolding cell_by
valid_slot b p here beside o i there is valid =
    let P : Option DictionaryValues → Type 0 = λ w. IsValid (slot_by w b p here beside i) in
    let Q : Bool → Type 0 = λ n. IsValid (if n then Ok null else slot_by p.dictionary b p here beside i) in
    subst P is (subst Q there valid)

pub valid_value :
    (b : List ℕ) (p : ArrayData) (here : ℕ → Reading Datum) (beside : ℕ → Reading (List Datum)) (i : ℕ)
    → is_null (bytes_of b p.validity) i ≡ false
    → p.dictionary ≡ None → IsValid (cell_by b p here beside i) → IsValid (value_by p.layout b p here beside i)
valid_value b p here beside i there is valid = valid_slot b p here beside None i there is valid

pub valid_encoded :
    (b : List ℕ) (p : ArrayData) (here : ℕ → Reading Datum) (beside : ℕ
    → Reading (List Datum)) (w : DictionaryValues) (i : ℕ)
    → is_null (bytes_of b p.validity) i ≡ false → p.dictionary ≡ Some w → IsValid (cell_by b p here beside i)
    → IsValid (coded_by p.layout w.values (bytes_of b p.values) i)
valid_encoded b p here beside w i there is valid = valid_slot b p here beside (Some w) i there is valid

pub ruleset null_laws = (valid_value, valid_encoded, index_room)

-- the bytes of a slot, by layout
pub bits_room : (b : List ℕ) (p : ArrayData) (kids : Roses ArrayData) → IsSound b (node p kids) → p.layout ≡ Booleans
    → p.len ≤ 8 * p.values.len
bits_room b p kids sound is = let P : Layout → Type 0 = λ l. HasRoom l b p (first_len kids) in subst P is sound.0.room

pub number_room :
    (b : List ℕ) (p : ArrayData) (kids : Roses ArrayData) (w : IntWidth) (s : Bool) (i : ℕ) → IsSound b (node p kids)
    → p.layout ≡ Int w s → i < p.len
    → bytes_in w * (i + 1) ≤ p.values.len
number_room b p kids w s i sound is below =
    let P : Layout → Type 0 = λ l. HasRoom l b p (first_len kids) in
    let room : bytes_in w * p.len ≤ p.values.len = subst P is sound.0.room in
    let less : i + 1 ≤ p.len = omega (arith, below) in
    let most : bytes_in w * (i + 1) ≤ bytes_in w * p.len = mul-le-mul_left (bytes_in w) less in
    omega (arith, room, most)

pub fixed_room :
    (b : List ℕ) (p : ArrayData) (kids : Roses ArrayData) (w i : ℕ) → IsSound b (node p kids)
    → p.layout ≡ FixedSizeBinary w → i < p.len
    → w * i + w ≤ p.values.len
fixed_room b p kids w i sound is below =
    let P : Layout → Type 0 = λ l. HasRoom l b p (first_len kids) in
    let room : w * p.len ≤ p.values.len = subst P is sound.0.room in
    let less : i + 1 ≤ p.len = omega (arith, below) in
    let most : w * (i + 1) ≤ w * p.len = mul-le-mul_left w less in
    let step : w * (i + 1) ≡ w * i + w = grind arith in
    omega (arith, room, most, step)

-- what holds of a valid value, by layout
abbrev value : Layout → List ℕ → ArrayData → Roses ArrayData → ℕ → Reading Datum
value l b p kids i = value_by l b p (λ j. first_cell b kids j) (λ j. row b kids j) i

abbrev text_if : Bool → List ℕ → Reading Datum
text_if u t = if u then Ok (text t) else Err (one fault.NotUtf8)

abbrev decimal_if : Bool → ℤ → Reading Datum
decimal_if u z = if u then Ok (whole z) else Err (one fault.DecimalRange)

text_valid : (t : List ℕ) → IsValid (text_of t) → is_utf8 t ≡ true
text_valid t valid = by_cases (is_utf8 t) valid where
  by_cases : (u : Bool) → IsValid (text_if u t) → u ≡ true
  by_cases true h = refl
  by_cases false h = absurd h

pub valid_text :
    (b : List ℕ) (p : ArrayData) (kids : Roses ArrayData) (o : OffsetWidth) (i : ℕ) → p.layout ≡ Utf8 o
    → IsValid (value p.layout b p kids i)
    → is_utf8 (slice_at o (bytes_of b p.offsets) (bytes_of b p.values) i) ≡ true
valid_text b p kids o i is valid = let P : Layout
    → Type 0 = λ l. IsValid (value l b p kids i) in text_valid _ (subst P is valid)

valid_unmapped : {X Y : Type 0} (f : X → Y) (m : Reading X) → IsValid (mapped f m) → IsValid m
valid_unmapped f (Ok x) h = tt
valid_unmapped f (Err fs) h = absurd h

pub valid_list :
    (b : List ℕ) (p : ArrayData) (kids : Roses ArrayData) (o : OffsetWidth) (i : ℕ) → p.layout ≡ Listed o
    → IsValid (value p.layout b p kids i)
    → IsValid (items_at (λ j. first_cell b kids j) o (bytes_of b p.offsets) i)
valid_list b p kids o i is valid = let P : Layout
    → Type 0 = λ l. IsValid (value l b p kids i) in valid_unmapped _ _ (subst P is valid)

pub valid_struct :
    (b : List ℕ) (p : ArrayData) (kids : Roses ArrayData) (i : ℕ) → p.layout ≡ Struct
    → IsValid (value p.layout b p kids i) → IsValid (row b kids i)
valid_struct b p kids i is valid = let P : Layout
    → Type 0 = λ l. IsValid (value l b p kids i) in valid_unmapped _ _ (subst P is valid)

-- the values, by layout
decimal_valid : (d : ℕ) (z : ℤ) → IsValid (decimal_of d z) → decimal_of d z ≡ Ok (whole z)
decimal_valid d z valid = by_cases (nat_lt (nat_abs z) (10 ^ d)) valid where
  by_cases : (u : Bool) → IsValid (decimal_if u z) → decimal_if u z ≡ Ok (whole z)
  by_cases true h = refl
  by_cases false h = absurd h

pub value_decimal :
    (b : List ℕ) (p : ArrayData) (kids : Roses ArrayData) (d : ℕ) (z : ℤ) (i : ℕ) → p.layout ≡ Decimal d
    → IsValid (value p.layout b p kids i)
    → z ≡ number_at true 16 (bytes_of b p.values) i → value p.layout b p kids i ≡ Ok (whole z)
value_decimal b p kids d z i is valid same =
    let P : Layout → Type 0 = λ l. IsValid (value l b p kids i) in
    let number : ℤ = number_at true 16 (bytes_of b p.values) i in
    let Q : Layout → Type 0 = λ l. value l b p kids i ≡ Ok (whole number) in
    let E : ℤ → Type 0 = λ n. value p.layout b p kids i ≡ Ok (whole n) in
    subst E (sym same) (subst Q (sym is) (decimal_valid d number (subst P is valid)))

pub value_text :
    (b : List ℕ) (p : ArrayData) (kids : Roses ArrayData) (o : OffsetWidth) (t : List ℕ) (i : ℕ) → p.layout ≡ Utf8 o
    → is_utf8 t ≡ true
    → t ≡ slice_at o (bytes_of b p.offsets) (bytes_of b p.values) i → value p.layout b p kids i ≡ Ok (text t)
value_text b p kids o t i is utf8 same =
    let whole_slice : List ℕ = slice_at o (bytes_of b p.offsets) (bytes_of b p.values) i in
    let Q : Layout → Type 0 = λ l. value l b p kids i ≡ Ok (text t) in
    let U : Bool → Type 0 = λ u. text_if u t ≡ Ok (text t) in
    let E : List ℕ → Type 0 = λ s. text_of s ≡ Ok (text t) in
    subst Q (sym is) (subst E same (subst U (sym utf8) refl))

pub value_list :
    (b : List ℕ) (p : ArrayData) (kids : Roses ArrayData) (o : OffsetWidth) (ds : List Datum) (i : ℕ)
    → p.layout ≡ Listed o
    → items_at (λ j. first_cell b kids j) o (bytes_of b p.offsets) i ≡ Ok ds
    → value p.layout b p kids i ≡ Ok (list (items_of ds))
value_list b p kids o ds i is read =
    let Q : Layout → Type 0 = λ l. value l b p kids i ≡ Ok (list (items_of ds)) in
    subst Q (sym is) (ap list_of read)

pub value_struct :
    (b : List ℕ) (p : ArrayData) (kids : Roses ArrayData) (ds : List Datum) (i : ℕ) → p.layout ≡ Struct
    → row b kids i ≡ Ok ds
    → value p.layout b p kids i ≡ Ok (structure (items_of ds))
value_struct b p kids ds i is read =
    let Q : Layout → Type 0 = λ l. value l b p kids i ≡ Ok (structure (items_of ds)) in
    subst Q (sym is) (ap structure_of read)

pub ruleset value_laws = (
  bits_room,
  number_room,
  fixed_room,
  decimal_room,
  text_fit,
  bytes_fit,
  valid_text,
  valid_list,
  valid_struct,
  struct_long,
  kids_sound,
  value_decimal,
  value_text,
  value_list,
  value_struct,
)

-- the items of a list
abbrev item_cells : List ℕ → Roses ArrayData → ℕ → ℕ → Reading (List Datum)
item_cells b kids i n = each (λ j. first_cell b kids j) i n

pub items_are :
    (b : List ℕ) (ts : List (Rose ArrayData)) (e d : Rose ArrayData) (i n : ℕ) (ds : List Datum) → e ≡ get_or ts 0 d
    → 0 < length ts
    → each (cell b e) i n ≡ Ok ds → item_cells b (kids_of ts) i n ≡ Ok ds
items_are b [] e d i n ds is some h = absurd (omega (arith, some))
items_are b (t ∷ ts) e d i n ds is some h = let P : Rose ArrayData
    → Type 0 = λ u. each (cell b u) i n ≡ Ok ds in subst P is h

pub items_valid :
    (b : List ℕ) (ts : List (Rose ArrayData)) (e d : Rose ArrayData) (i n : ℕ) → e ≡ get_or ts 0 d → 0 < length ts
    → IsValid (item_cells b (kids_of ts) i n)
    → IsValid (each (cell b e) i n)
items_valid b [] e d i n is some h = absurd (omega (arith, some))
items_valid b (t ∷ ts) e d i n is some h = let P : Rose ArrayData
    → Type 0 = λ u. IsValid (each (cell b u) i n) in subst P (sym is) h

pub ruleset list_laws = (list_fit, list_child, child_sound, child_within, child_smaller, items_are, items_valid)

-- cells that remain to be read
pub left_here : {X : Type 0} (f : ℕ → Reading X) (i n : ℕ) → i < n → IsValid (each f i (n - i)) → IsValid (f i)
left_here f i n below valid =
    let P : Reading (List _) → Type 0 = λ m. IsValid m in
    valid_left cons (f i) (each f (i + 1) (n - (i + 1))) (subst P (each_step f i n below) valid)

pub left_after : {X : Type 0} (f : ℕ → Reading X) (i n : ℕ) → i < n → IsValid (each f i (n - i))
    → IsValid (each f (i + 1) (n - (i + 1)))
left_after f i n below valid =
    let P : Reading (List _) → Type 0 = λ m. IsValid m in
    valid_right cons (f i) (each f (i + 1) (n - (i + 1))) (subst P (each_step f i n below) valid)

pub ruleset left_laws = (left_here, left_after)

-- a row, child by child
row_more :
    (b : List ℕ) (ts : List (Rose ArrayData)) (k : ℕ) (e d : Rose ArrayData) (i : ℕ) → e ≡ get_or ts k d → k < length ts
    → row b (kids_of (drop k ts)) i ≡ both cons (cell b e i) (row b (kids_of (drop (k + 1) ts)) i)
row_more b ts k e d i is below = ap (λ r. row b r i) (kids_step ts k e d is below)

pub row_here :
    (b : List ℕ) (ts : List (Rose ArrayData)) (k : ℕ) (e d : Rose ArrayData) (i : ℕ) → e ≡ get_or ts k d → k < length ts
    → IsValid (row b (kids_of (drop k ts)) i) → IsValid (cell b e i)
row_here b ts k e d i is below valid =
    let P : Reading (List Datum) → Type 0 = λ m. IsValid m in
    valid_left cons (cell b e i) (row b (kids_of (drop (k + 1) ts)) i) (subst P (row_more b ts k e d i is below) valid)

pub row_after :
    (b : List ℕ) (ts : List (Rose ArrayData)) (k : ℕ) (e d : Rose ArrayData) (i : ℕ) → e ≡ get_or ts k d → k < length ts
    → IsValid (row b (kids_of (drop k ts)) i) → IsValid (row b (kids_of (drop (k + 1) ts)) i)
row_after b ts k e d i is below valid =
    let P : Reading (List Datum) → Type 0 = λ m. IsValid m in
    valid_right cons (cell b e i) (row b (kids_of (drop (k + 1) ts)) i) (subst P (row_more b ts k e d i is below) valid)

front_cons : (xs : List Datum) (x : Datum) (m : Reading (List Datum))
    → with_front (xs ++ x ∷ []) m ≡ with_front xs (both cons (Ok x) m)
front_cons xs x (Ok ys) = ap (λ zs. Ok zs) (simp append_assoc)
front_cons xs x (Err fs) = refl

pub row_gather :
    (b : List ℕ) (ts : List (Rose ArrayData)) (k : ℕ) (e d : Rose ArrayData) (i : ℕ) (xs ys : List Datum) (x : Datum)
    (w : Reading (List Datum))
    → e ≡ get_or ts k d → k < length ts → cell b e i ≡ Ok x → ys ≡ xs ++ x ∷ []
    → with_front xs (row b (kids_of (drop k ts)) i) ≡ w
    → with_front ys (row b (kids_of (drop (k + 1) ts)) i) ≡ w
row_gather b ts k e d i xs ys x w is below read grown left =
    let rest : Reading (List Datum) = row b (kids_of (drop (k + 1) ts)) i in
    let P : Reading Datum → Type 0 = λ m. with_front xs (both cons m rest) ≡ w in
    let Q : Reading (List Datum) → Type 0 = λ m. with_front xs m ≡ w in
    let Y : List Datum → Type 0 = λ zs. with_front zs rest ≡ w in
    subst Y (sym grown) (front_cons xs x rest ∙ subst P read (subst Q (row_more b ts k e d i is below) left))

pub row_read :
    (b : List ℕ) (ts : List (Rose ArrayData)) (k i : ℕ) (xs : List Datum) (w : Reading (List Datum)) → length ts ≤ k
    → with_front xs (row b (kids_of (drop k ts)) i) ≡ w → w ≡ Ok xs
row_read b ts k i xs w past left =
    let Q : Roses ArrayData → Type 0 = λ r. with_front xs (row b r i) ≡ w in
    sym (subst Q (kids_end ts k past) left) ∙ ap (λ zs. Ok zs) (append-nil xs)

pub ruleset row_laws = (front_none, row_here, row_after, row_gather, row_read, kid_long, kid_sound, kid_smaller)
