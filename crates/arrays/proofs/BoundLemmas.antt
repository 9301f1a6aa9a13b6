-- Bounds on the weights of slots, and how they are found.
use Rattle.std.proofs.Common.{
  ◌≡◌,
  ◌⊎◌,
  inl,
  inr,
  ℕ,
  ℤ,
  pos,
  negsuc,
  zero,
  suc,
  List,
  [],
  ◌∷◌,
  ◌+◌,
  ◌*◌,
  ◌<◌,
  ◌≤◌,
  Bool,
  true,
  false,
  length,
  drop,
  get_or,
  slice_get,
  refl,
  ap,
  sym,
  subst,
  ◌∙◌,
  arith,
  All,
}
use denote.Ref.{Bor}
use Rattle.std.specs.Option.{IsSome, option_copied}
use Rattle.std.specs.Prelude.{Option, None, Some, Ok, Err, max, if◌then◌else◌}
use Rattle.std.proofs.lemmas.Bool.{cases_lt}
use Rattle.std.proofs.Math.Nat.{mul-le-mul_left}
use Rattle.std.proofs.lemmas.Option.{get_or_from_slice_get, slice_get-get_or, slice_get_within}
use Rattle.values.specs.Limits.{max_cell_weight}
use Rattle.values.specs.declared.faults.StreamFault.TheVariants as fault
use Rattle.values.specs.Reading.{Reading, IsValid, must}
use Rattle.values.proofs.Readings.{each_length, each_get}
use Rattle.values.specs.Datum.{Datum, null}
use Rattle.values.specs.Rose.{Rose, node, Roses, none, more, kids_of}
use Rattle.values.proofs.Roses.{kids_step, kids_end, kid_within, kid_smaller}
use Rattle.values.specs.declared.layout.IntWidth.{IntWidth}
use Rattle.values.specs.declared.layout.OffsetWidth.{OffsetWidth}
use Rattle.values.specs.declared.layout.Layout.{Layout}
use Rattle.values.specs.declared.layout.Layout.TheVariants.{
  Bool as Booleans,
  Int,
  Decimal,
  FixedSizeBinary,
  Utf8,
  Binary,
  List as Listed,
  Struct,
}
use Rattle.values.specs.Layouts.{bytes_in, null_weight, null_weights, offset_bytes, weight}
use Rattle.array_layout.specs.declared.array.DictionaryValues.{DictionaryValues}
use Rattle.array_layout.specs.declared.array.ArrayData.{ArrayData}
use Rattle.array_layout.specs.Placing.{bytes_of, layout_by, layout_of, layouts_of}
use Rattle.array_layout.specs.Buffers.{is_null, number_at, offset_at}
use Rattle.array_layout.specs.Sound.{first_len, HasRoom, AreFit, AreLong, IsSound}
use Rattle.array_layout.specs.Cells.{cell, cells, coded_by, indexed, len_of}
use Rattle.array_layout.proofs.SoundLemmas.{kid_sound}
use Rattle.arrays.specs.Bounds.{IsBound}
use Rattle.arrays.specs.Checked.{valid_of}
use Rattle.arrays.specs.Weights.{
  capped,
  extent,
  sum_from,
  weight_in,
  weight_by,
  encoded_weight,
  slot_weight,
  weight_at,
  first_weight,
  weight_beside,
}
use Rattle.arrays.specs.Uniform.{is_fixed}
use Rattle.arrays.proofs.DictionaryLemmas.{index_room}
use Rattle.arrays.proofs.UniformLemmas.{encoded-fixed}
use Rattle.arrays.proofs.WeightLaw.{cell_weighs}
use Rattle.arrays.proofs.ValidationLemmas.{list_child, child_sound, child_smaller, at_least, and_rest, kids_sound}

-- a weight, as it is counted, is no more than what is counted in all
light : (w : ℕ) → capped w ≤ max_cell_weight → w ≡ capped w
unfolding capped
light w h = grind (arith, h)

under : (a x t : ℕ) → x ≡ capped a → x ≤ t → t ≤ max_cell_weight → a ≤ t
under a x t is most small =
    let same : a ≡ capped a = light a (omega (arith, is, most, small)) in omega (arith, same, is, most)

bounds_more_at :
    (f : ℕ → ℕ) (s x t bare i : ℕ) → IsBound s bare i f → x ≡ capped (f i) → t ≡ max s x → t ≤ max_cell_weight → (k : ℕ)
    → k < i + 1 → f k ≤ t
bounds_more_at f s x t bare i so_far is most small k below = elim (cases_lt k i) [
  | inl before ↦ let h = so_far.each (omega (arith, most, small)) k before in omega (arith, h, most)
  | inr here ↦
      let same : i ≡ k = omega (arith, below, here) in
      subst (λ (m : ℕ). f m ≤ t) same (under (f i) x t is (omega (arith, most)) small)
]

pub bounds_more :
    (f : ℕ → ℕ) (s x t bare i : ℕ) → IsBound s bare i f → x ≡ capped (f i) → t ≡ max s x → IsBound t bare (i + 1) f
bounds_more f s x t bare i so_far is most = record {
  null = λ small. let h = so_far.null (omega (arith, most, small)) in omega (arith, h, most);
  each = λ small. bounds_more_at f s x t bare i so_far is most small;
}

pub bounds_none : (f : ℕ → ℕ) (s bare : ℕ) → s ≡ capped bare → IsBound s bare 0 f
bounds_none f s bare is = record {
  null = λ small. under bare s s is (omega arith) small;
  each = λ small i below. absurd (omega (arith, below));
}

-- all weigh the same
pub bounds_same : (r bare n : ℕ) → r ≡ capped bare → IsBound r bare n (λ i. bare)
bounds_same r bare n is = record {
  null = λ small. under bare r r is (omega arith) small;
  each = λ small i below. under bare r r is (omega arith) small;
}

-- under a weight that may be above that of a null
bounds_over : (f : ℕ → ℕ) (s x t low bare n : ℕ) → IsBound s low n f → x ≡ capped bare → t ≡ max x s
    → IsBound t bare n f
bounds_over f s x t low bare n h is most = record {
  null = λ small. under bare x t is (omega (arith, most)) small;
  each = λ small i below. let k = h.each (omega (arith, most, small)) i below in omega (arith, k, most);
}

-- by extents
extents_under : (w e m r : ℕ) → e ≤ m → r ≡ capped (w * m + 5) → r ≤ max_cell_weight → 5 + w * e ≤ r
extents_under w e m r less is small =
    let all : w * m + 5 ≤ r = under (w * m + 5) r r is (omega arith) small in
    let part : w * e ≤ w * m = mul-le-mul_left w less in
    omega (arith, all, part)

pub bounds_extents :
    (r w m n : ℕ) (o : OffsetWidth) (a offsets : List ℕ) → a ≡ offsets → r ≡ capped (w * m + 5)
    → ((i : ℕ) → i < n → extent o a i ≤ m) → IsBound r 5 n (λ i. 5 + w * extent o offsets i)
bounds_extents r w m n o a offsets same is most =
    let P : List ℕ → Type 0 = λ x. (i : ℕ) → i < n → extent o x i ≤ m in
    let all : P offsets = subst P same most in
    record {
      null = λ small. let h = under (w * m + 5) r r is (omega arith) small in omega (arith, h);
      each = λ small i below. extents_under w (extent o offsets i) m r (all i below) is small;
    }

bounds_texts :
    (r n : ℕ) (o : OffsetWidth) (offsets : List ℕ) → IsBound r 5 n (λ i. 5 + 1 * extent o offsets i)
    → IsBound r 5 n (λ i. 5 + extent o offsets i)
bounds_texts r n o offsets h = record {
  null = h.null;
  each = λ small i below. let k = h.each small i below in omega (arith, k);
}

-- by items
sum_under : (f : ℕ → ℕ) (w i n m : ℕ) → i + n ≤ m → ((k : ℕ) → k < m → f k ≤ w) → sum_from f i n ≤ w * n
unfolding sum_from
sum_under f w i zero m within each = omega arith
sum_under f w i (suc n) m within each =
    let here = each i (omega (arith, within)) in
    let rest = sum_under f w (i + 1) n m (omega (arith, within)) each in
    omega (arith, here, rest)

items_under :
    (f : ℕ → ℕ) (w bare i n m r : ℕ) → IsBound w bare m f → i + n ≤ m → 5 + w * n ≤ r → r ≤ max_cell_weight
    → 5 + sum_from f i n ≤ r
unfolding sum_from
items_under f w bare i zero m r h within all small = omega (arith, all)
items_under f w bare i (suc n) m r h within all small =
    let few : w ≤ max_cell_weight = omega (arith, all, small) in
    let sum = sum_under f w i (suc n) m within (h.each few) in
    omega (arith, sum, all)

bounds_items :
    (f : ℕ → ℕ) (r w bare n m : ℕ) (o : OffsetWidth) (offsets : List ℕ) → (0 < n → AreFit o offsets n m)
    → IsBound w bare m f → IsBound r 5 n (λ i. 5 + w * extent o offsets i)
    → IsBound r 5 n (λ i. 5 + sum_from f (offset_at o offsets i) (extent o offsets i))
bounds_items f r w bare n m o offsets fit items h = record {
  null = h.null;
  each = λ small i below.
      let facts : AreFit o offsets n m = fit (omega (arith, below)) in
      let rising = facts.rising i below in
      let within = facts.within i below in
      items_under f w bare (offset_at o offsets i) (extent o offsets i) m r items (omega (arith, rising, within))
      (h.each small i below) small;
}

-- how many items the buffers of a list can have
list_room :
    (b : List ℕ) (p : ArrayData) (kids : Roses ArrayData) (o : OffsetWidth) → IsSound b (node p kids)
    → p.layout ≡ Listed o → 0 < p.len → AreFit o (bytes_of b p.offsets) p.len (first_len kids)
list_room b p kids o sound is =
    let P : Layout → Type 0 = λ l. HasRoom l b p (first_len kids) in subst P is sound.0.room

text_room :
    (b : List ℕ) (p : ArrayData) (kids : Roses ArrayData) (o : OffsetWidth) → IsSound b (node p kids)
    → p.layout ≡ Utf8 o → 0 < p.len → AreFit o (bytes_of b p.offsets) p.len p.values.len
text_room b p kids o sound is =
    let P : Layout → Type 0 = λ l. HasRoom l b p (first_len kids) in subst P is sound.0.room

binary_room :
    (b : List ℕ) (p : ArrayData) (kids : Roses ArrayData) (o : OffsetWidth) → IsSound b (node p kids)
    → p.layout ≡ Binary o → 0 < p.len → AreFit o (bytes_of b p.offsets) p.len p.values.len
binary_room b p kids o sound is =
    let P : Layout → Type 0 = λ l. HasRoom l b p (first_len kids) in subst P is sound.0.room

offsets_there :
    (o : OffsetWidth) (offsets : List ℕ) (n m : ℕ) → (0 < n → AreFit o offsets n m) → 0 < n
    → offset_bytes o * (n + 1) ≤ length offsets
offsets_there o offsets n m fit some = (fit some).room

offsets_rising :
    (o : OffsetWidth) (offsets : List ℕ) (n m : ℕ) → (0 < n → AreFit o offsets n m) → (i : ℕ) → i < n
    → offset_at o offsets i ≤ offset_at o offsets (i + 1)
offsets_rising o offsets n m fit i below = (fit (omega (arith, below))).rising i below

pub text_offsets :
    (b : List ℕ) (p : ArrayData) (kids : Roses ArrayData) (o : OffsetWidth) → IsSound b (node p kids)
    → p.layout ≡ Utf8 o → 0 < p.len → offset_bytes o * (p.len + 1) ≤ length (bytes_of b p.offsets)
text_offsets b p kids o sound is =
    offsets_there o (bytes_of b p.offsets) p.len p.values.len (text_room b p kids o sound is)

pub text_rising :
    (b : List ℕ) (p : ArrayData) (kids : Roses ArrayData) (o : OffsetWidth) → IsSound b (node p kids)
    → p.layout ≡ Utf8 o → (i : ℕ) → i < p.len
    → offset_at o (bytes_of b p.offsets) i ≤ offset_at o (bytes_of b p.offsets) (i + 1)
text_rising b p kids o sound is =
    offsets_rising o (bytes_of b p.offsets) p.len p.values.len (text_room b p kids o sound is)

pub binary_offsets :
    (b : List ℕ) (p : ArrayData) (kids : Roses ArrayData) (o : OffsetWidth) → IsSound b (node p kids)
    → p.layout ≡ Binary o → 0 < p.len → offset_bytes o * (p.len + 1) ≤ length (bytes_of b p.offsets)
binary_offsets b p kids o sound is =
    offsets_there o (bytes_of b p.offsets) p.len p.values.len (binary_room b p kids o sound is)

pub binary_rising :
    (b : List ℕ) (p : ArrayData) (kids : Roses ArrayData) (o : OffsetWidth) → IsSound b (node p kids)
    → p.layout ≡ Binary o → (i : ℕ) → i < p.len
    → offset_at o (bytes_of b p.offsets) i ≤ offset_at o (bytes_of b p.offsets) (i + 1)
binary_rising b p kids o sound is =
    offsets_rising o (bytes_of b p.offsets) p.len p.values.len (binary_room b p kids o sound is)

pub list_offsets :
    (b : List ℕ) (p : ArrayData) (kids : Roses ArrayData) (o : OffsetWidth) → IsSound b (node p kids)
    → p.layout ≡ Listed o → 0 < p.len → offset_bytes o * (p.len + 1) ≤ length (bytes_of b p.offsets)
list_offsets b p kids o sound is =
    offsets_there o (bytes_of b p.offsets) p.len (first_len kids) (list_room b p kids o sound is)

pub list_rising :
    (b : List ℕ) (p : ArrayData) (kids : Roses ArrayData) (o : OffsetWidth) → IsSound b (node p kids)
    → p.layout ≡ Listed o → (i : ℕ) → i < p.len
    → offset_at o (bytes_of b p.offsets) i ≤ offset_at o (bytes_of b p.offsets) (i + 1)
list_rising b p kids o sound is =
    offsets_rising o (bytes_of b p.offsets) p.len (first_len kids) (list_room b p kids o sound is)

-- the items' array
pub list_bounded :
    (b : List ℕ) (p : ArrayData) (ts : List (Rose ArrayData)) (e d : Rose ArrayData) (o : OffsetWidth) (w bare r : ℕ)
    → IsSound b (node p (kids_of ts)) → p.layout ≡ Listed o → e ≡ get_or ts 0 d → 0 < length ts
    → IsBound w bare (len_of e) (weight_at b e)
    → IsBound r 5 p.len (λ i. 5 + w * extent o (bytes_of b p.offsets) i)
    → IsBound r 5 p.len
    (λ i. 5 + sum_from (λ j. first_weight b (kids_of ts) j) (offset_at o (bytes_of b p.offsets) i)
    (extent o (bytes_of b p.offsets) i))
list_bounded b p [] e d o w bare r sound listed is some items h = absurd (omega (arith, some))
list_bounded b p (node q kids ∷ ts) e d o w bare r sound listed is some items h =
    let P : Rose ArrayData → Type 0 = λ u. IsBound w bare (len_of u) (weight_at b u) in
    bounds_items (weight_at b (node q kids)) r w bare p.len q.len o (bytes_of b p.offsets)
    (list_room b p (kids_of (node q kids ∷ ts)) o sound listed) (subst P is items) h

pub ruleset list_laws = (list_offsets, list_rising, list_child, child_sound, child_smaller)

-- over a struct's children: what the sum so far and the remaining children weigh
pub record Covers (s : ℕ) (b : List ℕ) (rest kids : Roses ArrayData) (n : ℕ) : Type 0 where
  pub bare : s ≤ max_cell_weight → 1 + null_weights (layouts_of kids) ≤ s + null_weights (layouts_of rest)
  pub each : s ≤ max_cell_weight → (i : ℕ) → i < n → 1 + weight_beside b kids i ≤ s + weight_beside b rest i

pub covers_start : (s : ℕ) (b : List ℕ) (kids : Roses ArrayData) (n : ℕ) → s ≡ capped 1 → Covers s b kids kids n
unfolding capped
covers_start s b kids n is =
    record { bare = λ small. omega (arith, is); each = λ small i below. omega (arith, is) }

covers_more :
    (s x t : ℕ) (b : List ℕ) (e : Rose ArrayData) (rest kids : Roses ArrayData) (n : ℕ)
    → IsBound x (null_weight (layout_of e)) (len_of e) (weight_at b e) → t ≡ capped (s + x) → n ≤ len_of e
    → Covers s b (more e rest) kids n → Covers t b rest kids n
covers_more s x t b e rest kids n child is long left = record {
  bare = λ small.
      let all = under (s + x) t t is (omega arith) small in
      let h = child.null (omega (arith, all, small)) in
      let k = left.bare (omega (arith, all, small)) in
      omega (arith, all, h, k);
  each = λ small i below.
      let all = under (s + x) t t is (omega arith) small in
      let h = child.each (omega (arith, all, small)) i (omega (arith, below, long)) in
      let k = left.each (omega (arith, all, small)) i below in
      omega (arith, all, h, k);
}

all_long : (ts : List (Rose ArrayData)) (k : ℕ) (e d : Rose ArrayData) (n : ℕ) → e ≡ get_or ts k d → k < length ts
    → AreLong Struct n (kids_of ts) → n ≤ len_of e
all_long ts k e d n is below long =
    kid_within (λ t. n ≤ len_of t) (AreLong Struct n) (at_least n) (and_rest n) ts k e d is below long

pub covers_step :
    (b : List ℕ) (ts : List (Rose ArrayData)) (k : ℕ) (e d : Rose ArrayData) (s x t n : ℕ) → e ≡ get_or ts k d
    → k < length ts → AreLong Struct n (kids_of ts) → IsBound x (null_weight (layout_of e)) (len_of e) (weight_at b e)
    → t ≡ capped (s + x) → Covers s b (kids_of (drop k ts)) (kids_of ts) n
    → Covers t b (kids_of (drop (k + 1) ts)) (kids_of ts) n
covers_step b ts k e d s x t n is below long child sum left =
    let P : Roses ArrayData → Type 0 = λ r. Covers s b r (kids_of ts) n in
    covers_more s x t b e (kids_of (drop (k + 1) ts)) (kids_of ts) n child sum (all_long ts k e d n is below long)
    (subst P (kids_step ts k e d is below) left)

covers_all : (s : ℕ) (b : List ℕ) (kids : Roses ArrayData) (n : ℕ) → Covers s b none kids n
    → IsBound s (1 + null_weights (layouts_of kids)) n (λ i. 1 + weight_beside b kids i)
covers_all s b kids n left = record {
  null = λ small. let h = left.bare small in omega (arith, h);
  each = λ small i below. let h = left.each small i below in omega (arith, h);
}

pub covers_end :
    (b : List ℕ) (ts : List (Rose ArrayData)) (k s n : ℕ) → length ts ≤ k
    → Covers s b (kids_of (drop k ts)) (kids_of ts) n
    → IsBound s (1 + null_weights (layouts_of (kids_of ts))) n (λ i. 1 + weight_beside b (kids_of ts) i)
covers_end b ts k s n past left =
    let P : Roses ArrayData → Type 0 = λ r. Covers s b r (kids_of ts) n in
    covers_all s b (kids_of ts) n (subst P (kids_end ts k past) left)

pub ruleset row_laws = (covers_start, covers_end, kid_sound, kid_smaller)

-- by layout
abbrev BoundsBy : ℕ → List ℕ → ArrayData → Roses ArrayData → Layout → Type 0
BoundsBy r b p kids l =
    IsBound r (null_weight (node l (layouts_of kids))) p.len
    (λ i. weight_by l b p (null_weight (node l (layouts_of kids))) (λ j. first_weight b kids j)
    (λ j. weight_beside b kids j) i)

fixed_layout :
    (l : Layout)
    → (l ≡ Booleans)
    ⊎ (((w : IntWidth) × (s : Bool) × (l ≡ Int w s))
    ⊎ (((d : ℕ) × (l ≡ Decimal d)) ⊎ ((w : ℕ) × (l ≡ FixedSizeBinary w))))
    → is_fixed l ≡ true
fixed_layout l one = elim one [
  | inl is ↦ ap is_fixed is
  | inr others ↦ elim others [
    | inl is ↦ ap is_fixed is.2
    | inr rest ↦ elim rest [ inl is ↦ ap is_fixed is.1 | inr is ↦ ap is_fixed is.1 ]
  ]
]

fixed_same : (r : ℕ) (b : List ℕ) (p : ArrayData) (kids : Roses ArrayData) (l : Layout) → is_fixed l ≡ true
    → r ≡ capped (null_weight (node l (layouts_of kids))) → BoundsBy r b p kids l
fixed_same r b p kids Booleans fixed h = bounds_same r _ p.len h
fixed_same r b p kids (Int w s) fixed h = bounds_same r _ p.len h
fixed_same r b p kids (Decimal d) fixed h = bounds_same r _ p.len h
fixed_same r b p kids (FixedSizeBinary w) fixed h = bounds_same r _ p.len h
fixed_same r b p kids (Utf8 o) fixed h = cc
fixed_same r b p kids (Binary o) fixed h = cc
fixed_same r b p kids (Listed o) fixed h = cc
fixed_same r b p kids Struct fixed h = cc

pub fixed_bounded :
    (r : ℕ) (b : List ℕ) (p : ArrayData) (kids : Roses ArrayData)
    → (p.layout ≡ Booleans)
    ⊎ (((w : IntWidth) × (s : Bool) × (p.layout ≡ Int w s))
    ⊎ (((d : ℕ) × (p.layout ≡ Decimal d)) ⊎ ((w : ℕ) × (p.layout ≡ FixedSizeBinary w))))
    → r ≡ capped (null_weight (node p.layout (layouts_of kids))) → BoundsBy r b p kids p.layout
fixed_bounded r b p kids one h = fixed_same r b p kids p.layout (fixed_layout p.layout one) h

pub texts_bounded :
    (r : ℕ) (b : List ℕ) (p : ArrayData) (kids : Roses ArrayData) (o : OffsetWidth) → p.layout ≡ Utf8 o
    → IsBound r 5 p.len (λ i. 5 + 1 * extent o (bytes_of b p.offsets) i) → BoundsBy r b p kids p.layout
texts_bounded r b p kids o is h =
    subst (BoundsBy r b p kids) (sym is) (bounds_texts r p.len o (bytes_of b p.offsets) h)

pub binaries_bounded :
    (r : ℕ) (b : List ℕ) (p : ArrayData) (kids : Roses ArrayData) (o : OffsetWidth) → p.layout ≡ Binary o
    → IsBound r 5 p.len (λ i. 5 + 1 * extent o (bytes_of b p.offsets) i) → BoundsBy r b p kids p.layout
binaries_bounded r b p kids o is h =
    subst (BoundsBy r b p kids) (sym is) (bounds_texts r p.len o (bytes_of b p.offsets) h)

pub lists_bounded :
    (r : ℕ) (b : List ℕ) (p : ArrayData) (kids : Roses ArrayData) (o : OffsetWidth) → p.layout ≡ Listed o
    → IsBound r 5 p.len
    (λ i. 5 + sum_from (λ j. first_weight b kids j) (offset_at o (bytes_of b p.offsets) i)
    (extent o (bytes_of b p.offsets) i))
    → BoundsBy r b p kids p.layout
lists_bounded r b p kids o is h = subst (BoundsBy r b p kids) (sym is) h

pub structs_bounded :
    (r : ℕ) (b : List ℕ) (p : ArrayData) (kids : Roses ArrayData) → p.layout ≡ Struct
    → IsBound r (1 + null_weights (layouts_of kids)) p.len (λ i. 1 + weight_beside b kids i) → BoundsBy r b p kids p.layout
structs_bounded r b p kids is h = subst (BoundsBy r b p kids) (sym is) h

pub children_long : (b : List ℕ) (p : ArrayData) (kids : Roses ArrayData) → IsSound b (node p kids) → p.layout ≡ Struct
    → AreLong Struct p.len kids
children_long b p kids sound is = let P : Layout → Type 0 = λ l. AreLong l p.len kids in subst P is sound.1

pub ruleset value_laws = (
  texts_bounded,
  binaries_bounded,
  lists_bounded,
  structs_bounded,
  text_offsets,
  text_rising,
  binary_offsets,
  binary_rising,
  children_long,
  kids_sound,
)

-- by the dictionary
abbrev BoundsCoded : ℕ → List ℕ → ArrayData → Roses ArrayData → Option DictionaryValues → Type 0
BoundsCoded r b p kids o =
    IsBound r (null_weight (node (layout_by o p.layout) (layouts_of kids))) p.len
    (λ i. slot_weight o b p (null_weight (node (layout_by o p.layout) (layouts_of kids))) (λ j. first_weight b kids j)
    (λ j. weight_beside b kids j) i)

null_or : (n : Bool) (x y r : ℕ) → x ≤ r → y ≤ r → (if n then x else y) ≤ r
null_or true x y r h k = h
null_or false x y r h k = k

slots_bounded : (r : ℕ) (b : List ℕ) (p : ArrayData) (kids : Roses ArrayData) → BoundsCoded r b p kids p.dictionary
    → IsBound r (null_weight (layout_of (node p kids))) p.len (weight_at b (node p kids))
unfolding weight_in
slots_bounded r b p kids h = record {
  null = h.null;
  each = λ small i below.
      null_or (is_null (bytes_of b p.validity) i) _ _ r (h.null small) (h.each small i below);
}

pub plain_bounded :
    (r : ℕ) (b : List ℕ) (p : ArrayData) (kids : Roses ArrayData) → p.dictionary ≡ None → BoundsBy r b p kids p.layout
    → IsBound r (null_weight (layout_of (node p kids))) p.len (weight_at b (node p kids))
plain_bounded r b p kids is h = slots_bounded r b p kids (subst (BoundsCoded r b p kids) (sym is) h)

pub encoded_bounded :
    (r x s : ℕ) (b : List ℕ) (p : ArrayData) (kids : Roses ArrayData) (w : DictionaryValues) → p.dictionary ≡ Some w
    → x ≡ capped (null_weight (node w.layout (layouts_of kids)))
    → IsBound s (null_weight (node w.layout none)) p.len
    (λ i. encoded_weight w.layout (coded_by p.layout w.values (bytes_of b p.values) i))
    → r ≡ max x s → IsBound r (null_weight (layout_of (node p kids))) p.len (weight_at b (node p kids))
encoded_bounded r x s b p kids w is low values most =
    slots_bounded r b p kids
    (subst (BoundsCoded r b p kids) (sym is)
    (bounds_over _ s x r _ (null_weight (node w.layout (layouts_of kids))) p.len values low most))

pub ruleset own_laws = (plain_bounded, encoded_bounded, index_room)

-- the heaviest of a dictionary's values
copied_some : (o : Option (Bor Datum)) (d : Datum) → option_copied o ≡ Some d → IsSome o
copied_some None d is = cc
copied_some (Some v) d is = refl

pub value_there : (o : Option (Bor Datum)) (ds : List Datum) (k : ℕ) → option_copied o ≡ slice_get ds k → k < length ds
    → IsSome o
value_there o ds k found below = copied_some o (get_or ds k null) (found ∙ slice_get-get_or ds k null below)

pub value_counted :
    (l : Layout) (ds : List Datum) (k w x : ℕ) (o : Option (Bor Datum)) (v : Bor Datum)
    → option_copied o ≡ slice_get ds k
    → o ≡ Some v → w ≡ weight (node l none) v.now → x ≡ capped w → x ≡ capped (weight (node l none) (get_or ds k null))
value_counted l ds k w x o v found is weighs counted =
    let same : get_or ds k null ≡ v.now = get_or_from_slice_get ds k v.now null (sym found ∙ ap option_copied is) in
    counted ∙ ap capped weighs ∙ ap (λ d. capped (weight (node l none) d)) (sym same)

value_under :
    (l : Layout) (ds : List Datum) (n r : ℕ) (o : Option Datum) → slice_get ds n ≡ o
    → IsBound r (null_weight (node l none)) (length ds) (λ k. weight (node l none) (get_or ds k null)) → r ≤ max_cell_weight
    → encoded_weight l (must fault.DictionaryIndex o) ≤ r
value_under l ds n r None is h small = h.null small
value_under l ds n r (Some d) is h small =
    let same : get_or ds n null ≡ d = get_or_from_slice_get ds n d null is in
    subst (λ (x : Datum). weight (node l none) x ≤ r) same (h.each small n (slice_get_within ds n d is))

indexed_under :
    (l : Layout) (ds : List Datum) (z : ℤ) (r : ℕ)
    → IsBound r (null_weight (node l none)) (length ds) (λ k. weight (node l none) (get_or ds k null)) → r ≤ max_cell_weight
    → encoded_weight l (indexed ds z) ≤ r
indexed_under l ds (pos n) r h small = value_under l ds n r (slice_get ds n) refl h small
indexed_under l ds (negsuc n) r h small = h.null small

coded_under :
    (k l : Layout) (ds : List Datum) (indices : List ℕ) (i r : ℕ)
    → IsBound r (null_weight (node l none)) (length ds) (λ k. weight (node l none) (get_or ds k null)) → r ≤ max_cell_weight
    → encoded_weight l (coded_by k ds indices i) ≤ r
coded_under Booleans l ds indices i r h small = h.null small
coded_under (Int w s) l ds indices i r h small = indexed_under l ds (number_at s (bytes_in w) indices i) r h small
coded_under (Decimal d) l ds indices i r h small = h.null small
coded_under (FixedSizeBinary w) l ds indices i r h small = h.null small
coded_under (Utf8 o) l ds indices i r h small = h.null small
coded_under (Binary o) l ds indices i r h small = h.null small
coded_under (Listed o) l ds indices i r h small = h.null small
coded_under Struct l ds indices i r h small = h.null small

pub values_bounded :
    (k l : Layout) (ds : List Datum) (indices : List ℕ) (n r : ℕ)
    → IsBound r (null_weight (node l none)) (length ds) (λ k. weight (node l none) (get_or ds k null))
    → IsBound r (null_weight (node l none)) n (λ i. encoded_weight l (coded_by k ds indices i))
values_bounded k l ds indices n r h = record {
  null = h.null;
  each = λ small i below. coded_under k l ds indices i r h small;
}

pub fixed_coded :
    (k l : Layout) (ds : List Datum) (indices : List ℕ) (n r : ℕ) → is_fixed l ≡ true → r ≡ capped (null_weight (node l none))
    → IsBound r (null_weight (node l none)) n (λ i. encoded_weight l (coded_by k ds indices i))
fixed_coded k l ds indices n r fixed is = record {
  null = λ small. under (null_weight (node l none)) r r is (omega arith) small;
  each = λ small i below.
      let same = encoded-fixed l none (coded_by k ds indices i) fixed in
      let low = under (null_weight (node l none)) r r is (omega arith) small in
      omega (arith, same, low);
}

-- all cells of a column
cells_bounded :
    (b : List ℕ) (t : Rose ArrayData) (ds : List Datum) (r bare : ℕ) → IsSound b t → cells b t ≡ Ok ds
    → IsBound r bare (len_of t) (weight_at b t) → r ≤ max_cell_weight → All (λ d. weight (layout_of t) d ≤ r) ds
unfolding cells
cells_bounded b t ds r bare sound is h small = λ i d l.
    let size = each_length (cell b t) 0 (len_of t) ds is in
    let within : i < len_of t = omega (arith, l, size) in
    let got = each_get (cell b t) 0 (len_of t) ds is i within in
    let same : 0 + i ≡ i = omega arith in
    let read : cell b t i ≡ Ok got.0 = ap (cell b t) (sym same) ∙ got.2 in
    let P : Datum → Type 0 = λ x. weight (layout_of t) x ≤ r in
    subst P (sym (get_or_from_slice_get ds i got.0 d got.1))
    (subst (λ n. n ≤ r) (cell_weighs b t i got.0 sound within read) (h.each small i within))

valid_is : (m : Reading (List Datum)) → IsValid m → m ≡ Ok (valid_of m)
valid_is (Ok ds) valid = refl
valid_is (Err fs) valid = absurd valid

-- the same by names of the body, of the layouts and of the cells
pub column_bounded :
    (r : ℕ) (b a : List ℕ) (t : Rose ArrayData) (ls : Rose Layout) (ds : List Datum) → a ≡ b → layout_of t ≡ ls
    → valid_of (cells b t) ≡ ds → IsSound b t → IsValid (cells b t)
    → IsBound r (null_weight (layout_of t)) (len_of t) (weight_at a t) → r ≤ max_cell_weight
    → All (λ d. weight ls d ≤ r) ds
column_bounded r b a t ls ds same typed are sound valid h small =
    let A : List ℕ → Type 0 = λ x. IsBound r (null_weight (layout_of t)) (len_of t) (weight_at x t) in
    let P : Rose Layout → List Datum → Type 0 = λ l xs. All (λ d. weight l d ≤ r) xs in
    let there = cells_bounded b t (valid_of (cells b t)) r (null_weight (layout_of t)) sound (valid_is (cells b t) valid)
    (subst A same h) small in
    subst (λ l. P l ds) typed (subst (P (layout_of t)) are there)
