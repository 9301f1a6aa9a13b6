-- Cells of arrays without a dictionary, by slots and by locations.
use Rattle.std.proofs.Common.{
  ◌≡◌,
  ℕ,
  zero,
  suc,
  ◌+◌,
  ◌*◌,
  ◌-◌,
  ◌<◌,
  ◌≤◌,
  List,
  [],
  ◌∷◌,
  ◌++◌,
  All,
  length,
  get_or,
  take,
  drop,
  true,
  false,
  Ok,
  Err,
  refl,
  ap,
  sym,
  subst,
  ◌∙◌,
  arith,
  inl,
  inr,
  append-nil,
  append_assoc,
  length-append,
  length-drop,
}
use Rattle.std.specs.Prelude.{Bool, ◌&&◌, if◌then◌else◌, map, not, replicate, slice_index, slice_range}
use Rattle.std.specs.List.{flat_map}
use Rattle.std.specs.Str.{is_utf8}
use Rattle.std.proofs.lemmas.List.{drop_more, drop_all, get_or-drop, length-map}
use Rattle.std.proofs.lemmas.List.Elements.{All-get_or}
use Rattle.std.specs.Prelude.{Option}
use Rattle.values.specs.Datum.{Datum, null, bytes, text}
use Rattle.values.specs.Reading.{Reading, IsValid, one}
use Rattle.values.specs.declared.faults.StreamFault.TheVariants as fault
use Rattle.values.specs.Rose.{kids_of}
use Rattle.values.specs.declared.layout.OffsetWidth.{OffsetWidth}
use Rattle.values.specs.declared.layout.Layout.{Layout}
use Rattle.values.specs.declared.layout.Layout.TheVariants.{
  Bool as Booleans,
  Int,
  Decimal,
  FixedSizeBinary,
  Utf8,
  Binary,
  List as Listed,
  Struct,
}
use Rattle.array_layout.specs.declared.array.ArrayData.{ArrayData}
use Rattle.bitmaps.specs.Bits.{bit_at}
use Rattle.array_layout.specs.Placing.{bytes_of}
use Rattle.array_layout.specs.Buffers.{fixed_at, is_null, slice_at}
use Rattle.array_layout.specs.Cells.{cell, value_by, first_cell, row, text_of}
use Rattle.body_writer.specs.Slots.{is_valid, truth_in}
use Rattle.body_writer.specs.Runs.{HasBytes, cell_in, slot_bytes, slot_width, slots}
use Rattle.body_writer.specs.Segments.{array_of, with_offsets}
use Rattle.body_writer.specs.Texts.{as_bytes}
use Rattle.body_writer.specs.Locations.{
  Fits,
  HasText,
  IsPlain,
  IsSlot,
  IsTexts,
  array_cell,
  located_cell,
  located_cells,
}
use Rattle.body_writer.specs.declared.from_locations.plain.PlainArray.{PlainArray}
use Rattle.body_writer.specs.declared.from_locations.location.RowLocation.{RowLocation}
use Rattle.body_writer.proofs.RunLemmas.{null-cell}
use Rattle.body_writer.proofs.SlotLemmas.{plain-cell, slot-null, slots-room, slots-valid}
use Rattle.body_writer.proofs.BitLemmas.{cell-set, cell-truth}
use Rattle.body_writer.proofs.NumberBytes.{next-place}

-- single slots

pub slot-good : (l : Layout) (a : PlainArray) (i : ℕ) → IsSlot l a i
    → IsValid (cell a.slots.parts.body.now (array_of a.slots.parts) i)
slot-good l a i s = s.plain.own.plain.checked.valid i (omega (arith, s.plain.whole)) s.below

pub slot-valid : (l : Layout) (a : PlainArray) (i : ℕ) → IsSlot l a i
    → not (is_null a.bits.now i) ≡ is_valid (array_cell a i)
slot-valid l a i s =
    let parts = a.slots.parts in
    cell-set parts.body.now a.bits.now parts.own.now (kids_of parts.children.now) i s.plain.bits
    s.plain.own.plain.plain (slot-good l a i s)

pub slot-missing : (l : Layout) (a : PlainArray) (i : ℕ) → IsSlot l a i → is_null a.bits.now i ≡ true
    → null ≡ array_cell a i
slot-missing l a i s is =
    let parts = a.slots.parts in
    sym (ap cell_in (null-cell parts.body.now parts.own.now (kids_of parts.children.now) i
    (ap (λ ys. is_null ys i) (sym s.plain.bits) ∙ is)))

slot-read : (l : Layout) (a : PlainArray) (i : ℕ) → IsSlot l a i → is_null a.bits.now i ≡ false
    → cell a.slots.parts.body.now (array_of a.slots.parts) i
    ≡ value_by a.slots.parts.own.now.layout a.slots.parts.body.now a.slots.parts.own.now
    (λ j. first_cell a.slots.parts.body.now (kids_of a.slots.parts.children.now) j)
    (λ j. row a.slots.parts.body.now (kids_of a.slots.parts.children.now) j) i
slot-read l a i s is =
    let parts = a.slots.parts in
    plain-cell parts.body.now parts.own.now (kids_of parts.children.now) parts.own.now.layout i refl
    s.plain.own.plain.plain (ap (λ ys. is_null ys i) (sym s.plain.bits) ∙ is)

pub slot-truth : (a : PlainArray) (i : ℕ) (b : Bool) → IsSlot Booleans a i → is_null a.bits.now i ≡ false
    → b ≡ bit_at a.values.now i → b ≡ truth_in (array_cell a i)
slot-truth a i b s is value =
    let parts = a.slots.parts in
    cell-truth parts.body.now a.bits.now a.values.now parts.own.now (kids_of parts.children.now) i b s.plain.bits
    s.plain.values s.plain.own.plain.plain s.plain.own.layout
    (value ∙ ap (λ n. not n && bit_at a.values.now i) (sym is))

-- texts

pub texts-alike : (l : Layout) (o : OffsetWidth) → IsTexts l → HasBytes (with_offsets o l) o
texts-alike (Utf8 x) o is = inl refl
texts-alike (Binary x) o is = inr refl
texts-alike l o is = absurd is

text-read : (t : List ℕ) → IsValid (text_of t) → bytes t ≡ as_bytes (cell_in (text_of t))
text-read t valid = by_test (is_utf8 t) valid where
  by_test : (b : Bool) → IsValid {X = Datum} (if b then Ok (text t) else Err (one fault.NotUtf8))
      → bytes t ≡ as_bytes (cell_in (if b then Ok (text t) else Err (one fault.NotUtf8)))
  by_test true h = refl
  by_test false h = absurd h

as-text : (l : Layout) (body : List ℕ) (p : ArrayData) (item : ℕ → Reading Datum)
    (others : ℕ → Reading (List Datum)) (o : OffsetWidth) (k : ℕ) → HasBytes l o
    → IsValid (value_by l body p item others k)
    → bytes (slice_at o (bytes_of body p.offsets) (bytes_of body p.values) k)
    ≡ as_bytes (cell_in (value_by l body p item others k))
as-text l body p item others o k is valid =
    let t = slice_at o (bytes_of body p.offsets) (bytes_of body p.values) k in
    let P : Layout → Type 0 = λ y. IsValid (value_by y body p item others k) in
    let Q : Layout → Type 0 = λ y. bytes t ≡ as_bytes (cell_in (value_by y body p item others k)) in
    elim is [
      | inl e ↦ subst Q (sym e) (text-read t (subst P e valid))
      | inr e ↦ subst Q (sym e) refl
    ]

pub has-bytes : (l : Layout) (a : PlainArray) (i : ℕ) → HasText l a i
    → HasBytes a.slots.parts.own.now.layout a.slots.offsets
has-bytes l a i h =
    subst (λ y. HasBytes y a.slots.offsets) (sym h.slot.plain.own.layout) (texts-alike l a.slots.offsets h.texts)

pub slot-text : (l : Layout) (a : PlainArray) (i : ℕ) → HasText l a i → is_null a.bits.now i ≡ false
    → bytes (slice_at a.slots.offsets a.offsets.now a.values.now i) ≡ as_bytes (array_cell a i)
slot-text l a i h is =
    let parts = a.slots.parts in
    let plain = h.slot.plain in
    let read = slot-read l a i h.slot is in
    ap (λ os. bytes (slice_at a.slots.offsets os a.values.now i)) plain.offsets
    ∙ ap (λ xs. bytes (slice_at a.slots.offsets (bytes_of parts.body.now parts.own.now.offsets) xs i)) plain.values
    ∙ as-text parts.own.now.layout parts.body.now parts.own.now
    (λ j. first_cell parts.body.now (kids_of parts.children.now) j)
    (λ j. row parts.body.now (kids_of parts.children.now) j) a.slots.offsets i (has-bytes l a i h)
    (subst IsValid read (slot-good l a i h.slot))
    ∙ ap (λ r. as_bytes (cell_in r)) (sym read)

-- slots of a fixed width

width-alike : (o : OffsetWidth) (l : Layout) → slot_width (with_offsets o l) ≡ slot_width l
width-alike o Booleans = refl
width-alike o (Int w s) = refl
width-alike o (Decimal p) = refl
width-alike o (FixedSizeBinary w) = refl
width-alike o (Utf8 x) = refl
width-alike o (Binary x) = refl
width-alike o (Listed x) = refl
width-alike o Struct = refl

bytes-alike : (o : OffsetWidth) (l : Layout) (d : Datum) → slot_bytes (with_offsets o l) d ≡ slot_bytes l d
bytes-alike o Booleans d = refl
bytes-alike o (Int w s) d = refl
bytes-alike o (Decimal p) d = refl
bytes-alike o (FixedSizeBinary w) d = refl
bytes-alike o (Utf8 x) d = refl
bytes-alike o (Binary x) d = refl
bytes-alike o (Listed x) d = refl
bytes-alike o Struct d = refl

own-width : (l : Layout) (a : PlainArray) (w : ℕ) → IsPlain l a → w ≡ slot_width l
    → w ≡ slot_width a.slots.parts.own.now.layout
own-width l a w plain is =
    is ∙ sym (width-alike a.slots.offsets l) ∙ ap slot_width (sym plain.own.layout)

pub slot-room : (l : Layout) (a : PlainArray) (i w : ℕ) → IsSlot l a i → w ≡ slot_width l
    → w * i + w ≤ length a.values.now
slot-room l a i w s is =
    let parts = a.slots.parts in
    let checked = s.plain.own.plain.checked in
    let room =
    slots-room parts.body.now a.values.now parts.own.now (kids_of parts.children.now) w (i + 1) s.plain.values
    (own-width l a w s.plain is) checked.sound (omega (arith, s.below, checked.within)) in
    let next = next-place w i in
    omega (arith, room, next)

pub slot-there : (l : Layout) (a : PlainArray) (i w : ℕ) → IsSlot l a i → w ≡ slot_width l
    → is_null a.bits.now i ≡ false
    → fixed_at w a.values.now i ≡ slot_bytes l (array_cell a i)
unfolding fixed_at slots
slot-there l a i w s is there =
    let parts = a.slots.parts in
    let checked = s.plain.own.plain.checked in
    let kids = kids_of parts.children.now in
    let one : (i + 1) - i ≡ 1 = omega arith in
    let room = slots-room parts.body.now a.values.now parts.own.now kids w (i + 1) s.plain.values
    (own-width l a w s.plain is) checked.sound (omega (arith, s.below, checked.within)) in
    let alone =
    slots-valid parts.body.now a.bits.now a.values.now parts.own.now kids w i (i + 1) s.plain.bits s.plain.values
    (own-width l a w s.plain is) (omega arith) (omega (arith, s.below, checked.within)) s.plain.own.plain.plain
    (λ k lo hi. checked.valid k (omega (arith, s.plain.whole)) (omega (arith, hi, s.below))) s.plain.small room there
    (λ k lo hi. let e : k ≡ i = omega (arith, lo, hi) in ap (λ n. is_null a.bits.now n) e) in
    ap (λ e. slice_range a.values.now (w * i) e) (sym (next-place w i)) ∙ alone
    ∙ ap (λ n. flat_map (slot_bytes parts.own.now.layout) (slots (cell parts.body.now (array_of parts)) i n)) one
    ∙ append-nil (slot_bytes parts.own.now.layout (array_cell a i))
    ∙ ap (λ y. slot_bytes y (array_cell a i)) s.plain.own.layout ∙ bytes-alike a.slots.offsets l (array_cell a i)

pub slot-zeros : (l : Layout) (w : ℕ) (d : Datum) → w ≡ slot_width l → null ≡ d → replicate w 0 ≡ slot_bytes l d
slot-zeros l w d is none =
    ap (λ n. replicate n 0) is ∙ sym (slot-null l) ∙ ap (slot_bytes l) none

-- bytes are below 256, wherever they are read

abbrev pub AreBytes : List ℕ → Type 0
AreBytes xs = (n : ℕ) → slice_index xs n < 256

bytes-taken : (k : ℕ) (xs : List ℕ) → AreBytes xs → AreBytes (take k xs)
bytes-taken zero xs small n = omega arith
bytes-taken (suc k) [] small n = omega arith
bytes-taken (suc k) (x ∷ xs) small zero = small 0
bytes-taken (suc k) (x ∷ xs) small (suc n) = bytes-taken k xs (λ i. small (suc i)) n

bytes-left : (k : ℕ) (xs : List ℕ) → AreBytes xs → AreBytes (drop k xs)
bytes-left k xs small n = subst (λ x. x < 256) (sym (get_or-drop k xs n 0)) (small (k + n))

pub bytes-between : (xs : List ℕ) (from to : ℕ) → AreBytes xs → AreBytes (slice_range xs from to)
bytes-between xs from to small = bytes-taken (to - from) (drop from xs) (bytes-left from xs small)

-- location after location

pub fits-at : (l : Layout) (xs : List (Option PlainArray)) (ps : List RowLocation) (i : ℕ) (p : RowLocation)
    → All (Fits l xs) ps → i < length ps → p ≡ get_or ps i p → Fits l xs p
fits-at l xs ps i p all h e = subst (Fits l xs) (sym e) (All-get_or (Fits l xs) ps i p h all)

pub cells-next : (xs : List (Option PlainArray)) (ps : List RowLocation) (i : ℕ) (p : RowLocation) → i < length ps
    → p ≡ get_or ps i p
    → located_cells xs (drop i ps) ≡ located_cell xs p ∷ located_cells xs (drop (i + 1) ps)
cells-next xs ps i p h e =
    ap (located_cells xs) (drop_more ps i p h) ∙ ap (λ q. located_cell xs q ∷ located_cells xs (drop (i + 1) ps)) (sym e)

pub cells-end : (xs : List (Option PlainArray)) (ps : List RowLocation) (i : ℕ) → length ps ≤ i
    → located_cells xs (drop i ps) ≡ []
cells-end xs ps i h = ap (located_cells xs) (drop_all i ps h)

pub fits-item : (l : Layout) (xs : List (Option PlainArray)) (ps : List RowLocation) (i : ℕ) (p : RowLocation)
    → All (Fits l xs) ps → i < length ps → Fits l xs (get_or ps i p)
fits-item l xs ps i p all h = All-get_or (Fits l xs) ps i p h all

pub flat-next : (f : Datum → List ℕ) (xs : List (Option PlainArray)) (ps : List RowLocation) (i : ℕ) (p : RowLocation)
    (made next total : List ℕ) → i < length ps → next ≡ made ++ f (located_cell xs (get_or ps i p))
    → made ++ flat_map f (located_cells xs (drop i ps)) ≡ total
    → next ++ flat_map f (located_cells xs (drop (i + 1) ps)) ≡ total
flat-next f xs ps i p made next total h n is =
    let rest = flat_map f (located_cells xs (drop (i + 1) ps)) in
    ap (λ bs. bs ++ rest) n ∙ append_assoc made (f (located_cell xs (get_or ps i p))) rest
    ∙ ap (λ qs. made ++ flat_map f (located_cells xs qs)) (sym (drop_more ps i p h)) ∙ is

pub maps-next : {A : Type 0} (f : Datum → A) (xs : List (Option PlainArray)) (ps : List RowLocation) (i : ℕ)
    (p : RowLocation) (made next total : List A) → i < length ps
    → next ≡ made ++ f (located_cell xs (get_or ps i p)) ∷ []
    → made ++ map f (located_cells xs (drop i ps)) ≡ total
    → next ++ map f (located_cells xs (drop (i + 1) ps)) ≡ total
maps-next f xs ps i p made next total h n is =
    let rest = map f (located_cells xs (drop (i + 1) ps)) in
    ap (λ bs. bs ++ rest) n ∙ append_assoc made (f (located_cell xs (get_or ps i p)) ∷ []) rest
    ∙ ap (λ qs. made ++ map f (located_cells xs qs)) (sym (drop_more ps i p h)) ∙ is

pub maps-end : {A : Type 0} (f : Datum → A) (xs : List (Option PlainArray)) (ps : List RowLocation) (i : ℕ)
    (made total : List A) → length ps ≤ i → made ++ map f (located_cells xs (drop i ps)) ≡ total → made ≡ total
maps-end f xs ps i made total h is =
    sym (append-nil made) ∙ ap (λ ds. made ++ map f ds) (sym (cells-end xs ps i h)) ∙ is

-- as many are made as locations were passed
pub maps-few : {A : Type 0} (f : Datum → A) (xs : List (Option PlainArray)) (ps : List RowLocation) (i : ℕ)
    (made : List A) → i < length ps → made ++ map f (located_cells xs (drop i ps)) ≡ map f (located_cells xs ps)
    → length made < length ps
maps-few f xs ps i made h is =
    let both = ap length is in
    let split = length-append made (map f (located_cells xs (drop i ps))) in
    let rest = length-map (located_cells xs (drop i ps)) f in
    let after = length-map (drop i ps) (located_cell xs) in
    let left = length-drop i ps in
    let all = length-map (located_cells xs ps) f in
    let many = length-map ps (located_cell xs) in
    omega (arith, both, split, rest, after, left, all, many, h)

pub ruleset steps = (cells-next, length-map)
