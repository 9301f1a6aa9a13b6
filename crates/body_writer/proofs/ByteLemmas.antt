-- Texts and bytes of runs of slots.
use Rattle.std.proofs.Common.{
  ◌≡◌,
  ℕ,
  zero,
  suc,
  ◌+◌,
  ◌*◌,
  ◌-◌,
  ◌<◌,
  ◌≤◌,
  List,
  [],
  ◌∷◌,
  ◌++◌,
  length,
  true,
  false,
  Bool,
  Ok,
  Err,
  None,
  refl,
  ap,
  sym,
  subst,
  ◌∙◌,
  arith,
  inl,
  inr,
  append_assoc,
  length-drop,
  drop,
}
use Rattle.std.proofs.lemmas.List.{length-take}
use Rattle.std.specs.Prelude.{replicate, slice_range, map, if◌then◌else◌}
use Rattle.std.specs.List.{flat_map}
use Rattle.std.specs.Str.{is_utf8}
use Rattle.byteorder.specs.Endian.{little_bytes}
use Rattle.values.specs.Datum.{Datum, text}
use Rattle.values.specs.Reading.{Reading, IsValid, one}
use Rattle.values.specs.Rose.{Roses, node}
use Rattle.values.specs.declared.faults.StreamFault.TheVariants as fault
use Rattle.values.specs.declared.layout.OffsetWidth.{OffsetWidth}
use Rattle.values.specs.declared.layout.Layout.{Layout}
use Rattle.values.specs.Layouts.{offset_bytes}
use Rattle.array_layout.specs.declared.array.ArrayData.{ArrayData}
use Rattle.array_layout.specs.Placing.{bytes_of}
use Rattle.array_layout.specs.Buffers.{is_null, offset_at, slice_at}
use Rattle.array_layout.specs.Sound.{IsSound, HasRoom, AreFit, first_len}
use Rattle.array_layout.specs.Cells.{cell, value_by, first_cell, row, text_of, list_of, items_at}
use Rattle.values.proofs.Readings.{each_length}
use Rattle.body_writer.proofs.Cells.{length-listed}
use Rattle.std.proofs.Math.Nat.{mul-le-mul_left}
use Rattle.values.specs.declared.layout.Layout.TheVariants.{List as Listed}
use Rattle.body_writer.specs.Runs.{cell_in, slots, HasBytes, HasOffsets, AreAlike}
use Rattle.body_writer.specs.Columns.{offsets_from}
use Rattle.body_writer.specs.Slots.{bytes_in, length_in, total_length}
use Rattle.body_writer.proofs.RunLemmas.{flat-nulls, flat-valid, rises-far, null-cell, range-long}
use Rattle.body_writer.proofs.SlotLemmas.{AllValid, plain-cell}

text-by : (b : Bool) (t : List ℕ) → IsValid {X = Datum} (if b then Ok (text t) else Err (one fault.NotUtf8))
    → cell_in (if b then Ok (text t) else Err (one fault.NotUtf8)) ≡ text t
text-by true t h = refl
text-by false t h = absurd h

-- these are a cell's bytes
pub record HasTheBytes (d : Datum) (t : List ℕ) : Type 0 where
  pub bytes : bytes_in d ≡ t
  pub size : length_in d ≡ length t

text-there : (t : List ℕ) → IsValid (text_of t) → HasTheBytes (cell_in (text_of t)) t
text-there t h =
    let e = text-by (is_utf8 t) t h in
    record { bytes = ap bytes_in e; size = ap length_in e }

-- a valid slot has its bytes
bytes-there :
    (l : Layout) (body : List ℕ) (p : ArrayData) (item : ℕ → Reading Datum) (others : ℕ
    → Reading (List Datum)) (o : OffsetWidth) (k : ℕ)
    → HasBytes l o → IsValid (value_by l body p item others k)
    → HasTheBytes (cell_in (value_by l body p item others k)) (slice_at o (bytes_of body p.offsets) (bytes_of body
    p.values) k)
bytes-there l body p item others o k is h =
    let P : Layout → Type 0 = λ y. IsValid (value_by y body p item others k) in
    let Q : Layout → Type 0 = λ y. HasTheBytes (cell_in (value_by y body p item others k)) (slice_at o (bytes_of body
    p.offsets) (bytes_of body p.values) k) in
    elim is [
      | inl e ↦ subst Q (sym e) (text-there (slice_at o (bytes_of body p.offsets) (bytes_of body p.values) k) (subst P
          e h))
      | inr e ↦ subst Q (sym e) (record { bytes = refl; size = refl })
    ]

pub bytes-valid :
    (body offs xs : List ℕ) (p : ArrayData) (kids : Roses ArrayData) (o : OffsetWidth) (k : ℕ)
    → offs ≡ bytes_of body p.offsets → xs ≡ bytes_of body p.values
    → HasBytes p.layout o → p.dictionary ≡ None
    → is_null (bytes_of body p.validity) k ≡ false → IsValid (cell body (node p kids) k)
    → HasTheBytes (cell_in (cell body (node p kids) k)) (slice_range xs (offset_at o offs k) (offset_at o offs (k + 1)))
unfolding slice_at
bytes-valid body offs xs p kids o k oe xe l n h valid =
    let read = plain-cell body p kids p.layout k refl n h in
    let there = bytes-there p.layout body p (λ j. first_cell body kids j) (λ j. row body kids j) o k l (subst IsValid
    read valid) in
    let P : Reading Datum → List ℕ → List ℕ → Type 0 = λ r os ys. HasTheBytes (cell_in r) (slice_range ys (offset_at o
    os k) (offset_at o os (k + 1))) in
    subst (λ r. P r offs xs) (sym read)
    (subst (λ os. P (value_by p.layout body p (λ j. first_cell body kids j) (λ j. row body kids j) k) os xs) (sym oe)
    (subst (λ ys. P (value_by p.layout body p (λ j. first_cell body kids j) (λ j. row body kids j) k) (bytes_of body
    p.offsets) ys) (sym xe) there))

fit-by : (l : Layout) (body : List ℕ) (p : ArrayData) (limit : ℕ) (o : OffsetWidth) → HasBytes l o
    → HasRoom l body p limit → 0 < p.len
    → AreFit o (bytes_of body p.offsets) p.len p.values.len
fit-by l body p limit o is room some =
    let P : Layout → Type 0 = λ y. HasRoom y body p limit in
    elim is [ inl e ↦ (subst P e room) some | inr e ↦ (subst P e room) some ]

pub fit-of :
    (body offs : List ℕ) (p : ArrayData) (kids : Roses ArrayData) (o : OffsetWidth) → offs ≡ bytes_of body p.offsets
    → HasBytes p.layout o → IsSound body (node p kids) → 0 < p.len
    → AreFit o offs p.len p.values.len
fit-of body offs p kids o e l sound some =
    subst (λ ys. AreFit o ys p.len p.values.len) (sym e) (fit-by p.layout body p (first_len kids) o l sound.0.room some)

pub offsets-rise :
    (o : OffsetWidth) (offs : List ℕ) (len limit at end : ℕ) → AreFit o offs len limit → at ≤ end → end ≤ len
    → offset_at o offs at ≤ offset_at o offs end
offsets-rise o offs len limit at end fit h k =
    let e : at + (end - at) ≡ end = omega (arith, h) in
    subst (λ n. offset_at o offs at ≤ offset_at o offs n) e
    (rises-far (λ n. offset_at o offs n) at (end - at) (λ n lo hi. fit.rising n (omega (arith, hi, h, k))))

pub offsets-end :
    (o : OffsetWidth) (offs : List ℕ) (len limit end : ℕ) → AreFit o offs len limit → 0 < end → end ≤ len
    → offset_at o offs end ≤ limit
offsets-end o offs len limit zero fit some h = absurd (omega (arith, some))
offsets-end o offs len limit (suc n) fit some h =
    let e : n + 1 ≡ suc n = omega arith in
    subst (λ k. offset_at o offs k ≤ limit) e (fit.within n (omega (arith, h)))

pub texts-null :
    (body bits : List ℕ) (p : ArrayData) (kids : Roses ArrayData) (at end : ℕ) → bits ≡ bytes_of body p.validity
    → at ≤ end → is_null bits at ≡ true → AreAlike bits at end
    → [] ≡ flat_map bytes_in (slots (cell body (node p kids)) at (end - at))
texts-null body bits p kids at end b h is same =
    let z : 0 * (end - at) ≡ 0 = omega arith in
    ap (λ n. replicate {A = ℕ} n 0) (sym z)
    ∙ sym (flat-nulls bytes_in (cell body (node p kids)) 0 at (end - at) refl
    (λ k l u. null-cell body p kids k (ap (λ xs. is_null xs k) (sym b) ∙ same k l (omega (arith, u, h)) ∙ is)))

pub texts-valid :
    (body bits offs xs : List ℕ) (p : ArrayData) (kids : Roses ArrayData) (o : OffsetWidth) (at end : ℕ)
    → bits ≡ bytes_of body p.validity
    → offs ≡ bytes_of body p.offsets → xs ≡ bytes_of body p.values → at ≤ end → end ≤ p.len → HasBytes p.layout o
    → p.dictionary ≡ None
    → IsSound body (node p kids) → AllValid body p kids at end → 0 < p.len → is_null bits at ≡ false
    → AreAlike bits at end
    → slice_range xs (offset_at o offs at) (offset_at o offs end) ≡ flat_map bytes_in (slots (cell body (node p kids))
    at (end - at))
texts-valid body bits offs xs p kids o at end b oe xe h within l n sound all some is same =
    let fit = fit-of body offs p kids o oe l sound some in
    let past : at + (end - at) ≡ end = omega (arith, h) in
    ap (λ k. slice_range xs (offset_at o offs at) (offset_at o offs k)) (sym past)
    ∙ sym (flat-valid bytes_in (cell body (node p kids)) (λ k. offset_at o offs k) xs at (end - at)
    (λ k lo hi. (bytes-valid body offs xs p kids o k oe xe l n (ap (λ ys. is_null ys k) (sym b)
    ∙ same k lo (omega (arith, hi, h)) ∙ is) (all k lo (omega (arith, hi, h)))).bytes)
    (λ k lo hi. fit.rising k (omega (arith, hi, h, within))))

-- where texts start, slot by slot

pub slots-next : (cell : ℕ → Reading Datum) (i to : ℕ) → i < to
    → slots cell i (to - i) ≡ cell_in (cell i) ∷ slots cell (i + 1) (to - (i + 1))
unfolding slots
slots-next cell i to h = let e : to - i ≡ suc (to - (i + 1)) = omega (arith, h) in ap (λ n. slots cell i n) e

pub slots-none : (cell : ℕ → Reading Datum) (i to : ℕ) → to ≤ i → slots cell i (to - i) ≡ []
unfolding slots
slots-none cell i to h = let e : to - i ≡ 0 = omega (arith, h) in ap (λ n. slots cell i n) e

length-range : (xs : List ℕ) (a b : ℕ) → a ≤ b → b ≤ length xs → length (slice_range xs a b) ≡ b - a
length-range xs a b h k =
    let cut = length-take (b - a) (drop a xs) in
    let left = length-drop a xs in
    omega (arith, cut, left, h, k)

-- Where offsets are valid: those of texts and bytes for their values, those of lists for the items.

list-fit : (body : List ℕ) (p : ArrayData) (kids : Roses ArrayData) (o : OffsetWidth) → p.layout ≡ Listed o
    → IsSound body (node p kids) → 0 < p.len
    → AreFit o (bytes_of body p.offsets) p.len (first_len kids)
list-fit body p kids o l sound some =
    let P : Layout → Type 0 = λ y. HasRoom y body p (first_len kids) in
    (subst P l sound.0.room) some

pub list-fit-of :
    (body offs : List ℕ) (p : ArrayData) (kids : Roses ArrayData) (o : OffsetWidth) → offs ≡ bytes_of body p.offsets
    → p.layout ≡ Listed o
    → IsSound body (node p kids) → 0 < p.len → AreFit o offs p.len (first_len kids)
list-fit-of body offs p kids o e l sound some =
    subst (λ ys. AreFit o ys p.len (first_len kids)) (sym e) (list-fit body p kids o l sound some)

-- the bytes that the offsets of a slot need, which rise
pub record StandsAt (o : OffsetWidth) (offs : List ℕ) (k : ℕ) : Type 0 where
  pub room : offset_bytes o * (k + 2) ≤ length offs
  pub rising : offset_at o offs k ≤ offset_at o offs (k + 1)

fit-stands : (o : OffsetWidth) (offs : List ℕ) (len limit k : ℕ) → AreFit o offs len limit → k < len → StandsAt o offs k
fit-stands o offs len limit k fit h =
    let below : k + 2 ≤ len + 1 = omega (arith, h) in
    let more = mul-le-mul_left (offset_bytes o) below in
    record { room = omega (arith, more, fit.room); rising = fit.rising k h }

pub stands-of :
    (body offs : List ℕ) (p : ArrayData) (kids : Roses ArrayData) (o : OffsetWidth) (k : ℕ)
    → offs ≡ bytes_of body p.offsets → HasOffsets p.layout o
    → IsSound body (node p kids) → k < p.len → StandsAt o offs k
stands-of body offs p kids o k e l sound h =
    let some : 0 < p.len = omega (arith, h) in
    elim l [
      | inl b ↦ fit-stands o offs p.len p.values.len k (fit-of body offs p kids o e b sound some) h
      | inr b ↦ fit-stands o offs p.len (first_len kids) k (list-fit-of body offs p kids o e b sound some) h
    ]

list-size : (m : Reading (List Datum)) (n : ℕ) → ((ds : List Datum) → m ≡ Ok ds → length ds ≡ n) → IsValid (list_of m)
    → length_in (cell_in (list_of m)) ≡ n
list-size (Ok ds) n size valid = length-listed ds ∙ size ds refl
list-size (Err fs) n size valid = absurd valid

-- the length of the text or of the list in slot k
pub text-length :
    (body bits offs : List ℕ) (p : ArrayData) (kids : Roses ArrayData) (o : OffsetWidth) (k n : ℕ)
    → bits ≡ bytes_of body p.validity
    → offs ≡ bytes_of body p.offsets → HasOffsets p.layout o → p.dictionary ≡ None
    → IsSound body (node p kids) → IsValid (cell body (node p kids) k) → k < p.len
    → n ≡ (if is_null bits k then 0 else offset_at o offs (k + 1) - offset_at o offs k)
    → n ≡ length_in (cell_in (cell body (node p kids) k))
text-length body bits offs p kids o k n b oe l w sound good h e = by (is_null bits k) refl e where
  bytes-long : HasBytes p.layout o → is_null (bytes_of body p.validity) k ≡ false
      → offset_at o offs (k + 1) - offset_at o offs k ≡ length_in (cell_in (cell body (node p kids) k))
  bytes-long lay is =
      let fit = fit-of body offs p kids o oe lay sound (omega (arith, h)) in
      let long = range-long body p.values sound.0.own.values in
      let range = length-range (bytes_of body p.values) (offset_at o offs k) (offset_at o offs (k + 1)) (fit.rising k
      h) (omega (arith, long, fit.within k h)) in
      sym range ∙ sym ((bytes-valid body offs (bytes_of body p.values) p kids o k oe refl lay w is good).size)

  list-long : p.layout ≡ Listed o → is_null (bytes_of body p.validity) k ≡ false
      → offset_at o offs (k + 1) - offset_at o offs k ≡ length_in (cell_in (cell body (node p kids) k))
  list-long lay is =
      let read = plain-cell body p kids (Listed o) k lay w is in
      let item : ℕ → Reading Datum = λ j. first_cell body kids j in
      let from : ℕ = offset_at o (bytes_of body p.offsets) k in
      let count : ℕ = offset_at o (bytes_of body p.offsets) (k + 1) - offset_at o (bytes_of body p.offsets) k in
      let size = list-size (items_at item o (bytes_of body p.offsets) k) count (λ ds is_it. each_length item from count
      ds is_it) (subst IsValid read good) in
      ap (λ ys. offset_at o ys (k + 1) - offset_at o ys k) oe ∙ sym size ∙ ap (λ r. length_in (cell_in r)) (sym read)

  by : (v : Bool) → is_null bits k ≡ v → n ≡ (if v then 0 else offset_at o offs (k + 1) - offset_at o offs k)
      → n ≡ length_in (cell_in (cell body (node p kids) k))
  by true is m = m ∙ sym (ap (λ r. length_in (cell_in r)) (null-cell body p kids k (ap (λ ys. is_null ys k) (sym b)
      ∙ is)))
  by false is m =
      let here = ap (λ ys. is_null ys k) (sym b) ∙ is in
      m ∙ elim l [ inl lay ↦ bytes-long lay here | inr lay ↦ list-long lay here ]

pub starts-step :
    (o : OffsetWidth) (cell : ℕ → Reading Datum) (i to end n : ℕ) (made next total rest : List ℕ) → i < to
    → n ≡ length_in (cell_in (cell i))
    → next ≡ made ++ little_bytes (offset_bytes o) end
    → made ++ offsets_from o end (map length_in (slots cell i (to - i)) ++ rest) ≡ total
    → next ++ offsets_from o (end + n) (map length_in (slots cell (i + 1) (to - (i + 1))) ++ rest) ≡ total
unfolding offsets_from
starts-step o cell i to end n made next total rest h e x is =
    let more = map length_in (slots cell (i + 1) (to - (i + 1))) ++ rest in
    ap (λ ys. ys ++ offsets_from o (end + n) more) x ∙ append_assoc made (little_bytes (offset_bytes o) end)
    (offsets_from o (end + n) more)
    ∙ ap (λ m. made ++ (little_bytes (offset_bytes o) end ++ offsets_from o (end + m) more)) e
    ∙ ap (λ cs. made ++ offsets_from o end (map length_in cs ++ rest)) (sym (slots-next cell i to h)) ∙ is

pub end-step :
    (cell : ℕ → Reading Datum) (i to end n total : ℕ) → i < to → n ≡ length_in (cell_in (cell i))
    → end + total_length (slots cell i (to - i)) ≡ total
    → (end + n) + total_length (slots cell (i + 1) (to - (i + 1))) ≡ total
end-step cell i to end n total h e is =
    let next = ap total_length (slots-next cell i to h) in
    omega (arith, next, e, is)

pub starts-over :
    (o : OffsetWidth) (cell : ℕ → Reading Datum) (i to end : ℕ) (made total rest : List ℕ) → to ≤ i
    → made ++ offsets_from o end (map length_in (slots cell i (to - i)) ++ rest) ≡ total
    → made ++ offsets_from o end rest ≡ total
starts-over o cell i to end made total rest h is =
    ap (λ cs. made ++ offsets_from o end (map length_in cs ++ rest)) (sym (slots-none cell i to h)) ∙ is

pub end-over : (cell : ℕ → Reading Datum) (i to end total : ℕ) → to ≤ i
    → end + total_length (slots cell i (to - i)) ≡ total → end ≡ total
end-over cell i to end total h is =
    let none = ap total_length (slots-none cell i to h) in
    omega (arith, none, is)
