-- What is known of slots that lie as a layout requires, and of their children.
use Rattle.std.proofs.Common.{
  ◌≡◌,
  ℕ,
  zero,
  suc,
  ◌<◌,
  List,
  [],
  ◌∷◌,
  length,
  get_or,
  None,
  All,
  ap,
  sym,
  subst,
  ◌∙◌,
  arith,
  inl,
  inr,
}
use Rattle.std.specs.Prelude.{true, false, is_some}
use Rattle.std.proofs.lemmas.List.Elements.{All-weaker}
use Rattle.values.specs.Rose.{Rose, node, Roses, kids_of}
use Rattle.values.specs.declared.layout.Layout.{Layout}
use Rattle.array_layout.specs.declared.array.ArrayData.{ArrayData}
use Rattle.body_writer.specs.declared.from_columns.segment.Segment.{Segment}
use Rattle.body_writer.specs.declared.from_columns.segment.Segment.TheVariants.{Slots, Nulls}
use Rattle.body_writer.specs.declared.from_columns.segment.SlotRange.{SlotRange}
use Rattle.body_writer.specs.Segments.{with_offsets, HasDictionary, IsAlike, Lies, AllLie, RangeLies, LiesAs, LiesBelow, IsChecked, IsEncoded, HasLayout, HasChild, OfSlots, ChildLies}

-- two arrays, both with a dictionary or both without

false-true : false ≡ true → ⊥
false-true e = cc

has-none : (p : ArrayData) → p.dictionary ≡ None → HasDictionary p → ⊥
has-none p is has = false-true (sym (ap is_some is) ∙ has)

both-encoded : (l : Layout) (kids : Roses Layout) (m p : ArrayData) (models arrays : Roses ArrayData) → HasDictionary m
    → Lies (node l kids) (node m models) (node p arrays) → HasDictionary p
both-encoded l kids m p models arrays has (inl both) = both.1
both-encoded l kids m p models arrays has (inr neither) = absurd (has-none m neither.0 has)

both-plain : (l : Layout) (kids : Roses Layout) (m p : ArrayData) (models arrays : Roses ArrayData)
    → is_some m.dictionary ≡ false → Lies (node l kids) (node m models) (node p arrays)
    → (p.dictionary ≡ None) × IsAlike l p.layout × AllLie kids models arrays
both-plain l kids m p models arrays bare (inl both) = absurd (false-true (sym bare ∙ both.0))
both-plain l kids m p models arrays bare (inr neither) = (neither.1, neither.2, neither.3)

range-encoded : (t : Rose Layout) (m : ArrayData) (models : Roses ArrayData) → HasDictionary m → (r : SlotRange)
    → RangeLies t (node m models) r → IsEncoded r
range-encoded (node l kids) m models has r lies = record {
  checked = lies.width.checked;
  encoded = both-encoded l kids m r.parts.own.now models (kids_of r.parts.children.now) has lies.lies;
}

segment-encoded : (t : Rose Layout) (m : ArrayData) (models : Roses ArrayData) → HasDictionary m → (p : Segment)
    → LiesAs t (node m models) p → OfSlots IsEncoded p
segment-encoded t m models has (Slots r) lies = range-encoded t m models has r lies
segment-encoded t m models has (Nulls n) lies = tt

pub all-encoded : (t : Rose Layout) (m : ArrayData) (models : Roses ArrayData) (ps : List Segment) → HasDictionary m
    → All (LiesAs t (node m models)) ps → All (OfSlots IsEncoded) ps
all-encoded t m models ps has all =
    All-weaker (LiesAs t (node m models)) (OfSlots IsEncoded) (segment-encoded t m models has) ps all

range-below : (l : Layout) (kids : Roses Layout) (m : ArrayData) (models : Roses ArrayData)
    → is_some m.dictionary ≡ false → (r : SlotRange)
    → RangeLies (node l kids) (node m models) r → LiesBelow l kids models r
range-below l kids m models bare r lies =
    let plain = both-plain l kids m r.parts.own.now models (kids_of r.parts.children.now) bare lies.lies in
    record {
      own = record {
        plain = record { checked = lies.width.checked; plain = plain.0 };
        layout = plain.1 ∙ ap (λ o. with_offsets o l) (sym lies.width.offsets);
      };
      below = plain.2;
    }

segment-below : (l : Layout) (kids : Roses Layout) (m : ArrayData) (models : Roses ArrayData)
    → is_some m.dictionary ≡ false → (p : Segment)
    → LiesAs (node l kids) (node m models) p → OfSlots (LiesBelow l kids models) p
segment-below l kids m models bare (Slots r) lies = range-below l kids m models bare r lies
segment-below l kids m models bare (Nulls n) lies = tt

pub all-below : (l : Layout) (kids : Roses Layout) (m : ArrayData) (models : Roses ArrayData) (ps : List Segment)
    → is_some m.dictionary ≡ false → All (LiesAs (node l kids) (node m models)) ps
    → All (OfSlots (LiesBelow l kids models)) ps
all-below l kids m models ps bare all =
    All-weaker (LiesAs (node l kids) (node m models)) (OfSlots (LiesBelow l kids models))
    (segment-below l kids m models bare) ps all

of-slots : (P Q : SlotRange → Type 0) → ((r : SlotRange) → P r → Q r) → (p : Segment) → OfSlots P p → OfSlots Q p
of-slots P Q f (Slots r) h = f r h
of-slots P Q f (Nulls n) h = tt

all-slots : (P Q : SlotRange → Type 0) → ((r : SlotRange) → P r → Q r) → (ps : List Segment) → All (OfSlots P) ps
    → All (OfSlots Q) ps
all-slots P Q f ps all = All-weaker (OfSlots P) (OfSlots Q) (of-slots P Q f) ps all

pub own-layouts : (l : Layout) (kids : Roses Layout) (models : Roses ArrayData) (ps : List Segment)
    → All (OfSlots (LiesBelow l kids models)) ps → All (OfSlots (HasLayout l)) ps
own-layouts l kids models ps all = all-slots (LiesBelow l kids models) (HasLayout l) (λ r h. h.own) ps all

pub encoded-checked : (ps : List Segment) → All (OfSlots IsEncoded) ps → All (OfSlots IsChecked) ps
encoded-checked ps all = all-slots IsEncoded IsChecked (λ r h. h.checked) ps all

-- children

pub models-many : (ts : List (Rose Layout)) (models arrays : List (Rose ArrayData)) (j : ℕ)
    → AllLie (kids_of ts) (kids_of models) (kids_of arrays) → j < length ts → (j < length models) × (j < length arrays)
models-many [] models arrays j all h = absurd (omega (arith, h))
models-many (t ∷ ts) [] arrays j all h = absurd all
models-many (t ∷ ts) (m ∷ models) [] j all h = absurd all
models-many (t ∷ ts) (m ∷ models) (a ∷ arrays) zero all h = (omega arith, omega arith)
models-many (t ∷ ts) (m ∷ models) (a ∷ arrays) (suc j) all h =
    let rest = models-many ts models arrays j all.1 (omega (arith, h)) in (omega (arith, rest.0), omega (arith, rest.1))

pub child-lies : (ts : List (Rose Layout)) (models arrays : List (Rose ArrayData)) (j : ℕ) (t : Rose Layout)
    (m a : Rose ArrayData) → AllLie (kids_of ts) (kids_of models) (kids_of arrays) → j < length ts
    → t ≡ get_or ts j t → m ≡ get_or models j m → a ≡ get_or arrays j a → Lies t m a
child-lies [] models arrays j t m a all h is like at = absurd (omega (arith, h))
child-lies (u ∷ ts) [] arrays j t m a all h is like at = absurd all
child-lies (u ∷ ts) (n ∷ models) [] j t m a all h is like at = absurd all
child-lies (u ∷ ts) (n ∷ models) (b ∷ arrays) zero t m a all h is like at =
    subst (λ x. Lies x m a) (sym is) (subst (λ x. Lies u x a) (sym like) (subst (Lies u n) (sym at) all.0))
child-lies (u ∷ ts) (n ∷ models) (b ∷ arrays) (suc j) t m a all h is like at =
    child-lies ts models arrays j t m a all.1 (omega (arith, h)) is like at

has-child : (l : Layout) (ts : List (Rose Layout)) (models : List (Rose ArrayData)) (j : ℕ) → j < length ts
    → (r : SlotRange) → LiesBelow l (kids_of ts) (kids_of models) r → HasChild l j r
has-child l ts models j h r lies = record {
  own = lies.own;
  below = (models-many ts models r.parts.children.now j lies.below h).1;
}

pub have-child : (l : Layout) (ts : List (Rose Layout)) (models : List (Rose ArrayData)) (j : ℕ) (ps : List Segment)
    → j < length ts → All (OfSlots (LiesBelow l (kids_of ts) (kids_of models))) ps → All (OfSlots (HasChild l j)) ps
have-child l ts models j ps h all =
    all-slots (LiesBelow l (kids_of ts) (kids_of models)) (HasChild l j) (has-child l ts models j h) ps all

pub lie-below : (l : Layout) (ts : List (Rose Layout)) (models : List (Rose ArrayData)) (j : ℕ) (t : Rose Layout)
    (m : Rose ArrayData) (ps : List Segment) → j < length ts → t ≡ get_or ts j t → m ≡ get_or models j m
    → All (OfSlots (LiesBelow l (kids_of ts) (kids_of models))) ps → All (OfSlots (ChildLies t m j)) ps
lie-below l ts models j t m ps h is like all =
    all-slots (LiesBelow l (kids_of ts) (kids_of models)) (ChildLies t m j)
    (λ r lies a at. child-lies ts models r.parts.children.now j t m a lies.below h is like at) ps all
