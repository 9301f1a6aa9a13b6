-- What runs of lists and of structs give to their children.
use Rattle.std.proofs.Common.{
  ◌≡◌,
  ℕ,
  zero,
  suc,
  ◌+◌,
  ◌-◌,
  ◌<◌,
  ◌≤◌,
  List,
  [],
  ◌∷◌,
  ◌++◌,
  length,
  get_or,
  false,
  true,
  Ok,
  Err,
  None,
  refl,
  ap,
  sym,
  subst,
  ◌∙◌,
  arith,
  inl,
  inr,
  append_assoc,
  append-nil,
  drop,
}
use Rattle.std.specs.Prelude.{map, replicate}
use Rattle.std.proofs.lemmas.Bool.{cases_lt}
use Rattle.std.specs.List.{flat_map}
use Rattle.values.specs.Datum.{Datum, null}
use Rattle.values.specs.Reading.{Reading, IsValid, each, cons}
use Rattle.values.proofs.Readings.{both_Ok, valid_each}
use Rattle.values.specs.Rose.{Rose, Roses, node, kids_of}
use Rattle.values.proofs.Roses.{kid_within}
use Rattle.values.specs.Layouts.{IsNode}
use Rattle.values.specs.declared.layout.OffsetWidth.{OffsetWidth}
use Rattle.values.specs.declared.layout.Layout.{Layout}
use Rattle.values.specs.declared.layout.Layout.TheVariants.{
  Bool as Booleans,
  Int,
  Decimal,
  FixedSizeBinary,
  Utf8,
  Binary,
  List as Listed,
  Struct,
}
use Rattle.array_layout.specs.declared.array.ArrayData.{ArrayData}
use Rattle.array_layout.specs.Placing.{bytes_of, layouts_of}
use Rattle.array_layout.specs.Buffers.{is_null, offset_at}
use Rattle.array_layout.specs.Sound.{IsSound, AreSound, AreLong}
use Rattle.array_layout.specs.Cells.{cell, first_cell, row, list_of, structure_of, items_at, len_of}
use Rattle.arrays.proofs.ValidationLemmas.{at_least, and_rest}
use Rattle.body_writer.specs.Slots.{items_in, part}
use Rattle.body_writer.proofs.Cells.{listed-items_of}
use Rattle.body_writer.specs.Runs.{cell_in, slots, AreAlike}
use Rattle.body_writer.specs.declared.from_columns.segment.SlotRange.{SlotRange}
use Rattle.body_writer.specs.Segments.{HasChild, segment_cells, segments_cells, with_offsets}
use Rattle.body_writer.proofs.RunLemmas.{slots-split, null-cell, rises-far, flat-append}
use Rattle.body_writer.proofs.SegmentLemmas.{segments-split, segments-none}
use Rattle.std.proofs.lemmas.List.{map-append}
use Rattle.body_writer.specs.Columns.{items, child_cells}
use Rattle.body_writer.specs.declared.from_columns.segment.Segment.{Segment}
use Rattle.body_writer.proofs.SlotLemmas.{AllValid, plain-cell}
use Rattle.body_writer.proofs.ByteLemmas.{list-fit-of}
use Rattle.body_writer.proofs.NullLemmas.{nulls-map}

-- a child of an array

pub child-sound : (b : List ℕ) (ts : List (Rose ArrayData)) (j : ℕ) (e : Rose ArrayData) → e ≡ get_or ts j e
    → j < length ts
    → AreSound b (kids_of ts) → IsSound b e
child-sound b ts j e is below sound = kid_within (IsSound b) (AreSound b) (λ t rest h. h.0) (λ t rest h. h.1) ts j e e
    is below sound

pub child-long : (ts : List (Rose ArrayData)) (j n : ℕ) (e : Rose ArrayData) → e ≡ get_or ts j e → j < length ts
    → AreLong Struct n (kids_of ts) → n ≤ len_of e
child-long ts j n e is below long =
    kid_within (λ t. n ≤ len_of t) (AreLong Struct n) (at_least n) (and_rest n) ts j e e is below long

pub first-child : (b : List ℕ) (ts : List (Rose ArrayData)) (e : Rose ArrayData) (i : ℕ) → e ≡ get_or ts 0 e
    → 0 < length ts
    → first_cell b (kids_of ts) i ≡ cell b e i
first-child b [] e i is some = absurd (omega (arith, some))
first-child b (t ∷ ts) e i is some = ap (λ u. cell b u i) (sym is)

-- a list has one child
pub one-child : (ts : List (Rose ArrayData)) (o : OffsetWidth) (j : ℕ) → IsNode (Listed o) (layouts_of (kids_of ts))
    → j < length ts → 0 ≡ j
one-child [] o j is h = absurd (omega (arith, h))
one-child (t ∷ []) o zero is h = refl
one-child (t ∷ []) o (suc j) is h = absurd (omega (arith, h))
one-child (t ∷ (u ∷ ts)) o j is h = absurd is

-- the items of lists

pub each-slots : (f : ℕ → Reading Datum) (i n : ℕ) (ds : List Datum) → each f i n ≡ Ok ds → slots f i n ≡ ds
unfolding each slots
each-slots f i zero ds e = cc
each-slots f i (suc n) ds e =
    let p = both_Ok cons (f i) (each f (i + 1) n) ds e in
    let rest = each-slots f (i + 1) n p.1 p.3 in
    ap (λ x. x ∷ slots f (i + 1) n) (ap cell_in p.2) ∙ ap (λ xs. p.0 ∷ xs) rest ∙ p.4

same-slots : (f g : ℕ → Reading Datum) (i n : ℕ) → ((k : ℕ) → f k ≡ g k) → slots f i n ≡ slots g i n
unfolding slots
same-slots f g i zero same = refl
same-slots f g i (suc n) same = ap (λ x. cell_in x ∷ slots f (i + 1) n) (same i)
    ∙ ap (λ xs. cell_in (g i) ∷ xs) (same-slots f g (i + 1) n same)

-- what a list slot gives
pub record GivesItems (f : ℕ → Reading Datum) (d : Reading Datum) (i n : ℕ) : Type 0 where
  pub cells : items_in (cell_in d) ≡ slots f i n
  pub valid : (k : ℕ) → k < n → IsValid (f (i + k))

gives-items : (f : ℕ → Reading Datum) (i n : ℕ) (m : Reading (List Datum)) → m ≡ each f i n → IsValid (list_of m)
    → GivesItems f (list_of m) i n
gives-items f i n (Ok ds) is valid = record {
  cells = listed-items_of ds ∙ sym (each-slots f i n ds (sym is));
  valid = λ k h. valid_each f i n (subst IsValid is tt) k h;
}
gives-items f i n (Err fs) is valid = absurd valid

pub list-gives :
    (b : List ℕ) (p : ArrayData) (ts : List (Rose ArrayData)) (e : Rose ArrayData) (o : OffsetWidth) (k : ℕ)
    → p.layout ≡ Listed o → p.dictionary ≡ None
    → e ≡ get_or ts 0 e → 0 < length ts → is_null (bytes_of b p.validity) k ≡ false
    → IsValid (cell b (node p (kids_of ts)) k)
    → GivesItems (cell b e) (cell b (node p (kids_of ts)) k) (offset_at o (bytes_of b p.offsets) k)
    (offset_at o (bytes_of b p.offsets) (k + 1) - offset_at o (bytes_of b p.offsets) k)
list-gives b p ts e o k l n is some there good =
    let f : ℕ → Reading Datum = λ j. first_cell b (kids_of ts) j in
    let from : ℕ = offset_at o (bytes_of b p.offsets) k in
    let count : ℕ = offset_at o (bytes_of b p.offsets) (k + 1) - offset_at o (bytes_of b p.offsets) k in
    let read = plain-cell b p (kids_of ts) (Listed o) k l n there in
    let here = gives-items f from count (items_at f o (bytes_of b p.offsets) k) refl (subst IsValid read good) in
    record {
      cells = ap (λ r. items_in (cell_in r)) read ∙ here.cells
          ∙ same-slots f (cell b e) from count (λ j. first-child b ts e j is some);
      valid = λ j h. subst IsValid (first-child b ts e (from + j) is some) (here.valid j h);
    }

-- Slots whose items lie between offsets that rise: the items of a run lie between the first offset and the last.
pub items-run :
    (read item : ℕ → Reading Datum) (at : ℕ → ℕ) (i n : ℕ) → ((k : ℕ) → i ≤ k → k < i + n
    → GivesItems item (read k) (at k) (at (k + 1) - at k))
    → ((k : ℕ) → i ≤ k → k < i + n → at k ≤ at (k + 1))
    → flat_map items_in (slots read i n) ≡ slots item (at i) (at (i + n) - at i)
unfolding slots
items-run read item at i zero gives rising =
    let here : i + 0 ≡ i = omega arith in
    let none_there : at (i + 0) - at i ≡ 0 = omega (arith, ap at here) in
    ap (slots item (at i)) (sym none_there)
items-run read item at i (suc n) gives rising =
    let here = gives i (omega arith) (omega arith) in
    let up = rising i (omega arith) (omega arith) in
    let far = rises-far at (i + 1) n (λ k a b. rising k (omega (arith, a)) (omega (arith, b))) in
    let rest = items-run read item at (i + 1) n (λ k a b. gives k (omega (arith, a)) (omega (arith, b))) (λ k a b.
    rising k (omega (arith, a)) (omega (arith, b))) in
    let e : i + 1 + n ≡ i + suc n = omega arith in
    let past : at i + (at (i + 1) - at i) ≡ at (i + 1) = omega (arith, up) in
    let sum : (at (i + 1) - at i) + (at (i + 1 + n) - at (i + 1)) ≡ at (i + 1 + n) - at i = omega (arith, up, far) in
    ap (λ xs. xs ++ flat_map items_in (slots read (i + 1) n)) here.cells
    ∙ ap (λ xs. slots item (at i) (at (i + 1) - at i) ++ xs) rest
    ∙ ap (λ k. slots item (at i) (at (i + 1) - at i) ++ slots item k (at (i + 1 + n) - at (i + 1))) (sym past)
    ∙ sym (slots-split item (at i) (at (i + 1) - at i) (at (i + 1 + n) - at (i + 1)))
    ∙ ap (slots item (at i)) sum ∙ ap (λ k. slots item (at i) (at k - at i)) e

pub items-good :
    (read item : ℕ → Reading Datum) (at : ℕ → ℕ) (i n : ℕ) → ((k : ℕ) → i ≤ k → k < i + n
    → GivesItems item (read k) (at k) (at (k + 1) - at k))
    → ((k : ℕ) → i ≤ k → k < i + n → at k ≤ at (k + 1)) → (q : ℕ) → at i ≤ q → q < at (i + n) → IsValid (item q)
items-good read item at i zero gives rising q lo hi =
    let e : i + 0 ≡ i = omega arith in
    absurd (past (at i) (ap at e) lo hi)
  where
    past : (x : ℕ) → at (i + 0) ≡ x → x ≤ q → q < at (i + 0) → ⊥
    past x e lo hi = omega (arith, e, lo, hi)
items-good read item at i (suc n) gives rising q lo hi =
    let e : i + suc n ≡ i + 1 + n = omega arith in
    let within : q < at (i + 1 + n) = subst (λ k. q < at k) e hi in
    elim (cases_lt q (at (i + 1))) [
      | inl h ↦
          let d : at i + (q - at i) ≡ q = omega (arith, lo) in
          subst (λ k. IsValid (item k)) d ((gives i (omega arith) (omega arith)).valid (q - at i) (omega (
            arith,
            lo,
            h,
          )))
      | inr h ↦ items-good read item at (i + 1) n (λ k a b. gives k (omega (arith, a)) (omega (arith, b)))
          (λ k a b. rising k (omega (arith, a)) (omega (arith, b))) q h within
    ]

-- A run of lists, none of which is null.

abbrev AreSet : List ℕ → ArrayData → ℕ → ℕ → Type 0
AreSet b p at end = (k : ℕ) → at ≤ k → k < end → is_null (bytes_of b p.validity) k ≡ false

pub record IsListRun (b : List ℕ) (p : ArrayData) (ts : List (Rose ArrayData)) (e : Rose ArrayData) (o : OffsetWidth)
    (at end x y : ℕ) : Type 0 where
  pub layout : p.layout ≡ Listed o
  pub plain : p.dictionary ≡ None
  pub child : e ≡ get_or ts 0 e
  pub some : 0 < length ts
  pub order : at < end
  pub within : end ≤ p.len
  pub sound : IsSound b (node p (kids_of ts))
  pub set : AreSet b p at end
  pub good : AllValid b p (kids_of ts) at end
  pub start : x ≡ offset_at o (bytes_of b p.offsets) at
  pub stop : y ≡ offset_at o (bytes_of b p.offsets) end

pub list-run :
    (r : SlotRange) (e : Rose ArrayData) (at end x y : ℕ) (offs : List ℕ) → HasChild (Listed r.offsets) 0 r
    → r.from ≤ at → at < end → end ≤ r.to
    → AreSet r.parts.body.now r.parts.own.now at end → e ≡ get_or r.parts.children.now 0 e
    → offs ≡ bytes_of r.parts.body.now r.parts.own.now.offsets
    → x ≡ offset_at r.offsets offs at → y ≡ offset_at r.offsets offs end
    → IsListRun r.parts.body.now r.parts.own.now r.parts.children.now e r.offsets at end x y
list-run r e at end x y offs lists start order within set is same from to =
    let checked = lists.own.plain.checked in
    record {
      layout = lists.own.layout;
      plain = lists.own.plain.plain;
      child = is;
      some = lists.below;
      order = order;
      within = omega (arith, within, checked.within);
      sound = checked.sound;
      set = set;
      good = λ i l h. checked.valid i (omega (arith, start, l)) (omega (arith, h, within));
      start = from ∙ ap (λ ys. offset_at r.offsets ys at) same;
      stop = to ∙ ap (λ ys. offset_at r.offsets ys end) same;
    }

run-gives :
    (b : List ℕ) (p : ArrayData) (ts : List (Rose ArrayData)) (e : Rose ArrayData) (o : OffsetWidth) (at end x y : ℕ) →
    IsListRun b p ts e o at end x y
    → (k : ℕ) → at ≤ k → k < at + (end - at)
    → GivesItems (cell b e) (cell b (node p (kids_of ts)) k) (offset_at o (bytes_of b p.offsets) k)
    (offset_at o (bytes_of b p.offsets) (k + 1) - offset_at o (bytes_of b p.offsets) k)
run-gives b p ts e o at end x y run k lo hi =
    let order = run.order in
    let below : k < end = omega (arith, hi, order) in
    list-gives b p ts e o k run.layout run.plain run.child run.some (run.set k lo below) (run.good k lo below)

run-rises :
    (b : List ℕ) (p : ArrayData) (ts : List (Rose ArrayData)) (e : Rose ArrayData) (o : OffsetWidth) (at end x y : ℕ) →
    IsListRun b p ts e o at end x y
    → (k : ℕ) → at ≤ k → k < at + (end - at) → offset_at o (bytes_of b p.offsets) k ≤ offset_at o (bytes_of b
    p.offsets) (k + 1)
run-rises b p ts e o at end x y run k lo hi =
    let order = run.order in
    let within = run.within in
    (list-fit-of b (bytes_of b p.offsets) p (kids_of ts) o refl run.layout run.sound (omega (
      arith,
      order,
      within,
    ))).rising k
    (omega (arith, hi, order, within))

pub run-order :
    (b : List ℕ) (p : ArrayData) (ts : List (Rose ArrayData)) (e : Rose ArrayData) (o : OffsetWidth) (at end x y : ℕ) →
    IsListRun b p ts e o at end x y
    → x ≤ y
run-order b p ts e o at end x y run =
    let order = run.order in
    let past : at + (end - at) ≡ end = omega (arith, order) in
    let up = rises-far (λ k. offset_at o (bytes_of b p.offsets) k) at (end - at) (run-rises b p ts e o at end x y run)
    in
    let far : offset_at o (bytes_of b p.offsets) at ≤ offset_at o (bytes_of b p.offsets) end =
    subst (λ k. offset_at o (bytes_of b p.offsets) at ≤ offset_at o (bytes_of b p.offsets) k) past up in
    omega (arith, far, run.start, run.stop)

pub run-valid :
    (b : List ℕ) (p : ArrayData) (ts : List (Rose ArrayData)) (e : Rose ArrayData) (o : OffsetWidth) (at end x y : ℕ) →
    IsListRun b p ts e o at end x y
    → (k : ℕ) → x ≤ k → k < y → IsValid (cell b e k)
run-valid b p ts e o at end x y run k lo hi =
    let order = run.order in
    let past : end ≡ at + (end - at) = omega (arith, order) in
    let off : ℕ → ℕ = λ i. offset_at o (bytes_of b p.offsets) i in
    let stop : y ≡ off (at + (end - at)) = run.stop ∙ ap off past in
    items-good (cell b (node p (kids_of ts))) (cell b e) (λ i. offset_at o (bytes_of b p.offsets) i) at (end - at)
    (run-gives b p ts e o at end x y run) (run-rises b p ts e o at end x y run) k (subst (λ i. i ≤ k) run.start lo)
    (subst (λ i. k < i) stop hi)

pub run-cells :
    (b : List ℕ) (p : ArrayData) (ts : List (Rose ArrayData)) (e : Rose ArrayData) (o : OffsetWidth) (at end x y : ℕ) →
    IsListRun b p ts e o at end x y
    → slots (cell b e) x (y - x) ≡ flat_map items_in (slots (cell b (node p (kids_of ts))) at (end - at))
run-cells b p ts e o at end x y run =
    let order = run.order in
    let past : at + (end - at) ≡ end = omega (arith, order) in
    let off : ℕ → ℕ = λ i. offset_at o (bytes_of b p.offsets) i in
    let all = items-run (cell b (node p (kids_of ts))) (cell b e) (λ i. offset_at o (bytes_of b p.offsets) i) at (end -
    at)
    (run-gives b p ts e o at end x y run) (run-rises b p ts e o at end x y run) in
    ap (λ i. slots (cell b e) i (y - i)) run.start ∙ ap (λ i. slots (cell b e) (off at) (i - off at)) run.stop
    ∙ ap (λ i. slots (cell b e) (off at) (off i - off at)) (sym past) ∙ sym all

-- the children of structs

row-part :
    (b : List ℕ) (ts : List (Rose ArrayData)) (j i : ℕ) (e : Rose ArrayData) (ds : List Datum) → e ≡ get_or ts j e
    → j < length ts
    → row b (kids_of ts) i ≡ Ok ds → cell b e i ≡ Ok (get_or ds j null)
row-part b [] j i e ds is below read = absurd (omega (arith, below))
row-part b (t ∷ ts) zero i e ds is below read =
    let p = both_Ok cons (cell b t i) (row b (kids_of ts) i) ds read in
    ap (λ u. cell b u i) is ∙ p.2 ∙ ap (λ (xs : List Datum). Ok (get_or xs 0 null)) p.4
row-part b (t ∷ ts) (suc j) i e ds is below read =
    let p = both_Ok cons (cell b t i) (row b (kids_of ts) i) ds read in
    row-part b ts j i e p.1 is (omega (arith, below)) p.3 ∙ ap (λ (xs : List Datum). Ok (get_or xs (suc j) null)) p.4

-- what a struct slot gives to child j
pub record GivesPart (j : ℕ) (c d : Reading Datum) : Type 0 where
  pub cell : part j (cell_in d) ≡ cell_in c
  pub valid : IsValid c

gives-part : (b : List ℕ) (ts : List (Rose ArrayData)) (j i : ℕ) (e : Rose ArrayData) (m : Reading (List Datum))
    → e ≡ get_or ts j e → j < length ts
    → m ≡ row b (kids_of ts) i → IsValid (structure_of m) → GivesPart j (cell b e i) (structure_of m)
gives-part b ts j i e (Ok ds) is below same valid =
    let read = row-part b ts j i e ds is below (sym same) in
    record {
      cell = ap (λ xs. get_or xs j null) (listed-items_of ds) ∙ sym (ap cell_in read);
      valid = subst IsValid (sym read) tt;
    }
gives-part b ts j i e (Err fs) is below same valid = absurd valid

pub struct-gives :
    (b : List ℕ) (p : ArrayData) (ts : List (Rose ArrayData)) (e : Rose ArrayData) (j k : ℕ) → p.layout ≡ Struct
    → p.dictionary ≡ None
    → e ≡ get_or ts j e → j < length ts → is_null (bytes_of b p.validity) k ≡ false
    → IsValid (cell b (node p (kids_of ts)) k)
    → GivesPart j (cell b e k) (cell b (node p (kids_of ts)) k)
struct-gives b p ts e j k l n is below there good =
    let read = plain-cell b p (kids_of ts) Struct k l n there in
    let P : Reading Datum → Type 0 = λ d. GivesPart j (cell b e k) d in
    subst P (sym read) (gives-part b ts j k e (row b (kids_of ts) k) is below refl (subst IsValid read good))

pub parts-run :
    (j : ℕ) (read child : ℕ → Reading Datum) (i n : ℕ) → ((k : ℕ) → i ≤ k → k < i + n → GivesPart j (child k) (read k))
    → map (part j) (slots read i n) ≡ slots child i n
unfolding slots
parts-run j read child i zero gives = refl
parts-run j read child i (suc n) gives =
    ap (λ x. x ∷ map (part j) (slots read (i + 1) n)) (gives i (omega arith) (omega arith)).cell
    ∙ ap (λ xs. cell_in (child i) ∷ xs) (parts-run j read child (i + 1) n (λ k a b. gives k (omega (arith, a)) (omega
    (arith, b))))

-- child j in a run of structs, none of which is null
pub record IsPartRun (r : SlotRange) (j : ℕ) (e : Rose ArrayData) (at end : ℕ) : Type 0 where
  pub sound : IsSound r.parts.body.now e
  pub valid : (k : ℕ) → at ≤ k → k < end → IsValid (cell r.parts.body.now e k)
  pub within : end ≤ len_of e
  pub cells : slots (cell r.parts.body.now e) at (end - at)
      ≡ map (part j) (slots (cell r.parts.body.now (node r.parts.own.now (kids_of r.parts.children.now))) at (end - at))

long-struct : (l : Layout) (n : ℕ) (kids : Roses ArrayData) → l ≡ Struct → AreLong l n kids → AreLong Struct n kids
long-struct l n kids is long = subst (λ y. AreLong y n kids) is long

pub part-run :
    (r : SlotRange) (j : ℕ) (e : Rose ArrayData) (at end : ℕ) (bits : List ℕ) → HasChild Struct j r → r.from ≤ at
    → at < end → end ≤ r.to
    → bits ≡ bytes_of r.parts.body.now r.parts.own.now.validity → is_null bits at ≡ false
    → AreAlike (bytes_of r.parts.body.now r.parts.own.now.validity) at end → e ≡ get_or r.parts.children.now j e
    → IsPartRun r j e at end
part-run r j e at end bits structs start order within same set alike is =
    let b = r.parts.body.now in
    let p = r.parts.own.now in
    let ts = r.parts.children.now in
    let checked = structs.own.plain.checked in
    let first : is_null (bytes_of r.parts.body.now r.parts.own.now.validity) at ≡ false = ap (λ ys. is_null ys at) (sym
    same) ∙ set in
    let gives : (k : ℕ) → at ≤ k → k < end → GivesPart j (cell r.parts.body.now e k) (cell r.parts.body.now (node
    r.parts.own.now (kids_of r.parts.children.now)) k) =
    λ k lo hi. struct-gives b p ts e j k structs.own.layout structs.own.plain.plain is structs.below (alike k lo hi
    ∙ first)
    (checked.valid k (omega (arith, start, lo)) (omega (arith, hi, within))) in
    let long = child-long ts j p.len e is structs.below (long-struct p.layout p.len (kids_of ts) structs.own.layout
    checked.sound.1) in
    record {
      sound = child-sound b ts j e is structs.below checked.sound.2;
      valid = λ k lo hi. (gives k lo hi).valid;
      within = omega (arith, within, long, checked.within);
      cells = sym (parts-run j (cell b (node p (kids_of ts))) (cell b e) at (end - at) (λ k lo hi. gives k lo (omega
          (arith, hi, order))));
    }

-- a run of nulls
null-slots : (read : ℕ → Reading Datum) (i n : ℕ) → ((k : ℕ) → i ≤ k → k < i + n → read k ≡ Ok null)
    → slots read i n ≡ replicate n null
unfolding slots
null-slots read i zero all = refl
null-slots read i (suc n) all =
    ap (λ x. cell_in x ∷ slots read (i + 1) n) (all i (omega arith) (omega arith))
    ∙ ap (λ xs. null ∷ xs) (null-slots read (i + 1) n (λ k a b. all k (omega (arith, a)) (omega (arith, b))))

pub null-run :
    (b : List ℕ) (p : ArrayData) (kids : Roses ArrayData) (at end : ℕ) → at ≤ end
    → is_null (bytes_of b p.validity) at ≡ true
    → AreAlike (bytes_of b p.validity) at end → slots (cell b (node p kids)) at (end - at) ≡ replicate (end - at) null
null-run b p kids at end up is alike =
    null-slots (cell b (node p kids)) at (end - at) (λ k lo hi. null-cell b p kids k (alike k lo (omega (
      arith,
      hi,
      up,
    )) ∙ is))

pub null-parts :
    (j : ℕ) (b : List ℕ) (p : ArrayData) (kids : Roses ArrayData) (at end : ℕ) → at ≤ end
    → is_null (bytes_of b p.validity) at ≡ true
    → AreAlike (bytes_of b p.validity) at end → replicate (end - at) null ≡ map (part j) (slots (cell b (node p kids))
    at (end - at))
null-parts j b p kids at end up is alike =
    sym (ap (map (part j)) (null-run b p kids at end up is alike) ∙ nulls-map (part j) (end - at))

items-null : (n : ℕ) → flat_map items_in (replicate n null) ≡ []
items-null zero = refl
items-null (suc n) = items-null n

pub null-items :
    (b : List ℕ) (p : ArrayData) (kids : Roses ArrayData) (at end : ℕ) → at ≤ end
    → is_null (bytes_of b p.validity) at ≡ true
    → AreAlike (bytes_of b p.validity) at end → [] ≡ flat_map items_in (slots (cell b (node p kids)) at (end - at))
null-items b p kids at end up is alike = sym (ap (flat_map items_in) (null-run b p kids at end up is alike)
    ∙ items-null (end - at))

-- run after run, one thing for each cell
pub map-run-step :
    {A : Type 0} (f : Datum → A) (read : ℕ → Reading Datum) (at end to : ℕ) (made next chunk total : List A)
    → at ≤ end → end ≤ to
    → chunk ≡ map f (slots read at (end - at)) → next ≡ made ++ chunk → made ++ map f (slots read at (to - at)) ≡ total
    → next ++ map f (slots read end (to - end)) ≡ total
map-run-step f read at end to made next chunk total up inside e n is =
    let more : to - at ≡ (end - at) + (to - end) = omega (arith, up, inside) in
    let past : at + (end - at) ≡ end = omega (arith, up) in
    let rest = map f (slots read end (to - end)) in
    let split : slots read at (to - at) ≡ slots read at (end - at) ++ slots read end (to - end) =
    ap (slots read at) more ∙ slots-split read at (end - at) (to - end)
    ∙ ap (λ i. slots read at (end - at) ++ slots read i (to - end)) past in
    ap (λ xs. xs ++ rest) n ∙ append_assoc made chunk rest ∙ ap (λ xs. made ++ (xs ++ rest)) e
    ∙ ap (λ xs. made ++ xs) (sym (ap (map f) split ∙ map-append f (slots read at (end - at)) (slots read end (to -
    end)))) ∙ is

-- what two columns give to a child, one after the other
pub child-append : (l : Layout) (j : ℕ) (xs ys : List Datum)
    → child_cells l j (xs ++ ys) ≡ child_cells l j xs ++ child_cells l j ys
unfolding items
child-append Booleans j xs ys = refl
child-append (Int w s) j xs ys = refl
child-append (Decimal p) j xs ys = refl
child-append (FixedSizeBinary w) j xs ys = refl
child-append (Utf8 o) j xs ys = refl
child-append (Binary o) j xs ys = refl
child-append (Listed o) j xs ys = flat-append items_in xs ys
child-append Struct j xs ys = map-append (part j) xs ys

child-none : (l : Layout) (j : ℕ) → child_cells l j [] ≡ []
unfolding items
child-none Booleans j = refl
child-none (Int w s) j = refl
child-none (Decimal p) j = refl
child-none (FixedSizeBinary w) j = refl
child-none (Utf8 o) j = refl
child-none (Binary o) j = refl
child-none (Listed o) j = refl
child-none Struct j = refl

pub child-step :
    (l : Layout) (j : ℕ) (ps : List Segment) (i : ℕ) (p : Segment) (made next total : List Datum) → i < length ps
    → p ≡ get_or ps i p
    → next ≡ made ++ child_cells l j (segment_cells p) → made ++ child_cells l j (segments_cells (drop i ps)) ≡ total
    → next ++ child_cells l j (segments_cells (drop (i + 1) ps)) ≡ total
child-step l j ps i p made next total h e n is =
    let rest = segments_cells (drop (i + 1) ps) in
    ap (λ xs. xs ++ child_cells l j rest) n ∙ append_assoc made (child_cells l j (segment_cells p)) (child_cells l j rest)
    ∙ ap (λ xs. made ++ xs) (sym (child-append l j (segment_cells p) rest))
    ∙ ap (λ cs. made ++ child_cells l j cs) (sym (segments-split ps i p h e)) ∙ is

pub child-over : (l : Layout) (j : ℕ) (ps : List Segment) (i : ℕ) (made total : List Datum) → length ps ≤ i
    → made ++ child_cells l j (segments_cells (drop i ps)) ≡ total → made ≡ total
child-over l j ps i made total h is =
    sym (append-nil made) ∙ ap (λ xs. made ++ xs) (sym (child-none l j))
    ∙ ap (λ cs. made ++ child_cells l j cs) (sym (segments-none ps i h)) ∙ is

-- a list's child is its first
pub first-only : (l : Layout) (o : OffsetWidth) (j : ℕ) (r : SlotRange) → HasChild l j r → l ≡ Listed o → 0 ≡ j
first-only l o j r has is =
    let lists : r.parts.own.now.layout ≡ Listed r.offsets = has.own.layout ∙ ap (with_offsets r.offsets) is in
    let P : Layout → Type 0 = λ y. IsNode y (layouts_of (kids_of r.parts.children.now)) in
    one-child r.parts.children.now r.offsets j (subst P lists has.own.plain.checked.sound.0.own.kids_fit) has.below
