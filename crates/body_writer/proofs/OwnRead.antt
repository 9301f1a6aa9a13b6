-- The own buffers of an array are read back, by layout.
use Rattle.std.proofs.Common.{
  ◌≡◌,
  ℕ,
  suc,
  ◌+◌,
  ◌-◌,
  ◌^◌,
  ◌<◌,
  ◌≤◌,
  List,
  [],
  ◌∷◌,
  length,
  drop,
  get_or,
  true,
  false,
  Bool,
  Ok,
  All,
  refl,
  ap,
  sym,
  subst,
  ◌∙◌,
  arith,
  length-drop,
}
use Rattle.std.specs.Prelude.{ℤ, not, if◌then◌else◌, nat_abs}
use Rattle.std.proofs.lemmas.Bool.{lt-ltb}
use Rattle.std.proofs.lemmas.List.{length-take, length-replicate}
use Rattle.values.specs.Limits.{max_precision}
use Rattle.values.specs.Reading.{Reading}
use Rattle.values.specs.Rose.{node, Roses, none, more}
use Rattle.values.specs.Datum.{Datum, null, truth, whole, text, bytes, list, structure, Items, items_of, no_items, item}
use Rattle.values.specs.declared.layout.OffsetWidth.{OffsetWidth}
use Rattle.values.specs.declared.layout.Layout.{Layout}
use Rattle.values.specs.declared.layout.Layout.TheVariants.{
  Bool as Booleans,
  Int,
  Decimal,
  FixedSizeBinary,
  Utf8,
  Binary,
  List as Listed,
  Struct,
}
use Rattle.values.specs.Layouts.{
  bytes_in as width_of,
  IsNode,
  Holds,
  IsTruth,
  IsNumber,
  IsDecimal,
  IsFixed,
  IsText,
  IsBytes,
  FitsIn,
}
use Rattle.array_layout.specs.declared.array.FieldNode.{FieldNode}
use Rattle.array_layout.specs.declared.array.BufferRange.{BufferRange}
use Rattle.array_layout.specs.Placing.{node_at, range_at, bytes_of, data_at}
use Rattle.array_layout.specs.Buffers.{is_null}
use Rattle.array_layout.specs.Sound.{LiesIn, validity_of, values_by, own_faults}
use Rattle.array_layout.specs.Cells.{text_of, value_by, cell_by}
use Rattle.body_writer.specs.Slots.{is_valid, truth_in, fixed_in, bytes_in, length_in, listed, items_in}
use Rattle.body_writer.specs.Columns.{validity, truths, numbers, fixed, offsets, joined, items, own_buffers, own_node}
use Rattle.body_writer.specs.Law.{HoldBuffers}
use Rattle.body_writer.proofs.CellBytes.{HaveWidth}
use Rattle.body_writer.proofs.Validity.{truth-read, truths-sound, validity-sound, null-read}
use Rattle.body_writer.proofs.NumbersRead.{number-back, decimal-back, numbers-sound, fixed-sound, fixed-back}
use Rattle.body_writer.proofs.Offsets.{HaveLengths, joined-sound, items-sound, joined-back, items-back}

-- the second and the third of some buffers

abbrev pub Here : List ℕ → List BufferRange → ℕ → List ℕ → Type 0
Here body ranges b x = LiesIn body (range_at ranges b) × (bytes_of body (range_at ranges b) ≡ x)

pub second-here : (body : List ℕ) (ranges : List BufferRange) (b : ℕ) (x y : List ℕ) (rest : List (List ℕ))
    → HoldBuffers body ranges b (x ∷ y ∷ rest) → Here body ranges (b + 1) y
second-here body ranges b x y rest st =
    let next : suc b ≡ b + 1 = omega arith in
    let P : ℕ → Type 0 = λ k. Here body ranges k y in
    subst P next (st.2.0, st.2.1)

pub third-here : (body : List ℕ) (ranges : List BufferRange) (b : ℕ) (x y z : List ℕ) (rest : List (List ℕ))
    → HoldBuffers body ranges b (x ∷ y ∷ z ∷ rest) → Here body ranges (b + 2) z
third-here body ranges b x y z rest st =
    let next : suc (suc b) ≡ b + 2 = omega arith in
    let P : ℕ → Type 0 = λ k. Here body ranges k z in
    subst P next (st.2.2.0, st.2.2.1)

pub range-length : (body : List ℕ) (s : BufferRange) (x : List ℕ) → LiesIn body s → bytes_of body s ≡ x
    → s.len ≡ length x
range-length body s x lies e =
    let cut = length-take (s.from + s.len - s.from) (drop s.from body) in
    let left = length-drop s.from body in
    let same = ap length e in
    omega (arith, cut, left, same, lies)

-- a slot, by whether it is null

slot-read : (c : Datum) (v : Bool) (m : Reading Datum) → v ≡ not (is_valid c) → (is_valid c ≡ true → m ≡ Ok c)
    → (if v then Ok null else m) ≡ Ok c
slot-read null v m e h = rw e refl
slot-read c v m e h = rw e (h refl)

-- the value as which a valid slot is read, by layout

false-true : false ≡ true → ⊥
false-true e = cc

truth-leaf : (c : Datum) → IsTruth c → is_valid c ≡ true → truth (truth_in c) ≡ c
truth-leaf null h v = cc
truth-leaf (truth b) h v = refl
truth-leaf c h v = absurd h

number-is : (s : Bool) (w : ℕ) (c : Datum) → IsNumber s w c → is_valid c ≡ true → (z : ℤ) × (c ≡ whole z) × FitsIn s w z
number-is s w null h v = absurd (false-true v)
number-is s w (whole z) h v = (z, refl, h)
number-is s w c h v = absurd h

decimal-is : (p : ℕ) (c : Datum) → IsDecimal p c → is_valid c ≡ true → (z : ℤ) × (c ≡ whole z) × (nat_abs z < 10 ^ p)
decimal-is p null h v = absurd (false-true v)
decimal-is p (whole z) h v = (z, refl, h)
decimal-is p c h v = absurd h

fixed-leaf : (w : ℕ) (c : Datum) → IsFixed w c → is_valid c ≡ true → bytes (fixed_in w c) ≡ c
fixed-leaf w null h v = cc
fixed-leaf w (bytes b) h v = refl
fixed-leaf w c h v = absurd h

pub fixed-width : (w : ℕ) (c : Datum) → IsFixed w c → length (fixed_in w c) ≡ w
fixed-width w null h = length-replicate {A = ℕ} w 0
fixed-width w (bytes b) h = h
fixed-width w c h = absurd h

text-leaf : (c : Datum) → IsText c → is_valid c ≡ true → text_of (bytes_in c) ≡ Ok c
text-leaf null h v = absurd (false-true v)
text-leaf (text b) h v = rw h refl
text-leaf c h v = absurd h

bytes-leaf : (c : Datum) → IsBytes c → is_valid c ≡ true → bytes (bytes_in c) ≡ c
bytes-leaf null h v = cc
bytes-leaf (bytes b) h v = refl
bytes-leaf c h v = absurd h

text-length : (c : Datum) → IsText c → length_in c ≡ length (bytes_in c)
text-length null h = refl
text-length (text b) h = refl
text-length c h = absurd h

bytes-length : (c : Datum) → IsBytes c → length_in c ≡ length (bytes_in c)
bytes-length null h = refl
bytes-length (bytes b) h = refl
bytes-length c h = absurd h

list-length : (o : OffsetWidth) (kids : Roses Layout) (c : Datum) → Holds (node (Listed o) kids) c
    → length_in c ≡ length (items_in c)
list-length o kids null h = refl
list-length o kids (list es) h = refl
list-length o kids c h = absurd h

pub items-listed : (es : Items) → items_of (listed es) ≡ es
items-listed no_items = refl
items-listed (item d es) = ap (item d) (items-listed es)

list-leaf : (o : OffsetWidth) (kids : Roses Layout) (c : Datum) → Holds (node (Listed o) kids) c → is_valid c ≡ true
    → list (items_of (items_in c)) ≡ c
list-leaf o kids null h v = cc
list-leaf o kids (list es) h v = ap list (items-listed es)
list-leaf o kids c h v = absurd h

pub struct-is : (kids : Roses Layout) (c : Datum) → Holds (node Struct kids) c → is_valid c ≡ true
    → (es : Items) × (c ≡ structure es)
struct-is kids null h v = absurd (false-true v)
struct-is kids (structure es) h v = (es, refl)
struct-is kids c h v = absurd h

-- the buffers that hold more than validity are not too long for offsets of 32 bits
abbrev pub run_length : Layout → List Datum → ℕ
run_length (Utf8 o) cs = length (joined cs)
run_length (Binary o) cs = length (joined cs)
run_length (Listed o) cs = length (items cs)
run_length l cs = 0

-- the values as which the children are read
abbrev pub KidsRead : Layout → List Datum → (ℕ → Reading Datum) → (ℕ → Reading (List Datum)) → Type 0
KidsRead (Listed o) cs entry row = (j : ℕ) → j < length (items cs) → entry j ≡ Ok (get_or (items cs) j null)
KidsRead Struct cs entry row = (i : ℕ) (es : Items) → i < length cs → get_or cs i null ≡ structure es
    → row i ≡ Ok (listed es)
KidsRead l cs entry row = Unit {0}

few-digits : (p : ℕ) (kids : Roses Layout) → IsNode (Decimal p) kids → p ≤ max_precision
few-digits p none is = is
few-digits p (more t ts) is = absurd is

pub validity-here :
    (l : Layout) (cs : List Datum) (body : List ℕ) (ranges : List BufferRange) (b : ℕ)
    → HoldBuffers body ranges b (own_buffers l cs)
    → Here body ranges b (validity cs)
validity-here Booleans cs body ranges b st = (st.0, st.1)
validity-here (Int w s) cs body ranges b st = (st.0, st.1)
validity-here (Decimal p) cs body ranges b st = (st.0, st.1)
validity-here (FixedSizeBinary w) cs body ranges b st = (st.0, st.1)
validity-here (Utf8 o) cs body ranges b st = (st.0, st.1)
validity-here (Binary o) cs body ranges b st = (st.0, st.1)
validity-here (Listed o) cs body ranges b st = (st.0, st.1)
validity-here Struct cs body ranges b st = (st.0, st.1)

value-read :
    (l : Layout) (kids : Roses Layout) (cs : List Datum) (body : List ℕ) (all : List FieldNode)
    (ranges : List BufferRange) (n b : ℕ)
    (entry : ℕ → Reading Datum) (row : ℕ → Reading (List Datum)) (i : ℕ) → IsNode l kids → All (Holds (node l kids)) cs
    → run_length l cs < 2 ^ 31 → HoldBuffers body ranges b (own_buffers l cs) → KidsRead l cs entry row → i < length cs
    → is_valid (get_or cs i null) ≡ true
    → value_by l body (data_at all ranges n b l) entry row i ≡ Ok (get_or cs i null)
value-read Booleans kids cs body all ranges n b entry row i is held short st read h v =
    let at = second-here body ranges b (validity cs) (truths cs) [] st in
    rw (at.1, truth-read cs i h, truth-leaf (get_or cs i null) (held i null h) v) refl
value-read (Int w s) kids cs body all ranges n b entry row i is held short st read h v =
    let at = second-here body ranges b (validity cs) (numbers (width_of w) cs) [] st in
    let c = number-is s (width_of w) (get_or cs i null) (held i null h) v in
    rw (at.1, number-back s w cs i c.0 h c.1 c.2) (ap (λ (x : Datum). Ok x) (sym c.1))
value-read (Decimal p) kids cs body all ranges n b entry row i is held short st read h v =
    let at = second-here body ranges b (validity cs) (numbers 16 cs) [] st in
    let c = decimal-is p (get_or cs i null) (held i null h) v in
    rw (at.1, decimal-back p cs i c.0 (few-digits p kids is) h c.1 c.2, lt-ltb (nat_abs c.0) (10 ^ p) c.2)
    (ap (λ (x : Datum). Ok x) (sym c.1))
value-read (FixedSizeBinary w) kids cs body all ranges n b entry row i is held short st read h v =
    let at = second-here body ranges b (validity cs) (fixed w cs) [] st in
    let even : HaveWidth (fixed_in w) w cs = λ k l. fixed-width w (get_or cs k null) (held k null l) in
    rw (at.1, fixed-back w cs i h even, fixed-leaf w (get_or cs i null) (held i null h) v) refl
value-read (Utf8 o) kids cs body all ranges n b entry row i is held short st read h v =
    let have : HaveLengths bytes_in cs = λ k l. text-length (get_or cs k null) (held k null l) in
    let at = second-here body ranges b (validity cs) (offsets o cs) (joined cs ∷ []) st in
    let there = third-here body ranges b (validity cs) (offsets o cs) (joined cs) [] st in
    rw (at.1, there.1, joined-back o cs i have short h) (text-leaf (get_or cs i null) (held i null h) v)
value-read (Binary o) kids cs body all ranges n b entry row i is held short st read h v =
    let have : HaveLengths bytes_in cs = λ k l. bytes-length (get_or cs k null) (held k null l) in
    let at = second-here body ranges b (validity cs) (offsets o cs) (joined cs ∷ []) st in
    let there = third-here body ranges b (validity cs) (offsets o cs) (joined cs) [] st in
    rw (at.1, there.1, joined-back o cs i have short h, bytes-leaf (get_or cs i null) (held i null h) v) refl
value-read (Listed o) kids cs body all ranges n b entry row i is held short st read h v =
    let have : HaveLengths items_in cs = λ k l. list-length o kids (get_or cs k null) (held k null l) in
    let at = second-here body ranges b (validity cs) (offsets o cs) [] st in
    rw (at.1, items-back o cs i entry have short h read, list-leaf o kids (get_or cs i null) (held i null h) v) refl
value-read Struct kids cs body all ranges n b entry row i is held short st read h v =
    let c = struct-is kids (get_or cs i null) (held i null h) v in
    rw (read i c.0 h c.1, items-listed c.0) (ap (λ (x : Datum). Ok x) (sym c.1))

pub own-cell :
    (l : Layout) (kids : Roses Layout) (cs : List Datum) (body : List ℕ) (all : List FieldNode)
    (ranges : List BufferRange) (n b : ℕ)
    (entry : ℕ → Reading Datum) (row : ℕ → Reading (List Datum)) (i : ℕ) → IsNode l kids → All (Holds (node l kids)) cs
    → run_length l cs < 2 ^ 31 → HoldBuffers body ranges b (own_buffers l cs) → KidsRead l cs entry row → i < length cs
    → cell_by body (data_at all ranges n b l) entry row i ≡ Ok (get_or cs i null)
unfolding cell_by
own-cell l kids cs body all ranges n b entry row i is held short st read h =
    let valid = validity-here l cs body ranges b st in
    let e : is_null (bytes_of body (range_at ranges b)) i ≡ not (is_valid (get_or cs i null)) =
    ap (λ bits. is_null bits i) valid.1 ∙ null-read cs i h in
    slot-read (get_or cs i null) (is_null (bytes_of body (range_at ranges b)) i)
    (value_by l body (data_at all ranges n b l) entry row i) e
    (value-read l kids cs body all ranges n b entry row i is held short st read h)

-- its own faults

-- the offsets of a list point into its items
abbrev pub HasSlots : Layout → List Datum → ℕ → Type 0
HasSlots (Listed o) cs slots = slots ≡ length (items cs)
HasSlots l cs slots = Unit {0}

values-sound :
    (l : Layout) (kids : Roses Layout) (cs : List Datum) (body : List ℕ) (all : List FieldNode)
    (ranges : List BufferRange) (n b slots : ℕ)
    → All (Holds (node l kids)) cs → run_length l cs < 2 ^ 31 → HoldBuffers body ranges b (own_buffers l cs)
    → node_at all n ≡ own_node cs
    → HasSlots l cs slots → values_by l body (data_at all ranges n b l) slots ≡ Ok tt
values-sound Booleans kids cs body all ranges n b slots held short st saturated few =
    let at = second-here body ranges b (validity cs) (truths cs) [] st in
    rw (at.1, saturated) (truths-sound cs)
values-sound (Int w s) kids cs body all ranges n b slots held short st saturated few =
    let at = second-here body ranges b (validity cs) (numbers (width_of w) cs) [] st in
    rw (at.1, saturated) (numbers-sound (width_of w) cs)
values-sound (Decimal p) kids cs body all ranges n b slots held short st saturated few =
    let at = second-here body ranges b (validity cs) (numbers 16 cs) [] st in
    rw (at.1, saturated) (numbers-sound 16 cs)
values-sound (FixedSizeBinary w) kids cs body all ranges n b slots held short st saturated few =
    let at = second-here body ranges b (validity cs) (fixed w cs) [] st in
    let even : HaveWidth (fixed_in w) w cs = λ k l. fixed-width w (get_or cs k null) (held k null l) in
    rw (at.1, saturated) (fixed-sound w cs even)
values-sound (Utf8 o) kids cs body all ranges n b slots held short st saturated few =
    let have : HaveLengths bytes_in cs = λ k l. text-length (get_or cs k null) (held k null l) in
    let at = second-here body ranges b (validity cs) (offsets o cs) (joined cs ∷ []) st in
    let there = third-here body ranges b (validity cs) (offsets o cs) (joined cs) [] st in
    rw (at.1, saturated, range-length body (range_at ranges (b + 2)) (joined cs) there.0 there.1)
    (joined-sound o cs have short)
values-sound (Binary o) kids cs body all ranges n b slots held short st saturated few =
    let have : HaveLengths bytes_in cs = λ k l. bytes-length (get_or cs k null) (held k null l) in
    let at = second-here body ranges b (validity cs) (offsets o cs) (joined cs ∷ []) st in
    let there = third-here body ranges b (validity cs) (offsets o cs) (joined cs) [] st in
    rw (at.1, saturated, range-length body (range_at ranges (b + 2)) (joined cs) there.0 there.1)
    (joined-sound o cs have short)
values-sound (Listed o) kids cs body all ranges n b slots held short st saturated few =
    let have : HaveLengths items_in cs = λ k l. list-length o kids (get_or cs k null) (held k null l) in
    let at = second-here body ranges b (validity cs) (offsets o cs) [] st in
    rw (at.1, saturated, few) (items-sound o cs have short)
values-sound Struct kids cs body all ranges n b slots held short st saturated few = refl

pub own-sound :
    (l : Layout) (kids : Roses Layout) (cs : List Datum) (body : List ℕ) (all : List FieldNode)
    (ranges : List BufferRange) (n b slots : ℕ)
    → All (Holds (node l kids)) cs → run_length l cs < 2 ^ 31 → HoldBuffers body ranges b (own_buffers l cs)
    → node_at all n ≡ own_node cs
    → HasSlots l cs slots → own_faults body (data_at all ranges n b l) slots ≡ Ok tt
unfolding own_faults
own-sound l kids cs body all ranges n b slots held short st saturated few =
    let valid = validity-here l cs body ranges b st in
    let e : validity_of (bytes_of body (range_at ranges b)) (node_at all n).length (node_at all n).nulls ≡ Ok tt =
    rw (valid.1, saturated) (validity-sound cs) in
    rw (e, values-sound l kids cs body all ranges n b slots held short st saturated few) refl
