-- Which slots are null, and slots of one bit.
use Rattle.std.proofs.Common.{◌≡◌, ℕ, zero, suc, ◌+◌, ◌-◌, ◌<◌, ◌≤◌, List, [], ◌∷◌, ◌++◌, length, true, false, Bool, Ok, Err, None, refl, ap, sym, subst, ◌∙◌, arith, append-nil}
use Rattle.std.specs.Prelude.{if◌then◌else◌, map, not, replicate, ◌==◌, ◌&&◌, ℤ, nat_lt, nat_abs, ◌^◌}
use Rattle.std.proofs.lemmas.Bool.Decides.{nat_tests}
use Rattle.std.specs.Str.{is_utf8}
use Rattle.values.specs.Datum.{Datum, whole, text}
use Rattle.values.specs.Reading.{Reading, IsValid, one, mapped}
use Rattle.values.specs.Rose.{Roses, node}
use Rattle.values.specs.declared.faults.StreamFault.TheVariants as fault
use Rattle.values.specs.declared.layout.Layout.{Layout}
use Rattle.values.specs.declared.layout.Layout.TheVariants.{
  Bool as Booleans,
  Int,
  Decimal,
  FixedSizeBinary,
  Utf8,
  Binary,
  List as Listed,
  Struct,
}
use Rattle.bitmaps.specs.Bits.{bit_at, bits_at, ones, pairwise}
use Rattle.array_layout.specs.declared.array.ArrayData.{ArrayData}
use Rattle.array_layout.specs.Placing.{bytes_of}
use Rattle.array_layout.specs.Buffers.{is_null, number_at, slice_at}
use Rattle.array_layout.specs.Cells.{cell, value_by, first_cell, row, decimal_of, text_of, items_at}
use Rattle.body_writer.specs.Slots.{is_valid, null_count, truth_in}
use Rattle.body_writer.specs.Runs.{cell_in, slots}
use Rattle.body_writer.proofs.RunLemmas.{null-cell}
use Rattle.body_writer.proofs.SlotLemmas.{AllValid, plain-cell}

pub length-slots : (cell : ℕ → Reading Datum) (i n : ℕ) → length (slots cell i n) ≡ n
unfolding slots
length-slots cell i zero = refl
length-slots cell i (suc n) = ap suc (length-slots cell (i + 1) n)

decimal-set : (d : ℕ) (z : ℤ) → IsValid {X = Datum} (decimal_of d z) → is_valid (cell_in (decimal_of d z)) ≡ true
decimal-set d z h = by_test (nat_lt (nat_abs z) (10 ^ d)) h where
  by_test : (b : Bool) → IsValid {X = Datum} (if b then Ok (whole z) else Err (one fault.DecimalRange))
      → is_valid (cell_in (if b then Ok (whole z) else Err (one fault.DecimalRange))) ≡ true
  by_test true h = refl
  by_test false h = absurd h

text-set : (t : List ℕ) → IsValid {X = Datum} (text_of t) → is_valid (cell_in (text_of t)) ≡ true
text-set t h = by_test (is_utf8 t) h where
  by_test : (b : Bool) → IsValid {X = Datum} (if b then Ok (text t) else Err (one fault.NotUtf8))
      → is_valid (cell_in (if b then Ok (text t) else Err (one fault.NotUtf8))) ≡ true
  by_test true h = refl
  by_test false h = absurd h

mapped-set : {X : Type 0} (f : X → Datum) (m : Reading X) → ((x : X) → is_valid (f x) ≡ true) → IsValid m
    → is_valid (cell_in (mapped f m)) ≡ true
mapped-set f (Ok x) set h = set x
mapped-set f (Err fs) set h = absurd h

mapped-valid : {X : Type 0} (f : X → Datum) (m : Reading X) → IsValid (mapped f m) → IsValid m
mapped-valid f (Ok x) h = tt
mapped-valid f (Err fs) h = absurd h

-- what is read from a slot that isn't null isn't null
value-set : (l : Layout) (body : List ℕ) (p : ArrayData) (item : ℕ → Reading Datum) (others : ℕ
    → Reading (List Datum)) (k : ℕ)
    → IsValid (value_by l body p item others k) → is_valid (cell_in (value_by l body p item others k)) ≡ true
value-set Booleans body p item others k h = refl
value-set (Int w s) body p item others k h = refl
value-set (Decimal d) body p item others k h = decimal-set d (number_at true 16 (bytes_of body p.values) k) h
value-set (FixedSizeBinary w) body p item others k h = refl
value-set (Utf8 o) body p item others k h = text-set (slice_at o (bytes_of body p.offsets) (bytes_of body p.values) k) h
value-set (Binary o) body p item others k h = refl
value-set (Listed o) body p item others k h =
    mapped-set _ (items_at item o (bytes_of body p.offsets) k) (λ x. refl) (mapped-valid _ (items_at item o (bytes_of
    body p.offsets) k) h)
value-set Struct body p item others k h = mapped-set _ (others k) (λ x. refl) (mapped-valid _ (others k) h)

-- a cell is null where its slot is
pub cell-set : (body bits : List ℕ) (p : ArrayData) (kids : Roses ArrayData) (k : ℕ)
    → bits ≡ bytes_of body p.validity → p.dictionary ≡ None
    → IsValid (cell body (node p kids) k) → not (is_null bits k) ≡ is_valid (cell_in (cell body (node p kids) k))
cell-set body bits p kids k b n good = by_null (is_null bits k) refl where
  by_null : (t : Bool) → is_null bits k ≡ t → not t ≡ is_valid (cell_in (cell body (node p kids) k))
  by_null true is = sym (ap (λ r. is_valid (cell_in r)) (null-cell body p kids k (ap (λ ys. is_null ys k) (sym b)
      ∙ is)))
  by_null false is =
      let read = plain-cell body p kids p.layout k refl n (ap (λ ys. is_null ys k) (sym b) ∙ is) in
      let set = value-set p.layout body p (λ j. first_cell body kids j) (λ j. row body kids j) k (subst IsValid read
      good) in
      sym (ap (λ r. is_valid (cell_in r)) read ∙ set)

-- the bit of a slot
pub cell-truth : (body bits xs : List ℕ) (p : ArrayData) (kids : Roses ArrayData) (k : ℕ) (b : Bool)
    → bits ≡ bytes_of body p.validity
    → xs ≡ bytes_of body p.values → p.dictionary ≡ None → p.layout ≡ Booleans
    → b ≡ (not (is_null bits k) && bit_at xs k)
    → b ≡ truth_in (cell_in (cell body (node p kids) k))
cell-truth body bits xs p kids k t b v n l is = by_null (is_null bits k) refl is where
  by_null : (u : Bool) → is_null bits k ≡ u → t ≡ (not u && bit_at xs k)
      → t ≡ truth_in (cell_in (cell body (node p kids) k))
  by_null true null_there e = e ∙ sym (ap (λ r. truth_in (cell_in r)) (null-cell body p kids k (ap (λ ys. is_null ys k)
      (sym b) ∙ null_there)))
  by_null false there e =
      let read = plain-cell body p kids Booleans k l n (ap (λ ys. is_null ys k) (sym b) ∙ there) in
      e ∙ ap (λ ys. bit_at ys k) v ∙ sym (ap (λ r. truth_in (cell_in r)) read)

pub slots-next : (cell : ℕ → Reading Datum) (i to : ℕ) → i < to
    → slots cell i (to - i) ≡ cell_in (cell i) ∷ slots cell (i + 1) (to - (i + 1))
unfolding slots
slots-next cell i to h = let e : to - i ≡ suc (to - (i + 1)) = omega (arith, h) in ap (λ n. slots cell i n) e

pub slots-none : (cell : ℕ → Reading Datum) (i to : ℕ) → to ≤ i → slots cell i (to - i) ≡ []
unfolding slots
slots-none cell i to h = let e : to - i ≡ 0 = omega (arith, h) in ap (λ n. slots cell i n) e

pub map-over : {A : Type 0} (f : Datum → A) (cell : ℕ → Reading Datum) (i to : ℕ) (made total : List A) → to ≤ i
    → made ++ map f (slots cell i (to - i)) ≡ total → made ≡ total
map-over f cell i to made total h is =
    sym (append-nil made) ∙ ap (λ cs. made ++ map f cs) (sym (slots-none cell i to h)) ∙ is

-- nulls

pub nulls-append : (xs ys : List Datum) → null_count (xs ++ ys) ≡ null_count xs + null_count ys
nulls-append [] ys = omega arith
nulls-append (x ∷ xs) ys = let rest = nulls-append xs ys in omega (arith, rest)

pub nulls-few : (xs : List Datum) → null_count xs ≤ length xs
nulls-few [] = omega arith
nulls-few (x ∷ xs) = let rest = nulls-few xs in few-here (is_valid x) (null_count xs) (length xs) rest where
  few-here : (b : Bool) (m n : ℕ) → m ≤ n → (if b then 0 else 1) + m ≤ suc n
  few-here true m n h = omega (arith, h)
  few-here false m n h = omega (arith, h)

pub ones-nulls : (cs : List Datum) → ones (map is_valid cs) + null_count cs ≡ length cs
unfolding ones
ones-nulls [] = refl
ones-nulls (c ∷ cs) = by_test (is_valid c) (ones (map is_valid cs)) (null_count cs) (length cs) (ones-nulls cs) where
  by_test : (b : Bool) (m n k : ℕ) → m + n ≡ k → (if b then 1 else 0) + m + ((if b then 0 else 1) + n) ≡ suc k
  by_test true m n k h = omega (arith, h)
  by_test false m n k h = omega (arith, h)

-- slots of an array with a validity buffer, and of one without

valid-bit : (bits : List ℕ) (k : ℕ) → 0 < length bits → bit_at bits k ≡ not (is_null bits k)
unfolding is_null
valid-bit bits k some =
    let there : (length bits == 0) ≡ false = grind (arith, nat_tests) in
    sym (ap (λ b. not (if b then false else not (bit_at bits k))) there ∙ not-not (bit_at bits k)) where
      not-not : (t : Bool) → not (not t) ≡ t
      not-not true = refl
      not-not false = refl

no-null : (bits : List ℕ) (k : ℕ) → length bits ≡ 0 → true ≡ not (is_null bits k)
unfolding is_null
no-null bits k none = rw none refl

pub valid-bits : (body bits : List ℕ) (p : ArrayData) (kids : Roses ArrayData) (i n : ℕ)
    → bits ≡ bytes_of body p.validity → 0 < length bits → p.dictionary ≡ None → AllValid body p kids i (i + n)
    → bits_at bits i n ≡ map is_valid (slots (cell body (node p kids)) i n)
unfolding bits_at slots
valid-bits body bits p kids i zero same some plain all = refl
valid-bits body bits p kids i (suc n) same some plain all =
    let here = valid-bit bits i some
    ∙ cell-set body bits p kids i same plain (all i (omega arith) (omega arith)) in
    let rest = valid-bits body bits p kids (i + 1) n same some plain
    (λ k lo hi. all k (omega (arith, lo)) (omega (arith, hi))) in
    ap (λ b. b ∷ bits_at bits (i + 1) n) here
    ∙ ap (λ bs. is_valid (cell_in (cell body (node p kids) i)) ∷ bs) rest

pub all-set : (body bits : List ℕ) (p : ArrayData) (kids : Roses ArrayData) (i n : ℕ)
    → bits ≡ bytes_of body p.validity → length bits ≡ 0 → p.dictionary ≡ None → AllValid body p kids i (i + n)
    → replicate n true ≡ map is_valid (slots (cell body (node p kids)) i n)
unfolding slots
all-set body bits p kids i zero same none plain all = refl
all-set body bits p kids i (suc n) same none plain all =
    let here = no-null bits i none
    ∙ cell-set body bits p kids i same plain (all i (omega arith) (omega arith)) in
    let rest = all-set body bits p kids (i + 1) n same none plain
    (λ k lo hi. all k (omega (arith, lo)) (omega (arith, hi))) in
    ap (λ b. b ∷ replicate n true) here
    ∙ ap (λ bs. is_valid (cell_in (cell body (node p kids) i)) ∷ bs) rest

pub truth-bits : (body bits xs : List ℕ) (p : ArrayData) (kids : Roses ArrayData) (i n : ℕ)
    → bits ≡ bytes_of body p.validity → xs ≡ bytes_of body p.values → 0 < length bits → p.dictionary ≡ None
    → p.layout ≡ Booleans
    → pairwise (λ x y. x && y) (bits_at bits i n) (bits_at xs i n)
    ≡ map truth_in (slots (cell body (node p kids)) i n)
unfolding bits_at slots pairwise
truth-bits body bits xs p kids i zero same values some plain layout = refl
truth-bits body bits xs p kids i (suc n) same values some plain layout =
    let here = cell-truth body bits xs p kids i (bit_at bits i && bit_at xs i) same values plain layout
    (ap (λ b. b && bit_at xs i) (valid-bit bits i some)) in
    let rest = truth-bits body bits xs p kids (i + 1) n same values some plain layout in
    ap (λ b. b ∷ pairwise (λ x y. x && y) (bits_at bits (i + 1) n) (bits_at xs (i + 1) n)) here
    ∙ ap (λ bs. truth_in (cell_in (cell body (node p kids) i)) ∷ bs) rest

pub plain-truths : (body bits xs : List ℕ) (p : ArrayData) (kids : Roses ArrayData) (i n : ℕ)
    → bits ≡ bytes_of body p.validity → xs ≡ bytes_of body p.values → length bits ≡ 0 → p.dictionary ≡ None
    → p.layout ≡ Booleans
    → bits_at xs i n ≡ map truth_in (slots (cell body (node p kids)) i n)
unfolding bits_at slots
plain-truths body bits xs p kids i zero same values none plain layout = refl
plain-truths body bits xs p kids i (suc n) same values none plain layout =
    let here = cell-truth body bits xs p kids i (bit_at xs i) same values plain layout
    (ap (λ b. b && bit_at xs i) (no-null bits i none)) in
    let rest = plain-truths body bits xs p kids (i + 1) n same values none plain layout in
    ap (λ b. b ∷ bits_at xs (i + 1) n) here
    ∙ ap (λ bs. truth_in (cell_in (cell body (node p kids) i)) ∷ bs) rest
