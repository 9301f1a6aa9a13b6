-- What runs of slots give to a buffer.
use Rattle.std.proofs.Common.{
  true,
  Ok,
  append-nil,
  length,
  length-drop,
  ◌≡◌,
  ℕ,
  zero,
  suc,
  ◌+◌,
  ◌*◌,
  ◌-◌,
  ◌<◌,
  ◌≤◌,
  List,
  [],
  ◌∷◌,
  ◌++◌,
  take,
  drop,
  refl,
  ap,
  sym,
  subst,
  ◌∙◌,
  arith,
  append_assoc,
}
use Rattle.std.specs.Prelude.{replicate, slice_range}
use Rattle.std.proofs.lemmas.List.{length-take, drop-drop, replicate-append-replicate}
use Rattle.std.proofs.Math.Seq.{take-add}
use Rattle.std.specs.List.{flat_map}
use Rattle.values.specs.Datum.{Datum, null}
use Rattle.values.specs.Reading.{Reading}
use Rattle.values.specs.Rose.{Roses, node}
use Rattle.array_layout.specs.declared.array.ArrayData.{ArrayData}
use Rattle.array_layout.specs.declared.array.BufferRange.{BufferRange}
use Rattle.array_layout.specs.Placing.{bytes_of}
use Rattle.array_layout.specs.Buffers.{is_null}
use Rattle.array_layout.specs.Sound.{LiesIn}
use Rattle.array_layout.specs.Cells.{cell, cell_by}
use Rattle.body_writer.specs.Runs.{cell_in, slots}

-- m slots and then n more
pub slots-split : (cell : ℕ → Reading Datum) (i m n : ℕ) → slots cell i (m + n) ≡ slots cell i m ++ slots cell (i + m) n
unfolding slots
slots-split cell i zero n = let e : i ≡ i + 0 = omega arith in let z : 0 + n ≡ n = omega arith in ap (λ k. slots cell i
    k) z ∙ ap (λ k. slots cell k n) e
slots-split cell i (suc m) n =
    let e : i + 1 + m ≡ i + suc m = omega arith in
    let z : suc m + n ≡ suc (m + n) = omega arith in
    ap (λ k. slots cell i k) z ∙ ap (λ xs. cell_in (cell i) ∷ xs) (slots-split cell (i + 1) m n
    ∙ ap (λ k. slots cell (i + 1) m ++ slots cell k n) e)

pub flat-append : {A : Type 0} (f : Datum → List A) (xs ys : List Datum)
    → flat_map f (xs ++ ys) ≡ flat_map f xs ++ flat_map f ys
flat-append f [] ys = refl
flat-append f (x ∷ xs) ys = ap (λ r. f x ++ r) (flat-append f xs ys)
    ∙ sym (append_assoc (f x) (flat_map f xs) (flat_map f ys))

pub zeros-split : (m n : ℕ) → replicate {A = ℕ} m 0 ++ replicate n 0 ≡ replicate (m + n) 0
zeros-split m n = replicate-append-replicate {A = ℕ} m n 0

-- a run of nulls
pub flat-nulls :
    (f : Datum → List ℕ) (cell : ℕ → Reading Datum) (w i n : ℕ) → f null ≡ replicate w 0 → ((k : ℕ) → i ≤ k
    → k < i + n → cell k ≡ Ok null)
    → flat_map f (slots cell i n) ≡ replicate (w * n) 0
unfolding slots
flat-nulls f cell w i zero z h = let e : w * 0 ≡ 0 = omega arith in ap (λ (k : ℕ). replicate k 0) (sym e)
flat-nulls f cell w i (suc n) z h =
    let here = h i (omega arith) (omega arith) in
    let rest = flat-nulls f cell w (i + 1) n z (λ k a b. h k (omega (arith, a)) (omega (arith, b))) in
    let sum : w + w * n ≡ w * suc n = omega arith in
    rw (here, z, rest) (zeros-split w (w * n) ∙ ap (λ (k : ℕ). replicate k 0) sum)

pub range-split : (xs : List ℕ) (a b c : ℕ) → a ≤ b → b ≤ c
    → slice_range xs a b ++ slice_range xs b c ≡ slice_range xs a c
range-split xs a b c h k =
    let m : (b - a) + (c - b) ≡ c - a = omega (arith, h, k) in
    let d : a + (b - a) ≡ b = omega (arith, h) in
    ap (λ r. take (b - a) (drop a xs) ++ take (c - b) r) (ap (λ j. drop j xs) (sym d) ∙ sym (drop-drop (b - a) a xs))
    ∙ sym (take-add (b - a) (c - b) (drop a xs)) ∙ ap (λ j. take j (drop a xs)) m

pub rises-far : (at : ℕ → ℕ) (i n : ℕ) → ((k : ℕ) → i ≤ k → k < i + n → at k ≤ at (k + 1)) → at i ≤ at (i + n)
rises-far at i zero h = let e : i ≡ i + 0 = omega arith in subst (λ k. at i ≤ at k) e (omega arith)
rises-far at i (suc n) h =
    let here = h i (omega arith) (omega arith) in
    let rest = rises-far at (i + 1) n (λ k a b. h k (omega (arith, a)) (omega (arith, b))) in
    let e : i + 1 + n ≡ i + suc n = omega arith in
    subst (λ k. at i ≤ at k) e (omega (arith, here, rest))

range-none : (xs : List ℕ) (a : ℕ) → [] ≡ slice_range xs a a
range-none xs a = let e : a - a ≡ 0 = omega arith in rw e refl

-- a run of slots that are valid: their bytes lie one after the other
pub flat-valid :
    (f : Datum → List ℕ) (cell : ℕ → Reading Datum) (at : ℕ → ℕ) (xs : List ℕ) (i n : ℕ)
    → ((k : ℕ) → i ≤ k → k < i + n → f (cell_in (cell k)) ≡ slice_range xs (at k) (at (k + 1))) → ((k : ℕ) → i ≤ k
    → k < i + n → at k ≤ at (k + 1))
    → flat_map f (slots cell i n) ≡ slice_range xs (at i) (at (i + n))
unfolding slots
flat-valid f cell at xs i zero same rising = let e : i ≡ i + 0 = omega arith in subst (λ k. [] ≡ slice_range xs (at i)
    (at k)) e (range-none xs (at i))
flat-valid f cell at xs i (suc n) same rising =
    let here = same i (omega arith) (omega arith) in
    let up = rising i (omega arith) (omega arith) in
    let far = rises-far at (i + 1) n (λ k a b. rising k (omega (arith, a)) (omega (arith, b))) in
    let rest = flat-valid f cell at xs (i + 1) n (λ k a b. same k (omega (arith, a)) (omega (arith, b))) (λ k a b.
    rising k (omega (arith, a)) (omega (arith, b))) in
    let e : i + 1 + n ≡ i + suc n = omega arith in
    rw (here, rest) (range-split xs (at i) (at (i + 1)) (at (i + 1 + n)) up far
    ∙ ap (λ k. slice_range xs (at i) (at k)) e)

-- a slot by whether it is null

pub null-cell :
    (body : List ℕ) (p : ArrayData) (kids : Roses ArrayData) (k : ℕ) → is_null (bytes_of body p.validity) k ≡ true
    → cell body (node p kids) k ≡ Ok null
unfolding cell_by
null-cell body p kids k h = rw h refl

-- one run of slots and then the others, as the loop takes them
pub run-next :
    {A : Type 0} (f : Datum → List A) (cell : ℕ → Reading Datum) (at end to : ℕ) → at ≤ end → end ≤ to
    → flat_map f (slots cell at (to - at)) ≡ flat_map f (slots cell at (end - at)) ++ flat_map f (slots cell end (to -
    end))
run-next f cell at end to h k =
    let e : to - at ≡ (end - at) + (to - end) = omega (arith, h, k) in
    let a : at + (end - at) ≡ end = omega (arith, h) in
    ap (λ n. flat_map f (slots cell at n)) e ∙ ap (flat_map f) (slots-split cell at (end - at) (to - end))
    ∙ flat-append f (slots cell at (end - at)) (slots cell (at + (end - at)) (to - end))
    ∙ ap (λ i. flat_map f (slots cell at (end - at)) ++ flat_map f (slots cell i (to - end))) a

pub run-step :
    {A : Type 0} (f : Datum → List A) (cell : ℕ → Reading Datum) (at end to : ℕ) (made next chunk total : List A)
    → at ≤ end → end ≤ to
    → chunk ≡ flat_map f (slots cell at (end - at)) → next ≡ made ++ chunk
    → made ++ flat_map f (slots cell at (to - at)) ≡ total
    → next ++ flat_map f (slots cell end (to - end)) ≡ total
run-step f cell at end to made next chunk total h k e n is =
    let rest = flat_map f (slots cell end (to - end)) in
    ap (λ xs. xs ++ rest) n ∙ append_assoc made chunk rest ∙ ap (λ xs. made ++ (xs ++ rest)) e
    ∙ ap (λ xs. made ++ xs) (sym (run-next f cell at end to h k)) ∙ is

pub run-over :
    {A : Type 0} (f : Datum → List A) (cell : ℕ → Reading Datum) (at to : ℕ) (made total : List A) → to ≤ at
    → made ++ flat_map f (slots cell at (to - at)) ≡ total → made ≡ total
unfolding slots
run-over f cell at to made total h e =
    let z : to - at ≡ 0 = omega (arith, h) in
    sym (append-nil made) ∙ ap (λ n. made ++ flat_map f (slots cell at n)) (sym z) ∙ e

pub range-long : (body : List ℕ) (s : BufferRange) → LiesIn body s → length (bytes_of body s) ≡ s.len
range-long body s lies =
    let cut = length-take (s.from + s.len - s.from) (drop s.from body) in
    let left = length-drop s.from body in
    omega (arith, cut, left, lies)
