-- The cells of a column whose buffers and cells are valid.
use Rattle.std.proofs.Common.{
  ◌≡◌,
  ℕ,
  List,
  ◌+◌,
  ◌-◌,
  ◌<◌,
  length,
  Ok,
  Err,
  Some,
  slice_get,
  refl,
  ap,
  sym,
  subst,
  ◌∙◌,
  arith,
}
use Rattle.std.specs.Prelude.{Result, IfOk, IfSome, Option}
use Rattle.values.specs.Layouts.{weight}
use Rattle.values.specs.declared.layout.Layout.{Layout}
use Rattle.values.proofs.Readings.{valid_Ok, each_length, each_get, valid_each}
use Rattle.array_layout.specs.Placing.{layout_of}
use Rattle.array_layout.specs.Sound.{IsSound, faults_in}
use Rattle.arrays.specs.Weights.{capped, weight_at, Says}
use Rattle.arrays.proofs.WeightLaw.{cell_weighs}
use Rattle.values.specs.Datum.{Datum}
use Rattle.values.specs.Reading.{Reading, each, FailsWith, IsValid, Passes, ◌>>=◌}
use Rattle.values.specs.Rose.{Rose}
use Rattle.values.specs.declared.faults.StreamFault.{StreamFault}
use Rattle.array_layout.specs.declared.array.ArrayData.{ArrayData}
use Rattle.array_layout.specs.Cells.{cell, cells, column_of, len_of}
use Rattle.arrays.specs.Checked.{valid_of}

pub cells-validated :
    (b : List ℕ) (t : Rose ArrayData) (n : ℕ) (r : Result (Unit {0}) StreamFault) → n ≡ len_of t
    → Passes r (each (cell b t) 0 (n - 0))
    → Passes r (cells b t)
unfolding cells
cells-validated b t n r all validated =
    let P : ℕ → Type 0 = λ k. Passes r (each (cell b t) 0 k) in
    let same : n - 0 ≡ len_of t = omega (arith, all) in
    subst P same validated

pub ruleset validated_all = (cells-validated)

valid_is : (m : Reading (List Datum)) → IsValid m → m ≡ Ok (valid_of m)
valid_is (Ok ds) valid = refl
valid_is (Err fs) valid = absurd valid

pub cells-length : (b : List ℕ) (t : Rose ArrayData) → IsValid (cells b t) → length (valid_of (cells b t)) ≡ len_of t
unfolding cells
cells-length b t valid = each_length (cell b t) 0 (len_of t) _ (valid_is (cells b t) valid)

pub cell-valid : (b : List ℕ) (t : Rose ArrayData) (i : ℕ) → IsValid (cells b t) → i < len_of t → IsValid (cell b t i)
unfolding cells
cell-valid b t i valid below =
    let P : ℕ → Type 0 = λ k. IsValid (cell b t k) in
    let same : 0 + i ≡ i = omega arith in
    subst P same (valid_each (cell b t) 0 (len_of t) valid i below)

pub cell-stands :
    (b : List ℕ) (t : Rose ArrayData) (i : ℕ) (d : Datum) → IsValid (cells b t) → i < len_of t → cell b t i ≡ Ok d
    → slice_get (valid_of (cells b t)) i ≡ Some d
unfolding cells
cell-stands b t i d valid below is =
    let got = each_get (cell b t) 0 (len_of t) _ (valid_is (cells b t) valid) i below in
    let same : 0 + i ≡ i = omega arith in
    let P : ℕ → Type 0 = λ k. cell b t k ≡ Ok got.0 in
    let here : cell b t i ≡ Ok got.0 = subst P same got.2 in
    let equal : got.0 ≡ d = cc in
    got.1 ∙ ap (λ x. Some x) equal

-- a column's faults are those of its buffers, or else those of its cells
pub column-layout : (b : List ℕ) (t : Rose ArrayData) (c : StreamFault) → FailsWith (faults_in b t) c
    → FailsWith (column_of b t) c
unfolding column_of
column-layout b t c stands = by_cases (faults_in b t) stands where
  by_cases : (m : Reading (Unit {0})) → FailsWith m c → FailsWith (m >>= λ u. cells b t) c
  by_cases (Ok u) h = absurd h
  by_cases (Err fs) h = h

pub column-cells : (b : List ℕ) (t : Rose ArrayData) → IsValid (faults_in b t) → column_of b t ≡ cells b t
unfolding column_of
column-cells b t valid = by_cases (faults_in b t) valid where
  by_cases : (m : Reading (Unit {0})) → IsValid m → (m >>= λ u. cells b t) ≡ cells b t
  by_cases (Ok u) h = refl
  by_cases (Err fs) h = absurd h

pub column-valid : (b : List ℕ) (t : Rose ArrayData) → IsValid (faults_in b t) → IsValid (cells b t)
    → column_of b t ≡ Ok (valid_of (cells b t))
column-valid b t layout valid = column-cells b t layout ∙ valid_is (cells b t) valid

pub column-faults : (b : List ℕ) (t : Rose ArrayData) (c : StreamFault) → IsValid (faults_in b t) → FailsWith (cells b t) c
    → FailsWith (column_of b t) c
column-faults b t c layout stands = let P : Reading (List Datum)
    → Type 0 = λ m. FailsWith m c in subst P (sym (column-cells b t layout)) stands

pub cell-read :
    {E : Type 0} (r : Result Datum E) (b : List ℕ) (t : Rose ArrayData) (i : ℕ) → IsValid (cells b t) → i < len_of t
    → IfOk r (λ v. cell b t i ≡ Ok v) → IfOk r (λ v. slice_get (valid_of (cells b t)) i ≡ Some v)
cell-read (Ok d) b t i valid below is = cell-stands b t i d valid below is
cell-read (Err e) b t i valid below is = tt

-- the same by names of the body and of the cells
pub cell-copied :
    {E : Type 0} (r : Result Datum E) (b a : List ℕ) (t : Rose ArrayData) (ds : List Datum) (i : ℕ) → a ≡ b
    → valid_of (cells b t) ≡ ds
    → IsValid (cells b t) → i < length ds → IfOk r (λ v. cell a t i ≡ Ok v) → IfOk r (λ v. slice_get ds i ≡ Some v)
cell-copied {E = E} r b a t ds i same are valid below is =
    let P : List ℕ → Type 0 = λ x. IfOk r (λ v. cell x t i ≡ Ok v) in
    let Q : List Datum → Type 0 = λ xs. IfOk r (λ v. slice_get xs i ≡ Some v) in
    let all = cells-length b t valid in
    let many : length (valid_of (cells b t)) ≡ length ds = ap length are in
    let within : i < len_of t = omega (arith, below, all, many) in
    subst Q are (cell-read r b t i valid within (subst P same is))

-- the same by names of the body and of the array

pub parts-sound : (b a : List ℕ) (t u : Rose ArrayData) → a ≡ b → u ≡ t → IsSound b t → IsSound a u
parts-sound b a t u same is sound =
    let P : List ℕ → Type 0 = λ x. IsSound x u in
    subst P (sym same) (subst (IsSound b) (sym is) sound)

pub parts-cells : (b a : List ℕ) (t u : Rose ArrayData) (ds : List Datum) → a ≡ b → u ≡ t → valid_of (cells b t) ≡ ds
    → IsValid (cells b t) → cells a u ≡ Ok ds
parts-cells b a t u ds same is are valid =
    ap (λ x. cells x u) same ∙ ap (cells b) is ∙ valid_is (cells b t) valid ∙ ap (λ xs. Ok xs) are

pub ruleset column_laws = (cells-length, cell-valid, column-layout, column-valid, column-faults)

capped_says : (r w : ℕ) → r ≡ capped w → Says r w
unfolding capped
capped_says r w is = record {
  exact = λ h. grind arith;
  heavy = λ h. grind arith;
  bound = grind arith;
}

-- what is known of a cell's weight
pub cell-weighed :
    (r : ℕ) (b a : List ℕ) (t : Rose ArrayData) (ls : Rose Layout) (ds : List Datum) (i : ℕ) → a ≡ b → layout_of t ≡ ls
    → valid_of (cells b t) ≡ ds
    → IsSound b t → IsValid (cells b t) → i < length ds → r ≡ capped (weight_at a t i)
    → IfSome (slice_get ds i) (λ d. Says r (weight ls d))
cell-weighed r b a t ls ds i same typed are sound valid below is =
    let all = cells-length b t valid in
    let many : length (valid_of (cells b t)) ≡ length ds = ap length are in
    let within : i < len_of t = omega (arith, below, all, many) in
    let read = valid_Ok (cell b t i) (cell-valid b t i valid within) in
    let weighs : weight_at b t i ≡ weight (layout_of t) read.0 = cell_weighs b t i read.0 sound within read.1 in
    let stands : slice_get (valid_of (cells b t)) i ≡ Some read.0 = cell-stands b t i read.0 valid within read.1 in
    let A : List ℕ → Type 0 = λ x. r ≡ capped (weight_at x t i) in
    let W : ℕ → Type 0 = λ n. r ≡ capped n in
    let S : Option Datum → Type 0 = λ o. IfSome o (λ d. Says r (weight (layout_of t) d)) in
    let L : Rose Layout → Type 0 = λ l. IfSome (slice_get (valid_of (cells b t)) i) (λ d. Says r (weight l d)) in
    let D : List Datum → Type 0 = λ xs. IfSome (slice_get xs i) (λ d. Says r (weight ls d)) in
    subst D are
    (subst L typed
    (subst S (sym stands) (capped_says r (weight (layout_of t) read.0) (subst W weighs (subst A same is)))))
