-- A validity bitmap that is written is read back.
use Rattle.std.proofs.Common.{
  ◌≡◌,
  ℕ,
  zero,
  suc,
  ◌+◌,
  ◌*◌,
  ◌/◌,
  ◌<◌,
  ◌≤◌,
  ◌==◌,
  List,
  [],
  ◌∷◌,
  length,
  get_or,
  true,
  false,
  Bool,
  Ok,
  refl,
  ap,
  sym,
  subst,
  ◌∙◌,
  arith,
  inl,
  inr,
}
use Rattle.std.specs.Prelude.{map, pos, ℤ, not, if◌then◌else◌}
use Rattle.std.specs.Ordering.{int_eq}
use Rattle.std.proofs.lemmas.Cmp.{int_eq_equiv}
use Rattle.std.proofs.lemmas.Bool.{le-ltb, cases_lt}
use Rattle.std.proofs.lemmas.Bool.Decides.{nat_tests}
use Rattle.std.proofs.lemmas.List.{length-map, get_or-map}
use Rattle.bitmaps.specs.Bits.{bit_at, bits_at, ones}
use Rattle.bitmaps.specs.Packed.{bytes_of}
use Rattle.bitmaps.proofs.PackLemmas.{bits-back, length-bytes_of}
use Rattle.bitmaps.proofs.Runs.{get_or-bits_at}
use Rattle.values.specs.Datum.{Datum, null}
use Rattle.array_layout.specs.Buffers.{zeros, is_null}
use Rattle.array_layout.specs.Sound.{validity_of, bits_of}
use Rattle.body_writer.specs.Slots.{is_valid, null_count, truth_in}
use Rattle.body_writer.specs.Columns.{validity, truths}

not-zero : (n : ℕ) → 0 < n → (n == 0) ≡ false
not-zero n h = grind (arith, nat_tests)

some-of : {A : Type 0} (n : ℕ) (x y : A) → 0 < n → (if n == 0 then x else y) ≡ y
some-of n x y h = grind (arith, nat_tests)

-- bits, one for each cell

bit-back : (bs : List Bool) (i : ℕ) → i < length bs → bit_at (bytes_of bs) i ≡ get_or bs i false
bit-back bs i h =
    let e : 0 + i ≡ i = omega arith in
    ap (λ k. bit_at (bytes_of bs) k) (sym e) ∙ sym (get_or-bits_at (bytes_of bs) 0 (length bs) i h)
    ∙ ap (λ xs. get_or xs i false) (bits-back bs)

cell-bit : (f : Datum → Bool) (cs : List Datum) (i : ℕ) → i < length cs → f null ≡ false
    → bit_at (bytes_of (map f cs)) i ≡ f (get_or cs i null)
cell-bit f cs i h e =
    let same = length-map cs f in
    bit-back (map f cs) i (omega (arith, h, same)) ∙ get_or-map f cs i null false h

bits-length : (f : Datum → Bool) (cs : List Datum) → length (bytes_of (map f cs)) ≡ (length cs + 7) / 8
bits-length f cs = length-bytes_of (map f cs) ∙ ap (λ n. (n + 7) / 8) (length-map cs f)

pub truths-length : (cs : List Datum) → length (truths cs) ≡ (length cs + 7) / 8
unfolding truths
truths-length cs = bits-length truth_in cs

pub truth-read : (cs : List Datum) (i : ℕ) → i < length cs → bit_at (truths cs) i ≡ truth_in (get_or cs i null)
unfolding truths
truth-read cs i h = cell-bit truth_in cs i h refl

pub truths-sound : (cs : List Datum) → bits_of (truths cs) (length cs) ≡ Ok tt
unfolding bits_of
truths-sound cs =
    let long = truths-length cs in
    rw (le-ltb (8 * length (truths cs)) (length cs) (omega (arith, long))) refl

-- nulls

pub null_count-le : (cs : List Datum) → null_count cs ≤ length cs
null_count-le [] = omega arith
null_count-le (c ∷ cs) =
    let rest = null_count-le cs in
    elim (is_valid c) as (λ b. (if b then 0 else 1) + null_count cs ≤ length (c ∷ cs))
    [ true ↦ omega (arith, rest) | false ↦ omega (arith, rest) ]

nulls-and-ones : (cs : List Datum) → null_count cs + ones (map is_valid cs) ≡ length cs
unfolding ones
nulls-and-ones [] = refl
nulls-and-ones (c ∷ cs) =
    let rest = nulls-and-ones cs in
    elim (is_valid c) as
    (λ b. ((if b then 0 else 1) + null_count cs) + ((if b then 1 else 0) + ones (map is_valid cs)) ≡ length
    (c ∷ cs)) [ true ↦ omega (arith, rest) | false ↦ omega (arith, rest) ]

zeros-all : (cs : List Datum) → zeros (bytes_of (map is_valid cs)) (length cs) ≡ null_count cs
unfolding zeros
zeros-all cs =
    let same : length (map is_valid cs) ≡ length cs = length-map cs is_valid in
    let back : bits_at (bytes_of (map is_valid cs)) 0 (length cs) ≡ map is_valid cs =
    ap (λ n. bits_at (bytes_of (map is_valid cs)) 0 n) (sym same) ∙ bits-back (map is_valid cs) in
    let all = nulls-and-ones cs in
    let count : ones (bits_at (bytes_of (map is_valid cs)) 0 (length cs)) ≡ ones (map is_valid cs) = ap ones back in
    omega (arith, all, count)

no-validity : (cs : List Datum) → null_count cs ≡ 0 → validity cs ≡ []
unfolding validity
no-validity cs h = rw h refl

some-validity : (cs : List Datum) → 0 < null_count cs → validity cs ≡ bytes_of (map is_valid cs)
unfolding validity
some-validity cs h = some-of (null_count cs) [] (bytes_of (map is_valid cs)) h

same-number : (z : ℤ) → int_eq z z ≡ true
same-number z = int_eq_equiv.refl z

checked-validity : (bits : List ℕ) (n nulls : ℕ) → 0 < length bits → n ≤ 8 * length bits → zeros bits n ≡ nulls
    → validity_of bits n (pos nulls) ≡ Ok tt
unfolding validity_of
checked-validity bits n nulls some room e =
    rw (not-zero (length bits) some, le-ltb (8 * length bits) n room, e, same-number (pos nulls)) refl

empty-validity : (n nulls : ℕ) → nulls ≡ 0 → validity_of [] n (pos nulls) ≡ Ok tt
unfolding validity_of
empty-validity n nulls e = rw e refl

pub validity-sound : (cs : List Datum) → validity_of (validity cs) (length cs) (pos (null_count cs)) ≡ Ok tt
validity-sound cs =
    let P : List ℕ → Type 0 = λ bits. validity_of bits (length cs) (pos (null_count cs)) ≡ Ok tt in
    let long = bits-length is_valid cs in
    let le = null_count-le cs in
    elim (cases_lt 0 (null_count cs)) [
      | inl some ↦
          subst P (sym (some-validity cs some))
          (checked-validity (bytes_of (map is_valid cs)) (length cs) (null_count cs) (omega (arith, long, le, some))
          (omega (arith, long)) (zeros-all cs))
      | inr none ↦
          let z : null_count cs ≡ 0 = omega (arith, none) in
          subst P (sym (no-validity cs z)) (empty-validity (length cs) (null_count cs) z)
    ]

pub validity-length : (cs : List Datum) → length (validity cs) ≤ (length cs + 7) / 8
validity-length cs =
    let long = bits-length is_valid cs in
    elim (cases_lt 0 (null_count cs)) [
      | inl some ↦ let e = ap length (some-validity cs some) in omega (arith, long, e)
      | inr none ↦ let z : null_count cs ≡ 0 = omega (arith, none) in let e = ap length (no-validity cs z) in
          omega (arith, e)
    ]

all-valid : (cs : List Datum) (i : ℕ) → null_count cs ≡ 0 → i < length cs → is_valid (get_or cs i null) ≡ true
all-valid [] i z h = absurd (omega (arith, h))
all-valid (null ∷ cs) i z h = absurd (omega (arith, z))
all-valid (c ∷ cs) zero z h = refl
all-valid (c ∷ cs) (suc i) z h = all-valid cs i (omega (arith, z)) (omega (arith, h))

some-bits : (bits : List ℕ) (i : ℕ) → 0 < length bits → is_null bits i ≡ not (bit_at bits i)
unfolding is_null
some-bits bits i h = some-of (length bits) false (not (bit_at bits i)) h

pub null-read : (cs : List Datum) (i : ℕ) → i < length cs → is_null (validity cs) i ≡ not (is_valid (get_or cs i null))
unfolding is_null
null-read cs i h = elim (cases_lt 0 (null_count cs)) [
  | inl some ↦
      let long = bits-length is_valid cs in
      rw (some-validity cs some) (some-bits (bytes_of (map is_valid cs)) i (omega (arith, long, h))
      ∙ ap not (cell-bit is_valid cs i h refl))
  | inr none ↦
      let z : null_count cs ≡ 0 = omega (arith, none) in
      rw (no-validity cs z, all-valid cs i z h) refl
]
