-- What it means for offsets to rise.
use Rattle.std.proofs.Common.{
  ◌≡◌,
  ℕ,
  zero,
  suc,
  List,
  ◌+◌,
  ◌*◌,
  ◌<◌,
  ◌≤◌,
  Bool,
  true,
  false,
  ◌&&◌,
  length,
  refl,
  arith,
  inl,
  inr,
  subst,
}
use Rattle.std.proofs.lemmas.Bool.{cases_lt, lt-leb}
use Rattle.values.specs.declared.layout.OffsetWidth.{OffsetWidth}
use Rattle.values.specs.Layouts.{offset_bytes}
use Rattle.array_layout.specs.Buffers.{offset_at, is_rising}
use Rattle.array_layout.specs.Sound.{AreFit}

false_left : (a b : Bool) → a ≡ false → (a && b) ≡ false
false_left true b e = cc
false_left false b e = refl

false_right : (a b : Bool) → b ≡ false → (a && b) ≡ false
false_right true b e = e
false_right false b e = refl

true_left : (a b : Bool) → (a && b) ≡ true → a ≡ true
true_left true b e = refl
true_left false b e = e

-- an offset that falls
pub is_rising-falls : (o : OffsetWidth) (offsets : List ℕ) (n i : ℕ) → i < n
    → offset_at o offsets (i + 1) < offset_at o offsets i → is_rising o offsets n ≡ false
unfolding is_rising
is_rising-falls o offsets zero i below falls = absurd (omega (arith, below))
is_rising-falls o offsets (suc n) i below falls = elim (cases_lt i n) [
  | inl less ↦ false_left _ _ (is_rising-falls o offsets n i less falls)
  | inr least ↦
      let same : i ≡ n = omega (arith, below, least) in
      let P : ℕ → Type 0 = λ k. offset_at o offsets (k + 1) < offset_at o offsets k in
      false_right (is_rising o offsets n) _ (lt-leb _ _ (subst P same falls))
]

-- no offset falls
pub is_rising-step : (o : OffsetWidth) (offsets : List ℕ) (n i : ℕ) → is_rising o offsets n ≡ true → i < n
    → offset_at o offsets i ≤ offset_at o offsets (i + 1)
is_rising-step o offsets n i all below = elim (cases_lt (offset_at o offsets (i + 1)) (offset_at o offsets i)) [
  | inl falls ↦ let never : is_rising o offsets n ≡ false = is_rising-falls o offsets n i below falls in absurd (cc)
  | inr rises ↦ rises
]

-- so each is at most the last
pub is_rising-last : (o : OffsetWidth) (offsets : List ℕ) (n i : ℕ) → is_rising o offsets n ≡ true → i ≤ n
    → offset_at o offsets i ≤ offset_at o offsets n
unfolding is_rising
is_rising-last o offsets zero i all below = let same : i ≡ 0 = omega (arith, below) in let P : ℕ
    → Type 0 = λ k. offset_at o offsets i ≤ offset_at o offsets k in subst P same (omega arith)
is_rising-last o offsets (suc n) i all below = elim (cases_lt n i) [
  | inl above ↦
      let same : i ≡ suc n = omega (arith, below, above) in
      let P : ℕ → Type 0 = λ k. offset_at o offsets i ≤ offset_at o offsets k in subst P same (omega arith)
  | inr within ↦
      let before : offset_at o offsets i ≤ offset_at o offsets n =
      is_rising-last o offsets n i (true_left _ _ all) within in
      let step : offset_at o offsets n ≤ offset_at o offsets (n + 1) =
      is_rising-step o offsets (suc n) n all (omega arith) in
      let P : ℕ → Type 0 = λ k. offset_at o offsets i ≤ offset_at o offsets k in
      let next : n + 1 ≡ suc n = omega arith in
      subst P next (omega (arith, before, step))
]

-- offsets that pass the check are valid for texts
pub are_fit : (o : OffsetWidth) (offsets : List ℕ) (n limit : ℕ) → offset_bytes o * (n + 1) ≤ length offsets
    → is_rising o offsets n ≡ true → offset_at o offsets n ≤ limit → AreFit o offsets n limit
are_fit o offsets n limit room rising last = record {
  room = room;
  rising = λ i below. is_rising-step o offsets n i rising below;
  within = λ i below. let most : offset_at o offsets (i + 1) ≤ offset_at o offsets n =
      is_rising-last o offsets n (i + 1) rising (omega (arith, below)) in omega (arith, most, last);
}

pub room_by : (w v n l : ℕ) → w ≡ v → w * (n + 1) ≤ l → v * (n + 1) ≤ l
room_by w v n l same room = subst (λ (u : ℕ). u * (n + 1) ≤ l) same room

pub ruleset rising_steps = (is_rising-falls, are_fit)
