-- Readings one after the other, by ranges and by runs of slots that are all null or all valid.
use Rattle.std.proofs.Common.{
  ◌≡◌,
  inl,
  inr,
  ℕ,
  zero,
  suc,
  ◌+◌,
  ◌-◌,
  ◌<◌,
  ◌≤◌,
  List,
  Bool,
  length,
  length-drop,
  drop,
  refl,
  true,
  false,
  sym,
  subst,
  ◌∙◌,
  arith,
}
use Rattle.std.specs.Prelude.{Ok, if◌then◌else◌}
use Rattle.std.proofs.lemmas.Bool.{cases_lt}
use Rattle.std.proofs.lemmas.List.{length-take}
use Rattle.values.specs.declared.faults.StreamFault.{StreamFault}
use Rattle.values.specs.Datum.{Datum, null}
use Rattle.values.specs.Reading.{Reading, cons, each, FailsWith, IsValid, Decides}
use Rattle.values.proofs.Readings.{
  both_left,
  both_right,
  both_valid,
  stands_both,
  valid_left,
  valid_right,
  valid_each,
  stands_each,
  each_none,
  decides_end,
  decides_fault,
  decides_self,
}
use Rattle.array_layout.specs.declared.array.BufferRange.{BufferRange}
use Rattle.array_layout.specs.Placing.{bytes_of}
use Rattle.array_layout.specs.Buffers.{is_null}
use Rattle.array_layout.specs.Sound.{LiesIn}
use Rattle.arrays.specs.Ranges.{where_valid}

-- a range in two parts
pub valid-parts : {X : Type 0} (f : ℕ → Reading X) (i m n : ℕ) → IsValid (each f i m) → IsValid (each f (i + m) n)
    → IsValid (each f i (m + n))
unfolding each
valid-parts f i zero n p q =
    let z : 0 + n ≡ n = omega arith in
    let e : i + 0 ≡ i = omega arith in
    let P : ℕ → Type 0 = λ k. IsValid (each f i k) in
    let Q : ℕ → Type 0 = λ k. IsValid (each f k n) in
    subst P (sym z) (subst Q e q)
valid-parts f i (suc m) n p q =
    let z : suc m + n ≡ suc (m + n) = omega arith in
    let e : i + suc m ≡ i + 1 + m = omega arith in
    let P : ℕ → Type 0 = λ k. IsValid (each f i k) in
    let Q : ℕ → Type 0 = λ k. IsValid (each f k n) in
    subst P (sym z)
    (both_valid cons (f i) (each f (i + 1) (m + n)) (valid_left cons (f i) (each f (i + 1) m) p)
    (valid-parts f (i + 1) m n (valid_right cons (f i) (each f (i + 1) m) p) (subst Q e q)))

pub stands-front :
    {X : Type 0} (f : ℕ → Reading X) (i m n : ℕ) (c : StreamFault) → FailsWith (each f i m) c
    → FailsWith (each f i (m + n)) c
unfolding each
stands-front f i zero n c h = absurd h
stands-front f i (suc m) n c h =
    let z : suc m + n ≡ suc (m + n) = omega arith in
    let P : ℕ → Type 0 = λ k. FailsWith (each f i k) c in
    subst P (sym z)
    (elim (stands_both cons (f i) (each f (i + 1) m) c h) [
      | inl a ↦ both_left cons (f i) (each f (i + 1) (m + n)) c a
      | inr b ↦ both_right cons (f i) (each f (i + 1) (m + n)) c (stands-front f (i + 1) m n c b)
    ])

pub stands-back :
    {X : Type 0} (f : ℕ → Reading X) (i m n : ℕ) (c : StreamFault) → FailsWith (each f (i + m) n) c
    → FailsWith (each f i (m + n)) c
unfolding each
stands-back f i zero n c h =
    let z : 0 + n ≡ n = omega arith in
    let e : i + 0 ≡ i = omega arith in
    let P : ℕ → Type 0 = λ k. FailsWith (each f i k) c in
    let Q : ℕ → Type 0 = λ k. FailsWith (each f k n) c in
    subst P (sym z) (subst Q e h)
stands-back f i (suc m) n c h =
    let z : suc m + n ≡ suc (m + n) = omega arith in
    let e : i + suc m ≡ i + 1 + m = omega arith in
    let P : ℕ → Type 0 = λ k. FailsWith (each f i k) c in
    let Q : ℕ → Type 0 = λ k. FailsWith (each f k n) c in
    subst P (sym z) (both_right cons (f i) (each f (i + 1) (m + n)) c (stands-back f (i + 1) m n c (subst Q e h)))

-- the same of what a loop still has to do
pub range_step :
    {X W : Type 0} (f : ℕ → Reading X) (at end to : ℕ) (w : Reading W) → at ≤ end → end ≤ to
    → IsValid (each f at (end - at))
    → Decides (each f at (to - at)) w → Decides (each f end (to - end)) w
range_step f at end to w up in_range valid left =
    let n : (end - at) + (to - end) ≡ to - at = omega (arith, up, in_range) in
    let e : at + (end - at) ≡ end = omega (arith, up) in
    let P : ℕ → Type 0 = λ k. IsValid (each f at k) in
    let Q : ℕ → Type 0 = λ k. IsValid (each f k (to - end)) in
    let S : StreamFault → ℕ → Type 0 = λ c k. FailsWith (each f at k) c in
    let T : StreamFault → ℕ → Type 0 = λ c k. FailsWith (each f k (to - end)) c in
    record {
      valid = λ h. left.valid (subst P n (valid-parts f at (end - at) (to - end) valid (subst Q (sym e) h)));
      fault = λ c h. left.fault c (subst (S c) n (stands-back f at (end - at) (to - end) c (subst (T c) (sym e) h)));
    }

pub range_fault :
    {X W : Type 0} (f : ℕ → Reading X) (at end to : ℕ) (w : Reading W) (c : StreamFault) → at ≤ end → end ≤ to
    → FailsWith (each f at (end - at)) c
    → Decides (each f at (to - at)) w → FailsWith w c
range_fault f at end to w c up in_range stands left =
    let n : (end - at) + (to - end) ≡ to - at = omega (arith, up, in_range) in
    let S : ℕ → Type 0 = λ k. FailsWith (each f at k) c in
    left.fault c (subst S n (stands-front f at (end - at) (to - end) c stands))

-- what holds of each reading holds of all
pub each-valid : {X : Type 0} (f : ℕ → Reading X) (i n : ℕ) → ((k : ℕ) → i ≤ k → k < i + n → IsValid (f k))
    → IsValid (each f i n)
unfolding each
each-valid f i zero h = tt
each-valid f i (suc n) h =
    both_valid cons (f i) (each f (i + 1) n) (h i (omega arith) (omega arith))
    (each-valid f (i + 1) n (λ k a b. h k (omega (arith, a)) (omega (arith, b))))

pub each-same :
    {X : Type 0} (f g : ℕ → Reading X) (i n : ℕ) → ((k : ℕ) → i ≤ k → k < i + n → f k ≡ g k) → each f i n ≡ each g i n
unfolding each
each-same f g i zero h = refl
each-same f g i (suc n) h =
    let here = h i (omega arith) (omega arith) in
    let rest = each-same f g (i + 1) n (λ k a b. h k (omega (arith, a)) (omega (arith, b))) in
    rw (here, rest) refl

pub each-fault :
    {X : Type 0} (f : ℕ → Reading X) (i n k : ℕ) (c : StreamFault) → i ≤ k → k < i + n → FailsWith (f k) c
    → FailsWith (each f i n) c
unfolding each
each-fault f i zero k c low high h = absurd (omega (arith, low, high))
each-fault f i (suc n) k c low high h = elim (cases_lt i k) [
  | inl past ↦
      both_right cons (f i) (each f (i + 1) n) c
      (each-fault f (i + 1) n k c (omega (arith, past)) (omega (arith, high)) h)
  | inr here ↦
      let same : k ≡ i = omega (arith, low, here) in
      both_left cons (f i) (each f (i + 1) n) c (subst (λ (m : ℕ). FailsWith (f m) c) same h)
]

-- and the other way round
pub valid-at : {X : Type 0} (f : ℕ → Reading X) (i n k : ℕ) → IsValid (each f i n) → i ≤ k → k < i + n → IsValid (f k)
valid-at f i n k valid low high =
    let same : i + (k - i) ≡ k = omega (arith, low) in
    subst (λ (m : ℕ). IsValid (f m)) same (valid_each f i n valid (k - i) (omega (arith, low, high)))

pub fault-at :
    {X : Type 0} (f : ℕ → Reading X) (i n : ℕ) (c : StreamFault) → FailsWith (each f i n) c
    → (k : ℕ) × (i ≤ k) × (k < i + n) × FailsWith (f k) c
fault-at f i n c h = let r = stands_each f i n c h in (i + r.0, omega arith, omega (arith, r.1), r.2)

-- one slot
false-true : false ≡ true → ⊥
false-true h = absurd (cc)

null_here : (b : Bool) (m : Reading Datum) → b ≡ true → IsValid (if b then Ok null else m)
null_here true m h = tt
null_here false m h = absurd (false-true h)

valid_here : (b : Bool) (m : Reading Datum) → b ≡ false → (if b then Ok null else m) ≡ m
valid_here true m h = absurd (false-true (sym h))
valid_here false m h = refl

pub slot_null : (bits : List ℕ) (f : ℕ → Reading Datum) (i : ℕ) → is_null bits i ≡ true → IsValid (where_valid bits f i)
unfolding where_valid
slot_null bits f i h = null_here (is_null bits i) (f i) h

pub slot_valid : (bits : List ℕ) (f : ℕ → Reading Datum) (i : ℕ) → is_null bits i ≡ false → IsValid (f i)
    → IsValid (where_valid bits f i)
unfolding where_valid
slot_valid bits f i h valid = subst IsValid (sym (valid_here (is_null bits i) (f i) h)) valid

pub slot_fault :
    (bits : List ℕ) (f : ℕ → Reading Datum) (i : ℕ) (c : StreamFault) → is_null bits i ≡ false → FailsWith (f i) c
    → FailsWith (where_valid bits f i) c
unfolding where_valid
slot_fault bits f i c h stands =
    let P : Reading Datum → Type 0 = λ m. FailsWith m c in subst P (sym (valid_here (is_null bits i) (f i) h)) stands

-- a loop's fault, by what it still has to do
pub each_fault :
    {X W : Type 0} (f : ℕ → Reading X) (i n : ℕ) (w : Reading W) (c : StreamFault) → Decides (each f i (n - i)) w
    → i < n → FailsWith (f i) c → FailsWith w c
each_fault f i n w c left below stands = decides_fault f i n w c below stands left

pub slot_stands :
    {W : Type 0} (bits : List ℕ) (f : ℕ → Reading Datum) (i n : ℕ) (w : Reading W) (c : StreamFault)
    → Decides (each (where_valid bits f) i (n - i)) w → i < n → is_null bits i ≡ false → FailsWith (f i) c → FailsWith w c
slot_stands bits f i n w c left below h stands =
    decides_fault (where_valid bits f) i n w c below (slot_fault bits f i c h stands) left

pub ruleset slot_laws = (slot_null, slot_valid, slot_stands)

-- one run
pub run_null :
    {W : Type 0} (bits : List ℕ) (f : ℕ → Reading Datum) (at end to : ℕ) (w : Reading W) → is_null bits at ≡ true
    → ((k : ℕ) → at ≤ k → k < end → is_null bits k ≡ is_null bits at)
    → at < end → end ≤ to → Decides (each (where_valid bits f) at (to - at)) w
    → Decides (each (where_valid bits f) end (to - end)) w
run_null bits f at end to w null_at alike up in_range left =
    range_step (where_valid bits f) at end to w (omega (arith, up)) in_range
    (each-valid (where_valid bits f) at (end - at)
    (λ k a b. slot_null bits f k (alike k a (omega (arith, b, up)) ∙ null_at))) left

same_run :
    (bits : List ℕ) (f : ℕ → Reading Datum) (at end : ℕ) → is_null bits at ≡ false
    → ((k : ℕ) → at ≤ k → k < end → is_null bits k ≡ is_null bits at)
    → at < end → each f at (end - at) ≡ each (where_valid bits f) at (end - at)
unfolding where_valid
same_run bits f at end valid_at alike up =
    each-same f (where_valid bits f) at (end - at)
    (λ k a b. sym (valid_here (is_null bits k) (f k) (alike k a (omega (arith, b, up)) ∙ valid_at)))

pub run_valid :
    {W : Type 0} (bits : List ℕ) (f : ℕ → Reading Datum) (at end to : ℕ) (w : Reading W) → is_null bits at ≡ false
    → ((k : ℕ) → at ≤ k → k < end → is_null bits k ≡ is_null bits at)
    → at < end → end ≤ to → IsValid (each f at (end - at)) → Decides (each (where_valid bits f) at (to - at)) w
    → Decides (each (where_valid bits f) end (to - end)) w
run_valid bits f at end to w valid_at alike up in_range valid left =
    range_step (where_valid bits f) at end to w (omega (arith, up)) in_range
    (subst IsValid (same_run bits f at end valid_at alike up) valid) left

pub run_fault :
    {W : Type 0} (bits : List ℕ) (f : ℕ → Reading Datum) (at end to : ℕ) (w : Reading W) (c : StreamFault)
    → Decides (each (where_valid bits f) at (to - at)) w
    → is_null bits at ≡ false
    → ((k : ℕ) → at ≤ k → k < end → is_null bits k ≡ is_null bits at)
    → at < end → end ≤ to → FailsWith (each f at (end - at)) c → FailsWith w c
run_fault bits f at end to w c left valid_at alike up in_range stands =
    let P : Reading (List Datum) → Type 0 = λ m. FailsWith m c in
    range_fault (where_valid bits f) at end to w c (omega (arith, up)) in_range
    (subst P (same_run bits f at end valid_at alike up) stands) left

pub ruleset run_laws = (decides_self, run_null, run_valid, run_fault, decides_end)

-- no slots, no faults
pub none_valid : {X : Type 0} (f : ℕ → Reading X) (at to : ℕ) → to ≤ at → IsValid (each f at (to - at))
none_valid f at to over = subst IsValid (sym (each_none f at to over)) tt

pub ruleset no_slots = (none_valid)

-- how long a buffer is
pub buffer_long : (body : List ℕ) (s : BufferRange) → LiesIn body s → length (bytes_of body s) ≡ s.len
buffer_long body s lies =
    let cut = length-take (s.from + s.len - s.from) (drop s.from body) in
    let left = length-drop s.from body in
    omega (arith, cut, left, lies)
