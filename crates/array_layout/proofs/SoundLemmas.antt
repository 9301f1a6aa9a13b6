-- An array is sound where its own buffers are, and its children's.
use Rattle.std.proofs.Common.{◌≡◌, ℕ, List, ◌+◌, ◌*◌, ◌<◌, ◌≤◌, length, drop, get_or, subst, sym}
use Rattle.values.specs.declared.faults.StreamFault.{StreamFault}
use Rattle.values.specs.Reading.{Reading, second, FailsWith, IsValid, Decides}
use Rattle.values.proofs.Readings.{decides_self, decides_both, decides_both_fault}
use Rattle.values.specs.Rose.{Rose, node, Roses, none, more, kids_of}
use Rattle.values.proofs.Roses.{kids_step, kids_end, kid_within}
use Rattle.array_layout.specs.declared.array.ArrayData.{ArrayData}
use Rattle.array_layout.specs.Sound.{
  own_faults,
  faults_in,
  faults_below,
  first_len,
  HasRoom,
  IsPlaced,
  ArePlaced,
  IsSound,
  AreSound,
}

pub kid_placed :
    (b : List ℕ) (ts : List (Rose ArrayData)) (k : ℕ) (e d : Rose ArrayData) → e ≡ get_or ts k d → k < length ts
    → ArePlaced b (kids_of ts)
    → IsPlaced b e
kid_placed b ts k e d is below all =
    kid_within (IsPlaced b) (ArePlaced b) (λ t rest h. h.0) (λ t rest h. h.1) ts k e d is below all

pub kid_sound :
    (b : List ℕ) (ts : List (Rose ArrayData)) (k : ℕ) (e d : Rose ArrayData) → e ≡ get_or ts k d → k < length ts
    → AreSound b (kids_of ts)
    → IsSound b e
kid_sound b ts k e d is below all =
    kid_within (IsSound b) (AreSound b) (λ t rest h. h.0) (λ t rest h. h.1) ts k e d is below all

-- checking: what remains of the children decides the whole
pub below_start :
    (b : List ℕ) (p : ArrayData) (kids : Roses ArrayData) → IsValid (own_faults b p (first_len kids))
    → Decides (faults_below b kids) (faults_in b (node p kids))
below_start b p kids valid =
    decides_both second (own_faults b p (first_len kids)) (faults_below b kids) (faults_in b (node p kids)) valid
    (decides_self (faults_in b (node p kids)))

pub below_step :
    {W : Type 0} (b : List ℕ) (ts : List (Rose ArrayData)) (k : ℕ) (e d : Rose ArrayData) (w : Reading W)
    → e ≡ get_or ts k d → k < length ts
    → IsValid (faults_in b e) → Decides (faults_below b (kids_of (drop k ts))) w
    → Decides (faults_below b (kids_of (drop (k + 1) ts))) w
below_step b ts k e d w is below valid left =
    let P : Roses ArrayData → Type 0 = λ r. Decides (faults_below b r) w in
    decides_both second (faults_in b e) (faults_below b (kids_of (drop (k + 1) ts))) w valid
    (subst P (kids_step ts k e d is below) left)

pub below_fault :
    {W : Type 0} (b : List ℕ) (ts : List (Rose ArrayData)) (k : ℕ) (e d : Rose ArrayData) (w : Reading W)
    (c : StreamFault) → e ≡ get_or ts k d
    → k < length ts → FailsWith (faults_in b e) c → Decides (faults_below b (kids_of (drop k ts))) w → FailsWith w c
below_fault b ts k e d w c is below stands left =
    let P : Roses ArrayData → Type 0 = λ r. Decides (faults_below b r) w in
    decides_both_fault second (faults_in b e) (faults_below b (kids_of (drop (k + 1) ts))) w c stands
    (subst P (kids_step ts k e d is below) left)

pub below_end :
    {W : Type 0} (b : List ℕ) (ts : List (Rose ArrayData)) (k : ℕ) (w : Reading W) → length ts ≤ k
    → Decides (faults_below b (kids_of (drop k ts))) w → IsValid w
below_end b ts k w all left =
    let P : Roses ArrayData → Type 0 = λ r. Decides (faults_below b r) w in
    let done : Decides (faults_below b none) w = subst P (kids_end ts k all) left in
    done.valid tt

-- the facts: once those of the remaining children are known, so are those of the array
pub sound_start :
    (b : List ℕ) (p : ArrayData) (kids : Roses ArrayData) → IsPlaced b (node p kids)
    → (0 < p.validity.len → p.len ≤ 8 * p.validity.len)
    → HasRoom p.layout b p (first_len kids) → AreSound b kids → IsSound b (node p kids)
sound_start b p kids placed bits room sound = (record { own = placed.0; bits = bits; room = room }, placed.1, sound)

pub sound_step :
    (W : Type 0) (b : List ℕ) (ts : List (Rose ArrayData)) (k : ℕ) (e d : Rose ArrayData) → e ≡ get_or ts k d
    → k < length ts → IsSound b e
    → (AreSound b (kids_of (drop k ts)) → W) → AreSound b (kids_of (drop (k + 1) ts)) → W
sound_step W b ts k e d is below sound left rest =
    let P : Roses ArrayData → Type 0 = λ r. AreSound b r → W in
    let here : AreSound b (more e (kids_of (drop (k + 1) ts))) → W = subst P (kids_step ts k e d is below) left in
    here (sound, rest)

pub sound_end :
    (W : Type 0) (b : List ℕ) (ts : List (Rose ArrayData)) (k : ℕ) → length ts ≤ k
    → (AreSound b (kids_of (drop k ts)) → W) → W
sound_end W b ts k all left =
    let P : Roses ArrayData → Type 0 = λ r. AreSound b r → W in
    let done : AreSound b none → W = subst P (kids_end ts k all) left in
    done tt

-- the loop over the children, as one fact
pub record Left (b : List ℕ) (rest : Roses ArrayData) (t : Rose ArrayData) : Type 0 where
  pub decided : Decides (faults_below b rest) (faults_in b t)
  pub known : AreSound b rest → IsSound b t

left_first :
    (b : List ℕ) (p : ArrayData) (kids : Roses ArrayData) → IsPlaced b (node p kids)
    → IsValid (own_faults b p (first_len kids))
    → (0 < p.validity.len → p.len ≤ 8 * p.validity.len) → HasRoom p.layout b p (first_len kids)
    → Left b kids (node p kids)
left_first b p kids placed valid bits room = record {
  decided = below_start b p kids valid;
  known = λ rest. sound_start b p kids placed bits room rest;
}

pub left_start :
    (b : List ℕ) (t : Rose ArrayData) (p : ArrayData) (us ts : List (Rose ArrayData)) (n : ℕ) → node p (kids_of us) ≡ t
    → ts ≡ us
    → n ≡ first_len (kids_of ts) → IsPlaced b t → IsValid (own_faults b p n)
    → (0 < p.validity.len → p.len ≤ 8 * p.validity.len) → HasRoom p.layout b p n → Left b (kids_of ts) t
left_start b t p us ts n is same many placed valid bits room =
    let G : ℕ → Type 0 = λ k. IsValid (own_faults b p k) in
    let H : ℕ → Type 0 = λ k. HasRoom p.layout b p k in
    let K : List (Rose ArrayData) → Type 0 = λ vs. node p (kids_of vs) ≡ t in
    let whole : node p (kids_of ts) ≡ t = subst K (sym same) is in
    let P : Rose ArrayData → Type 0 = λ u. IsPlaced b u in
    let L : Rose ArrayData → Type 0 = λ u. Left b (kids_of ts) u in
    subst L whole
    (left_first b p (kids_of ts) (subst P (sym whole) placed) (subst G many valid) bits (subst H many room))

pub left_step :
    (b : List ℕ) (ts : List (Rose ArrayData)) (k : ℕ) (e d t : Rose ArrayData) → e ≡ get_or ts k d → k < length ts
    → IsValid (faults_in b e)
    → IsSound b e → Left b (kids_of (drop k ts)) t → Left b (kids_of (drop (k + 1) ts)) t
left_step b ts k e d t is below valid sound left =
    record {
      decided = below_step b ts k e d (faults_in b t) is below valid left.decided;
      known = sound_step (IsSound b t) b ts k e d is below sound left.known;
    }

pub left_fault :
    (b : List ℕ) (ts : List (Rose ArrayData)) (k : ℕ) (e d t : Rose ArrayData) (c : StreamFault) → e ≡ get_or ts k d
    → k < length ts
    → FailsWith (faults_in b e) c → Left b (kids_of (drop k ts)) t → FailsWith (faults_in b t) c
left_fault b ts k e d t c is below stands left = below_fault b ts k e d (faults_in b t) c is below stands left.decided

pub left_valid :
    (b : List ℕ) (ts : List (Rose ArrayData)) (k : ℕ) (t : Rose ArrayData) → length ts ≤ k
    → Left b (kids_of (drop k ts)) t → IsValid (faults_in b t)
left_valid b ts k t all left = below_end b ts k (faults_in b t) all left.decided

pub left_sound :
    (b : List ℕ) (ts : List (Rose ArrayData)) (k : ℕ) (t : Rose ArrayData) → length ts ≤ k
    → Left b (kids_of (drop k ts)) t → IsSound b t
left_sound b ts k t all left = sound_end (IsSound b t) b ts k all left.known

pub ruleset sounding = (kid_placed, left_start, left_step, left_fault, left_valid, left_sound)
