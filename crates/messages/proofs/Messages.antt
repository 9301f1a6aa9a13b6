-- The first message of some bytes, and its reading with more bytes.
use Rattle.std.proofs.Common.{
  ◌≡◌,
  ◌⊎◌,
  inl,
  inr,
  ℕ,
  ◌+◌,
  ◌-◌,
  ◌<◌,
  ◌≤◌,
  Option,
  None,
  Some,
  Ok,
  Err,
  List,
  ◌++◌,
  length,
  take,
  drop,
  refl,
  ap,
  sym,
  subst,
  ◌∙◌,
  arith,
  length-append,
  length-drop,
  Bool,
  true,
  false,
}
use Rattle.std.specs.Prelude.{slice_range, is_some, if◌then◌else◌}
use Rattle.std.proofs.lemmas.List.{take-append-le, drop-append-le}
use Rattle.byteorder.specs.Endian.{little_number}
use Rattle.byteorder.specs.Numbers.{little_from-append}
use Rattle.values.specs.declared.faults.StreamFault.{StreamFault}
use Rattle.values.specs.declared.faults.StreamFault.TheVariants as fault
use Rattle.values.specs.Reading.{Faults, Reading, FailsWith, Fails, one}
use Rattle.values.proofs.Readings.{fails_along}
use Rattle.schema_meta.specs.Stage.{Known, Whole, end_meta, end_of}
use Rattle.schema_meta.specs.Message.{meta_of}
use Rattle.schema_meta.specs.Framing.{framed, end_mark, first}
use Rattle.messages.proofs.Stages.{staged_stable, staged_there, staged_beyond}

-- the sizes of a message, as its first bytes have them
abbrev pub sizes_at : List ℕ → Reading ℕ
sizes_at bytes = framed (little_number 4 bytes) (little_number 4 (drop 4 bytes))

pub same_sizes : (bytes more : List ℕ) → 8 ≤ length bytes → sizes_at (bytes ++ more) ≡ sizes_at bytes
same_sizes bytes more h =
    let k : little_number 4 (bytes ++ more) ≡ little_number 4 bytes = little_from-append 4 bytes more (omega arith) in
    let d : drop 4 (bytes ++ more) ≡ drop 4 bytes ++ more = drop-append-le 4 bytes more (omega arith) in
    let l : 4 ≤ length (drop 4 bytes) = omega (arith, length-drop 4 bytes) in
    let j : little_number 4 (drop 4 bytes ++ more) ≡ little_number 4 (drop 4 bytes) =
    little_from-append 4 (drop 4 bytes) more l in
    ap (λ m. framed m (little_number 4 (drop 4 (bytes ++ more)))) k
    ∙ ap (λ n. framed (little_number 4 bytes) n) (ap (λ ds. little_number 4 ds) d ∙ j)

pub same_range :
    (bytes more : List ℕ) (k : ℕ) → 8 + k ≤ length bytes
    → slice_range (bytes ++ more) 8 (8 + k) ≡ slice_range bytes 8 (8 + k)
same_range bytes more k h =
    ap (λ ds. take (8 + k - 8) ds) (drop-append-le 8 bytes more (omega arith))
    ∙ take-append-le (8 + k - 8) (drop 8 bytes) more (omega (arith, length-drop 8 bytes))

same_meta :
    (known : Known) (bytes more : List ℕ) (k : ℕ) → 8 + k ≤ length bytes
    → meta_of known (slice_range (bytes ++ more) 8 (8 + k)) ≡ meta_of known (slice_range bytes 8 (8 + k))
same_meta known bytes more k h = ap (meta_of known) (same_range bytes more k h)

mark_there :
    (b : Bool) (v : Whole)
    → (if b then Ok (Some (record { front = 8; meta = end_meta })) else Err (one fault.NoSchema)) ≡ Ok (Some v)
    → (v.front ≡ 8) × (v.meta.body ≡ 0)
mark_there true v h =
    let e : record { front = 8; meta = end_meta } ≡ v = cc in
    subst (λ (u : Whole). (u.front ≡ 8) × (u.meta.body ≡ 0)) e (refl, refl)
mark_there false v h = absurd (cc)

mark_ends : (known : Known) (v : Whole) → end_mark known ≡ Ok (Some v) → (v.front ≡ 8) × (v.meta.body ≡ 0)
mark_ends known v h = mark_there (is_some known.schema) v h

-- Either no message is whole yet and no fault is found, or more bytes change nothing.
pub first_stable :
    (known : Known) (bytes more : List ℕ)
    → (first known bytes ≡ Ok None) ⊎ (first known (bytes ++ more) ≡ first known bytes)
unfolding first
first_stable known bytes more =
    staged_stable (length bytes) (length (bytes ++ more)) (sizes_at bytes) (sizes_at (bytes ++ more)) (end_mark known)
    (λ k. meta_of known (slice_range bytes 8 (8 + k))) (λ k. meta_of known (slice_range (bytes ++ more) 8 (8 + k)))
    (omega (arith, length-append bytes more)) (same_sizes bytes more) (same_meta known bytes more)

-- a whole message lies within the bytes
pub first_within :
    (known : Known) (bytes : List ℕ) (w : Whole) → first known bytes ≡ Ok (Some w)
    → (8 ≤ w.front) × (end_of w ≤ length bytes)
unfolding first
first_within known bytes w h =
    staged_there (length bytes) (sizes_at bytes) (end_mark known) (λ k. meta_of known (slice_range bytes 8 (8 + k))) w
    (mark_ends known) h

-- what was not whole ends beyond
pub first_beyond :
    (known : Known) (bytes more : List ℕ) (w : Whole) → first known bytes ≡ Ok None
    → first known (bytes ++ more) ≡ Ok (Some w)
    → length bytes < end_of w
unfolding first
first_beyond known bytes more w p q =
    staged_beyond (length bytes) (length (bytes ++ more)) (sizes_at bytes) (sizes_at (bytes ++ more)) (end_mark known)
    (λ k. meta_of known (slice_range bytes 8 (8 + k))) (λ k. meta_of known (slice_range (bytes ++ more) 8 (8 + k))) w
    (omega (arith, length-append bytes more)) (mark_ends known) (same_sizes bytes more) (same_meta known bytes more) p q

-- more bytes change no whole message
pub whole_stays :
    (known : Known) (bytes more : List ℕ) (w : Whole) → first known bytes ≡ Ok (Some w)
    → first known (bytes ++ more) ≡ Ok (Some w)
whole_stays known bytes more w h =
    elim (first_stable known bytes more) [ inl n ↦ absurd (cc) | inr e ↦ e ∙ h ]

-- nor the faults
pub faults_stay :
    (known : Known) (bytes more : List ℕ) (fs : Faults) → first known bytes ≡ Err fs
    → first known (bytes ++ more) ≡ Err fs
faults_stay known bytes more fs h =
    elim (first_stable known bytes more) [ inl n ↦ absurd (cc) | inr e ↦ e ∙ h ]

-- each of them by itself
pub fault_stays :
    (known : Known) (bytes more : List ℕ) (c : StreamFault) → FailsWith (first known bytes) c
    → FailsWith (first known (bytes ++ more)) c
fault_stays known bytes more c h =
    let P : Reading (Option Whole) → Type 0 = λ m. FailsWith m c in
    elim (first_stable known bytes more) [ inl n ↦ absurd (subst P n h) | inr e ↦ subst P (sym e) h ]

pub fails_stays :
    (known : Known) (bytes more : List ℕ) (c : StreamFault) → Fails c (first known bytes)
    → Fails c (first known (bytes ++ more))
fails_stays known bytes more c h =
    fails_along c (first known bytes) (first known (bytes ++ more)) (λ d. fault_stays known bytes more d) h
