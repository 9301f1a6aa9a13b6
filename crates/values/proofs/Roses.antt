-- Lemmas on trees and their children, for loops over the children of a node.
use Rattle.std.proofs.Common.{
  ◌≡◌,
  ℕ,
  zero,
  suc,
  ◌+◌,
  ◌<◌,
  ◌≤◌,
  List,
  [],
  ◌∷◌,
  ◌++◌,
  length,
  drop,
  get_or,
  refl,
  ap,
  sym,
  subst,
  arith,
}
use Rattle.values.specs.Rose.{Rose, Roses, none, more, kids_of, join, rose_size, roses_size}

-- the children from number k on, as a loop meets them
pub kids_step :
    {A : Type 0} (ts : List (Rose A)) (k : ℕ) (e d : Rose A) → e ≡ get_or ts k d → k < length ts
    → kids_of (drop k ts) ≡ more e (kids_of (drop (k + 1) ts))
kids_step [] k e d h l = absurd (omega arith)
kids_step (t ∷ ts) zero e d h l = ap (λ u. more u (kids_of ts)) (sym h)
kids_step (t ∷ ts) (suc k) e d h l =
    let j : suc k + 1 ≡ suc (k + 1) = omega arith in
    rw j (kids_step ts k e d h (omega arith))

pub kids_end : {A : Type 0} (ts : List (Rose A)) (k : ℕ) → length ts ≤ k → kids_of (drop k ts) ≡ none
kids_end [] zero h = refl
kids_end [] (suc k) h = refl
kids_end (t ∷ ts) zero h = absurd (omega arith)
kids_end (t ∷ ts) (suc k) h = kids_end ts k (omega arith)

pub join_more : {A : Type 0} (ts : List (Rose A)) (t : Rose A) (rest : Roses A)
    → join (ts ++ t ∷ []) rest ≡ join ts (more t rest)
join_more [] t rest = refl
join_more (u ∷ ts) t rest = ap (λ r. more u r) (join_more ts t rest)

pub join_none : {A : Type 0} (ts : List (Rose A)) → join ts none ≡ kids_of ts
join_none [] = refl
join_none (t ∷ ts) = ap (λ r. more t r) (join_none ts)

-- no child is larger than all together
pub kid_smaller :
    {A : Type 0} (ts : List (Rose A)) (k : ℕ) (e d : Rose A) → e ≡ get_or ts k d → k < length ts
    → rose_size e ≤ roses_size (kids_of ts)
kid_smaller [] k e d h l = absurd (omega arith)
kid_smaller (t ∷ ts) zero e d h l = let s : rose_size e ≡ rose_size t = ap rose_size h in omega arith
kid_smaller (t ∷ ts) (suc k) e d h l =
    let s : rose_size e ≤ roses_size (kids_of ts) = kid_smaller ts k e d h (omega arith) in omega arith

-- what holds of all children holds of each
pub kid_within :
    {A : Type 0} (P : Rose A → Type 0) (Ps : Roses A → Type 0) → ((t : Rose A) (ts : Roses A) → Ps (more t ts) → P t)
    → ((t : Rose A) (ts : Roses A) → Ps (more t ts) → Ps ts) → (ts : List (Rose A)) (k : ℕ) (e d : Rose A)
    → e ≡ get_or ts k d
    → k < length ts → Ps (kids_of ts) → P e
kid_within P Ps hd tl [] k e d h l p = absurd (omega arith)
kid_within P Ps hd tl (t ∷ ts) zero e d h l p = subst P (sym h) (hd t (kids_of ts) p)
kid_within P Ps hd tl (t ∷ ts) (suc k) e d h l p =
    kid_within P Ps hd tl ts k e d h (omega arith) (tl t (kids_of ts) p)

pub ruleset children = (kids_step, kids_end, join_more, join_none, kid_smaller)
