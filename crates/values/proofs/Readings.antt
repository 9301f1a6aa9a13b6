-- Lemmas on readings, for loops and combinations of readings.
use Rattle.std.proofs.Common.{
  ◌≡◌,
  ◌⊎◌,
  inl,
  inr,
  ℕ,
  zero,
  suc,
  ◌+◌,
  ◌-◌,
  ◌<◌,
  ◌≤◌,
  Ok,
  Err,
  List,
  [],
  ◌∷◌,
  ◌++◌,
  refl,
  ap,
  sym,
  subst,
  ◌∙◌,
  arith,
  append_assoc,
  append-nil,
  length,
  slice_get,
  Some,
  Option,
  None,
  get_or,
}
use Rattle.std.specs.Prelude.{All}
use Rattle.std.proofs.lemmas.Option.{get_or_from_slice_get}
use Rattle.values.specs.declared.faults.StreamFault.{StreamFault}
use Rattle.values.specs.declared.faults.StreamFault.TheVariants as fault
use Rattle.values.specs.Reading.{
  Reading,
  ReadingOf,
  ◌>>=◌,
  both,
  cons,
  mapped,
  must,
  each,
  FailsWith,
  IsValid,
  Fails,
  Decides,
  with_front,
}

-- A fault of a reading may be answered, and where another fault is read into the same one, that too.
pub fails-stands : {X : Type 0} (c : StreamFault) (m : Reading X) → FailsWith m c → Fails c m
fails-stands fault.Memory m h = tt
fails-stands _ m h = h

pub fails_along :
    {X Y : Type 0} (c : StreamFault) (m : Reading X) (w : Reading Y) → ((d : StreamFault) → FailsWith m d → FailsWith w d)
    → Fails c m
    → Fails c w
fails_along fault.Memory m w f h = tt
fails_along c m w f h = f c h

-- `both`: the faults of each side are the faults of the whole
pub both_left : {F X Y Z : Type 0} (g : X → Y → Z) (a : ReadingOf F X) (b : ReadingOf F Y) (c : F) → FailsWith a c
    → FailsWith (both g a b) c
both_left g (Ok x) b c h = absurd h
both_left g (Err fs) (Ok y) c h = h
both_left g (Err fs) (Err gs) c h = inl h

pub both_right : {F X Y Z : Type 0} (g : X → Y → Z) (a : ReadingOf F X) (b : ReadingOf F Y) (c : F) → FailsWith b c
    → FailsWith (both g a b) c
both_right g (Ok x) (Ok y) c h = absurd h
both_right g (Err fs) (Ok y) c h = absurd h
both_right g (Ok x) (Err gs) c h = h
both_right g (Err fs) (Err gs) c h = inr h

pub fails_left :
    {X Y Z : Type 0} (g : X → Y → Z) (a : Reading X) (b : Reading Y) (c : StreamFault) → Fails c a
    → Fails c (both g a b)
fails_left g a b c h = fails_along c a (both g a b) (λ d. both_left g a b d) h

pub fails_right :
    {X Y Z : Type 0} (g : X → Y → Z) (a : Reading X) (b : Reading Y) (c : StreamFault) → Fails c b
    → Fails c (both g a b)
fails_right g a b c h = fails_along c b (both g a b) (λ d. both_right g a b d) h

-- a fault of what is read first is one of the whole
pub bind_left :
    {F X Y : Type 0} (m : ReadingOf F X) (f : X → ReadingOf F Y) (c : F) → FailsWith m c → FailsWith (m >>= f) c
bind_left (Ok x) f c h = absurd h
bind_left (Err fs) f c h = h

pub fails_first :
    {X Y : Type 0} (m : Reading X) (f : X → Reading Y) (c : StreamFault) → Fails c m → Fails c (m >>= f)
fails_first m f c h = fails_along c m (m >>= f) (λ d. bind_left m f d) h

pub stands_mapped : {F X Y : Type 0} (f : X → Y) (m : ReadingOf F X) (c : F) → FailsWith m c → FailsWith (mapped f m) c
stands_mapped f (Ok x) c h = h
stands_mapped f (Err fs) c h = h

pub fails_mapped : {X Y : Type 0} (f : X → Y) (m : Reading X) (c : StreamFault) → Fails c m → Fails c (mapped f m)
fails_mapped f m c h = fails_along c m (mapped f m) (λ d. stands_mapped f m d) h

-- the answer of a caller for that of its callee
pub ruleset failing =
    (fails-stands, both_left, both_right, fails_left, fails_right, bind_left, fails_first, stands_mapped, fails_mapped)

pub both_valid : {F X Y Z : Type 0} (g : X → Y → Z) (a : ReadingOf F X) (b : ReadingOf F Y) → IsValid a → IsValid b
    → IsValid (both g a b)
both_valid g (Ok x) (Ok y) p q = tt
both_valid g (Ok x) (Err gs) p q = absurd q
both_valid g (Err fs) b p q = absurd p

pub valid_left : {F X Y Z : Type 0} (g : X → Y → Z) (a : ReadingOf F X) (b : ReadingOf F Y) → IsValid (both g a b)
    → IsValid a
valid_left g (Ok x) b h = tt
valid_left g (Err fs) (Ok y) h = absurd h
valid_left g (Err fs) (Err gs) h = absurd h

pub valid_right : {F X Y Z : Type 0} (g : X → Y → Z) (a : ReadingOf F X) (b : ReadingOf F Y) → IsValid (both g a b)
    → IsValid b
valid_right g a (Ok y) h = tt
valid_right g (Ok x) (Err gs) h = absurd h
valid_right g (Err fs) (Err gs) h = absurd h

-- `each`, one step of it in the form that a loop shows
pub each_step :
    {F X : Type 0} (f : ℕ → ReadingOf F X) (i n : ℕ) → i < n
    → each f i (n - i) ≡ both cons (f i) (each f (i + 1) (n - (i + 1)))
unfolding each
each_step f i n h =
    let k : n - i ≡ suc (n - (i + 1)) = omega arith in
    rw k refl

pub each_none : {F X : Type 0} (f : ℕ → ReadingOf F X) (i n : ℕ) → n ≤ i → each f i (n - i) ≡ Ok []
unfolding each
each_none f i n h = let k : n - i ≡ 0 = omega arith in rw k refl

-- the parts of a pair of valid readings
pub both_Ok :
    {F X Y Z : Type 0} (g : X → Y → Z) (a : ReadingOf F X) (b : ReadingOf F Y) (z : Z) → both g a b ≡ Ok z
    → (x : X) × (y : Y) × (a ≡ Ok x) × (b ≡ Ok y) × (g x y ≡ z)
both_Ok g (Ok x) (Ok y) z e = (x, y, refl, refl, cc)
both_Ok g (Ok x) (Err gs) z e = cc
both_Ok g (Err fs) (Ok y) z e = cc
both_Ok g (Err fs) (Err gs) z e = cc

-- a fault of a pair is one of a side
pub stands_both :
    {F X Y Z : Type 0} (g : X → Y → Z) (a : ReadingOf F X) (b : ReadingOf F Y) (c : F) → FailsWith (both g a b) c
    → FailsWith a c ⊎ FailsWith b c
stands_both g (Ok x) (Ok y) c h = absurd h
stands_both g (Ok x) (Err gs) c h = inr h
stands_both g (Err fs) (Ok y) c h = inl h
stands_both g (Err fs) (Err gs) c h = h

-- the parts of what is read one after the other
pub bind_Ok :
    {F X Y : Type 0} (m : ReadingOf F X) (f : X → ReadingOf F Y) (z : Y) → (m >>= f) ≡ Ok z
    → (x : X) × (m ≡ Ok x) × (f x ≡ Ok z)
bind_Ok (Ok x) f z e = (x, refl, e)
bind_Ok (Err fs) f z e = cc

pub mapped_Ok : {F X Y : Type 0} (f : X → Y) (m : ReadingOf F X) (z : Y) → mapped f m ≡ Ok z
    → (x : X) × (m ≡ Ok x) × (f x ≡ z)
mapped_Ok f (Ok x) z e = (x, refl, cc)
mapped_Ok f (Err fs) z e = cc

pub must_Ok : {F X : Type 0} (c : F) (o : Option X) (x : X) → must c o ≡ Ok x → o ≡ Some x
must_Ok c None x e = cc
must_Ok c (Some y) x e = cc

pub valid_Ok : {F X : Type 0} (m : ReadingOf F X) → IsValid m → (x : X) × (m ≡ Ok x)
valid_Ok (Ok x) h = (x, refl)
valid_Ok (Err fs) h = absurd h

-- `each`: as many values as there are readings, and each is its own
pub each_length : {F X : Type 0} (f : ℕ → ReadingOf F X) (i n : ℕ) (xs : List X) → each f i n ≡ Ok xs → length xs ≡ n
unfolding each
each_length f i zero xs e = let k : [] ≡ xs = cc in subst (λ (zs : List _). length zs ≡ 0) k refl
each_length f i (suc n) xs e =
    let p = both_Ok cons (f i) (each f (i + 1) n) xs e in
    let k : length p.1 ≡ n = each_length f (i + 1) n p.1 p.3 in
    subst (λ (zs : List _). length zs ≡ suc n) p.4 (ap suc k)

pub each_get :
    {F X : Type 0} (f : ℕ → ReadingOf F X) (i n : ℕ) (xs : List X) → each f i n ≡ Ok xs → (k : ℕ) → k < n
    → (x : X) × (slice_get xs k ≡ Some x) × (f (i + k) ≡ Ok x)
unfolding each
each_get f i zero xs e k h = absurd (omega arith)
each_get f i (suc n) xs e zero h =
    let p = both_Ok cons (f i) (each f (i + 1) n) xs e in
    let P : List _ → Type 0 = λ zs. slice_get zs 0 ≡ Some p.0 in
    let j : i + 0 ≡ i = omega arith in
    (p.0, subst P p.4 refl, ap f j ∙ p.2)
each_get f i (suc n) xs e (suc k) h =
    let p = both_Ok cons (f i) (each f (i + 1) n) xs e in
    let r = each_get f (i + 1) n p.1 p.3 k (omega arith) in
    let P : List _ → Type 0 = λ zs. slice_get zs (suc k) ≡ Some r.0 in
    let j : i + suc k ≡ (i + 1) + k = omega arith in
    (r.0, subst P p.4 r.1, ap f j ∙ r.2)

-- what holds of all such readings holds of each value
pub each_all :
    {F X : Type 0} (P : X → Type 0) (f : ℕ → ReadingOf F X) (n : ℕ) (xs : List X) → each f 0 n ≡ Ok xs
    → ((k : ℕ) (x : X) → f k ≡ Ok x → P x) → All P xs
each_all P f n xs e h = λ k d l.
    let m : length xs ≡ n = each_length f 0 n xs e in
    let r = each_get f 0 n xs e k (omega arith) in
    let j : k ≡ 0 + k = omega arith in
    let g : get_or xs k d ≡ r.0 = get_or_from_slice_get xs k r.0 d r.1 in
    subst P (sym g) (h k r.0 (ap f j ∙ r.2))

pub valid_each :
    {F X : Type 0} (f : ℕ → ReadingOf F X) (i n : ℕ) → IsValid (each f i n) → (k : ℕ) → k < n → IsValid (f (i + k))
unfolding each
valid_each f i zero g k h = absurd (omega arith)
valid_each f i (suc n) g zero h =
    let j : i ≡ i + 0 = omega arith in
    subst (λ (m : ℕ). IsValid (f m)) j (valid_left cons (f i) (each f (i + 1) n) g)
valid_each f i (suc n) g (suc k) h =
    let j : (i + 1) + k ≡ i + suc k = omega arith in
    subst (λ (m : ℕ). IsValid (f m)) j
    (valid_each f (i + 1) n (valid_right cons (f i) (each f (i + 1) n) g) k (omega arith))

pub stands_each :
    {F X : Type 0} (f : ℕ → ReadingOf F X) (i n : ℕ) (c : F) → FailsWith (each f i n) c
    → (k : ℕ) × (k < n) × FailsWith (f (i + k)) c
unfolding each
stands_each f i zero c h = absurd h
stands_each f i (suc n) c h =
    elim (stands_both cons (f i) (each f (i + 1) n) c h) [
      | inl a ↦ let j : i ≡ i + 0 = omega arith in (0, omega arith, subst (λ (m : ℕ). FailsWith (f m) c) j a)
      | inr b ↦
          let r = stands_each f (i + 1) n c b in
          let j : (i + 1) + r.0 ≡ i + suc r.0 = omega arith in
          (suc r.0, omega arith, subst (λ (m : ℕ). FailsWith (f m) c) j r.2)
    ]

-- A loop that gathers: `with_front xs (each f i (n - i)) ≡ w` says that what was read and what remains are the whole.
pub front_none : {F X : Type 0} (m : ReadingOf F (List X)) → with_front [] m ≡ m
front_none (Ok ys) = refl
front_none (Err fs) = refl

front-cons :
    {F X : Type 0} (xs : List X) (x : X) (m : ReadingOf F (List X))
    → with_front (xs ++ x ∷ []) m ≡ with_front xs (both cons (Ok x) m)
front-cons xs x (Ok ys) = ap (λ zs. Ok zs) (simp append_assoc)
front-cons xs x (Err fs) = refl

front-stands : {F X : Type 0} (xs : List X) (m : ReadingOf F (List X)) (c : F) → FailsWith m c → FailsWith (with_front xs m) c
front-stands xs (Ok ys) c h = h
front-stands xs (Err fs) c h = h

pub front_step :
    {F X : Type 0} (f : ℕ → ReadingOf F X) (i n : ℕ) (xs : List X) (x : X) (w : ReadingOf F (List X)) → i < n
    → f i ≡ Ok x
    → with_front xs (each f i (n - i)) ≡ w → with_front (xs ++ x ∷ []) (each f (i + 1) (n - (i + 1))) ≡ w
front_step f i n xs x w h e k =
    let r : ReadingOf _ (List _) = each f (i + 1) (n - (i + 1)) in
    let P : ReadingOf _ _ → Type 0 = λ a. with_front xs (both cons a r) ≡ w in
    let Q : ReadingOf _ (List _) → Type 0 = λ m. with_front xs m ≡ w in
    front-cons xs x r ∙ subst P e (subst Q (each_step f i n h) k)

pub front_fault :
    {F X : Type 0} (f : ℕ → ReadingOf F X) (i n : ℕ) (xs : List X) (c : F) (w : ReadingOf F (List X)) → i < n
    → FailsWith (f i) c
    → with_front xs (each f i (n - i)) ≡ w → FailsWith w c
front_fault f i n xs c w h s k =
    let r : ReadingOf _ (List _) = each f (i + 1) (n - (i + 1)) in
    let Q : ReadingOf _ (List _) → Type 0 = λ m. FailsWith (with_front xs m) c in
    let P : ReadingOf _ (List _) → Type 0 = λ m. FailsWith m c in
    subst P k (subst Q (sym (each_step f i n h)) (front-stands xs (both cons (f i) r) c (both_left cons (f i) r c s)))

pub front_fails :
    {X : Type 0} (f : ℕ → Reading X) (i n : ℕ) (xs : List X) (c : StreamFault) (w : Reading (List X)) → i < n
    → Fails c (f i)
    → with_front xs (each f i (n - i)) ≡ w → Fails c w
front_fails f i n xs c w h s k = fails_along c (f i) w (λ d t. front_fault f i n xs d w h t k) s

pub front_end :
    {F X : Type 0} (f : ℕ → ReadingOf F X) (i n : ℕ) (xs : List X) (w : ReadingOf F (List X)) → n ≤ i
    → with_front xs (each f i (n - i)) ≡ w → w ≡ Ok xs
front_end f i n xs w h k =
    let Q : ReadingOf _ (List _) → Type 0 = λ m. with_front xs m ≡ w in
    sym (subst Q (each_none f i n h) k) ∙ ap (λ zs. Ok zs) (append-nil xs)

pub ruleset gathering = (front_none, front_step, front_fault, front_fails, front_end)

-- A loop that checks: what remains decides the whole.
pub decides_self : {F X : Type 0} (m : ReadingOf F X) → Decides m m
decides_self m = record { valid = λ h. h; fault = λ c h. h }

pub decides_both :
    {F X Y Z W : Type 0} (g : X → Y → Z) (a : ReadingOf F X) (b : ReadingOf F Y) (w : ReadingOf F W) → IsValid a
    → Decides (both g a b) w → Decides b w
decides_both g a b w p d =
    record { valid = λ h. d.valid (both_valid g a b p h); fault = λ c h. d.fault c (both_right g a b c h) }

pub decides_both_fault :
    {F X Y Z W : Type 0} (g : X → Y → Z) (a : ReadingOf F X) (b : ReadingOf F Y) (w : ReadingOf F W) (c : F)
    → FailsWith a c
    → Decides (both g a b) w → FailsWith w c
decides_both_fault g a b w c s d = d.fault c (both_left g a b c s)

pub decides_step :
    {F X W : Type 0} (f : ℕ → ReadingOf F X) (i n : ℕ) (w : ReadingOf F W) → i < n → IsValid (f i)
    → Decides (each f i (n - i)) w
    → Decides (each f (i + 1) (n - (i + 1))) w
decides_step f i n w h p d =
    let r : ReadingOf _ (List _) = each f (i + 1) (n - (i + 1)) in
    let Q : ReadingOf _ (List _) → Type 0 = λ m. Decides m w in
    decides_both cons (f i) r w p (subst Q (each_step f i n h) d)

pub decides_fault :
    {F X W : Type 0} (f : ℕ → ReadingOf F X) (i n : ℕ) (w : ReadingOf F W) (c : F) → i < n → FailsWith (f i) c
    → Decides (each f i (n - i)) w → FailsWith w c
decides_fault f i n w c h s d =
    let r : ReadingOf _ (List _) = each f (i + 1) (n - (i + 1)) in
    let Q : ReadingOf _ (List _) → Type 0 = λ m. Decides m w in
    decides_both_fault cons (f i) r w c s (subst Q (each_step f i n h) d)

pub decides_end :
    {F X W : Type 0} (f : ℕ → ReadingOf F X) (i n : ℕ) (w : ReadingOf F W) → n ≤ i → Decides (each f i (n - i)) w
    → IsValid w
decides_end f i n w h d =
    let Q : ReadingOf _ (List _) → Type 0 = λ m. Decides m w in
    let e : Decides (Ok []) w = subst Q (each_none f i n h) d in
    e.valid tt

pub ruleset deciding = (decides_self, decides_both, decides_both_fault, decides_step, decides_fault, decides_end)
