-- Runs of values: their ends, their values one by one, and of some after others.
use Rattle.std.proofs.Common.{
  ◌≡◌,
  ℕ,
  zero,
  suc,
  ◌+◌,
  ◌-◌,
  ◌<◌,
  ◌≤◌,
  Bool,
  true,
  false,
  List,
  [],
  ◌∷◌,
  ◌++◌,
  length,
  map,
  replicate,
  take,
  get_or,
  min,
  refl,
  ap,
  sym,
  subst,
  ◌∙◌,
  arith,
  append_assoc,
  append-nil,
  cond,
}
use Rattle.std.specs.Prelude.{slice_get, nat_le, Option, Some, None}
use Rattle.std.specs.List.{prefix_len}
use Rattle.std.specs.List.Sorted.{IsPartitionPoint, IsPartitionedBy}
use Rattle.std.proofs.lemmas.Bool.{leb-true, leb-false}
use Rattle.std.proofs.lemmas.List.{length-append, length-map, length-replicate, map-append, take_all, take_more}
use Rattle.std.proofs.lemmas.List.Sorted.{IsPartitionedBy-leb}
use Rattle.std.proofs.lemmas.List.Sums.{prefix_len_is}
use Rattle.values.specs.Datum.{Datum}
use Rattle.dictionaries.specs.Runs.{AreRuns, IsRising, counted, last_end, spread}
use Rattle.dictionaries.proofs.JoinLemmas.{slice_get-left, slice_get-right}

-- ends of runs of one value

counted-length : (k n : ℕ) → length (counted k n) ≡ n
counted-length k zero = refl
counted-length k (suc n) = ap suc (counted-length (suc k) n)

counted-rising : (k n : ℕ) → IsRising k (counted k n)
counted-rising k zero = tt
counted-rising k (suc n) = (omega arith, counted-rising (suc k) n)

counted-last : (k n : ℕ) → last_end k (counted k n) ≡ k + n
counted-last k zero = omega arith
counted-last k (suc n) = counted-last (suc k) n ∙ omega arith

counted-append : (k n m : ℕ) → counted k (n + m) ≡ counted k n ++ counted (k + n) m
counted-append k zero m =
    let none : 0 + m ≡ m = omega arith in
    let from : k ≡ k + 0 = omega arith in
    ap (counted k) none ∙ ap (λ j. counted j m) from
counted-append k (suc n) m =
    let more : suc n + m ≡ suc (n + m) = omega arith in
    let from : suc k + n ≡ k + suc n = omega arith in
    ap (counted k) more
    ∙ ap (λ es. suc k ∷ es) (counted-append (suc k) n m ∙ ap (λ j. counted (suc k) n ++ counted j m) from)

counted-shift : (n k m : ℕ) → counted (n + k) m ≡ map (λ e. n + e) (counted k m)
counted-shift n k zero = refl
counted-shift n k (suc m) =
    let next : suc (n + k) ≡ n + suc k = omega arith in
    ap (λ j. j ∷ counted j m) next ∙ ap (λ es. (n + suc k) ∷ es) (counted-shift n (suc k) m)

pub counted-join : (n m : ℕ) → counted 0 (n + m) ≡ counted 0 n ++ map (λ e. last_end 0 (counted 0 n) + e) (counted 0 m)
counted-join n m =
    let last : n ≡ last_end 0 (counted 0 n) = sym (counted-last 0 n ∙ omega arith) in
    let from : 0 + n ≡ n + 0 = omega arith in
    counted-append 0 n m ∙ ap (λ j. counted 0 n ++ counted j m) from
    ∙ ap (λ es. counted 0 n ++ es) (counted-shift n 0 m)
    ∙ ap (λ l. counted 0 n ++ map (λ e. l + e) (counted 0 m)) last

pub counted-push : (es : List ℕ) (n : ℕ) → es ≡ counted 0 n → es ++ (n + 1) ∷ [] ≡ counted 0 (n + 1)
counted-push es n is =
    let next : suc (0 + n) ≡ n + 1 = omega arith in
    ap (λ es. es ++ (n + 1) ∷ []) is ∙ ap (λ j. counted 0 n ++ j ∷ []) (sym next) ∙ sym (counted-append 0 n 1)

pub counted-len : (n : ℕ) → n ≡ last_end 0 (counted 0 n)
counted-len n = sym (counted-last 0 n ∙ omega arith)

prefix-step : (b : Bool) (k n i r : ℕ) → nat_le (suc k) i ≡ b → r ≡ min (i - suc k) n
    → cond b (1 + r) 0 ≡ min (i - k) (suc n)
prefix-step true k n i r is e = let within = leb-true (suc k) i is in grind (arith, within, e)
prefix-step false k n i r is e = let past = leb-false (suc k) i is in grind (arith, past, e)

pub prefix-counted : (k n i : ℕ) → prefix_len (λ e. nat_le e i) (counted k n) ≡ min (i - k) n
prefix-counted k zero i = grind arith
prefix-counted k (suc n) i =
    prefix-step (nat_le (suc k) i) k n i (prefix_len (λ e. nat_le e i) (counted (suc k) n)) refl
    (prefix-counted (suc k) n i)

pub run-counted : (n i r : ℕ) → r ≡ min i n → r ≡ prefix_len (λ e. nat_le e i) (counted 0 n)
run-counted n i r e =
    let same : i - 0 ≡ i = omega arith in
    e ∙ ap (λ j. min j n) (sym same) ∙ sym (prefix-counted 0 n i)

pub ruleset counting = (counted-push, counted-join, counted-len, run-counted)

pub shifted-more : (es fs : List ℕ) (f : ℕ → ℕ) (k e d : ℕ) → k < length fs → e ≡ get_or fs k d
    → (es ++ map f (take k fs)) ++ f e ∷ [] ≡ es ++ map f (take (k + 1) fs)
shifted-more es fs f k e d h is =
    append_assoc es (map f (take k fs)) (f e ∷ [])
    ∙ ap (λ x. es ++ (map f (take k fs) ++ f x ∷ [])) is
    ∙ ap (λ x. es ++ x) (sym (ap (map f) (take_more fs k d h) ∙ map-append f (take k fs) (get_or fs k d ∷ [])))

pub shifted-all : (es fs : List ℕ) (f : ℕ → ℕ) (k : ℕ) → length fs ≤ k → es ++ map f (take k fs) ≡ es ++ map f fs
shifted-all es fs f k h = ap (λ x. es ++ map f x) (take_all k fs h)

pub ruleset shifting = (shifted-more, shifted-all)

-- ends that rise

rising-below : (k : ℕ) (es : List ℕ) (i d : ℕ) → IsRising k es → i < length es → k ≤ get_or es i d
rising-below k [] i d rising h = absurd (omega (arith, h))
rising-below k (e ∷ es) zero d rising h = rising.0
rising-below k (e ∷ es) (suc i) d rising h =
    let there = rising-below e es i d rising.1 (omega (arith, h)) in
    let here = rising.0 in
    omega (arith, there, here)

rising-sorted : (k : ℕ) (es : List ℕ) (i j d : ℕ) → IsRising k es → i ≤ j → j < length es
    → get_or es i d ≤ get_or es j d
rising-sorted k [] i j d rising up h = absurd (omega (arith, h))
rising-sorted k (e ∷ es) zero zero d rising up h = omega arith
rising-sorted k (e ∷ es) zero (suc j) d rising up h = rising-below e es j d rising.1 (omega (arith, h))
rising-sorted k (e ∷ es) (suc i) zero d rising up h = absurd (omega (arith, up))
rising-sorted k (e ∷ es) (suc i) (suc j) d rising up h =
    rising-sorted e es i j d rising.1 (omega (arith, up)) (omega (arith, h))

pub rising-parted : (es : List ℕ) (i : ℕ) → IsRising 0 es → IsPartitionedBy (λ e. nat_le e i) es
rising-parted es i rising = IsPartitionedBy-leb (λ e. e) es i (λ j k d up h. rising-sorted 0 es j k d rising up h)

pub prefix-parted : (es : List ℕ) (i n : ℕ) → n ≤ length es
    → IsPartitionPoint (λ e. nat_le e i ≡ true) (λ e. nat_le e i ≡ false) es n → n ≡ prefix_len (λ e. nat_le e i) es
prefix-parted es i n within point =
    sym (prefix_len_is (λ e. nat_le e i) es n 0 within (λ k h. point.0 k 0 (omega arith) h)
    (λ h. point.1 n 0 (omega arith) h))

pub last-some : (k : ℕ) (es : List ℕ) (e : ℕ) → Some e ≡ slice_get es (length es - 1) → e ≡ last_end k es
last-some k [] e is = cc
last-some k (x ∷ []) e is = cc
last-some k (x ∷ y ∷ ys) e is =
    let next : length (x ∷ y ∷ ys) - 1 ≡ suc (length (y ∷ ys) - 1) = omega arith in
    last-some x (y ∷ ys) e (is ∙ ap (slice_get (x ∷ y ∷ ys)) next)

last-empty : (es : List ℕ) → None ≡ slice_get es (length es - 1) → es ≡ []
last-empty [] is = refl
last-empty (x ∷ []) is = cc
last-empty (x ∷ y ∷ ys) is =
    let next : length (x ∷ y ∷ ys) - 1 ≡ suc (length (y ∷ ys) - 1) = omega arith in
    let none = last-empty (y ∷ ys) (is ∙ ap (slice_get (x ∷ y ∷ ys)) next) in
    cc

pub last-none : (k : ℕ) (es : List ℕ) → None ≡ slice_get es (length es - 1) → k ≡ last_end k es
last-none k es is = ap (last_end k) (sym (last-empty es is))

pub ruleset last = (last-some, last-none)

-- the values of runs

slice_get-replicate : (n i : ℕ) (d : Datum) → i < n → slice_get (replicate n d) i ≡ Some d
slice_get-replicate zero i d h = absurd (omega (arith, h))
slice_get-replicate (suc n) zero d h = refl
slice_get-replicate (suc n) (suc i) d h = slice_get-replicate n i d (omega (arith, h))

get-step :
    (d : Datum) (ds : List Datum) (k e : ℕ) (es : List ℕ) (i : ℕ) (b : Bool) → nat_le e i ≡ b → k ≤ e → k ≤ i
    → (e ≤ i → slice_get (spread e ds es) (i - e) ≡ slice_get ds (prefix_len (λ x. nat_le x i) es))
    → slice_get (replicate (e - k) d ++ spread e ds es) (i - k)
    ≡ slice_get (d ∷ ds) (cond b (1 + prefix_len (λ x. nat_le x i) es) 0)
get-step d ds k e es i true is up h there =
    let within = leb-true e i is in
    let size = length-replicate (e - k) d in
    let n = prefix_len (λ x. nat_le x i) es in
    let next : suc n ≡ 1 + n = omega arith in
    slice_get-right (replicate (e - k) d) (spread e ds es) (i - k) (i - e) (omega (arith, within, size, up))
    ∙ there within ∙ ap (slice_get (d ∷ ds)) next
get-step d ds k e es i false is up h there =
    let past = leb-false e i is in
    let size = length-replicate (e - k) d in
    slice_get-left (replicate (e - k) d) (spread e ds es) (i - k) (omega (arith, past, size, up, h))
    ∙ slice_get-replicate (e - k) (i - k) d (omega (arith, past, up, h))

get-from : (ds : List Datum) (k : ℕ) (es : List ℕ) (i : ℕ) → length es ≡ length ds → IsRising k es → k ≤ i
    → slice_get (spread k ds es) (i - k) ≡ slice_get ds (prefix_len (λ x. nat_le x i) es)
get-from [] k es i size rising h = refl
get-from (d ∷ ds) k [] i size rising h = absurd (omega (arith, size))
get-from (d ∷ ds) k (e ∷ es) i size rising h =
    get-step d ds k e es i (nat_le e i) refl rising.0 h
    (λ within. get-from ds e es i (omega (arith, size)) rising.1 within)

spread-get : (ds : List Datum) (es : List ℕ) (i : ℕ) → AreRuns ds es
    → slice_get ds (prefix_len (λ x. nat_le x i) es) ≡ slice_get (spread 0 ds es) i
spread-get ds es i runs =
    let same : i - 0 ≡ i = omega arith in
    sym (get-from ds 0 es i runs.0 runs.1 (omega arith)) ∙ ap (slice_get (spread 0 ds es)) same

-- what is read from the stored values
pub held-get : (o : Option Datum) (hs ds xs : List Datum) (es : List ℕ) (i r : ℕ) → AreRuns ds es → hs ≡ ds
    → r ≡ prefix_len (λ x. nat_le x i) es → spread 0 ds es ≡ xs → o ≡ slice_get hs r → o ≡ slice_get xs i
held-get o hs ds xs es i r runs are at view read =
    read ∙ ap (λ h. slice_get h r) are ∙ ap (slice_get ds) at ∙ spread-get ds es i runs ∙ ap (λ x. slice_get x i) view

spread-counted : (k : ℕ) (ds : List Datum) → spread k ds (counted k (length ds)) ≡ ds
spread-counted k [] = refl
spread-counted k (d ∷ ds) =
    let once : suc k - k ≡ 1 = omega arith in
    ap (λ n. replicate n d ++ spread (suc k) ds (counted (suc k) (length ds))) once
    ∙ ap (λ r. d ∷ r) (spread-counted (suc k) ds)

-- values that are there once each
pub single-values : (ds : List Datum) (n : ℕ) → n ≡ length ds → spread 0 ds (counted 0 n) ≡ ds
single-values ds n is = ap (λ k. spread 0 ds (counted 0 k)) is ∙ spread-counted 0 ds

pub single-runs : (ds : List Datum) (n : ℕ) → n ≡ length ds → AreRuns ds (counted 0 n)
single-runs ds n is = (counted-length 0 n ∙ is, counted-rising 0 n)

-- stored values that are there once each are the whole list
pub held-values : (hs ds xs : List Datum) (es : List ℕ) (n : ℕ) → AreRuns ds es → es ≡ counted 0 n
    → spread 0 ds es ≡ xs → hs ≡ ds → hs ≡ xs
held-values hs ds xs es n runs single view are =
    let size : n ≡ length ds = sym (counted-length 0 n) ∙ ap length (sym single) ∙ runs.0 in
    are ∙ sym (single-values ds n size) ∙ ap (spread 0 ds) (sym single) ∙ view

pub spread-once : (d : Datum) (n : ℕ) → spread 0 (d ∷ []) (n ∷ []) ≡ replicate n d
spread-once d n =
    let same : n - 0 ≡ n = omega arith in
    append-nil (replicate (n - 0) d) ∙ ap (λ k. replicate k d) same

length-from : (ds : List Datum) (k : ℕ) (es : List ℕ) → length es ≡ length ds → IsRising k es
    → k + length (spread k ds es) ≡ last_end k es
length-from [] k [] size rising = omega arith
length-from [] k (e ∷ es) size rising = absurd (omega (arith, size))
length-from (d ∷ ds) k [] size rising = absurd (omega (arith, size))
length-from (d ∷ ds) k (e ∷ es) size rising =
    let here = length-replicate (e - k) d in
    let there = length-from ds e es (omega (arith, size)) rising.1 in
    let both = length-append (replicate (e - k) d) (spread e ds es) in
    let up = rising.0 in
    omega (arith, here, there, both, up)

pub spread-length : (ds : List Datum) (es : List ℕ) → AreRuns ds es → last_end 0 es ≡ length (spread 0 ds es)
spread-length ds es runs = let all = length-from ds 0 es runs.0 runs.1 in omega (arith, all)

spread-append : (ds bs : List Datum) (k : ℕ) (es fs : List ℕ) → length es ≡ length ds
    → spread k (ds ++ bs) (es ++ fs) ≡ spread k ds es ++ spread (last_end k es) bs fs
spread-append [] bs k [] fs size = refl
spread-append [] bs k (e ∷ es) fs size = absurd (omega (arith, size))
spread-append (d ∷ ds) bs k [] fs size = absurd (omega (arith, size))
spread-append (d ∷ ds) bs k (e ∷ es) fs size =
    ap (λ r. replicate (e - k) d ++ r) (spread-append ds bs e es fs (omega (arith, size)))
    ∙ sym (append_assoc (replicate (e - k) d) (spread e ds es) (spread (last_end e es) bs fs))

spread-shift : (n : ℕ) (bs : List Datum) (j k : ℕ) (fs : List ℕ) → j ≡ n + k
    → spread j bs (map (λ e. n + e) fs) ≡ spread k bs fs
spread-shift n [] j k fs is = refl
spread-shift n (b ∷ bs) j k [] is = refl
spread-shift n (b ∷ bs) j k (f ∷ fs) is =
    let size : (n + f) - j ≡ f - k = omega (arith, is) in
    ap (λ m. replicate m b ++ spread (n + f) bs (map (λ e. n + e) fs)) size
    ∙ ap (λ r. replicate (f - k) b ++ r) (spread-shift n bs (n + f) f fs refl)

spread-join : (ds bs : List Datum) (es fs : List ℕ) → AreRuns ds es
    → spread 0 (ds ++ bs) (es ++ map (λ e. last_end 0 es + e) fs) ≡ spread 0 ds es ++ spread 0 bs fs
spread-join ds bs es fs runs =
    spread-append ds bs 0 es (map (λ e. last_end 0 es + e) fs) runs.0
    ∙ ap (λ r. spread 0 ds es ++ r) (spread-shift (last_end 0 es) bs (last_end 0 es) 0 fs (omega arith))

rising-append : (k : ℕ) (es fs : List ℕ) → IsRising k es → IsRising (last_end k es) fs → IsRising k (es ++ fs)
rising-append k [] fs front back = back
rising-append k (e ∷ es) fs front back = (front.0, rising-append e es fs front.1 back)

rising-shift : (n j k : ℕ) (fs : List ℕ) → j ≡ n + k → IsRising k fs → IsRising j (map (λ e. n + e) fs)
rising-shift n j k [] is rising = tt
rising-shift n j k (f ∷ fs) is rising =
    let up = rising.0 in
    (omega (arith, is, up), rising-shift n (n + f) f fs refl rising.1)

join-runs : (ds bs : List Datum) (es fs : List ℕ) → AreRuns ds es → AreRuns bs fs
    → AreRuns (ds ++ bs) (es ++ map (λ e. last_end 0 es + e) fs)
join-runs ds bs es fs front back =
    let here = front.0 in
    let there = back.0 in
    let ends = length-append es (map (λ e. last_end 0 es + e) fs) in
    let values = length-append ds bs in
    let shifted = length-map fs (λ e. last_end 0 es + e) in (
      omega (arith, here, there, ends, values, shifted),
      rising-append 0 es (map (λ e. last_end 0 es + e) fs) front.1
          (rising-shift (last_end 0 es) (last_end 0 es) 0 fs (omega arith) back.1),
    )

pub joined-runs : (ds bs all : List Datum) (es fs ends : List ℕ) → AreRuns ds es → AreRuns bs fs → all ≡ ds ++ bs
    → ends ≡ es ++ map (λ e. last_end 0 es + e) fs → AreRuns all ends
joined-runs ds bs all es fs ends front back are lie =
    subst (λ x. AreRuns x ends) (sym are) (subst (AreRuns (ds ++ bs)) (sym lie) (join-runs ds bs es fs front back))

pub joined-values : (ds bs all xs ys : List Datum) (es fs ends : List ℕ) → AreRuns ds es → all ≡ ds ++ bs
    → ends ≡ es ++ map (λ e. last_end 0 es + e) fs → spread 0 ds es ≡ xs → spread 0 bs fs ≡ ys
    → spread 0 all ends ≡ xs ++ ys
joined-values ds bs all xs ys es fs ends front are lie first second =
    ap (λ x. spread 0 x ends) are ∙ ap (spread 0 (ds ++ bs)) lie ∙ spread-join ds bs es fs front
    ∙ ap (λ x. x ++ spread 0 bs fs) first ∙ ap (λ y. xs ++ y) second

pub ruleset spreading = (single-values, single-runs, spread-once, spread-length)
