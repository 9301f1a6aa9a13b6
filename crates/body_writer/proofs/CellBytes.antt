-- What cells give, one after the other, is found at its index.
use Rattle.std.proofs.Common.{
  ◌≡◌,
  ℕ,
  zero,
  suc,
  ◌+◌,
  ◌*◌,
  ◌<◌,
  ◌≤◌,
  List,
  [],
  ◌∷◌,
  ◌++◌,
  length,
  get_or,
  drop,
  refl,
  ap,
  sym,
  ◌∙◌,
  arith,
  length-append,
  length-drop,
  Ok,
}
use Rattle.std.specs.Prelude.{map}
use Rattle.std.specs.List.{flat_map}
use Rattle.std.proofs.lemmas.List.{drop_at, drop-drop, length-map}
use Rattle.values.specs.Datum.{Datum, null}
use Rattle.values.specs.Reading.{Reading, each}

-- the sum of the first i numbers
unfoldable pub start : ℕ → List ℕ → ℕ
start zero ns = 0
start (suc i) [] = 0
start (suc i) (n ∷ ns) = n + start i ns

unfoldable pub total : List ℕ → ℕ
total [] = 0
total (n ∷ ns) = n + total ns

pub start-le : (i : ℕ) (ns : List ℕ) → start i ns ≤ total ns
unfolding start total
start-le zero ns = omega arith
start-le (suc i) [] = omega arith
start-le (suc i) (n ∷ ns) = let rest = start-le i ns in omega (arith, rest)

pub start-next : (i : ℕ) (ns : List ℕ) → start (suc i) ns ≡ start i ns + get_or ns i 0
unfolding start
start-next zero [] = refl
start-next zero (n ∷ ns) = omega arith
start-next (suc i) [] = refl
start-next (suc i) (n ∷ ns) = let rest = start-next i ns in omega (arith, rest)

pub start-after : (i : ℕ) (ns : List ℕ) → start (i + 1) ns ≡ start i ns + get_or ns i 0
start-after i ns = let e : i + 1 ≡ suc i = omega arith in ap (λ k. start k ns) e ∙ start-next i ns

pub start-all : (ns : List ℕ) → start (length ns) ns ≡ total ns
unfolding start total
start-all [] = refl
start-all (n ∷ ns) = ap (λ k. n + k) (start-all ns)

abbrev pub lengths : {A : Type 0} → (Datum → List A) → List Datum → List ℕ
lengths f cs = map (λ c. length (f c)) cs

pub total-lengths : {A : Type 0} (f : Datum → List A) (cs : List Datum) → total (lengths f cs) ≡ length (flat_map f cs)
unfolding total
total-lengths f [] = refl
total-lengths f (c ∷ cs) = let rest = total-lengths f cs in omega (arith, rest, length-append (f c) (flat_map f cs))

pub lengths-at : {A : Type 0} (f : Datum → List A) (cs : List Datum) (i : ℕ) → i < length cs
    → get_or (lengths f cs) i 0 ≡ length (f (get_or cs i null))
lengths-at f [] i h = absurd (omega (arith, h))
lengths-at f (c ∷ cs) zero h = refl
lengths-at f (c ∷ cs) (suc i) h = lengths-at f cs i (omega (arith, h))

-- item i, and what comes after it
pub segment-at :
    {A : Type 0} (f : Datum → List A) (cs : List Datum) (i : ℕ) → i < length cs
    → (rest : List A) × (drop (start i (lengths f cs)) (flat_map f cs) ≡ f (get_or cs i null) ++ rest)
unfolding start
segment-at f [] i h = absurd (omega (arith, h))
segment-at f (c ∷ cs) zero h = (flat_map f cs, refl)
segment-at f (c ∷ cs) (suc i) h =
    let others = segment-at f cs i (omega (arith, h)) in (
      others.0,
      sym (drop-drop (start i (lengths f cs)) (length (f c)) (f c ++ flat_map f cs))
          ∙ ap (drop (start i (lengths f cs))) (drop_at (f c) (flat_map f cs) (length (f c)) refl) ∙ others.1,
    )

-- items of one width

abbrev pub HaveWidth : {A : Type 0} → (Datum → List A) → ℕ → List Datum → Type 0
HaveWidth f w cs = (i : ℕ) → i < length cs → length (f (get_or cs i null)) ≡ w

pub start-even : {A : Type 0} (f : Datum → List A) (w : ℕ) (cs : List Datum) (i : ℕ) → i ≤ length cs → HaveWidth f w cs
    → start i (lengths f cs) ≡ w * i
unfolding start
start-even f w cs zero h even = omega arith
start-even f w [] (suc i) h even = absurd (omega (arith, h))
start-even f w (c ∷ cs) (suc i) h even =
    let here = even 0 (omega arith) in
    let more : w * suc i ≡ w + w * i = omega arith in
    let rest = start-even f w cs i (omega (arith, h)) (λ k l. even (suc k) (omega (arith, l))) in
    omega (arith, here, rest, more)

pub even-at :
    {A : Type 0} (f : Datum → List A) (w : ℕ) (cs : List Datum) (i : ℕ) → i < length cs → HaveWidth f w cs
    → (rest : List A) × (drop (w * i) (flat_map f cs) ≡ f (get_or cs i null) ++ rest)
even-at f w cs i h even =
    let p = segment-at f cs i h in
    (p.0, ap (λ n. drop n (flat_map f cs)) (sym (start-even f w cs i (omega (arith, h)) even)) ∙ p.1)

pub length-even : {A : Type 0} (f : Datum → List A) (w : ℕ) (cs : List Datum) → HaveWidth f w cs
    → length (flat_map f cs) ≡ w * length cs
length-even f w cs even =
    let same = length-map cs (λ c. length (f c)) in
    sym (total-lengths f cs) ∙ sym (start-all (lengths f cs)) ∙ ap (λ n. start n (lengths f cs)) same
    ∙ start-even f w cs (length cs) (omega arith) even

-- n consecutive readings

run-inside : {X : Type 0} (all : List X) (from : ℕ) (x : X) (rest : List X) → drop from all ≡ x ∷ rest
    → from < length all
run-inside all from x rest e =
    let some = ap length e in
    let left = length-drop from all in
    omega (arith, some, left)

run-first : {X : Type 0} (d : X) (all : List X) (from : ℕ) (x : X) (rest : List X) → drop from all ≡ x ∷ rest
    → get_or all from d ≡ x
run-first d [] zero x rest e = absurd (omega (arith, ap length e))
run-first d [] (suc k) x rest e = absurd (omega (arith, ap length e))
run-first d (y ∷ all) zero x rest e = ap (λ zs. get_or zs 0 d) e
run-first d (y ∷ all) (suc k) x rest e = run-first d all k x rest e

run-next : {X : Type 0} (all : List X) (from : ℕ) (x : X) (rest : List X) → drop from all ≡ x ∷ rest
    → drop (from + 1) all ≡ rest
run-next all from x rest e = sym (drop-drop 1 from all) ∙ ap (λ zs. drop 1 zs) e

pub each-run :
    {X : Type 0} (f : ℕ → Reading X) (d : X) (all part rest : List X) (from : ℕ) → drop from all ≡ part ++ rest
    → ((j : ℕ) → j < length all → f j ≡ Ok (get_or all j d)) → each f from (length part) ≡ Ok part
unfolding each
each-run f d all [] rest from e read = refl
each-run f d all (x ∷ part) rest from e read =
    let inside = run-inside all from x (part ++ rest) e in
    let here = read from inside ∙ ap (λ y. Ok y) (run-first d all from x (part ++ rest) e) in
    rw (here, each-run f d all part rest (from + 1) (run-next all from x (part ++ rest) e) read) refl
