-- A name is looked for from the front.
use Rattle.std.proofs.Common.{
  ◌≡◌,
  ℕ,
  suc,
  ◌+◌,
  ◌<◌,
  ◌≤◌,
  true,
  false,
  List,
  [],
  ◌∷◌,
  length,
  drop,
  get_or,
  map,
  refl,
  arith,
  drop-cons,
  add-one,
}
use Rattle.std.specs.Prelude.{if◌then◌else◌}
use Rattle.std.specs.Str.{bytes_eq}
use Rattle.std.proofs.lemmas.List.{drop_all}
use Rattle.session.specs.Names.{place_of}

-- n were skipped
abbrev pub Passed : {X : Type 0} → (X → List ℕ) → List X → List ℕ → ℕ → Type 0
Passed f xs name i = place_of name (map f xs) ≡ i + place_of name (map f (drop i xs))

place_at :
    {X : Type 0} (f : X → List ℕ) (xs : List X) (name : List ℕ) (i : ℕ) (x d : X) → i < length xs → x ≡ get_or xs i d
    → place_of name (map f (drop i xs)) ≡ (if bytes_eq (f x) name then 0
    else suc (place_of name (map f (drop (i + 1) xs))))
unfolding place_of
place_at f xs name i x d below is =
    let e : drop i xs ≡ get_or xs i d ∷ drop (suc i) xs = drop-cons xs i d below in
    rw (e, add-one, is) refl

pub place_hit :
    {X : Type 0} (f : X → List ℕ) (xs : List X) (name : List ℕ) (i : ℕ) (x d : X) → i < length xs → x ≡ get_or xs i d
    → bytes_eq (f x) name ≡ true
    → Passed f xs name i → i ≡ place_of name (map f xs)
place_hit f xs name i x d below is hit passed =
    let e = place_at f xs name i x d below is in
    let here : place_of name (map f (drop i xs)) ≡ 0 = rw hit at e in
    omega (arith, here, passed)

pub place_miss :
    {X : Type 0} (f : X → List ℕ) (xs : List X) (name : List ℕ) (i : ℕ) (x d : X) → i < length xs → x ≡ get_or xs i d
    → bytes_eq (f x) name ≡ false
    → Passed f xs name i → Passed f xs name (i + 1)
place_miss f xs name i x d below is miss passed =
    let e = place_at f xs name i x d below is in
    let here : place_of name (map f (drop i xs)) ≡ suc (place_of name (map f (drop (i + 1) xs))) = rw miss at e in
    omega (arith, here, passed)

pub place_none :
    {X : Type 0} (f : X → List ℕ) (xs : List X) (name : List ℕ) (i n : ℕ) → length xs ≤ i → n ≡ i → Passed f xs name i
    → n ≡ place_of name (map f xs)
unfolding place_of
place_none f xs name i n all same passed =
    let e : drop i xs ≡ [] = drop_all i xs all in
    let here : place_of name (map f (drop i xs)) ≡ 0 = rw e refl in
    omega (arith, here, passed, same)

pub ruleset naming = (place_hit, place_miss, place_none)
