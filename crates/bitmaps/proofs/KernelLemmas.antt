-- One more bit of what is computed from bitmaps.
use Rattle.std.proofs.Common.{
  ◌≡◌,
  ℕ,
  ◌+◌,
  ◌<◌,
  ◌≤◌,
  List,
  [],
  ◌∷◌,
  ◌++◌,
  length,
  get_or,
  drop,
  ◌∙◌,
  arith,
  append_assoc,
}
use Rattle.std.specs.Prelude.{Bool, ◌&&◌, ◌||◌, false, map, if◌then◌else◌}
use Rattle.std.proofs.lemmas.List.{append-nil, drop_all, drop_more}
use Rattle.bitmaps.specs.Bits.{pairwise, selected}

pub pairwise-step : (f : Bool → Bool → Bool) (made xs ys : List Bool) (i : ℕ) → i < length xs → length ys ≡ length xs →
    (made ++ f (get_or xs i false) (get_or ys i false) ∷ []) ++ pairwise f (drop (i + 1) xs) (drop (i + 1) ys)
    ≡ made ++ pairwise f (drop i xs) (drop i ys)
unfolding pairwise
pairwise-step f made xs ys i h e =
    rw (drop_more xs i false h, drop_more ys i false (omega (arith, h, e)))
    (append_assoc made (f (get_or xs i false) (get_or ys i false) ∷ [])
    (pairwise f (drop (i + 1) xs) (drop (i + 1) ys)))

pub map-step : (f : Bool → Bool) (made xs : List Bool) (i : ℕ) → i < length xs →
    (made ++ f (get_or xs i false) ∷ []) ++ map f (drop (i + 1) xs) ≡ made ++ map f (drop i xs)
map-step f made xs i h =
    rw (drop_more xs i false h) (append_assoc made (f (get_or xs i false) ∷ []) (map f (drop (i + 1) xs)))

pub selected-step : (made ms xs ys : List Bool) (i : ℕ) → i < length ms → length xs ≡ length ms → length ys ≡ length ms
    → (made ++ (if get_or ms i false then get_or xs i false else get_or ys i false) ∷ [])
    ++ selected (drop (i + 1) ms) (drop (i + 1) xs) (drop (i + 1) ys)
    ≡ made ++ selected (drop i ms) (drop i xs) (drop i ys)
unfolding selected
selected-step made ms xs ys i h e1 e2 =
    rw (
      drop_more ms i false h,
      drop_more xs i false (omega (arith, h, e1)),
      drop_more ys i false (omega (arith, h, e2)),
    )
    (append_assoc made ((if get_or ms i false then get_or xs i false else get_or ys i false) ∷ [])
    (selected (drop (i + 1) ms) (drop (i + 1) xs) (drop (i + 1) ys)))

pub pairwise-end : (f : Bool → Bool → Bool) (made xs ys : List Bool) (i : ℕ) → length xs ≤ i
    → made ++ pairwise f (drop i xs) (drop i ys) ≡ made
unfolding pairwise
pairwise-end f made xs ys i h = rw (drop_all i xs h) (append-nil made)

pub map-end : (f : Bool → Bool) (made xs : List Bool) (i : ℕ) → length xs ≤ i → made ++ map f (drop i xs) ≡ made
map-end f made xs i h = rw (drop_all i xs h) (append-nil made)

pub selected-end : (made ms xs ys : List Bool) (i : ℕ) → length ms ≤ i
    → made ++ selected (drop i ms) (drop i xs) (drop i ys) ≡ made
unfolding selected
selected-end made ms xs ys i h = rw (drop_all i ms h) (append-nil made)

-- the same, where what was read is known by equations

pub and-next : (made new xs ys whole : List Bool) (i : ℕ) (a b : Bool) → i < length xs → length ys ≡ length xs
    → a ≡ get_or xs i false → b ≡ get_or ys i false
    → new ≡ made ++ (a && b) ∷ [] → made ++ pairwise (λ x y. x && y) (drop i xs) (drop i ys) ≡ whole →
    new ++ pairwise (λ x y. x && y) (drop (i + 1) xs) (drop (i + 1) ys) ≡ whole
and-next made new xs ys whole i a b h e ea eb en before =
    rw (en, ea, eb) (pairwise-step (λ x y. x && y) made xs ys i h e ∙ before)

pub or-next : (made new xs ys whole : List Bool) (i : ℕ) (a b : Bool) → i < length xs → length ys ≡ length xs
    → a ≡ get_or xs i false → b ≡ get_or ys i false
    → new ≡ made ++ (a || b) ∷ [] → made ++ pairwise (λ x y. x || y) (drop i xs) (drop i ys) ≡ whole →
    new ++ pairwise (λ x y. x || y) (drop (i + 1) xs) (drop (i + 1) ys) ≡ whole
or-next made new xs ys whole i a b h e ea eb en before =
    rw (en, ea, eb) (pairwise-step (λ x y. x || y) made xs ys i h e ∙ before)

pub selected-next : (made new ms xs ys whole : List Bool) (i : ℕ) (m a b c : Bool) → i < length ms
    → length xs ≡ length ms → length ys ≡ length ms
    → m ≡ get_or ms i false → a ≡ get_or xs i false → b ≡ get_or ys i false → c ≡ (if m then a else b)
    → new ≡ made ++ c ∷ []
    → made ++ selected (drop i ms) (drop i xs) (drop i ys) ≡ whole
    → new ++ selected (drop (i + 1) ms) (drop (i + 1) xs) (drop (i + 1) ys) ≡ whole
selected-next made new ms xs ys whole i m a b c h e1 e2 em ea eb ec en before =
    rw (en, ec, em, ea, eb) (selected-step made ms xs ys i h e1 e2 ∙ before)

pub ruleset making = (and-next, or-next, map-step, selected-next, pairwise-end, map-end, selected-end)
