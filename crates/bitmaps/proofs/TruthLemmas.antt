-- Truths of three values, and the bitmaps of them.
use Rattle.std.proofs.Common.{
  ◌≡◌,
  ℕ,
  zero,
  suc,
  ◌<◌,
  List,
  [],
  ◌∷◌,
  length,
  get_or,
  refl,
  ap,
  sym,
  subst,
  ◌∙◌,
  arith,
}
use Rattle.std.specs.Prelude.{Bool, true, false, not, ◌&&◌, ◌||◌, None, Some, Result, Ok, Err, IfOk, map}
use Rattle.std.proofs.lemmas.List.{length-map}
use Rattle.bitmaps.specs.Bits.{pairwise}
use Rattle.bitmaps.proofs.KernelRuns.{length-pairwise}
use Rattle.bitmaps.specs.Truths.{Truth, is_true, is_unknown, negated, both, either, paired, truths_by, AreBitsOf}

pub truths-back : (ts : List Truth) → truths_by (map is_true ts) (map is_unknown ts) ≡ ts
unfolding truths_by
truths-back [] = refl
truths-back (None ∷ ts) = ap (λ us. None ∷ us) (truths-back ts)
truths-back (Some b ∷ ts) = ap (λ us. Some b ∷ us) (truths-back ts)

-- bitmaps of some truths give them, and no others
pub seen-as : (ts : List Truth) (ys us : List Bool) → AreBitsOf ts ys us → truths_by ys us ≡ ts
seen-as ts ys us are =
    ap (λ bs. truths_by bs us) are.yes ∙ ap (truths_by (map is_true ts)) are.unknown ∙ truths-back ts

pub kept-as : (ts : List Truth) (ys us : List Bool) → AreBitsOf ts ys us → AreBitsOf (truths_by ys us) ys us
kept-as ts ys us are =
    let P : List Truth → Type 0 = λ rs. AreBitsOf rs ys us in subst P (sym (seen-as ts ys us are)) are

-- the bitmaps of what is known and what isn't

certain-yes : (known unknown : List Bool) → length known ≡ length unknown
    → pairwise (λ x y. x && y) known (map not unknown) ≡ map is_true (truths_by known unknown)
unfolding pairwise truths_by
certain-yes [] us e = refl
certain-yes (t ∷ ts) [] e = absurd (omega (arith, e))
certain-yes (true ∷ ts) (true ∷ us) e = ap (λ bs. false ∷ bs) (certain-yes ts us (omega (arith, e)))
certain-yes (true ∷ ts) (false ∷ us) e = ap (λ bs. true ∷ bs) (certain-yes ts us (omega (arith, e)))
certain-yes (false ∷ ts) (true ∷ us) e = ap (λ bs. false ∷ bs) (certain-yes ts us (omega (arith, e)))
certain-yes (false ∷ ts) (false ∷ us) e = ap (λ bs. false ∷ bs) (certain-yes ts us (omega (arith, e)))

certain-unknown : (known unknown : List Bool) → length known ≡ length unknown
    → unknown ≡ map is_unknown (truths_by known unknown)
unfolding truths_by
certain-unknown [] [] e = refl
certain-unknown [] (u ∷ us) e = absurd (omega (arith, e))
certain-unknown (t ∷ ts) [] e = absurd (omega (arith, e))
certain-unknown (t ∷ ts) (true ∷ us) e = ap (λ bs. true ∷ bs) (certain-unknown ts us (omega (arith, e)))
certain-unknown (t ∷ ts) (false ∷ us) e = ap (λ bs. false ∷ bs) (certain-unknown ts us (omega (arith, e)))

pub certain-bits : (known unknown certain ys : List Bool) → length known ≡ length unknown → certain ≡ map not unknown
    → ys ≡ pairwise (λ x y. x && y) known certain → AreBitsOf (truths_by known unknown) ys unknown
certain-bits known unknown certain ys same c y = record {
  yes = y ∙ ap (pairwise (λ x y. x && y) known) c ∙ certain-yes known unknown same;
  unknown = certain-unknown known unknown same;
}

pub length-truths_by : (known unknown : List Bool) → length known ≡ length unknown
    → length (truths_by known unknown) ≡ length known
unfolding truths_by
length-truths_by [] us e = refl
length-truths_by (t ∷ ts) [] e = absurd (omega (arith, e))
length-truths_by (t ∷ ts) (u ∷ us) e = ap suc (length-truths_by ts us (omega (arith, e)))

-- one of them

pub unknown-at : (ts : List Truth) (i : ℕ) → i < length ts → get_or (map is_unknown ts) i false ≡ true
    → None ≡ get_or ts i None
unknown-at [] i h is = absurd (omega (arith, h))
unknown-at (None ∷ ts) zero h is = refl
unknown-at (Some b ∷ ts) zero h is = cc
unknown-at (t ∷ ts) (suc i) h is = unknown-at ts i (omega (arith, h)) is

pub known-at : (ts : List Truth) (i : ℕ) (b : Bool) → i < length ts → get_or (map is_unknown ts) i false ≡ false
    → b ≡ get_or (map is_true ts) i false → Some b ≡ get_or ts i None
known-at [] i b h is e = absurd (omega (arith, h))
known-at (None ∷ ts) zero b h is e = cc
known-at (Some a ∷ ts) zero b h is e = ap (λ x. Some x) e
known-at (t ∷ ts) (suc i) b h is e = known-at ts i b (omega (arith, h)) is e

-- negation

pub negated-truths : (ts : List Truth) → truths_by (map not (map is_true ts)) (map is_unknown ts) ≡ map negated ts
unfolding truths_by
negated-truths [] = refl
negated-truths (None ∷ ts) = ap (λ us. None ∷ us) (negated-truths ts)
negated-truths (Some b ∷ ts) = ap (λ us. Some (not b) ∷ us) (negated-truths ts)

pub negated-bits : (ts : List Truth) (ys us ns : List Bool) → AreBitsOf (truths_by ys us) ys us → truths_by ys us ≡ ts
    → ns ≡ map not ys → truths_by ns us ≡ map negated ts
negated-bits ts ys us ns are seen n =
    let rs = truths_by ys us in
    ap (λ bs. truths_by bs us) (n ∙ ap (map not) are.yes) ∙ ap (truths_by (map not (map is_true rs))) are.unknown
    ∙ negated-truths rs ∙ ap (map negated) seen

-- what a call answers, by an equation

pub ok-same : {X E : Type 0} (r : Result X E) (a b : X) → a ≡ b → IfOk r (λ x. x ≡ a) → IfOk r (λ x. x ≡ b)
ok-same (Ok x) a b e is = is ∙ e
ok-same (Err f) a b e is = tt

-- and, or

abbrev pub ands : List Bool → List Bool → List Bool
ands = pairwise (λ x y. x && y)

abbrev pub ors : List Bool → List Bool → List Bool
ors = pairwise (λ x y. x || y)

pub both-yes : (xs ys : List Truth) → length ys ≡ length xs
    → ands (map is_true xs) (map is_true ys) ≡ map is_true (paired both xs ys)
unfolding pairwise paired
both-yes [] ys e = refl
both-yes (x ∷ xs) [] e = absurd (omega (arith, e))
both-yes (x ∷ xs) (y ∷ ys) e =
    ap (λ b. b ∷ ands (map is_true xs) (map is_true ys)) (one x y)
    ∙ ap (λ bs. is_true (both x y) ∷ bs) (both-yes xs ys (omega (arith, e)))
  where
    one : (x y : Truth) → (is_true x && is_true y) ≡ is_true (both x y)
    one (Some true) y = refl
    one (Some false) y = refl
    one None (Some true) = refl
    one None (Some false) = refl
    one None None = refl

pub both-unknown : (xs ys : List Truth) → length ys ≡ length xs
    → ands (ands (ors (map is_true xs) (map is_unknown xs)) (ors (map is_true ys) (map is_unknown ys)))
    (map not (ands (map is_true xs) (map is_true ys)))
    ≡ map is_unknown (paired both xs ys)
unfolding pairwise paired
both-unknown [] ys e = refl
both-unknown (x ∷ xs) [] e = absurd (omega (arith, e))
both-unknown (x ∷ xs) (y ∷ ys) e =
    ap (λ b. b ∷ ands (ands (ors (map is_true xs) (map is_unknown xs)) (ors (map is_true ys) (map is_unknown ys)))
    (map not (ands (map is_true xs) (map is_true ys)))) (one x y)
    ∙ ap (λ bs. is_unknown (both x y) ∷ bs) (both-unknown xs ys (omega (arith, e)))
  where
    one : (x y : Truth)
        → (((is_true x || is_unknown x) && (is_true y || is_unknown y)) && not (is_true x && is_true y))
        ≡ is_unknown (both x y)
    one (Some true) (Some true) = refl
    one (Some true) (Some false) = refl
    one (Some true) None = refl
    one (Some false) y = refl
    one None (Some true) = refl
    one None (Some false) = refl
    one None None = refl

pub either-yes : (xs ys : List Truth) → length ys ≡ length xs
    → ors (map is_true xs) (map is_true ys) ≡ map is_true (paired either xs ys)
unfolding pairwise paired
either-yes [] ys e = refl
either-yes (x ∷ xs) [] e = absurd (omega (arith, e))
either-yes (x ∷ xs) (y ∷ ys) e =
    ap (λ b. b ∷ ors (map is_true xs) (map is_true ys)) (one x y)
    ∙ ap (λ bs. is_true (either x y) ∷ bs) (either-yes xs ys (omega (arith, e)))
  where
    one : (x y : Truth) → (is_true x || is_true y) ≡ is_true (either x y)
    one (Some true) y = refl
    one (Some false) y = refl
    one None (Some true) = refl
    one None (Some false) = refl
    one None None = refl

pub either-unknown : (xs ys : List Truth) → length ys ≡ length xs
    → ands (ors (map is_unknown xs) (map is_unknown ys)) (map not (ors (map is_true xs) (map is_true ys)))
    ≡ map is_unknown (paired either xs ys)
unfolding pairwise paired
either-unknown [] ys e = refl
either-unknown (x ∷ xs) [] e = absurd (omega (arith, e))
either-unknown (x ∷ xs) (y ∷ ys) e =
    ap (λ b. b ∷ ands (ors (map is_unknown xs) (map is_unknown ys)) (map not (ors (map is_true xs) (map is_true ys))))
    (one x y)
    ∙ ap (λ bs. is_unknown (either x y) ∷ bs) (either-unknown xs ys (omega (arith, e)))
  where
    one : (x y : Truth) → ((is_unknown x || is_unknown y) && not (is_true x || is_true y)) ≡ is_unknown (either x y)
    one (Some true) (Some true) = refl
    one (Some true) (Some false) = refl
    one (Some true) None = refl
    one (Some false) (Some true) = refl
    one (Some false) (Some false) = refl
    one (Some false) None = refl
    one None (Some true) = refl
    one None (Some false) = refl
    one None None = refl

pub length-paired : (f : Truth → Truth → Truth) (xs ys : List Truth) → length ys ≡ length xs
    → length (paired f xs ys) ≡ length xs
unfolding paired
length-paired f [] ys e = refl
length-paired f (x ∷ xs) [] e = absurd (omega (arith, e))
length-paired f (x ∷ xs) (y ∷ ys) e = ap suc (length-paired f xs ys (omega (arith, e)))

pub ruleset truth_laws =
    (seen-as, kept-as, length-truths_by, length-map, length-pairwise, length-paired, unknown-at, known-at)
