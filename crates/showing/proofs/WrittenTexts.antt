-- What is written one after the other.
use Rattle.std.proofs.Common.{
  ◌≡◌,
  ℕ,
  zero,
  suc,
  List,
  [],
  ◌∷◌,
  ◌++◌,
  ◌+◌,
  ◌-◌,
  ◌/◌,
  ◌%◌,
  ◌^◌,
  ◌<◌,
  ◌≤◌,
  encode_utf8,
  encode_utf8_all,
  length,
  ap,
  sym,
  subst,
  ◌∙◌,
  arith,
  append_assoc,
  append-nil,
}
use Rattle.std.specs.Prelude.{Option, Result, Ok, Err, OnOk, flat_map}
use Rattle.std.specs.Io.KnownBytes.{Appends}
use Rattle.std.proofs.KnownBytes.{Appends-trans}
use Rattle.std.proofs.lemmas.Grind.{flat_map-append}
use Rattle.std.proofs.lemmas.List.{nil_from_length}
use Rattle.std.proofs.lemmas.Str.{encodes-append}
use Rattle.showing.specs.Digits.{fixed_digits}

-- two texts, one after the other
pub appends-two : (a b c : Option (List ℕ)) (s t u : List ℕ) → Appends a b s → Appends b c t → u ≡ s ++ t
    → Appends a c u
appends-two a b c s t u first second whole = subst (Appends a c) (sym whole) (Appends-trans a b c s t first second)

pub ruleset appends = (appends-two)

-- the same text
pub appends-same :
    {E : Type 0} (r : Result (Unit {0}) E) (a b : Option (List ℕ)) (s t : List ℕ) → OnOk r (Appends a b s) → s ≡ t
    → OnOk r (Appends a b t)
appends-same (Ok u) a b s t wrote is = subst (Appends a b) is wrote
appends-same (Err e) a b s t wrote is = tt

-- three texts, one after the other, of which the last may fail
pub appends-three :
    {E : Type 0} (r : Result (Unit {0}) E) (a b c d : Option (List ℕ)) (s t u whole : List ℕ) → Appends a b s
    → Appends b c t → OnOk r (Appends c d u) → s ++ (t ++ u) ≡ whole
    → OnOk r (Appends a d whole)
appends-three (Ok x) a b c d s t u whole first second third is =
    subst (Appends a d) is (Appends-trans a b d s (t ++ u) first (Appends-trans b c d t u second third))
appends-three (Err e) a b c d s t u whole first second third is = tt

-- one digit more, from the front
pub digit-more :
    (a b c : Option (List ℕ)) (n left byte : ℕ) (whole done : List ℕ) → Appends a b done
    → done ++ fixed_digits left n ≡ whole → 0 < left → Appends b c (byte ∷ []) → byte ≡ 48 + n / 10 ^ (left - 1) % 10
    → (x : List ℕ) × Appends a c x × (x ++ fixed_digits (left - 1) n ≡ whole)
unfolding fixed_digits
digit-more a b c n zero byte whole done wrote is some more digit = absurd (omega (arith, some))
digit-more a b c n (suc k) byte whole done wrote is some more digit =
    let e : suc k - 1 ≡ k = omega arith in
    let d : byte ≡ 48 + n / 10 ^ k % 10 = digit ∙ ap (λ m. 48 + n / 10 ^ m % 10) e in (
      done ++ byte ∷ [],
      Appends-trans a b c done (byte ∷ []) wrote more,
      ap (λ m. (done ++ byte ∷ []) ++ fixed_digits m n) e
          ∙ append_assoc done (byte ∷ []) (fixed_digits k n)
          ∙ ap (λ x. done ++ (x ∷ fixed_digits k n)) d
          ∙ is,
    )

pub digits-end : (a b : Option (List ℕ)) (n left : ℕ) (whole done : List ℕ) → Appends a b done
    → done ++ fixed_digits left n ≡ whole → left ≤ 0 → Appends a b whole
unfolding fixed_digits
digits-end a b n zero whole done wrote is none = subst (Appends a b) (sym (append-nil done) ∙ is) wrote
digits-end a b n (suc k) whole done wrote is none = absurd (omega (arith, none))

-- one item more of those that are written each by itself
pub item-more : {X : Type 0} (a b c : Option (List ℕ)) (f : X → List ℕ) (xs : List X) (x : X)
    → Appends a b (flat_map f xs) → Appends b c (f x) → Appends a c (flat_map f (xs ++ x ∷ []))
item-more a b c f xs x wrote more =
    subst (Appends a c) (sym (flat_map-append f xs (x ∷ []) ∙ ap (λ t. flat_map f xs ++ t) (append-nil (f x))))
    (Appends-trans a b c (flat_map f xs) (f x) wrote more)

-- one character more
pub char-more : (cs rest next text : List ℕ) (c : ℕ) → encode_utf8_all cs ++ rest ≡ text
    → rest ≡ encode_utf8 c ++ next → encode_utf8_all (cs ++ c ∷ []) ++ next ≡ text
char-more cs rest next text c is step =
    ap (λ t. t ++ next) (encodes-append cs (c ∷ []) ∙ ap (λ t. encode_utf8_all cs ++ t) (append-nil (encode_utf8 c)))
    ∙ append_assoc (encode_utf8_all cs) (encode_utf8 c) next
    ∙ ap (λ t. encode_utf8_all cs ++ t) (sym step)
    ∙ is

pub chars-end : (cs rest text : List ℕ) → encode_utf8_all cs ++ rest ≡ text → length rest ≡ 0
    → encode_utf8_all cs ≡ text
chars-end cs rest text is none =
    sym (append-nil (encode_utf8_all cs)) ∙ ap (λ t. encode_utf8_all cs ++ t) (sym (nil_from_length rest none)) ∙ is
