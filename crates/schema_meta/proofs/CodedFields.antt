-- Columns that are coded: their positions, and the types of their dictionaries.
use Rattle.std.proofs.Common.{
  ◌≡◌,
  ℕ,
  ℤ,
  zero,
  suc,
  ◌+◌,
  ◌<◌,
  Bool,
  true,
  false,
  List,
  [],
  ◌∷◌,
  length,
  Option,
  None,
  Some,
  refl,
  ap,
  sym,
  subst,
  ◌∙◌,
  arith,
}
use Rattle.std.specs.Prelude.{pos, All, ◌==◌, ◌||◌, if◌then◌else◌}
use Rattle.std.specs.Ordering.{int_eq}
use Rattle.std.proofs.lemmas.Bool.Decides.{nat_tests}
use Rattle.std.specs.Cmp.{signed_Decides}
use Rattle.std.proofs.lemmas.List.Elements.{All-head, All-tail}
use Rattle.values.specs.Rose.{Rose, node, Roses, none, more, kids_of}
use Rattle.values.specs.Logical.{NamedType}
use Rattle.values.specs.declared.col_type.ColType.{ColType}
use Rattle.values.specs.contracts.col_type.ColTypePartialEq.TheImpl as types
use Rattle.values.proofs.Equality.{types-exact}
use Rattle.values.specs.Coded.{AreCoded, IsTextColumn, is_coded, utf8}
use Rattle.schema_meta.specs.Coded.{own_encoding}
use Rattle.schema_meta.specs.Dictionaries.{agree, are_consistent, own_agrees, own_type, type_below, value_type}
use Rattle.schema_meta.specs.SchemaLaw.{coded_fields, coded_from, stored_below, stored_fields, NoneCoded}
use Rattle.schema_meta.proofs.Plain.{plain-agree}
use Rattle.schema_meta.proofs.SoundFields.{TextsFrom}

-- what holds of all positions holds of one that is coded
pub coded-has : (P : ℕ → Type 0) (coded : List ℕ) (j : ℕ) → is_coded coded j ≡ true → All P coded → P j
coded-has P [] j e all = absurd (cc)
coded-has P (k ∷ ks) j e all = by-test (k == j) refl (λ g. coded-has P ks j g (All-tail P k ks all))
  where
    by-test : (b : Bool) → (k == j) ≡ b → (is_coded ks j ≡ true → P j) → P j
    by-test true same later = let is : k ≡ j = grind (arith, nat_tests) in subst P is (All-head P k ks all)
    by-test false other later = later (sym (ap (λ b. b || is_coded ks j) other) ∙ e)

texts-from :
    (coded : List ℕ) (j : ℕ) (fs : List (Rose NamedType))
    → ((k m : ℕ) → j + k ≡ m → is_coded coded m ≡ true → IsTextColumn fs k) → TextsFrom coded j fs
texts-from coded j [] h = tt
texts-from coded j (node f kids ∷ fs) h = (
  λ e. h 0 j (omega arith) e,
  texts-from coded (suc j) fs (λ k m same e. h (suc k) m (omega (arith, same)) e),
)

pub coded-texts : (coded : List ℕ) (fs : List (Rose NamedType)) → AreCoded coded fs → TextsFrom coded 0 fs
coded-texts coded fs c =
    texts-from coded 0 fs
    (λ k m same e.
    let is : m ≡ k = omega (arith, same) in
    subst (IsTextColumn fs) is (coded-has (IsTextColumn fs) coded m e c.texts))

-- none coded
none-from : (j : ℕ) (fs : List (Rose NamedType)) → coded_from [] j fs ≡ stored_fields fs
none-from j [] = refl
none-from j (node f kids ∷ fs) = rw (none-from (suc j) fs) refl

pub none-coded : NoneCoded
none-coded fs = none-from 0 fs

-- types by id

plain-types : (id : ℤ) (fs : Roses NamedType) → type_below id (stored_below fs) ≡ None
plain-types id none = refl
plain-types id (more (node f kids) fs) = rw (plain-types id kids, plain-types id fs) refl

own-here : (b : Bool) (j : ℕ) (s : ColType) → b ≡ true
    → own_type (pos j) (if b then Some (own_encoding j) else None) s ≡ Some s
own-here b j s e = rw (e, (signed_Decides (pos j) (pos j)).1 refl) refl

own-there : (b : Bool) (j m : ℕ) (s : ColType) → j < m
    → own_type (pos m) (if b then Some (own_encoding j) else None) s ≡ None
own-there false j m s h = refl
own-there true j m s h = rw (differs (int_eq (pos j) (pos m)) refl) refl
  where
    differs : (t : Bool) → int_eq (pos j) (pos m) ≡ t → int_eq (pos j) (pos m) ≡ false
    differs false is = is
    differs true is =
        let same : pos j ≡ pos m = (signed_Decides (pos j) (pos m)).0 is in
        let equal : j ≡ m = cc in
        absurd (omega (arith, equal, h))

type-found :
    (coded : List ℕ) (j k m : ℕ) (fs : List (Rose NamedType)) → j + k ≡ m → k < length fs → is_coded coded m ≡ true
    → TextsFrom coded j fs → type_below (pos m) (kids_of (coded_from coded j fs)) ≡ Some utf8
type-found coded j k m [] same there e texts = absurd (omega (arith, there))
type-found coded j zero m (node f kids ∷ fs) same there e texts =
    let is : m ≡ j = omega (arith, same) in
    let here : is_coded coded j ≡ true = ap (is_coded coded) (sym is) ∙ e in
    let P : ℕ → Type 0 = λ n. type_below (pos n) (kids_of (coded_from coded j (node f kids ∷ fs))) ≡ Some utf8 in
    subst P (sym is) (rw (own-here (is_coded coded j) j f.col_type here) (ap (λ s. Some s) (texts.0 here)))
type-found coded j (suc k) m (node f kids ∷ fs) same there e texts =
    let rest =
    type-found coded (suc j) k m fs (omega (arith, same)) (omega (arith, there)) e texts.1 in
    rw (
      own-there (is_coded coded j) j m f.col_type (omega (arith, same)),
      plain-types (pos m) kids,
      rest,
    ) refl

text-there : (fs : List (Rose NamedType)) (k : ℕ) → IsTextColumn fs k → k < length fs
text-there [] k h = absurd h
text-there (node f kids ∷ fs) zero h = omega arith
text-there (node f kids ∷ fs) (suc k) h = let rest = text-there fs k h in omega (arith, rest)

-- the values of a coded column's dictionary are texts
pub coded-type :
    (coded : List ℕ) (fs : List (Rose NamedType)) (j : ℕ) → AreCoded coded fs → is_coded coded j ≡ true
    → value_type (coded_fields coded fs) (pos j) ≡ Some utf8
unfolding value_type
coded-type coded fs j c e =
    type-found coded 0 j j fs (omega arith)
    (text-there fs j (coded-has (IsTextColumn fs) coded j e c.texts)) e (coded-texts coded fs c)

-- no ids clash

text-agrees : utf8 ≡ utf8 → types.ghosts.eq utf8 utf8 ≡ true
text-agrees e = (types-exact utf8 utf8).1 refl

own-agree : (known : ℤ → Option ColType) (b : Bool) (j : ℕ) (s : ColType) → (b ≡ true → s ≡ utf8)
    → (b ≡ true → known (pos j) ≡ Some utf8)
    → own_agrees known (if b then Some (own_encoding j) else None) s ≡ true
own-agree known false j s text found = refl
own-agree known true j s text found = rw (text refl, found refl) (text-agrees refl)

agree-from :
    (known : ℤ → Option ColType) (coded : List ℕ) (j : ℕ) (fs : List (Rose NamedType)) → TextsFrom coded j fs
    → ((m : ℕ) → is_coded coded m ≡ true → known (pos m) ≡ Some utf8)
    → agree known (kids_of (coded_from coded j fs)) ≡ true
agree-from known coded j [] texts found = refl
agree-from known coded j (node f kids ∷ fs) texts found =
    rw (
      own-agree known (is_coded coded j) j f.col_type texts.0 (found j),
      plain-agree known kids,
      agree-from known coded (suc j) fs texts.1 found,
    ) refl

pub coded-clear : (coded : List ℕ) (fs : List (Rose NamedType)) → AreCoded coded fs
    → are_consistent (coded_fields coded fs) ≡ true
unfolding are_consistent
coded-clear coded fs c =
    agree-from (value_type (coded_fields coded fs)) coded 0 fs (coded-texts coded fs c)
    (λ m e. coded-type coded fs m c e)
