-- Ids of dictionaries clash exactly where two fields with one id have different types.
use Rattle.std.proofs.Common.{
  ◌≡◌,
  ◌⊎◌,
  inl,
  inr,
  ℤ,
  Bool,
  true,
  false,
  List,
  Option,
  None,
  Some,
  refl,
  ap,
  sym,
  ◌∙◌,
  cond,
}
use Rattle.std.specs.Ordering.{int_eq}
use Rattle.std.specs.Cmp.{signed_Decides}
use Rattle.std.proofs.lemmas.Bool.{and_parts, and_from}
use Rattle.values.specs.Rose.{Rose, node, Roses, none, more, kids_of}
use Rattle.values.specs.declared.col_type.ColType.{ColType}
use Rattle.values.proofs.Equality.{types-exact}
use Rattle.schema_meta.specs.declared.encoding.DictionaryEncoding.{DictionaryEncoding}
use Rattle.schema_meta.specs.Dictionaries.{
  or_next,
  own_type,
  type_in,
  type_below,
  value_type,
  is_type,
  own_agrees,
  agrees,
  agree,
  are_consistent,
}
use Rattle.schema_meta.specs.Entry.{Entry}
use Rattle.schema_meta.specs.ClashLaw.{IsOwn, Uses, UsesBelow, HaveOneType, ClashLaw, TypeLaw}

-- What is found is used.

own-found : (id : ℤ) (c : Option DictionaryEncoding) (s t : ColType) → own_type id c t ≡ Some s → IsOwn id s c t
own-found id None s t e = absurd (cc)
own-found id (Some c) s t e = by_test (int_eq c.id id) refl e where
  by_test : (b : Bool) → int_eq c.id id ≡ b → cond b (Some t) None ≡ Some s → (c.id ≡ id) × (s ≡ t)
  by_test true is f = ((signed_Decides c.id id).0 is, cc)
  by_test false is f = absurd (cc)

next-found : (a b : Option ColType) (s : ColType) → or_next a b ≡ Some s → (a ≡ Some s) ⊎ (b ≡ Some s)
next-found None b s e = inr e
next-found (Some t) b s e = inl e

mutual
  type-used : (id : ℤ) (s : ColType) (f : Rose Entry) → type_in id f ≡ Some s → Uses id s f
  type-used id s (node e kids) h =
      elim (next-found (own_type id e.encoding e.stored) (type_below id kids) s h) [
        | inl a ↦ inl (own-found id e.encoding s e.stored a)
        | inr b ↦ inr (types-used id s kids b)
      ]

  types-used : (id : ℤ) (s : ColType) (fs : Roses Entry) → type_below id fs ≡ Some s → UsesBelow id s fs
  types-used id s none h = absurd (cc)
  types-used id s (more f fs) h =
      elim (next-found (type_in id f) (type_below id fs) s h) [
        | inl a ↦ inl (type-used id s f a)
        | inr b ↦ inr (types-used id s fs b)
      ]

-- Where an id is used a type is found for it.

abbrev IsFound : Option ColType → Type 0
IsFound o = (t : ColType) × (o ≡ Some t)

found-first : (a b : Option ColType) → IsFound a → IsFound (or_next a b)
found-first None b h = absurd (cc (h.1))
found-first (Some t) b h = (t, refl)

found-next : (a b : Option ColType) → IsFound b → IsFound (or_next a b)
found-next None b h = h
found-next (Some t) b h = (t, refl)

own-is-found : (id : ℤ) (s : ColType) (c : Option DictionaryEncoding) (t : ColType) → IsOwn id s c t
    → IsFound (own_type id c t)
own-is-found id s None t h = absurd h
own-is-found id s (Some c) t h =
    let e : int_eq c.id id ≡ true = (signed_Decides c.id id).1 h.0 in
    (t, ap (λ b. cond b (Some t) None) e)

mutual
  is-found : (id : ℤ) (s : ColType) (f : Rose Entry) → Uses id s f → IsFound (type_in id f)
  is-found id s (node e kids) (inl a) =
      found-first (own_type id e.encoding e.stored) (type_below id kids) (own-is-found id s e.encoding e.stored a)
  is-found id s (node e kids) (inr b) =
      found-next (own_type id e.encoding e.stored) (type_below id kids) (are-found id s kids b)

  are-found : (id : ℤ) (s : ColType) (fs : Roses Entry) → UsesBelow id s fs → IsFound (type_below id fs)
  are-found id s none h = absurd h
  are-found id s (more f fs) (inl a) = found-first (type_in id f) (type_below id fs) (is-found id s f a)
  are-found id s (more f fs) (inr b) = found-next (type_in id f) (type_below id fs) (are-found id s fs b)

-- Where all fields agree each has the type that is found.

pub known-type : (s : ColType) (o : Option ColType) → is_type s o ≡ true → o ≡ Some s
known-type s None e = absurd (cc)
known-type s (Some t) e = ap (λ u. Some u) (sym ((types-exact s t).0 e))

own-known :
    (known : ℤ → Option ColType) (id : ℤ) (s : ColType) (c : Option DictionaryEncoding) (t : ColType)
    → own_agrees known c t ≡ true
    → IsOwn id s c t → known id ≡ Some s
own-known known id s None t e h = absurd h
own-known known id s (Some c) t e h =
    ap known (sym h.0) ∙ known-type t (known c.id) e ∙ ap (λ u. Some u) (sym h.1)

mutual
  is-known : (known : ℤ → Option ColType) (id : ℤ) (s : ColType) (f : Rose Entry) → agrees known f ≡ true → Uses id s f
      → known id ≡ Some s
  is-known known id s (node e kids) h (inl a) =
      own-known known id s e.encoding e.stored (and_parts (own_agrees known e.encoding e.stored) (agree known kids) h).0
      a
  is-known known id s (node e kids) h (inr b) =
      are-known known id s kids (and_parts (own_agrees known e.encoding e.stored) (agree known kids) h).1 b

  are-known :
      (known : ℤ → Option ColType) (id : ℤ) (s : ColType) (fs : Roses Entry) → agree known fs ≡ true → UsesBelow id s fs
      → known id ≡ Some s
  are-known known id s none h u = absurd u
  are-known known id s (more f fs) h (inl a) = is-known known id s f (and_parts (agrees known f) (agree known fs) h).0 a
  are-known known id s (more f fs) h (inr b) =
      are-known known id s fs (and_parts (agrees known f) (agree known fs) h).1 b

one-type : (fields : List (Rose Entry)) → are_consistent fields ≡ true → HaveOneType fields
unfolding are_consistent
one-type fields clear id s t a b =
    let first = are-known (value_type fields) id s (kids_of fields) clear a in
    let second = are-known (value_type fields) id t (kids_of fields) clear b in
    cc (first, second)

-- Where the fields with one id have one type all agree.

-- each of these fields has the type that is known of its id
abbrev Known : (ℤ → Option ColType) → ((ℤ → ColType → Type 0)) → Type 0
Known known P = (id : ℤ) (s : ColType) → P id s → known id ≡ Some s

own-agree : (known : ℤ → Option ColType) (c : Option DictionaryEncoding) (t : ColType)
    → Known known (λ id s. IsOwn id s c t) → own_agrees known c t ≡ true
own-agree known None t h = refl
own-agree known (Some c) t h =
    ap (is_type t) (h c.id t (refl, refl)) ∙ (types-exact t t).1 refl

mutual
  all-agrees : (known : ℤ → Option ColType) (f : Rose Entry) → Known known (λ id s. Uses id s f) → agrees known f ≡ true
  all-agrees known (node e kids) h =
      and_from (own_agrees known e.encoding e.stored) (agree known kids)
      (own-agree known e.encoding e.stored (λ id s u. h id s (inl u)))
      (all-agree known kids (λ id s u. h id s (inr u)))

  all-agree : (known : ℤ → Option ColType) (fs : Roses Entry) → Known known (λ id s. UsesBelow id s fs)
      → agree known fs ≡ true
  all-agree known none h = refl
  all-agree known (more f fs) h =
      and_from (agrees known f) (agree known fs) (all-agrees known f (λ id s u. h id s (inl u)))
      (all-agree known fs (λ id s u. h id s (inr u)))

found-is : (fields : List (Rose Entry)) (id : ℤ) (s : ColType) → HaveOneType fields → UsesBelow id s (kids_of fields)
    → value_type fields id ≡ Some s
unfolding value_type
found-is fields id s one u =
    let found = are-found id s (kids_of fields) u in
    found.1 ∙ ap (λ t. Some t) (one id found.0 s (types-used id found.0 (kids_of fields) found.1) u)

clear-of : (fields : List (Rose Entry)) → HaveOneType fields → are_consistent fields ≡ true
unfolding are_consistent
clear-of fields one = all-agree (value_type fields) (kids_of fields) (λ id s u. found-is fields id s one u)

pub clash-law : ClashLaw
clash-law fields = (one-type fields, clear-of fields)

pub used : (fields : List (Rose Entry)) (id : ℤ) (s : ColType) → value_type fields id ≡ Some s
    → UsesBelow id s (kids_of fields)
unfolding value_type
used fields id s e = types-used id s (kids_of fields) e

pub type-law : TypeLaw
type-law fields id s clear = (used fields id s, found-is fields id s (one-type fields clear))
