-- Equality and order of keys.
use Rattle.std.proofs.Common.{◌≡◌, refl, ap, sym, subst}
use Rattle.std.specs.Prelude.{Bool, true, false}
use Rattle.std.specs.Cmp.Lexicographic.{same_text}
use Rattle.std.specs.Cmp.{signed_Decides}
use Rattle.std.proofs.lemmas.Cmp.{int_eq_equiv, nat_list_eq_equiv}
use Rattle.values.specs.declared.key.Key.{Key}
use Rattle.values.specs.declared.key.Key.TheVariants as key
use Rattle.values.specs.contracts.key.KeyPartialEq.TheImpl as equality
use Rattle.values.specs.KeyOrder.{KeysAreExact, KeysAreOrdered}

different : false ≡ true → ⊥
different h = cc

abbrev key_eq : Key → Key → Bool
key_eq = equality.ghosts.eq

same-key : (a : Key) → key_eq a a ≡ true
same-key (key.Bool true) = refl
same-key (key.Bool false) = refl
same-key (key.Int n) = int_eq_equiv.refl n
same-key (key.Utf8 t) = nat_list_eq_equiv.refl t
same-key (key.Binary b) = nat_list_eq_equiv.refl b
same-key key.Null = refl

equal-keys : (a b : Key) → key_eq a b ≡ true → a ≡ b
equal-keys (key.Bool true) (key.Bool true) h = refl
equal-keys (key.Bool false) (key.Bool false) h = refl
equal-keys (key.Int x) (key.Int y) h = ap key.Int ((signed_Decides x y).0 h)
equal-keys (key.Utf8 x) (key.Utf8 y) h = ap key.Utf8 (same_text x y (sym h))
equal-keys (key.Binary x) (key.Binary y) h = ap key.Binary (same_text x y (sym h))
equal-keys key.Null key.Null h = refl
equal-keys a b h = absurd (different h)

pub keys-exact : KeysAreExact
keys-exact a b = (equal-keys a b, λ e. subst (λ x. key_eq a x ≡ true) e (same-key a))

pub keys-ordered : KeysAreOrdered
keys-ordered (key.Bool true) (key.Bool true) = refl
keys-ordered (key.Bool true) (key.Bool false) = refl
keys-ordered (key.Bool false) (key.Bool true) = refl
keys-ordered (key.Bool false) (key.Bool false) = refl
keys-ordered (key.Int x) (key.Int y) = refl
keys-ordered (key.Utf8 x) (key.Utf8 y) = refl
keys-ordered (key.Binary x) (key.Binary y) = refl
keys-ordered key.Null (key.Bool b) = refl
keys-ordered key.Null (key.Int n) = refl
keys-ordered key.Null (key.Utf8 t) = refl
keys-ordered key.Null (key.Binary b) = refl
keys-ordered key.Null key.Null = refl
keys-ordered a b = refl

pub ruleset key_laws = (keys-exact, keys-ordered)
