-- Keys that compare as equal are the same.
use Rattle.std.proofs.Common.{◌≡◌, refl, ap, subst, sym}
use Rattle.std.specs.Prelude.{true, false, ⊤}
use Rattle.std.specs.declared.cmp.Ordering.{Ordering}
use Rattle.std.specs.declared.cmp.Ordering.TheVariants.{Equal, Greater, Less}
use Rattle.std.proofs.lemmas.Map.Lookups.{exact_signed, exact_bytes}
use Rattle.values.specs.declared.key.Key.{Key}
use Rattle.values.specs.declared.key.Key.TheVariants as key
use Rattle.values.specs.contracts.key.KeyOrd.TheImpl as order

abbrev IsEqual : Ordering → Type 0
IsEqual Equal = ⊤
IsEqual Less = ⊥
IsEqual Greater = ⊥

pub key_exact : (a b : Key) → order.ghosts.cmp a b ≡ Equal → a ≡ b
key_exact (key.Bool true) (key.Bool true) h = refl
key_exact (key.Bool false) (key.Bool false) h = refl
key_exact (key.Int x) (key.Int y) h = ap key.Int (exact_signed x y h)
key_exact (key.Utf8 x) (key.Utf8 y) h = ap key.Utf8 (exact_bytes x y h)
key_exact (key.Binary x) (key.Binary y) h = ap key.Binary (exact_bytes x y h)
key_exact key.Null key.Null h = refl
key_exact a b h = absurd (subst IsEqual (sym h) tt)
