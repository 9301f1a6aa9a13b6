-- Equality of types.
use Rattle.std.proofs.Common.{◌≡◌, refl, ap, sym, subst}
use Rattle.std.specs.Prelude.{Bool, true, false, ◌&&◌}
use Rattle.std.specs.Cmp.{nat_eq_equiv}
use Rattle.std.specs.Cmp.Lexicographic.{same_text}
use Rattle.std.proofs.lemmas.Bool.{and_from, and_parts, eqb-true}
use Rattle.std.proofs.lemmas.Cmp.{nat_list_eq_equiv}
use Rattle.values.specs.declared.layout.IntWidth.{IntWidth}
use Rattle.values.specs.declared.layout.IntWidth.TheVariants as int
use Rattle.values.specs.declared.layout.OffsetWidth.{OffsetWidth}
use Rattle.values.specs.declared.layout.OffsetWidth.TheVariants as offset
use Rattle.values.specs.contracts.layout.IntWidthPartialEq.TheImpl as int_equality
use Rattle.values.specs.contracts.layout.OffsetWidthPartialEq.TheImpl as offset_equality
use Rattle.values.specs.declared.units.DateUnit.{DateUnit}
use Rattle.values.specs.declared.units.DateUnit.TheVariants as date
use Rattle.values.specs.declared.units.TimeUnit.{TimeUnit}
use Rattle.values.specs.declared.units.TimeUnit.TheVariants as time
use Rattle.values.specs.contracts.units.DateUnitPartialEq.TheImpl as date_equality
use Rattle.values.specs.contracts.units.TimeUnitPartialEq.TheImpl as time_equality
use Rattle.values.specs.declared.col_type.ColType.{ColType}
use Rattle.values.specs.declared.col_type.ColType.TheVariants as col
use Rattle.values.specs.contracts.col_type.ColTypePartialEq.TheImpl as equality
use Rattle.values.specs.TypeEquality.{TypesAreExact}

different : false ≡ true → ⊥
different h = cc

abbrev type_eq : ColType → ColType → Bool
type_eq = equality.ghosts.eq

same-bool : (b : Bool) → type_eq (col.Int int.Bits8 b) (col.Int int.Bits8 b) ≡ true
same-bool true = refl
same-bool false = refl

same-int : (w : IntWidth) (b : Bool) → type_eq (col.Int w b) (col.Int w b) ≡ true
same-int int.Bits8 b = same-bool b
same-int int.Bits16 b = same-bool b
same-int int.Bits32 b = same-bool b
same-int int.Bits64 b = same-bool b

equal-int : (w x : IntWidth) → int_equality.ghosts.eq w x ≡ true → w ≡ x
equal-int int.Bits8 int.Bits8 h = refl
equal-int int.Bits16 int.Bits16 h = refl
equal-int int.Bits32 int.Bits32 h = refl
equal-int int.Bits64 int.Bits64 h = refl
equal-int w x h = absurd (different h)

same-offset : (o : OffsetWidth) → offset_equality.ghosts.eq o o ≡ true
same-offset offset.Bits32 = refl
same-offset offset.Bits64 = refl

equal-offset : (o q : OffsetWidth) → offset_equality.ghosts.eq o q ≡ true → o ≡ q
equal-offset offset.Bits32 offset.Bits32 h = refl
equal-offset offset.Bits64 offset.Bits64 h = refl
equal-offset o q h = absurd (different h)

same-date : (u : DateUnit) → date_equality.ghosts.eq u u ≡ true
same-date date.Day = refl
same-date date.Millisecond = refl

equal-date : (u v : DateUnit) → date_equality.ghosts.eq u v ≡ true → u ≡ v
equal-date date.Day date.Day h = refl
equal-date date.Millisecond date.Millisecond h = refl
equal-date u v h = absurd (different h)

same-time : (u : TimeUnit) → time_equality.ghosts.eq u u ≡ true
same-time time.Second = refl
same-time time.Millisecond = refl
same-time time.Microsecond = refl
same-time time.Nanosecond = refl

equal-time : (u v : TimeUnit) → time_equality.ghosts.eq u v ≡ true → u ≡ v
equal-time time.Second time.Second h = refl
equal-time time.Millisecond time.Millisecond h = refl
equal-time time.Microsecond time.Microsecond h = refl
equal-time time.Nanosecond time.Nanosecond h = refl
equal-time u v h = absurd (different h)

same-type : (a : ColType) → type_eq a a ≡ true
same-type col.Bool = refl
same-type (col.Int w s) = same-int w s
same-type (col.Decimal p s) = and_from _ _ (nat_eq_equiv.refl p) (nat_eq_equiv.refl s)
same-type (col.Date u) = same-date u
same-type (col.Time u) = same-time u
same-type (col.Timestamp u z) = and_from _ _ (same-time u) (nat_list_eq_equiv.refl z)
same-type (col.Duration u) = same-time u
same-type (col.Utf8 o) = same-offset o
same-type (col.Binary o) = same-offset o
same-type (col.FixedSizeBinary w) = nat_eq_equiv.refl w
same-type (col.List o) = same-offset o
same-type col.Struct = refl

not-false : (b : Bool) → ¬ ((b && false) ≡ true)
not-false true h = cc
not-false false h = cc

equal-ints : (w x : IntWidth) (s r : Bool) → type_eq (col.Int w s) (col.Int x r) ≡ true → col.Int w s ≡ col.Int x r
equal-ints w x true true h = ap (λ y. col.Int y true) (equal-int w x (and_parts _ _ h).0)
equal-ints w x false false h = ap (λ y. col.Int y false) (equal-int w x (and_parts _ _ h).0)
equal-ints w x true false h = absurd (not-false (int_equality.ghosts.eq w x) h)
equal-ints w x false true h = absurd (not-false (int_equality.ghosts.eq w x) h)

equal-types : (a b : ColType) → type_eq a b ≡ true → a ≡ b
equal-types col.Bool col.Bool h = refl
equal-types (col.Int w s) (col.Int x r) h = equal-ints w x s r h
equal-types (col.Decimal p s) (col.Decimal q r) h =
    let e = and_parts _ _ h in
    let here : p ≡ q = eqb-true p q e.0 in
    let there : s ≡ r = eqb-true s r e.1 in
    rw (here, there) refl
equal-types (col.Date u) (col.Date v) h = ap col.Date (equal-date u v h)
equal-types (col.Time u) (col.Time v) h = ap col.Time (equal-time u v h)
equal-types (col.Timestamp u z) (col.Timestamp v y) h =
    let e = and_parts _ _ h in
    let here : u ≡ v = equal-time u v e.0 in
    let there : z ≡ y = same_text z y (sym e.1) in
    rw (here, there) refl
equal-types (col.Duration u) (col.Duration v) h = ap col.Duration (equal-time u v h)
equal-types (col.Utf8 o) (col.Utf8 q) h = ap col.Utf8 (equal-offset o q h)
equal-types (col.Binary o) (col.Binary q) h = ap col.Binary (equal-offset o q h)
equal-types (col.FixedSizeBinary w) (col.FixedSizeBinary x) h = ap col.FixedSizeBinary (eqb-true w x h)
equal-types (col.List o) (col.List q) h = ap col.List (equal-offset o q h)
equal-types col.Struct col.Struct h = refl
equal-types a b h = absurd (different h)

pub types-exact : TypesAreExact
types-exact a b = (equal-types a b, λ e. subst (λ x. type_eq a x ≡ true) e (same-type a))

pub ruleset type_equality = (types-exact)
