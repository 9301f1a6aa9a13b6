-- What is read is a type within its bounds.
use Rattle.std.proofs.Common.{◌≡◌, ℕ, ◌≤◌, Bool, true, false, Ok, Err, refl, sym, subst, arith, ◌&&◌}
use Rattle.std.specs.Prelude.{ℤ, pos, negsuc, nat_le, int_le, length, List, [], Option, None, Some, Result, IfOk}
use Rattle.std.specs.Ordering.{int_eq}
use Rattle.std.proofs.lemmas.Bool.{and_parts, leb-true}
use Rattle.std.specs.Str.{is_utf8}
use Rattle.std.proofs.lemmas.Str.{is_utf8-from_IsUtf8, IsUtf8-from_ascii}
use Rattle.flatbuf.specs.Layout.{Table, text_of, subtable_of}
use Rattle.values.specs.Limits.{max_name_len, max_precision, max_fixed_width}
use Rattle.values.specs.Reading.{Reading, Answers, ◌>>=◌, both, first, must}
use Rattle.values.proofs.Readings.{both_Ok, bind_Ok, mapped_Ok}
use Rattle.values.specs.declared.faults.StreamFault.{StreamFault}
use Rattle.values.specs.declared.faults.StreamFault.TheVariants as fault
use Rattle.field_types.specs.declared.kinds.TypeKind.{TypeKind}
use Rattle.field_types.specs.declared.kinds.TypeKind.TheVariants as kind
use Rattle.values.specs.declared.col_type.ColType.{ColType}
use Rattle.values.specs.declared.col_type.ColType.TheVariants as stored
use Rattle.field_types.specs.Reads.{readable, checked, short_of, i32_of, bool_of}
use Rattle.field_types.specs.SchemaFbs as fbs
use Rattle.field_types.specs.Types.{
  ranged,
  precision_of,
  wide_of,
  date_unit_numbered,
  decimal_type,
  digits_of,
  decimal_of,
  int_type,
  int_of,
  width_of,
  date_type,
  date_of,
  time_type,
  time_of,
  time_unit_of,
  timestamp_type,
  timestamp_of,
  zone_in,
  zone_of,
  duration_type,
  duration_of,
  fixed_type,
  fixed_of,
  stored_by,
  type_of,
}
use Rattle.values.specs.ColTypes.{bits_of_time, IsType}
use Rattle.field_types.specs.Kinds.{kind_of_type}
use Rattle.field_types.specs.StoredLaws.{ReadIsType}

-- of a type that was read as this kind
IsOf : TypeKind → ColType → Type 0
IsOf k s = IsType s × (kind_of_type s ≡ k)

checked_Ok : {X : Type 0} (c : StreamFault) (b : Bool) (x y : X) → checked c b x ≡ Ok y → (b ≡ true) × (x ≡ y)
checked_Ok c true x y e = (refl, cc)
checked_Ok c false x y e = cc

between : (low high m : ℕ) → (nat_le low m && nat_le m high) ≡ true → (low ≤ m) × (m ≤ high)
between low high m e = let p = and_parts (nat_le low m) (nat_le m high) e in (leb-true low m p.0, leb-true m high p.1)

ranged_Ok : (low high : ℕ) (z : ℤ) (n : ℕ) → ranged (pos low) (pos high) z ≡ Ok n → (low ≤ n) × (n ≤ high)
ranged_Ok low high (pos m) n e =
    let p = checked_Ok fault.BadType (int_le (pos low) (pos m) && int_le (pos m) (pos high)) m n e in
    subst (λ k. (low ≤ k) × (k ≤ high)) p.1 (between low high m p.0)
ranged_Ok low high (negsuc m) n e = absurd (cc)

-- what a reading gives, it gives also where it is said by another name
along : (k : TypeKind) (s r : ColType) → r ≡ s → IsOf k r → IsOf k s
along k s r e h = subst (IsOf k) e h

Gives : TypeKind → Reading ColType → Type 0
Gives k m = (s : ColType) → m ≡ Ok s → IsOf k s

gives-Ok : (k : TypeKind) (r : ColType) → IsOf k r → Gives k (Ok r)
unfolding Gives
gives-Ok k r h s e = let q : r ≡ s = cc in along k s r q h

gives-int : (t : Table) → Gives kind.Int (int_of t)
unfolding int_of IsOf Gives
gives-int t s e =
    let p = both_Ok int_type (width_of t) (bool_of t fbs.is_signed) s e in
    along kind.Int s (int_type p.0 p.1) p.4 (tt, refl)

gives-digits : (t : Table) → Gives kind.Decimal (digits_of t)
unfolding digits_of precision_of IsOf Gives
gives-digits t s e =
    let whole = bind_Ok (both decimal_type (precision_of t) (i32_of t fbs.scale (pos 0))) (λ taken. taken) s e in
    let parts = both_Ok decimal_type (precision_of t) (i32_of t fbs.scale (pos 0)) whole.0 whole.1 in
    let number = bind_Ok (i32_of t fbs.precision (pos 0)) (λ n. ranged (pos 1) (pos max_precision) n) parts.0 parts.2 in
    let digits = ranged_Ok 1 max_precision number.0 parts.0 number.2 in
    let P : Reading ColType → Type 0 = λ m. m ≡ Ok s in
    let made =
    mapped_Ok (stored.Decimal parts.0) (ranged (pos 0) (pos parts.0) parts.1) s (subst P (sym parts.4) whole.2) in
    let within = ranged_Ok 0 parts.0 parts.1 made.0 made.1 in
    along kind.Decimal s (stored.Decimal parts.0 made.0) made.2 ((digits.0, digits.1, within.1), refl)

gives-decimal : (t : Table) → Gives kind.Decimal (decimal_of t)
unfolding decimal_of Gives
gives-decimal t s e =
    let p = both_Ok first (digits_of t) (wide_of t) s e in
    along kind.Decimal s p.0 p.4 (gives-digits t p.0 p.2)

gives-date : (t : Table) → Gives kind.Date (date_of t)
unfolding date_of IsOf Gives
gives-date t s e =
    let p = mapped_Ok date_type (short_of t fbs.unit (pos 1) >>= date_unit_numbered) s e in
    along kind.Date s (date_type p.0) p.2 (tt, refl)

gives-time : (t : Table) → Gives kind.Time (time_of t)
unfolding time_of IsOf Gives
gives-time t s e =
    let whole =
    bind_Ok (both time_type (time_unit_of t (pos 1)) (i32_of t fbs.time_bits (pos 32))) (λ taken. taken) s e in
    let parts = both_Ok time_type (time_unit_of t (pos 1)) (i32_of t fbs.time_bits (pos 32)) whole.0 whole.1 in
    let P : Reading ColType → Type 0 = λ m. m ≡ Ok s in
    let passed = subst P (sym parts.4) whole.2 in
    let made = checked_Ok fault.BadType (int_eq parts.1 (pos (bits_of_time parts.0))) (stored.Time parts.0) s passed in
    along kind.Time s (stored.Time parts.0) made.1 (tt, refl)

IsZone : List ℕ → Type 0
IsZone z = (length z ≤ max_name_len) × (is_utf8 z ≡ true)

zone_in_Ok : (o : Option (List ℕ)) (z : List ℕ) → zone_in o ≡ Ok z → IsZone z
unfolding IsZone
zone_in_Ok None z e = let q : [] ≡ z = cc in
    subst IsZone q (omega arith, is_utf8-from_IsUtf8 [] (IsUtf8-from_ascii [] (λ k. omega arith)))
zone_in_Ok (Some bs) z e =
    let p = checked_Ok fault.BadType (nat_le (length bs) max_name_len && is_utf8 bs) bs z e in
    let tests = and_parts (nat_le (length bs) max_name_len) (is_utf8 bs) p.0 in
    subst IsZone p.1 (leb-true (length bs) max_name_len tests.0, tests.1)

gives-timestamp : (t : Table) → Gives kind.Timestamp (timestamp_of t)
unfolding timestamp_of zone_of IsOf Gives IsZone
gives-timestamp t s e =
    let parts = both_Ok timestamp_type (time_unit_of t (pos 0)) (zone_of t) s e in
    let name = bind_Ok (readable (text_of t fbs.timezone)) zone_in parts.1 parts.3 in
    along kind.Timestamp s (timestamp_type parts.0 parts.1) parts.4 (zone_in_Ok name.0 parts.1 name.2, refl)

gives-duration : (t : Table) → Gives kind.Duration (duration_of t)
unfolding duration_of IsOf Gives
gives-duration t s e =
    let p = mapped_Ok duration_type (time_unit_of t (pos 1)) s e in
    along kind.Duration s (duration_type p.0) p.2 (tt, refl)

gives-fixed : (t : Table) → Gives kind.FixedSizeBinary (fixed_of t)
unfolding fixed_of IsOf Gives
gives-fixed t s e =
    let whole = mapped_Ok fixed_type (i32_of t fbs.byte_width (pos 0) >>= ranged (pos 0) (pos max_fixed_width)) s e in
    let number =
    bind_Ok (i32_of t fbs.byte_width (pos 0)) (λ n. ranged (pos 0) (pos max_fixed_width) n) whole.0 whole.1 in
    let width = ranged_Ok 0 max_fixed_width number.0 whole.0 number.2 in
    along kind.FixedSizeBinary s (fixed_type whole.0) whole.2 (width.1, refl)

gives-stored : (k : TypeKind) (t : Table) → Gives k (stored_by k t)
unfolding IsOf
gives-stored kind.Bool t = gives-Ok kind.Bool stored.Bool (tt, refl)
gives-stored kind.Int t = gives-int t
gives-stored kind.Decimal t = gives-decimal t
gives-stored kind.Date t = gives-date t
gives-stored kind.Time t = gives-time t
gives-stored kind.Timestamp t = gives-timestamp t
gives-stored kind.Duration t = gives-duration t
gives-stored (kind.Utf8 o) t = gives-Ok (kind.Utf8 o) (stored.Utf8 o) (tt, refl)
gives-stored (kind.Binary o) t = gives-Ok (kind.Binary o) (stored.Binary o) (tt, refl)
gives-stored kind.FixedSizeBinary t = gives-fixed t
gives-stored (kind.List o) t = gives-Ok (kind.List o) (stored.List o) (tt, refl)
gives-stored kind.Struct t = gives-Ok kind.Struct stored.Struct (tt, refl)

pub read-is-type : ReadIsType
unfolding type_of Gives IsOf
read-is-type k t s e =
    let table = bind_Ok (readable (subtable_of t fbs.type_table) >>= must fault.BadType) (stored_by k) s e in
    gives-stored k table.0 s table.2

-- what a call answers by this reading is a type
pub answers-fit : (r : Result ColType StreamFault) (k : TypeKind) (t : Table) → Answers (λ s. s) r (stored_by k t)
    → IfOk r IsType
unfolding Gives IsOf
answers-fit (Ok s) k t e = (gives-stored k t s e).0
answers-fit (Err c) k t e = tt

pub ruleset type_facts = (answers-fit)
