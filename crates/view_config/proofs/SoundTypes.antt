-- A type that was read is within its bounds.
use Rattle.std.specs.List.{AllByRecursion}
use Rattle.values.specs.declared.layout.IntWidth.{IntWidth}
use Rattle.std.proofs.Common.{inl, inr, ◌∷◌, ◌≡◌, ℕ, ◌≤◌, Bool, true, false, Ok, Err, refl, subst, arith, ◌&&◌}
use Rattle.std.specs.Prelude.{ℤ, pos, negsuc, codes, nat_le, int_le, length, List, [], Option, None, Some}
use Rattle.std.specs.Prelude.{if◌then◌else◌}
use Rattle.std.specs.Str.{bytes_eq, is_utf8}
use Rattle.std.proofs.lemmas.Bool.{and_parts, leb-true}
use Rattle.std.proofs.lemmas.Str.{is_utf8-from_IsUtf8, IsUtf8-from_ascii}
use Rattle.toml.specs.Data.{Data, string, integer, float, boolean, datetime, array, table, Items, no_items, item}
use Rattle.values.specs.ColTypes.{IsType, layout_of}
use Rattle.values.specs.Layouts.{IsNode}
use Rattle.values.specs.Limits.{max_fixed_width, max_name_len, max_precision}
use Rattle.values.specs.Logical.{narrow}
use Rattle.values.specs.Reading.{must, one}
use Rattle.values.specs.Rose.{none}
use Rattle.values.proofs.Readings.{both_Ok, mapped_Ok}
use Rattle.values.specs.declared.layout.IntWidth.TheVariants as int
use Rattle.values.specs.declared.layout.OffsetWidth.TheVariants as offset
use Rattle.values.specs.declared.units.DateUnit.TheVariants as date
use Rattle.values.specs.declared.units.TimeUnit.{TimeUnit}
use Rattle.values.specs.declared.col_type.ColType.{ColType}
use Rattle.values.specs.declared.col_type.ColType.TheVariants as col
use Rattle.view_config.specs.Limits.{max_zone_len}
use Rattle.view_config.specs.Tree.{pair, sole}
use Rattle.view_config.specs.ColumnTypes.{between, look_up, plain_types, decimal_of, duration_of, fixed_of, number_in}
use Rattle.view_config.specs.ColumnTypes.{plain_type, simple_of, time_of, timestamp, timestamp_in, timestamp_of}
use Rattle.view_config.specs.ColumnTypes.{unit_in, zone_in}
use Rattle.view_config.specs.declared.faults.ConfigFault.TheVariants as fault
use Rattle.view_config.proofs.Readings.{bound, test_Ok, test_Some}
use Rattle.view_config.proofs.Texts.{AreTextual, IsTextual}

-- a type without children, within its bounds, with offsets of 32 bits
pub record IsPlain (t : ColType) : Type 0 where
  pub bounds : IsType t
  pub node : IsNode (layout_of t) none
  pub narrow : narrow t ≡ t

-- what is under a word of a table in which all types are plain
found-plain : (w : List ℕ) (ps : List (List ℕ × ColType)) (t : ColType) → AllByRecursion (λ p. IsPlain p.1) ps
    → look_up w ps ≡ Some t → IsPlain t
found-plain w [] t h e = cc
found-plain w (p ∷ ps) t h e =
    elim (test_Some (bytes_eq w p.0) p.1 t (look_up w ps) e)
    [ inl a ↦ subst IsPlain a h.0 | inr b ↦ found-plain w ps t h.1 b ]

pub plain-sound : (w : List ℕ) (t : ColType) → plain_type w ≡ Some t → IsPlain t
plain-sound w t e =
    let one : (s : ColType) → IsType s → IsNode (layout_of s) none → narrow s ≡ s → IsPlain s =
    λ s bounds node same. record { bounds = bounds; node = node; narrow = same } in
    let whole : (n : IntWidth) (signed : Bool) → IsPlain (col.Int n signed) =
    λ n signed. record { bounds = tt; node = tt; narrow = refl } in
    found-plain w plain_types t (
      one col.Bool tt tt refl,
      (
        whole int.Bits8 true,
        (
          whole int.Bits16 true,
          (
            whole int.Bits32 true,
            (
              whole int.Bits64 true,
              (
                whole int.Bits8 false,
                (
                  whole int.Bits16 false,
                  (
                    whole int.Bits32 false,
                    (
                      whole int.Bits64 false,
                      (
                        one (col.Date date.Day) tt tt refl,
                        (
                          one (col.Date date.Millisecond) tt tt refl,
                          (one (col.Utf8 offset.Bits32) tt tt refl, (one (col.Binary offset.Bits32) tt tt refl, tt)),
                        ),
                      ),
                    ),
                  ),
                ),
              ),
            ),
          ),
        ),
      ),
    )
    e

within : (low high m : ℕ) → (nat_le low m && nat_le m high) ≡ true → (low ≤ m) × (m ≤ high)
within low high m e = let p = and_parts (nat_le low m) (nat_le m high) e in (leb-true low m p.0, leb-true m high p.1)

between-within : (low high : ℕ) (z : ℤ) (n : ℕ) → between low high z ≡ Ok n → (low ≤ n) × (n ≤ high)
between-within low high (pos m) n e =
    let p = test_Ok (int_le (pos low) (pos m) && int_le (pos m) (pos high)) (Ok m) _ n e in
    let same : m ≡ n = let q = p.1 in cc in
    subst (λ (k : ℕ). (low ≤ k) × (k ≤ high)) same (within low high m p.0)
between-within low high (negsuc m) n e = absurd (cc)

number-within : (low high : ℕ) (d : Data) (n : ℕ) → number_in low high d ≡ Ok n → (low ≤ n) × (n ≤ high)
number-within low high (integer z) n e = between-within low high z n e
number-within low high (string s) n e = cc
number-within low high (float x) n e = cc
number-within low high (boolean b) n e = cc
number-within low high (datetime t) n e = cc
number-within low high (array ds) n e = cc
number-within low high (table ms) n e = cc

decimal-sound : (ds : Items) (t : ColType) → decimal_of ds ≡ Ok t → IsPlain t
unfolding decimal_of
decimal-sound ds t e =
    bound (must fault.TypeText (pair ds)) _ t e (λ parts a e1.
    bound (number_in 1 max_precision parts.0) _ t e1 (λ p b e2.
    let made = mapped_Ok (col.Decimal p) (number_in 0 p parts.1) t e2 in
    let digits = number-within 1 max_precision parts.0 p b in
    let scale = number-within 0 p parts.1 made.0 made.1 in
    let plain : IsPlain (col.Decimal p made.0) =
    record { bounds = (digits.0, digits.1, scale.1); node = digits.1; narrow = refl } in
    subst IsPlain made.2 plain))

time-sound : (ds : Items) (t : ColType) → time_of ds ≡ Ok t → IsPlain t
time-sound ds t e =
    bound (must fault.TypeText (sole ds)) _ t e (λ d a e1.
    let made = mapped_Ok col.Time (unit_in d) t e1 in
    let plain : IsPlain (col.Time made.0) =
    record { bounds = tt; node = tt; narrow = refl } in subst IsPlain made.2 plain)

duration-sound : (ds : Items) (t : ColType) → duration_of ds ≡ Ok t → IsPlain t
duration-sound ds t e =
    bound (must fault.TypeText (sole ds)) _ t e (λ d a e1.
    let made = mapped_Ok col.Duration (unit_in d) t e1 in
    let plain : IsPlain (col.Duration made.0) =
    record { bounds = tt; node = tt; narrow = refl } in subst IsPlain made.2 plain)

fixed-sound : (ds : Items) (t : ColType) → fixed_of ds ≡ Ok t → IsPlain t
fixed-sound ds t e =
    bound (must fault.TypeText (sole ds)) _ t e (λ d a e1.
    let made = mapped_Ok col.FixedSizeBinary (number_in 0 max_fixed_width d) t e1 in
    let width = number-within 0 max_fixed_width d made.0 made.1 in
    let plain : IsPlain (col.FixedSizeBinary made.0) =
    record { bounds = width.1; node = tt; narrow = refl } in subst IsPlain made.2 plain)

IsZone : List ℕ → Type 0
IsZone z = (length z ≤ max_name_len) × (is_utf8 z ≡ true)

zone-sound : (d : Data) (z : List ℕ) → zone_in d ≡ Ok z → IsTextual d → IsZone z
unfolding IsZone
zone-sound (string s) z e h =
    let p = test_Ok (nat_le 1 (length s) && nat_le (length s) max_zone_len) (Ok s) _ z e in
    let same : s ≡ z = let q = p.1 in cc in
    let short = within 1 max_zone_len (length s) p.0 in
    subst IsZone same (omega (arith, short.1), h)
zone-sound (integer n) z e h = cc
zone-sound (float x) z e h = cc
zone-sound (boolean b) z e h = cc
zone-sound (datetime t) z e h = cc
zone-sound (array ds) z e h = cc
zone-sound (table ms) z e h = cc

stamp-plain : (u : TimeUnit) (z : List ℕ) → IsZone z → IsPlain (col.Timestamp u z)
unfolding IsZone
stamp-plain u z h = record { bounds = h; node = tt; narrow = refl }

no-zone : IsZone []
unfolding IsZone
no-zone = (omega arith, is_utf8-from_IsUtf8 [] (IsUtf8-from_ascii [] (λ k. omega arith)))

pub pair-textual : (ds : Items) (p : Data × Data) → pair ds ≡ Some p → AreTextual ds → IsTextual p.0 × IsTextual p.1
pair-textual no_items p e h = cc
pair-textual (item d no_items) p e h = cc
pair-textual (item d (item f no_items)) p e h =
    let q : (d, f) ≡ p = cc in subst (λ (r : Data × Data). IsTextual r.0 × IsTextual r.1) q (h.0, h.1.0)
pair-textual (item d (item f (item g ds))) p e h = cc

timestamp-sound : (s : Option Data) (p : Option (Data × Data)) (t : ColType) → timestamp_in s p ≡ Ok t
    → ((q : Data × Data) → p ≡ Some q → IsTextual q.1) → IsPlain t
timestamp-sound (Some u) p t e h =
    let parts = both_Ok timestamp (unit_in u) (Ok []) t e in
    let none_at : [] ≡ parts.1 = let q = parts.3 in cc in
    subst IsPlain parts.4 (stamp-plain parts.0 parts.1 (subst IsZone none_at no-zone))
timestamp-sound None (Some q) t e h =
    let parts = both_Ok timestamp (unit_in q.0) (zone_in q.1) t e in
    subst IsPlain parts.4 (stamp-plain parts.0 parts.1 (zone-sound q.1 parts.1 parts.3 (h q refl)))
timestamp-sound None None t e h = cc

simple-by :
    (a b c d f : Bool) (ds : Items) (t : ColType)
    → (if a then decimal_of ds else if b then time_of ds else if c then timestamp_of ds else if d then duration_of ds
    else if f then fixed_of ds else Err (one fault.TypeText)) ≡ Ok t → AreTextual ds → IsPlain t
unfolding timestamp_of
simple-by true b c d f ds t e h = decimal-sound ds t e
simple-by false true c d f ds t e h = time-sound ds t e
simple-by false false true d f ds t e h = timestamp-sound (sole ds) (pair ds) t e (λ q is. (pair-textual ds q is h).1)
simple-by false false false true f ds t e h = duration-sound ds t e
simple-by false false false false true ds t e h = fixed-sound ds t e
simple-by false false false false false ds t e h = cc

pub simple-sound : (w : List ℕ) (ds : Items) (t : ColType) → simple_of w ds ≡ Ok t → AreTextual ds → IsPlain t
unfolding simple_of
simple-sound w ds t e h =
    simple-by (bytes_eq w (codes "decimal")) (bytes_eq w (codes "time")) (bytes_eq w (codes "timestamp"))
    (bytes_eq w (codes "duration")) (bytes_eq w (codes "fixed")) ds t e h
