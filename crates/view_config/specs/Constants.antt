-- Constants of filters, each by the type of the column that it is compared with.
use Rattle.std.specs.Prelude.{ℕ, ℤ, pos, neg_ℤ, zero, suc, ◌+◌, ◌-◌, ◌*◌, ◌^◌, ◌==◌, nat_le, nat_lt, int_le, ◌&&◌, Bool}
use Rattle.std.specs.Prelude.{true, false, Option, None, Some, List, [], ◌∷◌, drop, get_or, if◌then◌else◌, length, take}
use Rattle.std.specs.Prelude.{min, option_map}
use Rattle.toml.specs.Data.{Data, string, integer, boolean}
use Rattle.values.specs.ColTypes.{width_of_date, width_of_time}
use Rattle.values.specs.Datum.{Datum, truth, whole, text, bytes}
use Rattle.values.specs.Layouts.{bytes_in, greatest_of, least_of}
use Rattle.values.specs.Limits.{max_precision}
use Rattle.values.specs.Reading.{must}
use Rattle.values.specs.declared.layout.IntWidth.{IntWidth}
use Rattle.values.specs.declared.layout.IntWidth.TheVariants as int
use Rattle.values.specs.declared.col_type.ColType.{ColType}
use Rattle.values.specs.declared.col_type.ColType.TheVariants as col
use Rattle.view_config.specs.Reading.{Reading}
use Rattle.view_config.specs.declared.faults.ConfigFault.TheVariants as fault

abbrev pub and_then : {X Y : Type 0} → Option X → (X → Option Y) → Option Y
and_then None f = None
and_then (Some x) f = f x

abbrev pub truth_in : Data → Option Datum
truth_in (boolean b) = Some (truth b)
truth_in d = None

abbrev pub whole_in : IntWidth → Bool → Data → Option Datum
whole_in w signed (integer z) =
    if int_le (least_of w signed) z && int_le z (greatest_of w signed) then Some (whole z) else None
whole_in w signed d = None

-- Decimals: a minus sign or none, a digit or more, and where the type has a scale above 0, a point and exactly as
-- many digits as the scale.

abbrev pub is_digit : ℕ → Bool
is_digit c = nat_le 48 c && nat_le c 57

-- the number of these digits, which come after those of m; none where one of them is no digit
abbrev pub digits_after : ℕ → List ℕ → Option ℕ
digits_after m [] = Some m
digits_after m (c ∷ cs) = if is_digit c then digits_after (10 * m + (c - 48)) cs else None

-- the number of one or more digits
abbrev pub some_digits : List ℕ → Option ℕ
some_digits [] = None
some_digits (c ∷ cs) = digits_after 0 (c ∷ cs)

-- the part of a number that fits into 128 bits: of one that is too large the greatest that does
abbrev pub held : Option ℕ → Option ℕ
held o = option_map (λ n. min n (2 ^ 128 - 1)) o

-- the number of the digits on both sides of a point at this index
unfoldable pub pointed : ℕ → List ℕ → Option ℕ
pointed point cs =
    if get_or cs point 0 == 46 then and_then (some_digits (take point cs)) (λ m. digits_after m (drop (point + 1) cs))
    else None

-- the unscaled number of a text without a sign, with this number of digits after the point
unfoldable pub unscaled : ℕ → List ℕ → Option ℕ
unscaled zero cs = some_digits cs
unscaled (suc s) cs = if nat_lt (length cs) (s + 2) then None else pointed (length cs - (s + 2)) cs

-- a number of at most p digits, which are never more than a decimal can have
abbrev pub within : ℕ → ℕ → Option ℕ
within precision m = if nat_lt m (10 ^ min precision max_precision) then Some m else None

abbrev pub magnitude : ℕ → ℕ → List ℕ → Option ℕ
magnitude precision scale cs = and_then (unscaled scale cs) (within precision)

abbrev pub negative : ℕ → Datum
negative m = whole (neg_ℤ (pos m))

abbrev pub positive : ℕ → Datum
positive m = whole (pos m)

unfoldable pub decimal : ℕ → ℕ → List ℕ → Option Datum
decimal precision scale [] = None
decimal precision scale (c ∷ cs) =
    if c == 45 then option_map negative (magnitude precision scale cs)
    else option_map positive (magnitude precision scale (c ∷ cs))

abbrev pub decimal_in : ℕ → ℕ → Data → Option Datum
decimal_in precision scale (string t) = decimal precision scale t
decimal_in precision scale d = None

abbrev pub text_constant : Data → Option Datum
text_constant (string t) = Some (text t)
text_constant d = None

-- Bytes: a pair of hexadecimal digits each, in lower case.

abbrev pub nibble : ℕ → Option ℕ
nibble c = if is_digit c then Some (c - 48) else if nat_le 97 c && nat_le c 102 then Some (c - 87) else None

abbrev pub byte_of : ℕ → ℕ → Option ℕ
byte_of c d = and_then (nibble c) (λ h. and_then (nibble d) (λ l. Some (16 * h + l)))

unfoldable pub pairs : List ℕ → Option (List ℕ)
pairs [] = Some []
pairs (c ∷ []) = None
pairs (c ∷ d ∷ cs) = and_then (byte_of c d) (λ b. and_then (pairs cs) (λ bs. Some (b ∷ bs)))

abbrev pub bytes_in_pairs : Data → Option (List ℕ)
bytes_in_pairs (string t) = pairs t
bytes_in_pairs d = None

abbrev pub binary_in : Data → Option Datum
binary_in d = and_then (bytes_in_pairs d) (λ bs. Some (bytes bs))

-- exactly n bytes
abbrev pub fixed_in : ℕ → Data → Option Datum
fixed_in n d = and_then (bytes_in_pairs d) (λ bs. if length bs == n then Some (bytes bs) else None)

-- Lists and structs are compared with nothing.
unfoldable pub constant_in : ColType → Data → Option Datum
constant_in col.Bool d = truth_in d
constant_in (col.Int w signed) d = whole_in w signed d
constant_in (col.Decimal p s) d = decimal_in p s d
constant_in (col.Date u) d = whole_in (width_of_date u) true d
constant_in (col.Time u) d = whole_in (width_of_time u) true d
constant_in (col.Timestamp u z) d = whole_in int.Bits64 true d
constant_in (col.Duration u) d = whole_in int.Bits64 true d
constant_in (col.Utf8 o) d = text_constant d
constant_in (col.Binary o) d = binary_in d
constant_in (col.FixedSizeBinary n) d = fixed_in n d
constant_in (col.List o) d = None
constant_in col.Struct d = None

abbrev pub constant_of : ColType → Data → Reading Datum
constant_of t d = must fault.ConstantType (constant_in t d)
