-- Numbers as text.
use Rattle.std.specs.Prelude.{ℕ, ℤ, zero, suc, List, [], ◌∷◌, ◌++◌, ◌+◌, ◌/◌, ◌%◌, ◌-◌, ◌^◌, ◌==◌, false, codes, if◌then◌else◌, unsigned_abs, flat_map}
use Rattle.std.specs.Fmt.{decimal, digits, format_spec, padded_integral}
use Rattle.std.specs.Int.{is_negative}

-- the last `count` digits of n, with zeros before them where it has fewer
unfoldable pub fixed_digits : ℕ → ℕ → List ℕ
fixed_digits zero n = []
fixed_digits (suc k) n = (48 + n / 10 ^ k % 10) ∷ fixed_digits k n

-- `count` digits, or as many as n has where these are more
abbrev pub at_least : ℕ → ℕ → List ℕ
at_least count n = if n / 10 ^ count == 0 then fixed_digits count n else decimal n

abbrev pub sign_text : ℤ → List ℕ
sign_text z = if is_negative z then codes "-" else []

-- a point and the last `scale` digits of n; nothing where the scale is 0
abbrev pub fraction_text : ℕ → ℕ → List ℕ
fraction_text scale n = if scale == 0 then [] else codes "." ++ fixed_digits scale n

-- n divided by 10 ^ scale
abbrev pub scaled_text : ℕ → ℕ → List ℕ
scaled_text scale n = decimal (n / 10 ^ scale) ++ fraction_text scale n

-- a decimal by its unscaled number
abbrev pub decimal_text : ℕ → ℤ → List ℕ
decimal_text scale z = sign_text z ++ scaled_text scale (unsigned_abs z)

-- two hexadecimal digits for each byte
abbrev pub hex_byte : ℕ → List ℕ
hex_byte b = padded_integral (format_spec 32 0 4 2 (2 ^ 64 - 1)) false [] (digits 16 false b)

abbrev pub hex_text : List ℕ → List ℕ
hex_text bytes = flat_map hex_byte bytes
