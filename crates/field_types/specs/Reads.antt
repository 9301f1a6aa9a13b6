-- What is read from any table of Schema.fbs: its numbers and truth values, with their defaults.
use Rattle.std.specs.Prelude.{ℕ, ℤ, pos, Bool, true, false, not, Option, Ok, Err, unwrap_or, ◌==◌}
use Rattle.std.specs.Int.{w16, w32, w64}
use Rattle.flatbuf.specs.Layout.{Table, number_of, signed_of}
use Rattle.values.specs.Reading.{Reading, mapped, must, one}
use Rattle.values.specs.declared.faults.StreamFault.{StreamFault}
use Rattle.values.specs.declared.faults.StreamFault.TheVariants as fault

-- what can't be read is the fault BadTable
abbrev pub readable : {X : Type 0} → Option X → Reading X
readable m = must fault.BadTable m

-- the value, or this fault where it doesn't pass the test
abbrev pub checked : {X : Type 0} → StreamFault → Bool → X → Reading X
checked c true x = Ok x
checked c false x = Err (one c)

-- this fault where the test fails, and no value
abbrev pub needs : StreamFault → Bool → Reading (Unit {0})
needs c true = Ok tt
needs c false = Err (one c)

-- a byte, 0 where it is absent
abbrev pub or_zero : Option ℕ → ℕ
or_zero n = unwrap_or n 0

abbrev pub byte_of : Table → ℕ → Reading ℕ
byte_of t k = mapped or_zero (readable (number_of 1 t k))

-- a byte is true unless it is 0
abbrev pub truth_of : ℕ → Bool
truth_of n = not (n == 0)

unfoldable pub bool_of : Table → ℕ → Reading Bool
bool_of t k = mapped truth_of (byte_of t k)

-- a number of 16, 32 or 64 bits, or this default where it is absent
abbrev pub or_default : ℤ → Option ℤ → ℤ
or_default d n = unwrap_or n d

unfoldable pub short_of : Table → ℕ → ℤ → Reading ℤ
short_of t k d = mapped (or_default d) (readable (signed_of w16 t k))

unfoldable pub i32_of : Table → ℕ → ℤ → Reading ℤ
i32_of t k d = mapped (or_default d) (readable (signed_of w32 t k))

abbrev pub long_of : Table → ℕ → Reading ℤ
long_of t k = mapped (or_default (pos 0)) (readable (signed_of w64 t k))
