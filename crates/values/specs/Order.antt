-- The order of values: false before true, numbers by value, texts and bytes by their bytes, nulls last.
use Rattle.std.specs.Prelude.{ℕ, Bool, true, false}
use Rattle.std.specs.declared.cmp.Ordering.{Ordering}
use Rattle.std.specs.declared.cmp.Ordering.TheVariants.{Less, Equal, Greater}
use Rattle.std.specs.Ordering.{int_cmp, nat_cmp}
use Rattle.std.specs.Cmp.Lexicographic.{slice_cmp}
use Rattle.values.specs.Datum.{Datum, null, truth, whole, text, bytes, list, structure}

-- A column holds values of one kind. Two kinds are in this order, so that any two values are ordered.
abbrev pub kind_of : Datum → ℕ
kind_of (truth b) = 0
kind_of (whole n) = 1
kind_of (text t) = 2
kind_of (bytes b) = 3
kind_of (list es) = 4
kind_of (structure es) = 5
kind_of null = 6

abbrev pub truth_cmp : Bool → Bool → Ordering
truth_cmp false false = Equal
truth_cmp false true = Less
truth_cmp true false = Greater
truth_cmp true true = Equal

-- Lists have no order among themselves, and structs have none.
abbrev pub datum_cmp : Datum → Datum → Ordering
datum_cmp (truth x) (truth y) = truth_cmp x y
datum_cmp (whole x) (whole y) = int_cmp x y
datum_cmp (text x) (text y) = slice_cmp nat_cmp x y
datum_cmp (bytes x) (bytes y) = slice_cmp nat_cmp x y
datum_cmp a b = nat_cmp (kind_of a) (kind_of b)
