-- Numbers as text, by the type of their column, and truth values.
use Rattle.std.specs.Prelude.{ℕ, ℤ, Bool, List, ◌==◌, codes, if◌then◌else◌, length, not}
use Rattle.std.specs.Fmt.{signed_decimal}
use Rattle.values.specs.declared.col_type.ColType.{ColType}
use Rattle.values.specs.declared.col_type.ColType.TheVariants as col
use Rattle.values.specs.declared.units.DateUnit.{DateUnit}
use Rattle.values.specs.declared.units.DateUnit.TheVariants as date
use Rattle.showing.specs.Dates.{date_text, duration_text, long_date_text, scale_of, time_text, timestamp_text}
use Rattle.showing.specs.Digits.{decimal_text}

abbrev pub date_by : DateUnit → ℤ → List ℕ
date_by date.Day z = date_text z
date_by date.Millisecond z = long_date_text z

abbrev pub number_text : ColType → ℤ → List ℕ
number_text (col.Decimal p s) z = decimal_text s z
number_text (col.Date u) z = date_by u z
number_text (col.Time u) z = time_text (scale_of u) z
number_text (col.Timestamp u zone) z = timestamp_text (scale_of u) (not (length zone == 0)) z
number_text (col.Duration u) z = duration_text (scale_of u) z
number_text t z = signed_decimal z

abbrev pub truth_text : Bool → List ℕ
truth_text b = if b then codes "true" else codes "false"
