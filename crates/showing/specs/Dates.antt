-- Dates and times as text: ISO 8601, on the Gregorian calendar for all years.
use Rattle.std.specs.Prelude.{
  ℕ,
  ℤ,
  pos,
  false,
  true,
  not,
  ◌&&◌,
  ◌==◌,
  nat_le,
  List,
  [],
  ◌++◌,
  ◌+◌,
  ◌*◌,
  ◌-◌,
  ◌/◌,
  ◌%◌,
  ◌^◌,
  Bool,
  codes,
  if◌then◌else◌,
  nat_lt,
  unsigned_abs,
}
use Rattle.std.specs.Int.{int_div_euclid, int_rem_euclid, is_negative}
use Rattle.values.specs.declared.units.TimeUnit.{TimeUnit}
use Rattle.values.specs.declared.units.TimeUnit.TheVariants as time
use Rattle.showing.specs.declared.date.Date.{Date}
use Rattle.showing.specs.Digits.{at_least, fixed_digits, fraction_text, scaled_text, sign_text}

-- how many digits of a second a unit has
abbrev pub scale_of : TimeUnit → ℕ
scale_of time.Second = 0
scale_of time.Millisecond = 3
scale_of time.Microsecond = 6
scale_of time.Nanosecond = 9

-- The Gregorian calendar repeats after 400 years, an era, with 146,097 days. Years are counted from the first of March
-- on, so that a leap day is the last of its year. By the number of a day in its era, from 0: the year in the era, the
-- day in that year, and the month, from 0 for March.
abbrev pub year_in : ℕ → ℕ
year_in day = (day + day / 36524 - day / 1460 - day / 146096) / 365

abbrev pub day_in : ℕ → ℕ
day_in day = day + year_in day / 100 - year_in day / 4 - 365 * year_in day

abbrev pub month_in : ℕ → ℕ
month_in day = (5 * day_in day + 2) / 153

-- the same with years that begin in January, and months and days from 1
abbrev pub civil_year : ℕ → ℕ
civil_year day = if nat_lt (month_in day) 10 then year_in day else year_in day + 1

abbrev pub civil_month : ℕ → ℕ
civil_month day = if nat_lt (month_in day) 10 then month_in day + 3 else month_in day - 9

abbrev pub civil_day : ℕ → ℕ
civil_day day = day_in day - (153 * month_in day + 2) / 5 + 1

abbrev pub dated : Bool → ℕ → ℕ → Date
dated before year day =
    record { before = before; year = year; month = civil_month day; day = civil_day day }

-- the date this many days after the first of March of the year 0, or before it
abbrev pub date_after : ℕ → Date
date_after n = dated false (400 * (n / 146097) + civil_year (n % 146097)) (n % 146097)

abbrev pub last_day : ℕ → ℕ
last_day n = 146096 - (n - 1) % 146097

abbrev pub date_before : ℕ → Date
date_before n = dated true (400 * ((n - 1) / 146097 + 1) - civil_year (last_day n)) (last_day n)

-- The first of January of 1970 is 719,468 days after the first of March of the year 0. The date this many days before
-- it:
abbrev pub date_back : ℕ → Date
date_back n = if nat_le n 719468 then date_after (719468 - n) else date_before (n - 719468)

-- and the date this many days after it, or before it where the number is below 0
unfoldable pub civil : ℤ → Date
civil days = if is_negative days then date_back (unsigned_abs days) else date_after (unsigned_abs days + 719468)

-- four digits, and before year 0 or after year 9999 a sign and at least as many
abbrev pub year_sign : Bool → ℕ → List ℕ
year_sign before year = if before && not (year == 0) then codes "-" else if nat_lt 9999 year then codes "+" else []

abbrev pub year_text : Bool → ℕ → List ℕ
year_text before year = year_sign before year ++ at_least 4 year

abbrev pub civil_text : Date → List ℕ
civil_text d =
    year_text d.before d.year ++ (codes "-" ++ (fixed_digits 2 d.month ++ (codes "-" ++ fixed_digits 2 d.day)))

abbrev pub date_text : ℤ → List ℕ
date_text days = civil_text (civil days)

-- hours, minutes and seconds; the hours are not bounded by those of a day
abbrev pub seconds_text : ℕ → List ℕ
seconds_text s = at_least 2 (s / 3600)
    ++ (codes ":" ++ (fixed_digits 2 (s / 60 % 60) ++ (codes ":" ++ fixed_digits 2 (s % 60))))

abbrev pub clock_text : ℕ → ℕ → List ℕ
clock_text scale n = seconds_text (n / 10 ^ scale) ++ fraction_text scale n

-- a time of day
abbrev pub time_text : ℕ → ℤ → List ℕ
time_text scale z = sign_text z ++ clock_text scale (unsigned_abs z)

abbrev pub units_of_day : ℕ → ℤ
units_of_day scale = pos (86400 * 10 ^ scale)

-- a date with the time of day
abbrev pub instant_text : ℕ → ℤ → List ℕ
instant_text scale z = date_text (int_div_euclid z (units_of_day scale))
    ++ (codes "T" ++ clock_text scale (unsigned_abs (int_rem_euclid z (units_of_day scale))))

abbrev pub zone_text : Bool → List ℕ
zone_text is_instant = if is_instant then codes "Z" else []

-- An instant is written in UTC; a time without a zone has no suffix.
abbrev pub timestamp_text : ℕ → Bool → ℤ → List ℕ
timestamp_text scale is_instant z = instant_text scale z ++ zone_text is_instant

-- a date in milliseconds; with the time of day where that isn't midnight
abbrev pub long_date_text : ℤ → List ℕ
long_date_text z = if unsigned_abs (int_rem_euclid z (units_of_day 3)) == 0
    then date_text (int_div_euclid z (units_of_day 3))
    else instant_text 3 z

-- a number of seconds
abbrev pub duration_text : ℕ → ℤ → List ℕ
duration_text scale z = sign_text z ++ (codes "PT" ++ (scaled_text scale (unsigned_abs z) ++ codes "S"))
