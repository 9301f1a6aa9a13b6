-- Texts without a quote, and JSON with each of its quotes doubled.
use Rattle.std.proofs.Common.{◌≡◌, ℕ, ℤ, zero, suc, Bool, true, false, List, [], ◌∷◌, ◌++◌, ◌+◌, ◌/◌, ◌%◌, ◌-◌, ◌^◌, length, replicate, pos, negsuc, refl, ap, sym, subst, ◌∙◌, arith, cond, ltb}
use Rattle.std.specs.Prelude.{◌==◌, ◌&&◌, ◌<◌, codes, if◌then◌else◌, flat_map, nat_lt, unsigned_abs, not}
use Rattle.std.specs.Char.{encode_utf8}
use Rattle.std.specs.Fmt.{decimal, digit_glyph, digits, digits_onto, format_spec, padded_integral, signed_decimal}
use Rattle.std.specs.Int.{int_div_euclid, int_rem_euclid, is_negative}
use Rattle.std.specs.List.{repeat}
use Rattle.std.proofs.lemmas.Bool.Decides.{nat_tests}
use Rattle.std.proofs.lemmas.Grind.{flat_map-append}
use Rattle.values.specs.declared.col_type.ColType.{ColType}
use Rattle.values.specs.declared.col_type.ColType.TheVariants as col
use Rattle.values.specs.declared.units.DateUnit.{DateUnit}
use Rattle.values.specs.declared.units.DateUnit.TheVariants as date
use Rattle.showing.specs.Csv.{doubled, quote}
use Rattle.showing.specs.Dates.{
  civil,
  civil_text,
  clock_text,
  date_text,
  duration_text,
  instant_text,
  scale_of,
  seconds_text,
  units_of_day,
  year_sign,
  year_text,
  zone_text,
}
use Rattle.showing.specs.Numbers.{date_by, number_text}
use Rattle.showing.specs.declared.date.Date.{Date}
use Rattle.showing.specs.Digits.{at_least, decimal_text, fixed_digits, fraction_text, hex_byte, hex_text, scaled_text, sign_text}

-- a text without a quote: doubling its quotes leaves it as it is
pub record Plain (t : List ℕ) : Type 0 where
  pub same : flat_map doubled t ≡ t

pub plain-nil : Plain []
plain-nil = record { same = refl }

pub plain-cons : (b : ℕ) (t : List ℕ) → (b == quote) ≡ false → Plain t → Plain (b ∷ t)
plain-cons b t other plain = record {
  same =
      let P : Bool → Type 0 =
      λ q. (if q then quote ∷ quote ∷ [] else b ∷ []) ++ flat_map doubled t ≡ b ∷ t in
      subst P (sym other) (ap (λ x. b ∷ x) plain.same);
}

pub plain-append : (s t : List ℕ) → Plain s → Plain t → Plain (s ++ t)
plain-append s t first second = record {
  same = flat_map-append doubled s t ∙ ap (λ x. x ++ flat_map doubled t) first.same ∙ ap (λ x. s ++ x) second.same;
}

pub plain-if : (b : Bool) (s t : List ℕ) → Plain s → Plain t → Plain (if b then s else t)
plain-if true s t first second = first
plain-if false s t first second = second

pub plain-replicate : (n b : ℕ) → (b == quote) ≡ false → Plain (replicate n b)
plain-replicate zero b other = plain-nil
plain-replicate (suc n) b other = plain-cons b (replicate n b) other (plain-replicate n b other)

pub plain-each : {X : Type 0} (f : X → List ℕ) (xs : List X) → ((x : X) → Plain (f x)) → Plain (flat_map f xs)
plain-each f [] each = plain-nil
plain-each f (x ∷ xs) each = plain-append (f x) (flat_map f xs) (each x) (plain-each f xs each)

-- digits
glyph : (low : Bool) (d : ℕ) → ((if low then 48 + d else 87 + d) == quote) ≡ false
glyph true d = grind (arith, nat_tests)
glyph false d = grind (arith, nat_tests)

plain-onto : (k base n : ℕ) (acc : List ℕ) → Plain acc → Plain (digits_onto k base false n acc)
plain-onto zero base n acc plain = plain
plain-onto (suc k) base n acc plain =
    let more : Plain (digit_glyph false (n % base) ∷ acc) =
    plain-cons (digit_glyph false (n % base)) acc (glyph (nat_lt (n % base) 10) (n % base)) plain in
    plain-if (n / base == 0) (digit_glyph false (n % base) ∷ acc)
    (digits_onto k base false (n / base) (digit_glyph false (n % base) ∷ acc)) more
    (plain-onto k base (n / base) (digit_glyph false (n % base) ∷ acc) more)

pub plain-digits : (base n : ℕ) → Plain (digits base false n)
unfolding digits
plain-digits base n = plain-onto 64 base n [] plain-nil

pub plain-fixed : (count n : ℕ) → Plain (fixed_digits count n)
unfolding fixed_digits
plain-fixed zero n = plain-nil
plain-fixed (suc k) n = plain-cons (48 + n / 10 ^ k % 10) (fixed_digits k n) (grind (arith, nat_tests)) (plain-fixed k n)

-- characters
high : (b x : ℕ) → quote < b → (b + x == quote) ≡ false
high b x above = grind (arith, nat_tests)

plain-cond : (b : Bool) (s t : List ℕ) → Plain s → Plain t → Plain (cond b s t)
plain-cond true s t first second = first
plain-cond false s t first second = second

pub plain-char : (c : ℕ) → (c == quote) ≡ false → Plain (encode_utf8 c)
unfolding encode_utf8
plain-char c other =
    let last : Plain ((128 + c % 64) ∷ []) = plain-cons (128 + c % 64) [] (high 128 (c % 64) (omega arith)) plain-nil in
    let third : Plain ((128 + c / 64 % 64) ∷ (128 + c % 64) ∷ []) =
    plain-cons (128 + c / 64 % 64) ((128 + c % 64) ∷ []) (high 128 (c / 64 % 64) (omega arith)) last in
    let second : Plain ((128 + c / 4096 % 64) ∷ (128 + c / 64 % 64) ∷ (128 + c % 64) ∷ []) =
    plain-cons (128 + c / 4096 % 64) ((128 + c / 64 % 64) ∷ (128 + c % 64) ∷ []) (high 128 (c / 4096 % 64) (omega arith))
    third in
    plain-cond (ltb c 128) _ _ (plain-cons c [] other plain-nil)
    (plain-cond (ltb c 2048) _ _ (plain-cons (192 + c / 64) _ (high 192 (c / 64) (omega arith)) last)
    (plain-cond (ltb c 65536) _ _ (plain-cons (224 + c / 4096) _ (high 224 (c / 4096) (omega arith)) third)
    (plain-cons (240 + c / 262144) _ (high 240 (c / 262144) (omega arith)) second)))

-- a number that is padded
plain-repeat : (n : ℕ) (t : List ℕ) → Plain t → Plain (repeat n t)
plain-repeat zero t plain = plain-nil
plain-repeat (suc n) t plain = plain-append t (repeat n t) plain (plain-repeat n t plain)

pub plain-padded : (count : ℕ) (t : List ℕ) → Plain t
    → Plain (padded_integral (format_spec 32 0 4 count (2 ^ 64 - 1)) false [] t)
unfolding padded_integral
plain-padded count t plain =
    plain-append _ _ (plain-replicate _ 48 refl) (plain-append t _ plain plain-nil)

pub plain-hex : (count n : ℕ)
    → Plain (padded_integral (format_spec 32 0 4 count (2 ^ 64 - 1)) false [] (digits 16 false n))
plain-hex count n = plain-padded count (digits 16 false n) (plain-digits 16 n)

pub plain-bytes : (bs : List ℕ) → Plain (hex_text bs)
plain-bytes bs = plain-each hex_byte bs (λ b. plain-hex 2 b)

-- numbers
plain-one : (b : ℕ) → (b == quote) ≡ false → Plain (b ∷ [])
plain-one b other = plain-cons b [] other plain-nil

pub plain-signed : (z : ℤ) → Plain (signed_decimal z)
plain-signed (pos n) = plain-digits 10 n
plain-signed (negsuc n) = plain-cons 45 (decimal (suc n)) refl (plain-digits 10 (suc n))

plain-sign : (z : ℤ) → Plain (sign_text z)
plain-sign z = plain-if (is_negative z) (codes "-") [] (plain-one 45 refl) plain-nil

plain-fraction : (scale n : ℕ) → Plain (fraction_text scale n)
plain-fraction scale n =
    plain-if (scale == 0) [] (codes "." ++ fixed_digits scale n) plain-nil
    (plain-append (codes ".") (fixed_digits scale n) (plain-one 46 refl) (plain-fixed scale n))

plain-scaled : (scale n : ℕ) → Plain (scaled_text scale n)
plain-scaled scale n =
    plain-append (decimal (n / 10 ^ scale)) (fraction_text scale n) (plain-digits 10 (n / 10 ^ scale))
    (plain-fraction scale n)

plain-decimal : (scale : ℕ) (z : ℤ) → Plain (decimal_text scale z)
plain-decimal scale z =
    plain-append (sign_text z) (scaled_text scale (unsigned_abs z)) (plain-sign z) (plain-scaled scale (unsigned_abs z))

plain-least : (count n : ℕ) → Plain (at_least count n)
plain-least count n =
    plain-if (n / 10 ^ count == 0) (fixed_digits count n) (decimal n) (plain-fixed count n) (plain-digits 10 n)

plain-civil : (d : Date) → Plain (civil_text d)
plain-civil d =
    plain-append (year_text d.before d.year) _
    (plain-append (year_sign d.before d.year) (at_least 4 d.year)
    (plain-if (d.before && not (d.year == 0)) (codes "-") _ (plain-one 45 refl)
    (plain-if (nat_lt 9999 d.year) (codes "+") [] (plain-one 43 refl) plain-nil))
    (plain-least 4 d.year))
    (plain-cons 45 _ refl
    (plain-append (fixed_digits 2 d.month) _ (plain-fixed 2 d.month) (plain-cons 45 _ refl (plain-fixed 2 d.day))))

plain-date : (z : ℤ) → Plain (date_text z)
plain-date z = plain-civil (civil z)

plain-clock : (scale n : ℕ) → Plain (clock_text scale n)
plain-clock scale n =
    plain-append (seconds_text (n / 10 ^ scale)) (fraction_text scale n)
    (plain-append (at_least 2 (n / 10 ^ scale / 3600)) _ (plain-least 2 (n / 10 ^ scale / 3600))
    (plain-cons 58 _ refl
    (plain-append (fixed_digits 2 (n / 10 ^ scale / 60 % 60)) _ (plain-fixed 2 (n / 10 ^ scale / 60 % 60))
    (plain-cons 58 _ refl (plain-fixed 2 (n / 10 ^ scale % 60))))))
    (plain-fraction scale n)

plain-instant : (scale : ℕ) (z : ℤ) → Plain (instant_text scale z)
plain-instant scale z =
    plain-append (date_text (int_div_euclid z (units_of_day scale))) _ (plain-date (int_div_euclid z (units_of_day scale)))
    (plain-cons 84 _ refl (plain-clock scale (unsigned_abs (int_rem_euclid z (units_of_day scale)))))

plain-day : (u : DateUnit) (z : ℤ) → Plain (date_by u z)
plain-day date.Day z = plain-date z
plain-day date.Millisecond z =
    plain-if (unsigned_abs (int_rem_euclid z (units_of_day 3)) == 0) (date_text (int_div_euclid z (units_of_day 3)))
    (instant_text 3 z) (plain-date (int_div_euclid z (units_of_day 3))) (plain-instant 3 z)

plain-duration : (scale : ℕ) (z : ℤ) → Plain (duration_text scale z)
plain-duration scale z =
    plain-append (sign_text z) _ (plain-sign z)
    (plain-cons 80 _ refl
    (plain-cons 84 _ refl
    (plain-append (scaled_text scale (unsigned_abs z)) (codes "S") (plain-scaled scale (unsigned_abs z)) (plain-one 83 refl))))

pub plain-number : (t : ColType) (z : ℤ) → Plain (number_text t z)
plain-number (col.Decimal p s) z = plain-decimal s z
plain-number (col.Date u) z = plain-day u z
plain-number (col.Time u) z =
    plain-append (sign_text z) (clock_text (scale_of u) (unsigned_abs z)) (plain-sign z)
    (plain-clock (scale_of u) (unsigned_abs z))
plain-number (col.Timestamp u zone) z =
    plain-append (instant_text (scale_of u) z) (zone_text (not (length zone == 0))) (plain-instant (scale_of u) z)
    (plain-if (not (length zone == 0)) (codes "Z") [] (plain-one 90 refl) plain-nil)
plain-number (col.Duration u) z = plain-duration (scale_of u) z
plain-number _ z = plain-signed z
