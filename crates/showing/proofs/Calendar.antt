-- The date of a day.
use Rattle.std.proofs.Common.{◌≡◌, ℕ, ℤ, List, ◌+◌, ◌++◌, ap, sym, subst, ◌∙◌}
use Rattle.std.specs.Prelude.{Bool, true, false, if◌then◌else◌, unsigned_abs, Option, Result, Ok, Err, OnOk, codes}
use Rattle.std.specs.Int.{is_negative, int_div_euclid, int_rem_euclid}
use Rattle.std.specs.Io.KnownBytes.{Appends}
use Rattle.std.proofs.KnownBytes.{Appends-trans}
use Rattle.showing.specs.declared.date.Date.{Date}
use Rattle.showing.specs.Dates.{civil, clock_text, date_after, date_back, date_text, instant_text, units_of_day}

pub civil-back : (z : ℤ) (d : Date) → is_negative z ≡ true → d ≡ date_back (unsigned_abs z) → d ≡ civil z
unfolding civil
civil-back z d back is =
    let P : Bool → Type 0 = λ b. d ≡ (if b then date_back (unsigned_abs z) else date_after (unsigned_abs z + 719468)) in
    subst P (sym back) is

pub civil-after : (z : ℤ) (d : Date) → is_negative z ≡ false → d ≡ date_after (unsigned_abs z + 719468) → d ≡ civil z
unfolding civil
civil-after z d later is =
    let P : Bool → Type 0 = λ b. d ≡ (if b then date_back (unsigned_abs z) else date_after (unsigned_abs z + 719468)) in
    subst P (sym later) is

-- a date, and then the time of day
pub instant-written :
    {E : Type 0} (r : Result (Unit {0}) E) (a b c d : Option (List ℕ)) (scale : ℕ) (z days : ℤ) (rest : ℕ)
    → Appends a b (date_text days) → Appends b c (codes "T") → OnOk r (Appends c d (clock_text scale rest))
    → days ≡ int_div_euclid z (units_of_day scale) → rest ≡ unsigned_abs (int_rem_euclid z (units_of_day scale))
    → OnOk r (Appends a d (instant_text scale z))
instant-written (Ok u) a b c d scale z days rest date mark clock day time =
    let text : List ℕ = date_text days ++ (codes "T" ++ clock_text scale rest) in
    let joined : Appends a d text =
    Appends-trans a b d (date_text days) (codes "T" ++ clock_text scale rest) date
    (Appends-trans b c d (codes "T") (clock_text scale rest) mark clock) in
    let same : text ≡ instant_text scale z =
    ap (λ n. date_text n ++ (codes "T" ++ clock_text scale rest)) day
    ∙ ap (λ n. date_text (int_div_euclid z (units_of_day scale)) ++ (codes "T" ++ clock_text scale n)) time in
    subst (Appends a d) same joined
instant-written (Err e) a b c d scale z days rest date mark clock day time = tt
