-- The digits of decimals.
use Rattle.std.proofs.Common.{◌≡◌, ℕ, zero, suc, ◌+◌, ◌*◌, ◌-◌, ◌^◌, ◌<◌, ◌≤◌, Bool, true, false, List, [], ◌∷◌, Option}
use Rattle.std.proofs.Common.{None, Some, length, drop, get_or, refl, ap, subst, sym, ◌∙◌, arith, min, take}
use Rattle.std.specs.Prelude.{if◌then◌else◌, nat_lt, ◌==◌}
use Rattle.std.proofs.lemmas.List.{drop_all, drop_more, take_all, length-drop}
use Rattle.values.specs.Limits.{max_precision}
use Rattle.view_config.specs.Constants.{and_then, digits_after, held, is_digit, pointed}
use Rattle.view_config.specs.Constants.{some_digits, unscaled, within}

-- the greatest number of 128 bits
abbrev top : ℕ
top = 2 ^ 128 - 1

-- the least of two numbers, of which one is itself a least
least-least : (m d : ℕ) → min (10 * min m top + d) top ≡ min (10 * m + d) top
least-least m d = omega arith

held-digit : (b : Bool) (n m : ℕ) (cs : List ℕ) → held (digits_after n cs) ≡ held (digits_after m cs)
    → held (if b then digits_after n cs else None) ≡ held (if b then digits_after m cs else None)
held-digit true n m cs e = e
held-digit false n m cs e = refl

-- The bound of a number at its start is enough for that at its end.
held-start : (m : ℕ) (cs : List ℕ) → held (digits_after (min m top) cs) ≡ held (digits_after m cs)
held-start m [] = let e : min (min m top) top ≡ min m top = omega arith in ap (λ n. Some n) e
held-start m (c ∷ cs) =
    held-digit (is_digit c) (10 * min m top + (c - 48)) (10 * m + (c - 48)) cs
    (sym (held-start (10 * min m top + (c - 48)) cs) ∙ ap (λ n. held (digits_after n cs)) (least-least m (c - 48))
    ∙ held-start (10 * m + (c - 48)) cs)

-- the next digit, if it is one
pub digits-step :
    (m : ℕ) (cs : List ℕ) (i d : ℕ) → i < length cs
    → held (digits_after m (drop i cs))
    ≡ (if is_digit (get_or cs i d) then held (digits_after (min (10 * m + (get_or cs i d - 48)) top) (drop (i + 1) cs))
    else None)
digits-step m cs i d h = rw (drop_more cs i d h) (by_digit (is_digit (get_or cs i d))) where
  by_digit : (b : Bool)
      → held (if b then digits_after (10 * m + (get_or cs i d - 48)) (drop (i + 1) cs) else None)
      ≡ (if b then held (digits_after (min (10 * m + (get_or cs i d - 48)) top) (drop (i + 1) cs)) else None)
  by_digit true = sym (held-start (10 * m + (get_or cs i d - 48)) (drop (i + 1) cs))
  by_digit false = refl

-- Where it is one, the number with it is held.
pub digits-more :
    (m n : ℕ) (cs : List ℕ) (i d : ℕ) → i < length cs → is_digit (get_or cs i d) ≡ true
    → n ≡ min (10 * m + (get_or cs i d - 48)) top
    → held (digits_after n (drop (i + 1) cs)) ≡ held (digits_after m (drop i cs))
digits-more m n cs i d h digit is = rw (digits-step m cs i d h) (rw digit (rw is refl))

-- no digit is left of a number that 128 bits hold
pub digits-none : (m : ℕ) (cs : List ℕ) (i : ℕ) → m < 2 ^ 128 → length cs ≤ i
    → held (digits_after m (drop i cs)) ≡ Some m
digits-none m cs i h none =
    let e : min m top ≡ m = omega (arith, h) in rw (drop_all i cs none) (ap (λ n. Some n) e)

pub ruleset digits = (digits-step)

pub held-some : (cs : List ℕ) → 0 < length cs → held (digits_after 0 cs) ≡ held (some_digits cs)
held-some [] h = absurd (omega (arith, h))
held-some (c ∷ cs) h = refl

pub held-none : (cs : List ℕ) → length cs ≡ 0 → held (some_digits cs) ≡ None
held-none [] h = refl
held-none (c ∷ cs) h = absurd (omega (arith, h))

pub held-both :
    (o : Option ℕ) (n : ℕ) (cs : List ℕ) → Some n ≡ held o
    → held (digits_after n cs) ≡ held (and_then o (λ m. digits_after m cs))
held-both None n cs e = cc
held-both (Some m) n cs e =
    let same : n ≡ min m top = cc in
    ap (λ k. held (digits_after k cs)) same ∙ held-start m cs

pub held-no : (o : Option ℕ) (cs : List ℕ) → None ≡ held o → held (and_then o (λ m. digits_after m cs)) ≡ None
held-no None cs e = refl
held-no (Some m) cs e = cc

-- digits on both sides of a point
pub pointed-some :
    (point : ℕ) (cs : List ℕ) (n : ℕ) → point < length cs → get_or cs point 0 ≡ 46
    → Some n ≡ held (some_digits (take point cs))
    → held (digits_after n (take (length cs - (point + 1)) (drop (point + 1) cs))) ≡ held (pointed point cs)
unfolding pointed
pointed-some point cs n h is e =
    let rest = drop (point + 1) cs in
    let count = length-drop (point + 1) cs in
    let all : take (length cs - (point + 1)) rest ≡ rest =
    take_all (length cs - (point + 1)) rest (omega (arith, count)) in
    let here : (get_or cs point 0 == 46) ≡ true = rw is refl in
    ap (λ xs. held (digits_after n xs)) all ∙ held-both (some_digits (take point cs)) n rest e ∙ rw here refl

pub ruleset numbers = (held-some, held-none, held-both, held-no)

-- powers of ten
pow-more : (i k : ℕ) → 10 ^ i ≤ 10 ^ (i + k)
pow-more i zero = let e : i + 0 ≡ i = omega arith in rw e (omega arith)
pow-more i (suc k) =
    let e : i + suc k ≡ suc (i + k) = omega arith in
    let rest = pow-more i k in
    rw e (omega (arith, rest))

pub pow_below : (i j : ℕ) → i ≤ j → 10 ^ i ≤ 10 ^ j
pow_below i j h =
    let e : i + (j - i) ≡ j = omega (arith, h) in
    subst (λ (k : ℕ). 10 ^ i ≤ 10 ^ k) e (pow-more i (j - i))

pub pow_small : (p : ℕ) → 10 ^ min p max_precision ≤ 10 ^ max_precision
pow_small p = pow_below (min p max_precision) max_precision (omega arith)

pub ruleset powers = (pow_small)

-- what is held is below a limit where the number is
pub held-below :
    (o : Option ℕ) (n p : ℕ) → Some n ≡ held o → n < 10 ^ min p max_precision → and_then o (within p) ≡ Some n
held-below None n p e h = cc
held-below (Some m) n p e h =
    let small = pow_small p in
    let same : n ≡ min m top = cc in
    let exact : m ≡ n = omega (arith, same, h, small) in
    below (10 ^ min p max_precision) m n exact h
  where
    below : (limit a b : ℕ) → a ≡ b → b < limit → (if nat_lt a limit then Some a else None) ≡ Some b
    below limit a b e h = grind (arith, e, h)

pub held-above :
    (o : Option ℕ) (n p : ℕ) → Some n ≡ held o → 10 ^ min p max_precision ≤ n → and_then o (within p) ≡ None
held-above None n p e h = cc
held-above (Some m) n p e h =
    let same : n ≡ min m top = cc in
    above (10 ^ min p max_precision) m (omega (arith, same, h))
  where
    above : (limit a : ℕ) → limit ≤ a → (if nat_lt a limit then Some a else None) ≡ None
    above limit a h = grind (arith, h)

pub held-nothing : (o : Option ℕ) (p : ℕ) → None ≡ held o → and_then o (within p) ≡ None
held-nothing None p e = refl
held-nothing (Some m) p e = cc

pub ruleset magnitudes = (held-below, held-above, held-nothing)

-- a text without a sign, by how many digits stand after its point
pub unscaled-whole : (s : ℕ) (cs : List ℕ) → s ≡ 0 → unscaled s cs ≡ some_digits cs
unfolding unscaled
unscaled-whole s cs e = rw e refl

pub unscaled-short : (s : ℕ) (cs : List ℕ) → 0 < s → length cs < s + 1 → unscaled s cs ≡ None
unfolding unscaled
unscaled-short zero cs h k = absurd (omega (arith, h))
unscaled-short (suc s) cs h k =
    let short : nat_lt (length cs) (s + 2) ≡ true = grind (arith, k) in
    rw short refl

pub unscaled-pointed :
    (s : ℕ) (cs : List ℕ) → 0 < s → s + 1 ≤ length cs → unscaled s cs ≡ pointed (length cs - (s + 1)) cs
unfolding unscaled
unscaled-pointed zero cs h k = absurd (omega (arith, h))
unscaled-pointed (suc s) cs h k =
    let long : nat_lt (length cs) (s + 2) ≡ false = grind (arith, k) in
    let same : s + 2 ≡ suc s + 1 = omega arith in
    rw long (ap (λ n. pointed (length cs - n) cs) same)

pub ruleset scales = (numbers, unscaled-whole, unscaled-short, unscaled-pointed)
