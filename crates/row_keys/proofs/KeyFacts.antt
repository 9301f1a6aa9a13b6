-- Keys as values: which are the same, which are among others, and which are there twice.
use Rattle.std.proofs.Common.{
  ◌≡◌,
  inl,
  inr,
  ◌⊎◌,
  ℕ,
  ◌||◌,
  Bool,
  true,
  false,
  List,
  [],
  ◌∷◌,
  ◌++◌,
  Some,
  refl,
  ap,
  sym,
  subst,
  ◌∙◌,
  true≢false,
  map,
  ℤ,
}
use Rattle.std.specs.Bool.{one_answer}
use Rattle.std.specs.Ordering.{int_cmp, is_eq, nat_cmp}
use Rattle.std.specs.declared.cmp.Ordering.{Ordering}
use Rattle.std.specs.declared.cmp.Ordering.TheVariants.{Equal, Greater, Less}
use Rattle.std.specs.Cmp.{int_cmp_is}
use Rattle.std.specs.Cmp.Lexicographic.{slice_cmp}
use Rattle.std.proofs.lemmas.Map.Lookups.{exact_bytes, exact_signed}
use Rattle.std.proofs.lemmas.Map.Text.{is_eq-slice_cmp}
use Rattle.std.proofs.lemmas.Slice.Eq.{bytes_eq-Decides}
use Rattle.std.proofs.lemmas.Option.{none-some}
use Rattle.row_keys.proofs.Places.{some_same}
use Rattle.values.specs.Datum.{Datum, null, truth, whole, text, bytes, list, structure, is_null}
use Rattle.values.specs.Order.{truth_cmp}
use Rattle.values.specs.Keys.{datum_of_key, key_of}
use Rattle.values.specs.declared.key.Key.{Key}
use Rattle.values.specs.declared.key.Key.TheVariants as key
use Rattle.view_lang.specs.Causes.{any_among, has_null, has_repeated}
use Rattle.view_lang.specs.Contents.{is_among, same_key}

equal_is : (o : Ordering) → is_eq o ≡ true → o ≡ Equal
equal_is Less h = absurd (true≢false (sym h))
equal_is Equal h = refl
equal_is Greater h = absurd (true≢false (sym h))

int_refl : (n : ℤ) → is_eq (int_cmp n n) ≡ true
int_refl n = ap is_eq (sym (int_cmp_is n n Equal refl))

text_refl : (t : List ℕ) → is_eq (slice_cmp nat_cmp t t) ≡ true
text_refl t = is_eq-slice_cmp t t ∙ (bytes_eq-Decides t t).1 refl

int_sym : (x y : ℤ) → is_eq (int_cmp x y) ≡ is_eq (int_cmp y x)
int_sym x y =
    let P : Bool → Type 0 = λ b. Unit {0} in
    one_answer {P = x ≡ y} (is_eq (int_cmp x y)) (is_eq (int_cmp y x))
    (λ h. exact_signed x y (equal_is (int_cmp x y) h), λ e. subst (λ z. is_eq (int_cmp x z) ≡ true) e (int_refl x)) (
      λ h. sym (exact_signed y x (equal_is (int_cmp y x) h)),
      λ e. subst (λ z. is_eq (int_cmp z x) ≡ true) e (int_refl x),
    )

text_sym : (x y : List ℕ) → is_eq (slice_cmp nat_cmp x y) ≡ is_eq (slice_cmp nat_cmp y x)
text_sym x y =
    one_answer {P = x ≡ y} (is_eq (slice_cmp nat_cmp x y)) (is_eq (slice_cmp nat_cmp y x)) (
      λ h. exact_bytes x y (equal_is (slice_cmp nat_cmp x y) h),
      λ e. subst (λ z. is_eq (slice_cmp nat_cmp x z) ≡ true) e (text_refl x),
    ) (
      λ h. sym (exact_bytes y x (equal_is (slice_cmp nat_cmp y x) h)),
      λ e. subst (λ z. is_eq (slice_cmp nat_cmp z x) ≡ true) e (text_refl x),
    )

truth_sym : (x y : Bool) → is_eq (truth_cmp x y) ≡ is_eq (truth_cmp y x)
truth_sym true true = refl
truth_sym true false = refl
truth_sym false true = refl
truth_sym false false = refl

pub same_sym : (a b : Datum) → same_key a b ≡ same_key b a
same_sym (truth x) (truth y) = truth_sym x y
same_sym (whole x) (whole y) = int_sym x y
same_sym (text x) (text y) = text_sym x y
same_sym (bytes x) (bytes y) = text_sym x y
same_sym (truth x) (whole y) = refl
same_sym (truth x) (text y) = refl
same_sym (truth x) (bytes y) = refl
same_sym (truth x) (list y) = refl
same_sym (truth x) (structure y) = refl
same_sym (truth x) null = refl
same_sym (whole x) (truth y) = refl
same_sym (whole x) (text y) = refl
same_sym (whole x) (bytes y) = refl
same_sym (whole x) (list y) = refl
same_sym (whole x) (structure y) = refl
same_sym (whole x) null = refl
same_sym (text x) (truth y) = refl
same_sym (text x) (whole y) = refl
same_sym (text x) (bytes y) = refl
same_sym (text x) (list y) = refl
same_sym (text x) (structure y) = refl
same_sym (text x) null = refl
same_sym (bytes x) (truth y) = refl
same_sym (bytes x) (whole y) = refl
same_sym (bytes x) (text y) = refl
same_sym (bytes x) (list y) = refl
same_sym (bytes x) (structure y) = refl
same_sym (bytes x) null = refl
same_sym (list x) (truth y) = refl
same_sym (list x) (whole y) = refl
same_sym (list x) (text y) = refl
same_sym (list x) (bytes y) = refl
same_sym (list x) (list y) = refl
same_sym (list x) (structure y) = refl
same_sym (list x) null = refl
same_sym (structure x) (truth y) = refl
same_sym (structure x) (whole y) = refl
same_sym (structure x) (text y) = refl
same_sym (structure x) (bytes y) = refl
same_sym (structure x) (list y) = refl
same_sym (structure x) (structure y) = refl
same_sym (structure x) null = refl
same_sym null (truth y) = refl
same_sym null (whole y) = refl
same_sym null (text y) = refl
same_sym null (bytes y) = refl
same_sym null (list y) = refl
same_sym null (structure y) = refl
same_sym null null = refl

pub same_refl : (a : Key) → same_key (datum_of_key a) (datum_of_key a) ≡ true
same_refl (key.Bool true) = refl
same_refl (key.Bool false) = refl
same_refl (key.Int n) = int_refl n
same_refl (key.Utf8 t) = text_refl t
same_refl (key.Binary b) = text_refl b
same_refl key.Null = refl

pub same_exact : (a b : Key) → same_key (datum_of_key a) (datum_of_key b) ≡ true → a ≡ b
same_exact (key.Bool true) (key.Bool true) h = refl
same_exact (key.Bool false) (key.Bool false) h = refl
same_exact (key.Int x) (key.Int y) h = ap key.Int (exact_signed x y (equal_is (int_cmp x y) h))
same_exact (key.Utf8 x) (key.Utf8 y) h = ap key.Utf8 (exact_bytes x y (equal_is (slice_cmp nat_cmp x y) h))
same_exact (key.Binary x) (key.Binary y) h = ap key.Binary (exact_bytes x y (equal_is (slice_cmp nat_cmp x y) h))
same_exact key.Null key.Null h = refl
same_exact a b h = absurd (cc)

pub key_datum : (d : Datum) (k : Key) → key_of d ≡ Some k → datum_of_key k ≡ d
key_datum null k h = subst (λ x. datum_of_key x ≡ null) (some_same key.Null k h) refl
key_datum (truth b) k h = subst (λ x. datum_of_key x ≡ truth b) (some_same (key.Bool b) k h) refl
key_datum (whole n) k h = subst (λ x. datum_of_key x ≡ whole n) (some_same (key.Int n) k h) refl
key_datum (text t) k h = subst (λ x. datum_of_key x ≡ text t) (some_same (key.Utf8 t) k h) refl
key_datum (bytes b) k h = subst (λ x. datum_of_key x ≡ bytes b) (some_same (key.Binary b) k h) refl
key_datum (list es) k h = absurd (none-some k h)
key_datum (structure es) k h = absurd (none-some k h)

pub neither : (a b : Bool) → (a || b) ≡ false → (a ≡ false) × (b ≡ false)
neither true b e = absurd (true≢false e)
neither false b e = (refl, e)

pub either : (a b : Bool) → (a || b) ≡ true → (a ≡ true) ⊎ (b ≡ true)
either true b e = inl refl
either false b e = inr e

pub or_left : (a b : Bool) → a ≡ true → (a || b) ≡ true
or_left true b e = refl
or_left false b e = absurd (true≢false (sym e))

pub or_right : (a b : Bool) → b ≡ true → (a || b) ≡ true
or_right true b e = refl
or_right false b e = e

pub or_none : (a b : Bool) → a ≡ false → b ≡ false → (a || b) ≡ false
or_none true b e f = e
or_none false b e f = f

-- keys joined

pub among_joined : (d : Datum) (xs ys : List Datum) → is_among d (xs ++ ys) ≡ (is_among d xs || is_among d ys)
unfolding is_among
among_joined d [] ys = refl
among_joined d (x ∷ xs) ys = by (same_key d x) (among_joined d xs ys)
  where
    by : (b : Bool) → is_among d (xs ++ ys) ≡ (is_among d xs || is_among d ys)
        → (b || is_among d (xs ++ ys)) ≡ ((b || is_among d xs) || is_among d ys)
    by true h = refl
    by false h = h

pub null_joined : (xs ys : List Datum) → has_null (xs ++ ys) ≡ (has_null xs || has_null ys)
unfolding has_null
null_joined [] ys = refl
null_joined (x ∷ xs) ys = by (is_null x) (null_joined xs ys)
  where
    by : (b : Bool) → has_null (xs ++ ys) ≡ (has_null xs || has_null ys)
        → (b || has_null (xs ++ ys)) ≡ ((b || has_null xs) || has_null ys)
    by true h = refl
    by false h = h

pub any_joined : (xs ys others : List Datum)
    → any_among (xs ++ ys) others ≡ (any_among xs others || any_among ys others)
unfolding any_among
any_joined [] ys others = refl
any_joined (x ∷ xs) ys others = by (is_among x others) (any_joined xs ys others)
  where
    by : (b : Bool) → any_among (xs ++ ys) others ≡ (any_among xs others || any_among ys others)
        → (b || any_among (xs ++ ys) others) ≡ ((b || any_among xs others) || any_among ys others)
    by true h = refl
    by false h = h

-- one key more, which isn't among those before
pub repeated_pushed : (xs : List Datum) (d : Datum) → has_repeated xs ≡ false → is_among d xs ≡ false
    → has_repeated (xs ++ d ∷ []) ≡ false
unfolding has_repeated is_among
repeated_pushed [] d h other = refl
repeated_pushed (x ∷ xs) d h other =
    let a = neither (is_among x xs) (has_repeated xs) h in
    let b = neither (same_key d x) (is_among d xs) other in
    or_none (is_among x (xs ++ d ∷ [])) (has_repeated (xs ++ d ∷ []))
    (among_joined x xs (d ∷ [])
    ∙ or_none (is_among x xs) (same_key x d || false) a.0 (or_none (same_key x d) false (same_sym x d ∙ b.0) refl))
    (repeated_pushed xs d a.1 b.1)

-- a key that was there before is one that is there twice
pub repeated_by : (k : Key) (xs rest : List Datum) (ks : List Key) → map datum_of_key ks ≡ xs
    → is_among (datum_of_key k) xs ≡ true → has_repeated (xs ++ datum_of_key k ∷ rest) ≡ true
unfolding has_repeated is_among
repeated_by k [] rest ks are h = absurd (true≢false (sym h))
repeated_by k (x ∷ xs) rest [] are h = absurd (cc)
repeated_by k (x ∷ xs) rest (y ∷ ks) are h =
    elim (either (same_key (datum_of_key k) x) (is_among (datum_of_key k) xs) h) [
      | inl e ↦
          let here : datum_of_key y ≡ x = cc are in
          let same : same_key x (datum_of_key k) ≡ true = same_sym x (datum_of_key k) ∙ e in
          or_left (is_among x (xs ++ datum_of_key k ∷ rest)) (has_repeated (xs ++ datum_of_key k ∷ rest))
          (among_joined x xs (datum_of_key k ∷ rest)
          ∙ or_right (is_among x xs) (same_key x (datum_of_key k)
          || is_among x rest) (or_left (same_key x (datum_of_key k)) (is_among x rest) same))
      | inr e ↦
          or_right (is_among x (xs ++ datum_of_key k ∷ rest)) (has_repeated (xs ++ datum_of_key k ∷ rest))
          (repeated_by k xs rest ks (cc are) e)
    ]
