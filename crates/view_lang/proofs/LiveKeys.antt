-- The keys of live rows stay distinct.
use Rattle.std.proofs.Common.{
  ◌≡◌,
  Bool,
  true,
  false,
  not,
  cond,
  ◌||◌,
  List,
  [],
  ◌∷◌,
  ◌++◌,
  None,
  Some,
  filter,
  refl,
  ap,
  sym,
  ◌∙◌,
  true≢false,
}
use Rattle.std.specs.Prelude.{find}
use Rattle.std.proofs.lemmas.List.{map-append}
use Rattle.std.proofs.lemmas.Option.{none-some}
use Rattle.std.specs.Cmp.{eq_by_cmp_equiv}
use Rattle.values.specs.Datum.{Datum}
use Rattle.view_lang.specs.Causes.{any_among, cause_of, has_null, has_repeated, stands}
use Rattle.view_lang.specs.Config.{Table}
use Rattle.view_lang.specs.Contents.{Contents, applied, is_among, key_in, keys_in, same_key, without}
use Rattle.view_lang.specs.Edits.{TableEdit, append, put, retract}
use Rattle.view_lang.specs.Laws.{AreKeyed, KeysStayDistinct, NoRowsAreKeyed}
use Rattle.view_lang.specs.declared.unfit.Unfit.{Unfit}
use Rattle.view_lang.specs.declared.unfit.Unfit.TheVariants as unfit
use Rattle.view_lang.proofs.Orders.{datum_cmp_total}

left_false : (a b : Bool) → (a || b) ≡ false → a ≡ false
left_false true b h = absurd (true≢false h)
left_false false b h = refl

right_false : (a b : Bool) → (a || b) ≡ false → b ≡ false
right_false true b h = absurd (true≢false h)
right_false false b h = h

both_false : (a b : Bool) → a ≡ false → b ≡ false → (a || b) ≡ false
both_false true b p q = absurd (true≢false p)
both_false false b p q = q

-- Where nothing is found, nothing passes.
none_found : {X : Type 0} (p : X → Bool) (x : X) (xs : List X) → find p (x ∷ xs) ≡ None → p x ≡ false
none_found p x xs h = by (p x) h
  where
    by : (b : Bool) → cond b (Some x) (find p xs) ≡ None → b ≡ false
    by true q = absurd (none-some x (sym q))
    by false q = refl

rest_unfound : {X : Type 0} (p : X → Bool) (x : X) (xs : List X) → find p (x ∷ xs) ≡ None → find p xs ≡ None
rest_unfound p x xs h = by (p x) h
  where
    by : (b : Bool) → cond b (Some x) (find p xs) ≡ None → find p xs ≡ None
    by true q = absurd (none-some x (sym q))
    by false q = q

-- the causes after the first, and after the second
abbrev behind_two : List Unfit
behind_two = unfit.UnknownKey ∷ unfit.TooManyRows ∷ unfit.CellTooHeavy ∷ []

abbrev behind_one : List Unfit
behind_one = unfit.DuplicateKey ∷ behind_two

key_fits : (t : Table) (c : Contents) (e : TableEdit) → cause_of t c e ≡ None → stands t c e unfit.NullKey ≡ false
unfolding cause_of
key_fits t c e h = none_found (stands t c e) unfit.NullKey behind_one h

keys_fit : (t : Table) (c : Contents) (e : TableEdit) → cause_of t c e ≡ None → stands t c e unfit.DuplicateKey ≡ false
unfolding cause_of
keys_fit t c e h =
    none_found (stands t c e) unfit.DuplicateKey behind_two (rest_unfound (stands t c e) unfit.NullKey behind_one h)

-- Lists of keys

symmetric : (a b : Datum) → same_key a b ≡ same_key b a
symmetric a b = (eq_by_cmp_equiv datum_cmp_total).symm a b

null_append : (xs ys : List Datum) → has_null xs ≡ false → has_null ys ≡ false → has_null (xs ++ ys) ≡ false
unfolding has_null
null_append [] ys p q = q
null_append (x ∷ xs) ys p q =
    both_false _ _ (left_false _ _ p) (null_append xs ys (right_false _ (has_null xs) p) q)

among_append : (k : Datum) (xs ys : List Datum) → is_among k xs ≡ false → is_among k ys ≡ false
    → is_among k (xs ++ ys) ≡ false
unfolding is_among
among_append k [] ys p q = q
among_append k (x ∷ xs) ys p q =
    both_false _ _ (left_false _ _ p) (among_append k xs ys (right_false (same_key k x) (is_among k xs) p) q)

-- None of the others is the first or among the rest.
apart_from_first : (x : Datum) (xs ys : List Datum) → any_among ys (x ∷ xs) ≡ false → is_among x ys ≡ false
unfolding is_among any_among
apart_from_first x xs [] h = refl
apart_from_first x xs (y ∷ ys) h =
    let here = left_false (is_among y (x ∷ xs)) (any_among ys (x ∷ xs)) h in
    both_false _ _ (symmetric x y ∙ left_false (same_key y x) (is_among y xs) here)
    (apart_from_first x xs ys (right_false (is_among y (x ∷ xs)) (any_among ys (x ∷ xs)) h))

apart_from_rest : (x : Datum) (xs ys : List Datum) → any_among ys (x ∷ xs) ≡ false → any_among ys xs ≡ false
unfolding is_among any_among
apart_from_rest x xs [] h = refl
apart_from_rest x xs (y ∷ ys) h =
    let here = left_false (is_among y (x ∷ xs)) (any_among ys (x ∷ xs)) h in
    both_false _ _ (right_false (same_key y x) (is_among y xs) here)
    (apart_from_rest x xs ys (right_false (is_among y (x ∷ xs)) (any_among ys (x ∷ xs)) h))

repeated_append : (xs ys : List Datum) → has_repeated xs ≡ false → has_repeated ys ≡ false
    → any_among ys xs ≡ false → has_repeated (xs ++ ys) ≡ false
unfolding has_repeated
repeated_append [] ys p q r = q
repeated_append (x ∷ xs) ys p q r =
    both_false _ _ (among_append x xs ys (left_false (is_among x xs) (has_repeated xs) p) (apart_from_first x xs ys r))
    (repeated_append xs ys (right_false (is_among x xs) (has_repeated xs) p) q (apart_from_rest x xs ys r))

-- Rows that are left

module _ (t : Table) (p : List Datum → Bool) where
  among_left : (k : Datum) (rows : List (List Datum)) → is_among k (keys_in t rows) ≡ false
      → is_among k (keys_in t (filter p rows)) ≡ false
  unfolding is_among
  among_left k [] h = h
  among_left k (r ∷ rs) h = by (p r) (among_left k rs (right_false (same_key k (key_in t r)) _ h))
    where
      by : (b : Bool) → is_among k (keys_in t (filter p rs)) ≡ false
          → is_among k (keys_in t (cond b (r ∷ filter p rs) (filter p rs))) ≡ false
      by true q = both_false _ _ (left_false (same_key k (key_in t r)) _ h) q
      by false q = q

  null_left : (rows : List (List Datum)) → has_null (keys_in t rows) ≡ false
      → has_null (keys_in t (filter p rows)) ≡ false
  unfolding has_null
  null_left [] h = h
  null_left (r ∷ rs) h = by (p r) (null_left rs (right_false _ (has_null (keys_in t rs)) h))
    where
      by : (b : Bool) → has_null (keys_in t (filter p rs)) ≡ false
          → has_null (keys_in t (cond b (r ∷ filter p rs) (filter p rs))) ≡ false
      by true q = both_false _ _ (left_false _ (has_null (keys_in t rs)) h) q
      by false q = q

  repeated_left : (rows : List (List Datum)) → has_repeated (keys_in t rows) ≡ false
      → has_repeated (keys_in t (filter p rows)) ≡ false
  unfolding has_repeated
  repeated_left [] h = h
  repeated_left (r ∷ rs) h =
      by (p r) (repeated_left rs (right_false (is_among (key_in t r) (keys_in t rs)) _ h))
    where
      by : (b : Bool) → has_repeated (keys_in t (filter p rs)) ≡ false
          → has_repeated (keys_in t (cond b (r ∷ filter p rs) (filter p rs))) ≡ false
      by true q =
          both_false _ _ (among_left (key_in t r) rs (left_false (is_among (key_in t r) (keys_in t rs)) _ h)) q
      by false q = q

kept : (t : Table) (keys : List Datum) (c : Contents) → AreKeyed t c
    → AreKeyed t (record { live = without t keys c.live; appended = c.appended })
unfolding without
kept t keys c k =
    record {
      not_null = null_left t (λ row. not (is_among (key_in t row) keys)) c.live k.not_null;
      distinct = repeated_left t (λ row. not (is_among (key_in t row) keys)) c.live k.distinct;
    }

more_rows :
    (t : Table) (c : Contents) (rows : List (List Datum)) → AreKeyed t c → has_null (keys_in t rows) ≡ false
    → (has_repeated (keys_in t rows) || any_among (keys_in t rows) (keys_in t c.live)) ≡ false
    → AreKeyed t (applied t (append rows) c)
more_rows t c rows k p q =
    let joined = map-append (key_in t) c.live rows in
    record {
      not_null = ap has_null joined ∙ null_append (keys_in t c.live) (keys_in t rows) k.not_null p;
      distinct =
          ap has_repeated joined
          ∙ repeated_append (keys_in t c.live) (keys_in t rows) k.distinct
          (left_false (has_repeated (keys_in t rows)) _ q) (right_false (has_repeated (keys_in t rows)) _ q);
    }

pub keys-stay_distinct : KeysStayDistinct
keys-stay_distinct t c (append rows) k h =
    more_rows t c rows k (key_fits t c (append rows) h) (keys_fit t c (append rows) h)
keys-stay_distinct t c (retract keys) k h = kept t keys c k
keys-stay_distinct t c (put rows) k h =
    more_rows t (record { live = without t (keys_in t rows) c.live; appended = c.appended }) rows
    (kept t (keys_in t rows) c k) (key_fits t c (put rows) h) (keys_fit t c (put rows) h)

pub no-rows_are_keyed : NoRowsAreKeyed
unfolding has_null has_repeated
no-rows_are_keyed t = record { not_null = refl; distinct = refl }
