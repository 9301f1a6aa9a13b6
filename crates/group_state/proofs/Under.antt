-- Tuples that begin with a key.
use Rattle.std.proofs.Common.{◌≡◌, refl, ap, ap₂, sym, ◌∙◌, subst, true≢false}
use Rattle.std.specs.Prelude.{ℕ, ◌+◌, ◌<◌, Bool, true, false, cond, ◌&&◌, ◌||◌, List, [], ◌∷◌, filter, get_or, length, take}
use Rattle.std.specs.declared.cmp.Ordering.{Ordering}
use Rattle.std.specs.declared.cmp.Ordering.TheVariants.{Less, Equal, Greater}
use Rattle.std.specs.declared.ops.Bound.TheVariants.{Included, Unbounded}
use Rattle.std.specs.Ordering.{is_eq, is_le, ordering_reverse, ordering_then}
use Rattle.std.specs.BTreeMap.{is_at}
use Rattle.std.specs.BTreeMap.Range.{entries_between}
use Rattle.std.specs.Cmp.{eq_by_cmp_equiv}
use Rattle.std.specs.List.{AllByRecursion, list_any}
use Rattle.std.specs.List.Sorted.{IsStrictlySortedBy}
use Rattle.std.specs.Map.{keys_of}
use Rattle.std.proofs.lemmas.List.Folds.{list_any_more}
use Rattle.std.proofs.lemmas.List.Kept.{IsStrictlySortedBy-filter}
use Rattle.values.specs.Datum.{Datum}
use Rattle.values.specs.declared.key.Key.{Key}
use Rattle.view_lang.proofs.ExactKeys.{key_exact}
use Rattle.group_state.specs.GroupCounts.{GroupCounts}
use Rattle.group_state.specs.Keys.{key_cmp, key_in, key_total, tuple_cmp, tuple_total}
use Rattle.group_state.specs.Moves.{begins_with, begins_with_one}
use Rattle.group_state.proofs.Members.{same_tuple}

-- Orders of tuples.

abbrev pub is_from : Key → List Key → Bool
is_from k u = is_le (tuple_cmp (k ∷ []) u)

none-first : (us : List Key) (r : Ordering) → is_eq r ≡ true → is_le (ordering_then r (tuple_cmp [] us)) ≡ true
none-first [] Less h = refl
none-first [] Equal h = refl
none-first [] Greater h = absurd (true≢false (sym h))
none-first (u ∷ us) Less h = refl
none-first (u ∷ us) Equal h = refl
none-first (u ∷ us) Greater h = absurd (true≢false (sym h))

begins-from : (k : Key) (u : List Key) → begins_with k u ≡ true → is_from k u ≡ true
begins-from k [] h = absurd (true≢false (sym h))
begins-from k (a ∷ us) h = none-first us (key_cmp k a) h

past_by : (k a b : Key) (x y : Ordering) (r s : Ordering) → key_cmp k a ≡ r → key_cmp k b ≡ s
    → is_le (ordering_then r x) ≡ true → is_eq r ≡ false → ordering_then (key_cmp a b) y ≡ Less → is_eq s ≡ false
past_by k a b x y Equal s p q h n l = absurd (true≢false n)
past_by k a b x y Greater s p q h n l = absurd (true≢false (sym h))
past_by k a b x y Less Less p q h n l = refl
past_by k a b x y Less Greater p q h n l = refl
past_by k a b x y Less Equal p q h n l =
    let turned : key_cmp a b ≡ Greater =
    ap (key_cmp a) (sym (key_exact k b q)) ∙ key_total.antisymm a k ∙ ap ordering_reverse p in
    absurd (true≢false (ap is_le (sym l ∙ ap (λ r. ordering_then r y) turned)))

-- After a tuple that is greater than all that begin with a key, none begins with it.
past : (k : Key) (x y : List Key) → is_from k x ≡ true → begins_with k x ≡ false → tuple_cmp x y ≡ Less
    → begins_with k y ≡ false
past k [] y h n l = absurd (true≢false (sym h))
past k (a ∷ xs) [] h n l = refl
past k (a ∷ xs) (b ∷ ys) h n l =
    past_by k a b (tuple_cmp [] xs) (tuple_cmp xs ys) (key_cmp k a) (key_cmp k b) refl refl h n l

-- Entries.

module _ (k : Key) where
  -- whether a tuple is among those of entries, and begins with the key
  abbrev pub under : List Key → List (List Key × GroupCounts) → Bool
  under t es = list_any (λ (e : List Key × GroupCounts). begins_with k e.0 && is_at (tuple_cmp t) e.0) es

  abbrev pub between : List (List Key × GroupCounts) → List (List Key × GroupCounts)
  between es = entries_between tuple_cmp (Included (k ∷ [])) Unbounded es

  kept_by : (t : List Key) (e : List Key × GroupCounts) (es : List (List Key × GroupCounts)) (b c : Bool)
      → is_from k e.0 ≡ b → begins_with k e.0 ≡ c → under t (between es) ≡ under t es
      → under t (cond (b && true) (e ∷ between es) (between es)) ≡ ((c && is_at (tuple_cmp t) e.0) || under t es)
  kept_by t e es true c p q h = ap₂ (λ x y. (x && is_at (tuple_cmp t) e.0) || y) q h
  kept_by t e es false true p q h = absurd (true≢false (sym (begins-from k e.0 q) ∙ p))
  kept_by t e es false false p q h = h

  under-between : (t : List Key) (es : List (List Key × GroupCounts)) → under t (between es) ≡ under t es
  under-between t [] = refl
  under-between t (e ∷ es) = kept_by t e es (is_from k e.0) (begins_with k e.0) refl refl (under-between t es)

  found_by : (t u : List Key) (b c : Bool) (x : Bool) → is_at (tuple_cmp t) u ≡ b → begins_with k t ≡ c
      → ((begins_with k u && b) || (c && x)) ≡ (c && (b || x))
  found_by t u true true x p q = ap (λ v. (begins_with k v && true) || x) (sym (same_tuple t u p)) ∙ ap (λ c. (c && true) || x) q
  found_by t u true false x p q = ap (λ v. (begins_with k v && true) || false) (sym (same_tuple t u p)) ∙ ap (λ c. (c && true) || false) q
  found_by t u false c x p q = nothing (begins_with k u) (c && x)
    where
      nothing : (a y : Bool) → ((a && false) || y) ≡ y
      nothing true y = refl
      nothing false y = refl

  none-here : (c : Bool) → false ≡ (c && false)
  none-here true = refl
  none-here false = refl

  under-groups : (t : List Key) (es : List (List Key × GroupCounts))
      → under t es ≡ (begins_with k t && list_any (is_at (tuple_cmp t)) (keys_of es))
  under-groups t [] = none-here (begins_with k t)
  under-groups t (e ∷ es) =
      ap (λ x. (begins_with k e.0 && is_at (tuple_cmp t) e.0) || x) (under-groups t es)
      ∙ found_by t e.0 (is_at (tuple_cmp t) e.0) (begins_with k t) (list_any (is_at (tuple_cmp t)) (keys_of es)) refl refl

  keys-between : (es : List (List Key × GroupCounts))
      → keys_of (between es) ≡ filter (λ (u : List Key). is_from k u && true) (keys_of es)
  keys-between [] = refl
  keys-between (e ∷ es) = go (is_from k e.0) (keys-between es)
    where
      go : (b : Bool) → keys_of (between es) ≡ filter (λ (u : List Key). is_from k u && true) (keys_of es)
          → keys_of (cond (b && true) (e ∷ between es) (between es))
          ≡ cond (b && true) (e.0 ∷ filter (λ (u : List Key). is_from k u && true) (keys_of es))
          (filter (λ (u : List Key). is_from k u && true) (keys_of es))
      go true h = ap (λ l. e.0 ∷ l) h
      go false h = h

  abbrev AreFrom : List (List Key × GroupCounts) → Type 0
  AreFrom es = AllByRecursion (λ (e : List Key × GroupCounts). is_from k e.0 ≡ true) es

  from-between : (es : List (List Key × GroupCounts)) → AreFrom (between es)
  from-between [] = tt
  from-between (e ∷ es) = go (is_from k e.0) refl (from-between es)
    where
      go : (b : Bool) → is_from k e.0 ≡ b → AreFrom (between es)
          → AreFrom (cond (b && true) (e ∷ between es) (between es))
      go true p h = (p, h)
      go false p h = h

  none-under : (t : List Key) (x : List Key) (es : List (List Key × GroupCounts))
      → AllByRecursion (λ y. tuple_cmp x y ≡ Less) (keys_of es) → is_from k x ≡ true → begins_with k x ≡ false
      → under t es ≡ false
  none-under t x [] a h n = refl
  none-under t x (e ∷ es) a h n =
      ap₂ (λ b c. (b && is_at (tuple_cmp t) e.0) || c) (past k x e.0 h n a.0) (none-under t x es a.1 h n)

  abbrev among : List Key → List (List Key) → Bool
  among t ts = list_any (is_at (tuple_cmp t)) ts

  -- The entries that are left lie in the range; all other tuples that begin with the key were found.
  pub record Walks (all left : List (List Key × GroupCounts)) (before tuples : List (List Key)) : Type 0 where
    pub ascend : IsStrictlySortedBy tuple_cmp (keys_of left)
    pub from : AreFrom left
    pub so_far : (t : List Key) → (among t tuples || under t left) ≡ (among t before || under t all)

  pub walks-first : (all left : List (List Key × GroupCounts)) (tuples : List (List Key)) → left ≡ between all
      → IsStrictlySortedBy tuple_cmp (keys_of all) → Walks all left tuples tuples
  walks-first all left tuples is s =
      let ascend : IsStrictlySortedBy tuple_cmp (keys_of (between all)) =
      subst (IsStrictlySortedBy tuple_cmp) (sym (keys-between all))
      (IsStrictlySortedBy-filter tuple_cmp (λ (u : List Key). is_from k u && true) (keys_of all) s) in
      record {
        ascend = subst (λ l. IsStrictlySortedBy tuple_cmp (keys_of l)) (sym is) ascend;
        from = subst AreFrom (sym is) (from-between all);
        so_far = λ t. ap (λ l. among t tuples || under t l) is ∙ ap (λ b. among t tuples || b) (under-between t all);
      }

  next_by : (a b x : Bool) → (cond b true a || x) ≡ (a || (b || x))
  next_by true true x = refl
  next_by true false x = refl
  next_by false true x = refl
  next_by false false x = refl

  pub walks-next : (all left next : List (List Key × GroupCounts)) (e : List Key × GroupCounts)
      (before tuples later : List (List Key)) → left ≡ e ∷ next → begins_with k e.0 ≡ true
      → ((t : List Key) → among t later ≡ cond (is_at (tuple_cmp e.0) t) true (among t tuples))
      → Walks all left before tuples → Walks all next before later
  unfolding IsStrictlySortedBy
  walks-next all left next e before tuples later is here put w =
      let own = subst (λ l. Walks all l before tuples) is w in
      record {
        ascend = own.ascend.1;
        from = own.from.1;
        so_far = λ t.
            ap (λ b. b || under t next) (put t ∙ ap (λ b. cond b true (among t tuples)) ((eq_by_cmp_equiv tuple_total).symm e.0 t))
            ∙ next_by (among t tuples) (is_at (tuple_cmp t) e.0) (under t next)
            ∙ ap (λ c. among t tuples || ((c && is_at (tuple_cmp t) e.0) || under t next)) (sym here)
            ∙ own.so_far t;
      }

  ended : (all left : List (List Key × GroupCounts)) (before tuples : List (List Key))
      → ((t : List Key) → under t left ≡ false) → Walks all left before tuples → (t : List Key)
      → among t tuples ≡ (among t before || (begins_with k t && among t (keys_of all)))
  ended all left before tuples none w t =
      last (among t tuples) ∙ ap (λ b. among t tuples || b) (sym (none t))
      ∙ w.so_far t ∙ ap (λ b. among t before || b) (under-groups t all)
    where
      last : (a : Bool) → a ≡ (a || false)
      last true = refl
      last false = refl

  pub walked-out : (all left : List (List Key × GroupCounts)) (before tuples : List (List Key)) → left ≡ []
      → Walks all left before tuples → (t : List Key)
      → among t tuples ≡ (among t before || (begins_with k t && among t (keys_of all)))
  walked-out all left before tuples is = ended all left before tuples (λ t. ap (under t) is)

  pub walked-past : (all left next : List (List Key × GroupCounts)) (e : List Key × GroupCounts)
      (before tuples : List (List Key)) → left ≡ e ∷ next → begins_with k e.0 ≡ false
      → Walks all left before tuples → (t : List Key)
      → among t tuples ≡ (among t before || (begins_with k t && among t (keys_of all)))
  unfolding IsStrictlySortedBy
  walked-past all left next e before tuples is past_it w =
      let own = subst (λ l. Walks all l before tuples) is w in
      ended all left before tuples
      (λ t. ap (under t) is
      ∙ ap₂ (λ c b. (c && is_at (tuple_cmp t) e.0) || b) past_it (none-under t e.0 next own.ascend.0 own.from.0 past_it))
      w

-- The keys of values.

or-turned : (a b : Bool) → cond a true b ≡ (b || a)
or-turned true true = refl
or-turned true false = refl
or-turned false true = refl
or-turned false false = refl

turned : (k q : Key) → is_at (key_cmp q) k ≡ is_at (key_cmp k) q
turned k q = (eq_by_cmp_equiv key_total).symm q k

-- one more value, as at a step of a loop
pub key-more : (ds : List Datum) (i : ℕ) (d : Datum) (k u : Key) (before after : Bool) → i < length ds
    → d ≡ get_or ds i d → u ≡ key_in d
    → before ≡ list_any (λ (x : Datum). is_at (key_cmp k) (key_in x)) (take i ds)
    → after ≡ cond (is_at (key_cmp u) k) true before
    → after ≡ list_any (λ (x : Datum). is_at (key_cmp k) (key_in x)) (take (i + 1) ds)
key-more ds i d k u before after h is same b a =
    a ∙ or-turned (is_at (key_cmp u) k) before
    ∙ ap₂ (λ x y. x || y) b (turned k u ∙ ap (is_at (key_cmp k)) (same ∙ ap key_in is))
    ∙ sym (list_any_more (λ (x : Datum). is_at (key_cmp k) (key_in x)) ds i d h)

any-turned : {X : Type 0} (f : X → Key) (a : Key) (xs : List X)
    → list_any (λ (x : X). is_at (key_cmp (f x)) a) xs ≡ list_any (λ (x : X). is_at (key_cmp a) (f x)) xs
any-turned f a [] = refl
any-turned f a (x ∷ xs) = ap₂ (λ b c. b || c) (turned a (f x)) (any-turned f a xs)

never : {X : Type 0} (xs : List X) → list_any (λ (x : X). false) xs ≡ false
never [] = refl
never (x ∷ xs) = never xs

pub begins-among : (ks : List Key) (ds : List Datum)
    → ((k : Key) → list_any (is_at (key_cmp k)) ks ≡ list_any (λ (d : Datum). is_at (key_cmp k) (key_in d)) ds)
    → (t : List Key) → list_any (λ (k : Key). begins_with k t) ks ≡ begins_with_one ds t
begins-among ks ds h [] = never ks ∙ sym (never ds)
begins-among ks ds h (a ∷ t) = any-turned (λ (k : Key). k) a ks ∙ h a ∙ sym (any-turned key_in a ds)

one-more : (o b n g : Bool) → ((o || (b && g)) || (n && g)) ≡ (o || ((b || n) && g))
one-more true b n g = refl
one-more false true n true = refl
one-more false true true false = refl
one-more false true false false = refl
one-more false false n g = refl

-- the tuples that begin with one more key, as at a step of a loop
pub under-next : (t : List Key) (k : Key) (left next : List Key) (before after there whole : Bool) → left ≡ k ∷ next
    → after ≡ (before || (begins_with k t && there))
    → (before || (list_any (λ (q : Key). begins_with q t) left && there)) ≡ whole
    → (after || (list_any (λ (q : Key). begins_with q t) next && there)) ≡ whole
under-next t k left next before after there whole is a h =
    ap (λ b. b || (list_any (λ (q : Key). begins_with q t) next && there)) a
    ∙ one-more before (begins_with k t) (list_any (λ (q : Key). begins_with q t) next) there
    ∙ ap (λ l. before || (list_any (λ (q : Key). begins_with q t) l && there)) (sym is)
    ∙ h

pub under-none : (t : List Key) (left : List Key) (before there whole : Bool) → left ≡ []
    → (before || (list_any (λ (q : Key). begins_with q t) left && there)) ≡ whole → before ≡ whole
under-none t left before there whole is h =
    last before ∙ ap (λ l. before || (list_any (λ (q : Key). begins_with q t) l && there)) (sym is) ∙ h
  where
    last : (a : Bool) → a ≡ (a || false)
    last true = refl
    last false = refl
