-- The remaining rows where rows are retracted, and how they are restored.
use Rattle.std.proofs.Common.{
  ◌≡◌,
  ℕ,
  zero,
  suc,
  ◌≤◌,
  ◌||◌,
  Bool,
  true,
  false,
  not,
  cond,
  List,
  [],
  ◌∷◌,
  length,
  refl,
  ap,
  sym,
  subst,
  ◌∙◌,
  true≢false,
}
use Rattle.std.specs.Prelude.{if◌then◌else◌}
use Rattle.std.proofs.lemmas.Option.{none-some}
use Rattle.values.specs.Datum.{Datum}
use Rattle.view_lang.specs.Causes.{has_repeated}
use Rattle.view_lang.specs.Config.{Table}
use Rattle.view_lang.specs.Contents.{applied, is_among, key_in, keys_in, same_key, without}
use Rattle.view_lang.specs.Edits.{retract}
use Rattle.row_keys.specs.Slots.{
  AreRetracted,
  CanPutBack,
  CanRetract,
  HasKey,
  IsThere,
  Slot,
  contents_of,
  keys_at,
  live,
  marked,
  put_back,
  retracted,
  row_of,
  slot,
}
use Rattle.row_keys.proofs.KeyFacts.{neither, or_none, same_sym}
use Rattle.row_keys.proofs.Places.{some_same}

-- Keys of live rows are the same as themselves, and no two are the same.
pub record IsProper (t : Table) (slots : List Slot) : Type 0 where
  pub distinct : has_repeated (keys_in t (live slots)) ≡ false
  pub reflects : (n : ℕ) → IsThere slots n true
      → same_key (key_in t (row_of slots n)) (key_in t (row_of slots n)) ≡ true
  pub given : (n : ℕ) → IsThere slots n true → HasKey t (row_of slots n)

abbrev others : Table → Datum → List (List Datum) → List (List Datum)
others t k rows = without t (k ∷ []) rows

-- a row remains where its key isn't the one
kept_one : (t : Table) (k : Datum) (r : List Datum) (rs : List (List Datum)) → same_key k (key_in t r) ≡ false
    → others t k (r ∷ rs) ≡ r ∷ others t k rs
unfolding without is_among
kept_one t k r rs other =
    ap (λ b. cond (not b) (r ∷ others t k rs) (others t k rs))
    (or_none (same_key (key_in t r) k) false (same_sym (key_in t r) k ∙ other) refl)

gone_one : (t : Table) (k : Datum) (r : List Datum) (rs : List (List Datum)) → same_key k (key_in t r) ≡ true
    → others t k (r ∷ rs) ≡ others t k rs
unfolding without is_among
gone_one t k r rs same =
    ap (λ b. cond (not (b || false)) (r ∷ others t k rs) (others t k rs)) (same_sym (key_in t r) k ∙ same)

untouched : (t : Table) (k : Datum) (rs : List (List Datum)) → is_among k (keys_in t rs) ≡ false → others t k rs ≡ rs
unfolding without is_among
untouched t k [] h = refl
untouched t k (r ∷ rs) h =
    let a = neither (same_key k (key_in t r)) (is_among k (keys_in t rs)) h in
    kept_one t k r rs a.0 ∙ ap (λ xs. r ∷ xs) (untouched t k rs a.1)

pub among_live : (t : Table) (slots : List Slot) (n : ℕ) (k : Datum) → IsThere slots n true
    → is_among k (keys_in t (live slots)) ≡ false → same_key k (key_in t (row_of slots n)) ≡ false
unfolding live is_among
among_live t [] n k there h = absurd (none-some (slot there.0 true) there.1)
among_live t (s ∷ ss) zero k there h =
    let same : s ≡ slot there.0 true = some_same s (slot there.0 true) there.1 in
    let P : Slot → Type 0 = λ x. is_among k (keys_in t (if x.live then x.row ∷ live ss else live ss)) ≡ false
    → same_key k (key_in t x.row) ≡ false in
    subst P (sym same) (λ e. (neither (same_key k (key_in t there.0)) (is_among k (keys_in t (live ss))) e).0) h
among_live t (s ∷ ss) (suc n) k there h = by s.live (among_live t ss n k there) h
  where
    by : (b : Bool) → (is_among k (keys_in t (live ss)) ≡ false → same_key k (key_in t (row_of ss n)) ≡ false)
        → is_among k (keys_in t (if b then s.row ∷ live ss else live ss)) ≡ false
        → same_key k (key_in t (row_of ss n)) ≡ false
    by true rest e = rest (neither (same_key k (key_in t s.row)) (is_among k (keys_in t (live ss))) e).1
    by false rest e = rest e

-- One live row is retracted: the others with another key remain.
one_less :
    (t : Table) (slots : List Slot) (n : ℕ) → IsThere slots n true → has_repeated (keys_in t (live slots)) ≡ false
    → same_key (key_in t (row_of slots n)) (key_in t (row_of slots n)) ≡ true
    → live (marked false slots n) ≡ others t (key_in t (row_of slots n)) (live slots)
unfolding live has_repeated
one_less t [] n there distinct reflects = absurd (none-some (slot there.0 true) there.1)
one_less t (s ∷ ss) zero there distinct reflects =
    let same : s ≡ slot there.0 true = some_same s (slot there.0 true) there.1 in
    let P : Slot → Type 0 = λ x. has_repeated (keys_in t (if x.live then x.row ∷ live ss else live ss)) ≡ false
    → same_key (key_in t x.row) (key_in t x.row) ≡ true
    → live ss ≡ others t (key_in t x.row) (if x.live then x.row ∷ live ss else live ss) in
    subst P (sym same) (λ d r.
    let a = neither (is_among (key_in t there.0) (keys_in t (live ss))) (has_repeated (keys_in t (live ss))) d in
    sym (gone_one t (key_in t there.0) there.0 (live ss) r ∙ untouched t (key_in t there.0) (live ss) a.0)) distinct
    reflects
one_less t (s ∷ ss) (suc n) there distinct reflects = by s.live distinct (λ d. one_less t ss n there d reflects)
  where
    by : (b : Bool) → has_repeated (keys_in t (if b then s.row ∷ live ss else live ss)) ≡ false
        → (has_repeated (keys_in t (live ss)) ≡ false
        → live (marked false ss n) ≡ others t (key_in t (row_of ss n)) (live ss))
        → (if b then s.row ∷ live (marked false ss n) else live (marked false ss n)) ≡ others t (key_in t (row_of ss n))
        (if b then s.row ∷ live ss else live ss)
    by true d rest =
        let a = neither (is_among (key_in t s.row) (keys_in t (live ss))) (has_repeated (keys_in t (live ss))) d in
        let other : same_key (key_in t (row_of ss n)) (key_in t s.row) ≡ false =
        same_sym (key_in t (row_of ss n)) (key_in t s.row) ∙ among_live t ss n (key_in t s.row) there a.0 in
        ap (λ xs. s.row ∷ xs) (rest a.1) ∙ sym (kept_one t (key_in t (row_of ss n)) s.row (live ss) other)
    by false d rest = rest d

without_none : (t : Table) (rs : List (List Datum)) → without t [] rs ≡ rs
unfolding without is_among
without_none t [] = refl
without_none t (r ∷ rs) = ap (λ xs. r ∷ xs) (without_none t rs)

without_twice : (t : Table) (k : Datum) (ks : List Datum) (rs : List (List Datum))
    → without t ks (others t k rs) ≡ without t (k ∷ ks) rs
unfolding without is_among
without_twice t k ks [] = refl
without_twice t k ks (r ∷ rs) = by (same_key (key_in t r) k) (is_among (key_in t r) ks) refl (without_twice t k ks rs)
  where
    by : (a b : Bool) → is_among (key_in t r) ks ≡ b → without t ks (others t k rs) ≡ without t (k ∷ ks) rs
        → without t ks (cond (not (a || false)) (r ∷ others t k rs) (others t k rs)) ≡ cond
        (not (a || is_among (key_in t r) ks)) (r ∷ without t (k ∷ ks) rs) (without t (k ∷ ks) rs)
    by true b e h = h
    by false true e h =
        ap (λ c. cond (not c) (r ∷ without t ks (others t k rs)) (without t ks (others t k rs))) e ∙ h
        ∙ sym (ap (λ c. cond (not c) (r ∷ without t (k ∷ ks) rs) (without t (k ∷ ks) rs)) e)
    by false false e h =
        ap (λ c. cond (not c) (r ∷ without t ks (others t k rs)) (without t ks (others t k rs))) e ∙ ap (λ xs. r ∷ xs) h
        ∙ sym (ap (λ c. cond (not c) (r ∷ without t (k ∷ ks) rs) (without t (k ∷ ks) rs)) e)

among_less : (t : Table) (d k : Datum) (rs : List (List Datum)) → is_among d (keys_in t rs) ≡ false
    → is_among d (keys_in t (others t k rs)) ≡ false
unfolding without is_among
among_less t d k [] h = refl
among_less t d k (r ∷ rs) h =
    let a = neither (same_key d (key_in t r)) (is_among d (keys_in t rs)) h in
    by (same_key (key_in t r) k) a.0 (among_less t d k rs a.1)
  where
    by : (b : Bool) → same_key d (key_in t r) ≡ false → is_among d (keys_in t (others t k rs)) ≡ false
        → is_among d (keys_in t (cond (not (b || false)) (r ∷ others t k rs) (others t k rs))) ≡ false
    by true e h = h
    by false e h = or_none (same_key d (key_in t r)) (is_among d (keys_in t (others t k rs))) e h

-- the key that is removed isn't among the remaining ones
taken_out : (t : Table) (k : Datum) (rs : List (List Datum)) → is_among k (keys_in t (others t k rs)) ≡ false
unfolding without is_among
taken_out t k [] = refl
taken_out t k (r ∷ rs) = by (same_key (key_in t r) k) refl (taken_out t k rs)
  where
    by : (b : Bool) → same_key (key_in t r) k ≡ b → is_among k (keys_in t (others t k rs)) ≡ false
        → is_among k (keys_in t (cond (not (b || false)) (r ∷ others t k rs) (others t k rs))) ≡ false
    by true e h = h
    by false e h =
        or_none (same_key k (key_in t r)) (is_among k (keys_in t (others t k rs))) (same_sym k (key_in t r) ∙ e) h

repeated_less : (t : Table) (k : Datum) (rs : List (List Datum)) → has_repeated (keys_in t rs) ≡ false
    → has_repeated (keys_in t (others t k rs)) ≡ false
unfolding without is_among has_repeated
repeated_less t k [] h = refl
repeated_less t k (r ∷ rs) h =
    let a = neither (is_among (key_in t r) (keys_in t rs)) (has_repeated (keys_in t rs)) h in
    by (same_key (key_in t r) k) (repeated_less t k rs a.1) (among_less t (key_in t r) k rs a.0)
  where
    by : (b : Bool) → has_repeated (keys_in t (others t k rs)) ≡ false
        → is_among (key_in t r) (keys_in t (others t k rs)) ≡ false
        → has_repeated (keys_in t (cond (not (b || false)) (r ∷ others t k rs) (others t k rs))) ≡ false
    by true h e = h
    by false h e =
        or_none (is_among (key_in t r) (keys_in t (others t k rs))) (has_repeated (keys_in t (others t k rs))) e h

-- rows stay where they are marked
pub row_marked : (b : Bool) (slots : List Slot) (n m : ℕ) → row_of (marked b slots n) m ≡ row_of slots m
row_marked b [] n m = refl
row_marked b (s ∷ ss) zero zero = refl
row_marked b (s ∷ ss) zero (suc m) = refl
row_marked b (s ∷ ss) (suc n) zero = refl
row_marked b (s ∷ ss) (suc n) (suc m) = row_marked b ss n m

pub row_retracted : (ns : List ℕ) (slots : List Slot) (m : ℕ) → row_of (retracted ns slots) m ≡ row_of slots m
unfolding retracted
row_retracted [] slots m = refl
row_retracted (n ∷ ns) slots m = row_retracted ns (marked false slots n) m ∙ row_marked false slots n m

keys_marked : (t : Table) (b : Bool) (slots : List Slot) (n : ℕ) (ns : List ℕ)
    → keys_at t ns (marked b slots n) ≡ keys_at t ns slots
keys_marked t b slots n [] = refl
keys_marked t b slots n (m ∷ ms) =
    ap (λ r. key_in t r ∷ keys_at t ms (marked b slots n)) (row_marked b slots n m)
    ∙ ap (λ ks. key_in t (row_of slots m) ∷ ks) (keys_marked t b slots n ms)

there_before : (slots : List Slot) (n m : ℕ) → IsThere (marked false slots n) m true → IsThere slots m true
there_before [] n m there = there
there_before (s ∷ ss) zero zero there =
    absurd (true≢false (sym (ap (λ x. x.live) (some_same (slot s.row false) (slot there.0 true) there.1))))
there_before (s ∷ ss) zero (suc m) there = there
there_before (s ∷ ss) (suc n) zero there = there
there_before (s ∷ ss) (suc n) (suc m) there = there_before ss n m there

there_marked : (slots : List Slot) (n : ℕ) → IsThere slots n true → IsThere (marked false slots n) n false
there_marked [] n there = absurd (none-some (slot there.0 true) there.1)
there_marked (s ∷ ss) zero there = (s.row, refl)
there_marked (s ∷ ss) (suc n) there = there_marked ss n there

marked_back : (slots : List Slot) (n : ℕ) → IsThere slots n true → marked true (marked false slots n) n ≡ slots
marked_back [] n there = absurd (none-some (slot there.0 true) there.1)
marked_back (s ∷ ss) zero there =
    let same : s ≡ slot there.0 true = some_same s (slot there.0 true) there.1 in
    ap (λ b. slot s.row b ∷ ss) (sym (ap (λ x. x.live) same))
marked_back (s ∷ ss) (suc n) there = ap (λ xs. s ∷ xs) (marked_back ss n there)

proper_marked : (t : Table) (slots : List Slot) (n : ℕ) → IsThere slots n true → IsProper t slots
    → IsProper t (marked false slots n)
proper_marked t slots n there proper = record {
  distinct =
      let P : List (List Datum) → Type 0 = λ xs. has_repeated (keys_in t xs) ≡ false in
      subst P (sym (one_less t slots n there proper.distinct (proper.reflects n there)))
      (repeated_less t (key_in t (row_of slots n)) (live slots) proper.distinct);
  reflects = λ m here.
      let P : List Datum → Type 0 = λ r. same_key (key_in t r) (key_in t r) ≡ true in
      subst P (sym (row_marked false slots n m)) (proper.reflects m (there_before slots n m here));
  given = λ m here.
      let P : List Datum → Type 0 = λ r. HasKey t r in
      subst P (sym (row_marked false slots n m)) (proper.given m (there_before slots n m here));
}

live_retracted : (t : Table) (ns : List ℕ) (slots : List Slot) → CanRetract ns slots → IsProper t slots
    → live (retracted ns slots) ≡ without t (keys_at t ns slots) (live slots)
unfolding retracted CanRetract
live_retracted t [] slots can proper = sym (without_none t (live slots))
live_retracted t (n ∷ ns) slots can proper =
    live_retracted t ns (marked false slots n) can.1 (proper_marked t slots n can.0 proper)
    ∙ ap (λ ks. without t ks (live (marked false slots n))) (keys_marked t false slots n ns)
    ∙ ap (λ xs. without t (keys_at t ns slots) xs) (one_less t slots n can.0 proper.distinct (proper.reflects n can.0))
    ∙ without_twice t (key_in t (row_of slots n)) (keys_at t ns slots) (live slots)

pub length_marked : (b : Bool) (slots : List Slot) (n : ℕ) → length (marked b slots n) ≡ length slots
length_marked b [] n = refl
length_marked b (s ∷ ss) zero = refl
length_marked b (s ∷ ss) (suc n) = ap suc (length_marked b ss n)

pub length_retracted : (ns : List ℕ) (slots : List Slot) → length (retracted ns slots) ≡ length slots
unfolding retracted
length_retracted [] slots = refl
length_retracted (n ∷ ns) slots = length_retracted ns (marked false slots n) ∙ length_marked false slots n

pub world_retracted :
    (t : Table) (ns : List ℕ) (slots : List Slot) → CanRetract ns slots → IsProper t slots
    → contents_of (retracted ns slots) ≡ applied t (retract (keys_at t ns slots)) (contents_of slots)
world_retracted t ns slots can proper =
    ap (λ xs. record { live = xs; appended = length (retracted ns slots) }) (live_retracted t ns slots can proper)
    ∙ ap (λ n. record { live = without t (keys_at t ns slots) (live slots); appended = n }) (length_retracted ns slots)

pub put_back_undoes : (ns : List ℕ) (slots : List Slot) → CanRetract ns slots → put_back ns (retracted ns slots) ≡ slots
unfolding retracted CanRetract put_back
put_back_undoes [] slots can = refl
put_back_undoes (n ∷ ns) slots can =
    ap (λ xs. marked true xs n) (put_back_undoes ns (marked false slots n) can.1) ∙ marked_back slots n can.0

are_retracted : (t : Table) (ns : List ℕ) (slots : List Slot) → CanRetract ns slots → IsProper t slots
    → AreRetracted t ns (retracted ns slots)
unfolding retracted CanRetract AreRetracted
are_retracted t [] slots can proper = tt
are_retracted t (n ∷ ns) slots can proper =
    let back : put_back ns (retracted ns (marked false slots n)) ≡ marked false slots n =
    put_back_undoes ns (marked false slots n) can.1 in
    let row : row_of (retracted ns (marked false slots n)) n ≡ row_of slots n =
    row_retracted ns (marked false slots n) n ∙ row_marked false slots n n in
    let P : List Slot → Type 0 = λ xs. IsThere xs n false in
    let K : List Datum → Type 0 = λ r. HasKey t r in
    let Q : List Slot → Type 0 = λ xs. is_among (key_in t (row_of slots n)) (keys_in t (live xs)) ≡ false in
    let R : List Datum
    → Type 0 =
    λ r. is_among (key_in t r) (keys_in t (live (put_back ns (retracted ns (marked false slots n))))) ≡ false in
    let L : List (List Datum) → Type 0 = λ xs. is_among (key_in t (row_of slots n)) (keys_in t xs) ≡ false in (
      are_retracted t ns (marked false slots n) can.1 (proper_marked t slots n can.0 proper),
      subst P (sym back) (there_marked slots n can.0),
      subst R (sym row)
          (subst Q (sym back) (subst L (sym (one_less t slots n can.0 proper.distinct (proper.reflects n can.0)))
          (taken_out t (key_in t (row_of slots n)) (live slots)))),
      subst K (sym row) (proper.given n can.0),
    )

pub can_put_back :
    (t : Table) (ns : List ℕ) (slots : List Slot) → CanRetract ns slots → IsProper t slots
    → length (live slots) ≤ t.max_rows
    → CanPutBack t ns (retracted ns slots)
unfolding CanPutBack
can_put_back t ns slots can proper few =
    let P : List Slot → Type 0 = λ xs. length (live xs) ≤ t.max_rows in
    (are_retracted t ns slots can proper, subst P (sym (put_back_undoes ns slots can)) few)
