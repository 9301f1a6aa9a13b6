-- The rows with these keys, and why they can't be retracted.
use Rattle.std.proofs.Common.{
  ◌≡◌,
  inl,
  inr,
  ℕ,
  zero,
  suc,
  ◌+◌,
  ◌<◌,
  ◌≤◌,
  ◌||◌,
  Bool,
  true,
  false,
  cond,
  List,
  [],
  ◌∷◌,
  ◌++◌,
  None,
  Some,
  length,
  take,
  get_or,
  refl,
  ap,
  sym,
  subst,
  ◌∙◌,
  arith,
  true≢false,
  map,
}
use Rattle.std.specs.Prelude.{slice_get}
use Rattle.std.specs.List.{AllByRecursion, IsDistinct}
use Rattle.std.specs.Ordering.{eq_by_cmp, is_eq, nat_cmp}
use Rattle.std.proofs.lemmas.Cmp.{nat_cmp_total, tied_itself}
use Rattle.std.proofs.Math.Seq.{take-suc}
use Rattle.values.specs.Datum.{Datum, is_null, null}
use Rattle.values.specs.Keys.{datum_of_key}
use Rattle.values.specs.declared.key.Key.{Key}
use Rattle.view_lang.specs.Causes.{all_among, any_among, cause_of, has_null, has_repeated}
use Rattle.view_lang.specs.Config.{Table}
use Rattle.view_lang.specs.Contents.{Contents, is_among, keys_in, same_key}
use Rattle.view_lang.specs.Edits.{retract}
use Rattle.view_lang.specs.declared.unfit.Unfit.TheVariants as unfit
use Rattle.row_keys.specs.declared.faults.EditFault.{EditFault}
use Rattle.row_keys.specs.declared.faults.EditFault.TheVariants as fault
use Rattle.row_keys.specs.Found.{FindsAll, MissesKey}
use Rattle.row_keys.specs.KeyColumns.{PushesKeys, RefusesKeys, StandAlone, fresh}
use Rattle.row_keys.specs.Numbers.{AreDistinct, IsAt, IsUnused, Numbered, numbered, turned}
use Rattle.row_keys.specs.Slots.{CanRetract, Slot, contents_of, keys_at, live}
use Rattle.row_keys.specs.Store.{Refuses}
use Rattle.row_keys.specs.Stored.{AreGiven, AreKeyed, IsStored, joined, live_keys}
use Rattle.row_keys.proofs.AppendedBatches.{live_keys_are}
use Rattle.row_keys.proofs.JoinedNumbers.{joined_at, joined_turned, keyed_turned, unused_among, used_among}
use Rattle.row_keys.proofs.KeyFacts.{either, neither, or_none, same_exact, same_refl}
use Rattle.row_keys.proofs.Places.{some_same}

-- one key after another

pub finds_pushed :
    (xs : List Numbered) (n : ℕ) (ds : List Datum) (ns : List ℕ) (d : Datum) → FindsAll ds xs ns
    → (k : Key) × (datum_of_key k ≡ d) × IsAt xs n k true → FindsAll (ds ++ d ∷ []) xs (ns ++ n ∷ [])
finds_pushed xs n [] [] d all one = (one, tt)
finds_pushed xs n [] (m ∷ ms) d all one = absurd all
finds_pushed xs n (x ∷ ds) [] d all one = absurd all
finds_pushed xs n (x ∷ ds) (m ∷ ms) d all one = (all.0, finds_pushed xs n ds ms d all.1 one)

pub finds_more :
    (cells : List Datum) (i n : ℕ) (xs : List Numbered) (found : List ℕ) (k : Key) → i < length cells
    → FindsAll (take i cells) xs found
    → datum_of_key k ≡ get_or cells i null → IsAt xs n k true → FindsAll (take (i + 1) cells) xs (found ++ n ∷ [])
finds_more cells i n xs found k below all is at =
    let e : i + 1 ≡ suc i = omega arith in
    let P : List Datum → Type 0 = λ ds. FindsAll ds xs (found ++ n ∷ []) in
    subst P (sym (ap (λ m. take m cells) e ∙ take-suc cells i null below))
    (finds_pushed xs n (take i cells) found (get_or cells i null) all (k, is, at))

pub all_taken : (cells : List Datum) (n : ℕ) → length cells ≤ n → take n cells ≡ cells
all_taken [] zero h = refl
all_taken [] (suc n) h = refl
all_taken (s ∷ ss) zero h = absurd (omega (arith, h))
all_taken (s ∷ ss) (suc n) h = ap (λ xs. s ∷ xs) (all_taken ss n (omega (arith, h)))

pub finds_end : (cells : List Datum) (i : ℕ) (xs : List Numbered) (found : List ℕ) → length cells ≤ i
    → FindsAll (take i cells) xs found → FindsAll cells xs found
finds_end cells i xs found end all = let P : List Datum
    → Type 0 = λ ds. FindsAll ds xs found in subst P (all_taken cells i end) all

pub misses_key : (cells : List Datum) (i : ℕ) (xs : List Numbered) (k : Key) → i < length cells
    → datum_of_key k ≡ get_or cells i null → IsUnused xs k → all_among cells (live_keys xs) ≡ false
unfolding all_among
misses_key [] i xs k below is unused = absurd (omega (arith, below))
misses_key (d ∷ ds) zero xs k below is unused =
    ap (λ b. cond b (all_among ds (live_keys xs)) false) (ap (λ x. is_among x (live_keys xs)) (sym is)
    ∙ unused_among xs k unused)
misses_key (d ∷ ds) (suc i) xs k below is unused =
    by (is_among d (live_keys xs)) (misses_key ds i xs k (omega (arith, below)) is unused)
  where
    by : (b : Bool) → all_among ds (live_keys xs) ≡ false → cond b (all_among ds (live_keys xs)) false ≡ false
    by true h = h
    by false h = refl

pub ruleset finding = (finds_more, finds_end, misses_key)

found_among : (cells : List Datum) (xs : List Numbered) (ns : List ℕ) → FindsAll cells xs ns
    → all_among cells (live_keys xs) ≡ true
unfolding all_among
found_among [] xs [] all = refl
found_among [] xs (n ∷ ns) all = absurd all
found_among (d ∷ ds) xs [] all = absurd all
found_among (d ∷ ds) xs (n ∷ ns) all =
    ap (λ b. cond b (all_among ds (live_keys xs)) false) (ap (λ x. is_among x (live_keys xs)) (sym all.0.1)
    ∙ used_among xs n all.0.0 all.0.2) ∙ found_among ds xs ns all.1

pub at_turned : (xs : List Numbered) (n m : ℕ) (x : Numbered) → (m ≡ n → ⊥) → slice_get xs m ≡ Some x
    → slice_get (turned false xs n) m ≡ Some x
at_turned [] n m x other h = h
at_turned (y ∷ xs) zero zero x other h = absurd (other refl)
at_turned (y ∷ xs) zero (suc m) x other h = h
at_turned (y ∷ xs) (suc n) zero x other h = h
at_turned (y ∷ xs) (suc n) (suc m) x other h = at_turned xs n m x (λ e. other (ap suc e)) h

finds_turned : (ds : List Datum) (xs : List Numbered) (ns : List ℕ) (n : ℕ) (k : Key) → FindsAll ds xs ns
    → is_among (datum_of_key k) ds ≡ false → IsAt xs n k true → FindsAll ds (turned false xs n) ns
unfolding is_among
finds_turned [] xs [] n k all other at = tt
finds_turned [] xs (m ∷ ms) n k all other at = absurd all
finds_turned (d ∷ ds) xs [] n k all other at = absurd all
finds_turned (d ∷ ds) xs (m ∷ ms) n k all other at =
    let parts = neither (same_key (datum_of_key k) d) (is_among (datum_of_key k) ds) other in
    let differ : m ≡ n → ⊥ = λ e.
    let P : ℕ → Type 0 = λ j. slice_get xs j ≡ Some (numbered all.0.0 true) in
    let same : k ≡ all.0.0 =
    ap (λ x. x.key) (some_same (numbered k true) (numbered all.0.0 true) (sym at ∙ subst P e all.0.2)) in
    true≢false
    (sym (ap (λ x. same_key (datum_of_key k) x) (sym all.0.1)
    ∙ ap (λ y. same_key (datum_of_key k) (datum_of_key y)) (sym same) ∙ same_refl k) ∙ parts.0) in (
      (all.0.0, all.0.1, at_turned xs n m (numbered all.0.0 true) differ all.0.2),
      finds_turned ds xs ms n k all.1 parts.1 at,
    )

pub found_can : (t : Table) (rows : List (List Datum)) (cells : List Datum) (xs : List Numbered) (ns : List ℕ)
    → AreKeyed t rows xs → FindsAll cells xs ns → has_repeated cells ≡ false → CanRetract ns (joined rows xs)
unfolding CanRetract has_repeated
found_can t rows [] xs [] keyed all single = tt
found_can t rows [] xs (n ∷ ns) keyed all single = absurd all
found_can t rows (d ∷ ds) xs [] keyed all single = absurd all
found_can t rows (d ∷ ds) xs (n ∷ ns) keyed all single =
    let parts = neither (is_among d ds) (has_repeated ds) single in
    let other : is_among (datum_of_key all.0.0) ds ≡ false = ap (λ x. is_among x ds) all.0.1 ∙ parts.0 in
    let P : List Slot → Type 0 = λ ss. CanRetract ns ss in (
      (joined_at t rows xs n all.0.0 true keyed all.0.2).0,
      subst P (joined_turned rows xs false n)
          (found_can t rows ds (turned false xs n) ns (keyed_turned t rows xs false n keyed)
          (finds_turned ds xs ns n all.0.0 all.1 other all.0.2) parts.1),
    )

pub found_keys : (t : Table) (rows : List (List Datum)) (cells : List Datum) (xs : List Numbered) (ns : List ℕ)
    → AreKeyed t rows xs → FindsAll cells xs ns → keys_at t ns (joined rows xs) ≡ cells
found_keys t rows [] xs [] keyed all = refl
found_keys t rows [] xs (n ∷ ns) keyed all = absurd all
found_keys t rows (d ∷ ds) xs [] keyed all = absurd all
found_keys t rows (d ∷ ds) xs (n ∷ ns) keyed all =
    ap (λ k. k ∷ keys_at t ns (joined rows xs)) ((joined_at t rows xs n all.0.0 true keyed all.0.2).1 ∙ all.0.1)
    ∙ ap (λ ks. d ∷ ks) (found_keys t rows ds xs ns keyed all.1)

none_among : (cells : List Datum) → any_among cells [] ≡ false
unfolding any_among is_among
none_among [] = refl
none_among (d ∷ ds) = none_among ds

-- Keys of different live rows are distinct.

found_named : (cells : List Datum) (xs : List Numbered) (ns : List ℕ) → FindsAll cells xs ns
    → (ks : List Key) × (map datum_of_key ks ≡ cells)
found_named [] xs [] all = ([], refl)
found_named [] xs (n ∷ ns) all = absurd all
found_named (d ∷ ds) xs [] all = absurd all
found_named (d ∷ ds) xs (n ∷ ns) all =
    let rest = found_named ds xs ns all.1 in
    (all.0.0 ∷ rest.0, ap (λ c. c ∷ map datum_of_key rest.0) all.0.1 ∙ ap (λ cs. d ∷ cs) rest.1)

found_given : (cells : List Datum) (xs : List Numbered) (ns : List ℕ) → FindsAll cells xs ns → AreGiven xs
    → has_null cells ≡ false
unfolding has_null
found_given [] xs [] all given = refl
found_given [] xs (n ∷ ns) all given = absurd all
found_given (d ∷ ds) xs [] all given = absurd all
found_given (d ∷ ds) xs (n ∷ ns) all given =
    or_none (is_null d) (has_null ds) (ap is_null (sym all.0.1) ∙ given n all.0.0 all.0.2)
    (found_given ds xs ns all.1 given)

-- A key of a row that isn't among these isn't one of theirs.
other_found :
    (ds : List Datum) (xs : List Numbered) (ns : List ℕ) (n : ℕ) (k : Key) → FindsAll ds xs ns → AreDistinct xs
    → IsAt xs n k true → AllByRecursion (λ m. eq_by_cmp nat_cmp n m ≡ false) ns
    → is_among (datum_of_key k) ds ≡ false
unfolding is_among
other_found [] xs [] n k all distinct at other = refl
other_found [] xs (m ∷ ms) n k all distinct at other = absurd all
other_found (d ∷ ds) xs [] n k all distinct at other = absurd all
other_found (d ∷ ds) xs (m ∷ ms) n k all distinct at other =
    or_none (same_key (datum_of_key k) d) (is_among (datum_of_key k) ds)
    (by (same_key (datum_of_key k) d) refl) (other_found ds xs ms n k all.1 distinct at other.1)
  where
    by : (b : Bool) → same_key (datum_of_key k) d ≡ b → b ≡ false
    by false e = refl
    by true e =
        let same : k ≡ all.0.0 = same_exact k all.0.0 (ap (λ x. same_key (datum_of_key k) x) all.0.1 ∙ e) in
        let P : Key → Type 0 = λ j. IsAt xs m j true in
        let here : n ≡ m = distinct n m k at (subst P (sym same) all.0.2) in
        let Q : ℕ → Type 0 = λ j. eq_by_cmp nat_cmp n j ≡ false in
        absurd (true≢false (sym (ap is_eq (tied_itself nat_cmp_total n)) ∙ subst Q (sym here) other.0))

found_single : (cells : List Datum) (xs : List Numbered) (ns : List ℕ) → FindsAll cells xs ns → AreDistinct xs
    → IsDistinct (eq_by_cmp nat_cmp) ns → has_repeated cells ≡ false
unfolding has_repeated IsDistinct
found_single [] xs [] all distinct apart = refl
found_single [] xs (n ∷ ns) all distinct apart = absurd all
found_single (d ∷ ds) xs [] all distinct apart = absurd all
found_single (d ∷ ds) xs (n ∷ ns) all distinct apart =
    or_none (is_among d ds) (has_repeated ds)
    (ap (λ x. is_among x ds) (sym all.0.1) ∙ other_found ds xs ns n all.0.0 all.1 distinct all.0.2 apart.0)
    (found_single ds xs ns all.1 distinct apart.1)

pub stands_found : (cells : List Datum) (xs : List Numbered) (ns : List ℕ) → FindsAll cells xs ns → AreGiven xs
    → AreDistinct xs → IsDistinct (eq_by_cmp nat_cmp) ns → StandAlone cells
stands_found cells xs ns all given distinct apart =
    let named = found_named cells xs ns all in (
      map fresh named.0,
      record {
        keys = named.0;
        are = named.1;
        given = found_given cells xs ns all given;
        single = found_single cells xs ns all distinct apart;
        unused = none_among cells;
        pushed = refl;
      },
    )

-- the causes

-- where no rows are live, a key can only be refused because it is there twice
pub twice_named : (cells : List Datum) → (has_repeated cells || any_among cells []) ≡ true → has_repeated cells ≡ true
twice_named cells h = elim (either (has_repeated cells) (any_among cells []) h) [
  | inl e ↦ e
  | inr e ↦ absurd (true≢false (sym e ∙ none_among cells))
]

pub found_fits :
    (t : Table) (stored : List (List Datum)) (xs seen : List Numbered) (cells : List Datum)
    (ns : List ℕ) → IsStored t stored xs
    → PushesKeys cells [] seen → FindsAll cells xs ns
    → cause_of t (contents_of (joined stored xs)) (retract cells) ≡ None
unfolding cause_of
found_fits t stored xs seen cells ns is p all =
    let among : all_among cells (keys_in t (live (joined stored xs))) ≡ true =
    ap (λ ks. all_among cells ks) (sym (live_keys_are t stored xs is)) ∙ found_among cells xs ns all in
    rw (p.given, p.single, among) refl

pub keys_unknown :
    (t : Table) (stored : List (List Datum)) (xs seen : List Numbered) (cells : List Datum)
    (e : EditFault) → IsStored t stored xs
    → PushesKeys cells [] seen → MissesKey cells xs e
    → Refuses (cause_of t (contents_of (joined stored xs)) (retract cells)) e
unfolding cause_of
keys_unknown t stored xs seen cells (fault.Unfit unfit.UnknownKey) is p h =
    let among : all_among cells (keys_in t (live (joined stored xs))) ≡ false =
    ap (λ ks. all_among cells ks) (sym (live_keys_are t stored xs is)) ∙ h in
    rw (p.given, p.single, among) refl
keys_unknown t stored xs seen cells fault.Memory is p h = tt
keys_unknown t stored xs seen cells (fault.Unfit u) is p h = absurd h

pub keys_refused : (t : Table) (w : Contents) (cells : List Datum) (e : EditFault) → RefusesKeys cells [] e
    → Refuses (cause_of t w (retract cells)) e
unfolding cause_of
keys_refused t w cells (fault.Unfit unfit.NullKey) h = rw h refl
keys_refused t w cells (fault.Unfit unfit.DuplicateKey) h =
    let twice : has_repeated cells ≡ true = twice_named cells h.1 in
    rw (h.0, twice) refl
keys_refused t w cells fault.Memory h = tt
keys_refused t w cells (fault.Unfit u) h = absurd h
