-- Rows that replace those with their keys.
use Rattle.std.proofs.Common.{◌≡◌, ℕ, suc, ◌+◌, ◌<◌, ◌||◌, Bool, true, false, not, cond, List, [], ◌∷◌, ◌++◌, filter, length, take, get_or, refl, ap, sym, subst, ◌∙◌, arith, append-nil, true≢false}
use Rattle.std.proofs.Math.Seq.{take-suc}
use Rattle.std.proofs.lemmas.List.Elements.{filter-append}
use Rattle.values.specs.Datum.{Datum, null}
use Rattle.values.specs.Keys.{datum_of_key}
use Rattle.values.specs.declared.key.Key.{Key}
use Rattle.view_lang.specs.Causes.{cause_of, has_repeated}
use Rattle.view_lang.specs.Config.{Table}
use Rattle.view_lang.specs.Contents.{Contents, applied, is_among, key_in, keys_in, same_key, without}
use Rattle.view_lang.specs.Edits.{append, put, retract}
use Rattle.view_lang.specs.declared.unfit.Unfit.TheVariants as unfit
use Rattle.row_keys.specs.declared.faults.EditFault.{EditFault}
use Rattle.row_keys.specs.declared.faults.EditFault.TheVariants as fault
use Rattle.row_keys.specs.Found.{FindsAll, known_keys}
use Rattle.row_keys.specs.KeyColumns.{RefusesKeys}
use Rattle.row_keys.specs.Numbers.{IsAt, IsUnused, Numbered}
use Rattle.row_keys.specs.Slots.{CanRetract, contents_of, keys_at, live, retracted}
use Rattle.row_keys.specs.Store.{Refuses, Store, with_slots}
use Rattle.row_keys.specs.Stored.{IsStored, joined, live_keys}
use Rattle.row_keys.proofs.AppendedBatches.{live_keys_are}
use Rattle.row_keys.proofs.FoundRows.{finds_pushed, found_can, found_keys, twice_named}
use Rattle.row_keys.proofs.JoinedNumbers.{unused_among, used_among}
use Rattle.row_keys.proofs.KeyFacts.{neither, or_left, or_none, or_right, same_sym}

-- one key after another

known_more : (cells : List Datum) (i : ℕ) (xs : List Numbered) → i < length cells
    → known_keys (take (i + 1) cells) xs
    ≡ known_keys (take i cells) xs ++ cond (is_among (get_or cells i null) (live_keys xs)) (get_or cells i null ∷ []) []
known_more cells i xs below =
    let e : i + 1 ≡ suc i = omega arith in
    ap (λ m. known_keys (take m cells) xs) e ∙ ap (λ ds. known_keys ds xs) (take-suc cells i null below)
    ∙ filter-append (λ d. is_among d (live_keys xs)) (take i cells) (get_or cells i null ∷ [])

pub known_found :
    (cells : List Datum) (i n : ℕ) (xs : List Numbered) (found : List ℕ) (k : Key) → i < length cells
    → FindsAll (known_keys (take i cells) xs) xs found → datum_of_key k ≡ get_or cells i null → IsAt xs n k true
    → FindsAll (known_keys (take (i + 1) cells) xs) xs (found ++ n ∷ [])
known_found cells i n xs found k below all is at =
    let among : is_among (get_or cells i null) (live_keys xs) ≡ true =
    ap (λ d. is_among d (live_keys xs)) (sym is) ∙ used_among xs n k at in
    let P : List Datum → Type 0 = λ ds. FindsAll ds xs (found ++ n ∷ []) in
    subst P
    (sym (known_more cells i xs below
    ∙ ap (λ b. known_keys (take i cells) xs ++ cond b (get_or cells i null ∷ []) []) among))
    (finds_pushed xs n (known_keys (take i cells) xs) found (get_or cells i null) all (k, is, at))

pub known_passed :
    (cells : List Datum) (i : ℕ) (xs : List Numbered) (found : List ℕ) (k : Key) → i < length cells
    → FindsAll (known_keys (take i cells) xs) xs found → datum_of_key k ≡ get_or cells i null → IsUnused xs k
    → FindsAll (known_keys (take (i + 1) cells) xs) xs found
known_passed cells i xs found k below all is unused =
    let among : is_among (get_or cells i null) (live_keys xs) ≡ false =
    ap (λ d. is_among d (live_keys xs)) (sym is) ∙ unused_among xs k unused in
    let P : List Datum → Type 0 = λ ds. FindsAll ds xs found in
    subst P
    (sym (known_more cells i xs below
    ∙ ap (λ b. known_keys (take i cells) xs ++ cond b (get_or cells i null ∷ []) []) among
    ∙ append-nil (known_keys (take i cells) xs)))
    all

-- some of the keys

pub among_some : (p : Datum → Bool) (d : Datum) (ks : List Datum) → is_among d ks ≡ false → is_among d (filter p ks) ≡ false
unfolding is_among
among_some p d [] h = refl
among_some p d (k ∷ ks) h =
    let a = neither (same_key d k) (is_among d ks) h in by (p k) a.0 (among_some p d ks a.1)
  where
    by : (b : Bool) → same_key d k ≡ false → is_among d (filter p ks) ≡ false
        → is_among d (cond b (k ∷ filter p ks) (filter p ks)) ≡ false
    by true e rest = or_none (same_key d k) (is_among d (filter p ks)) e rest
    by false e rest = rest

repeated_some : (p : Datum → Bool) (ks : List Datum) → has_repeated ks ≡ false → has_repeated (filter p ks) ≡ false
unfolding has_repeated
repeated_some p [] h = refl
repeated_some p (k ∷ ks) h =
    let a = neither (is_among k ks) (has_repeated ks) h in by (p k) (among_some p k ks a.0) (repeated_some p ks a.1)
  where
    by : (b : Bool) → is_among k (filter p ks) ≡ false → has_repeated (filter p ks) ≡ false
        → has_repeated (cond b (k ∷ filter p ks) (filter p ks)) ≡ false
    by true e rest = or_none (is_among k (filter p ks)) (has_repeated (filter p ks)) e rest
    by false e rest = rest

or_same : (c x y : Bool) → (c ≡ true → false ≡ true) → x ≡ y → x ≡ (c || y)
or_same true x y never same = absurd (true≢false (sym (never refl)))
or_same false x y never same = same

-- a key is among the remaining ones where all that are equal to it remain
among_left :
    (p : Datum → Bool) (d : Datum) (ks : List Datum) → ((k : Datum) → same_key d k ≡ true → p k ≡ true)
    → is_among d (filter p ks) ≡ is_among d ks
unfolding is_among
among_left p d [] stay = refl
among_left p d (k ∷ ks) stay = by (p k) (stay k) (among_left p d ks stay)
  where
    by : (b : Bool) → (same_key d k ≡ true → b ≡ true) → is_among d (filter p ks) ≡ is_among d ks
        → is_among d (cond b (k ∷ filter p ks) (filter p ks)) ≡ (same_key d k || is_among d ks)
    by true here h = ap (λ x. same_key d k || x) h
    by false here h = or_same (same_key d k) (is_among d (filter p ks)) (is_among d ks) here h

without_some :
    (t : Table) (p : Datum → Bool) (ks : List Datum) (rs : List (List Datum))
    → ((k : Datum) → is_among k (keys_in t rs) ≡ true → p k ≡ true) → without t (filter p ks) rs ≡ without t ks rs
unfolding without is_among
without_some t p ks [] stay = refl
without_some t p ks (r ∷ rs) stay =
    let here : is_among (key_in t r) (filter p ks) ≡ is_among (key_in t r) ks =
    among_left p (key_in t r) ks
    (λ k same. stay k (or_left (same_key k (key_in t r)) (is_among k (keys_in t rs)) (same_sym k (key_in t r) ∙ same)))
    in
    ap (λ b. cond (not b) (r ∷ without t (filter p ks) rs) (without t (filter p ks) rs)) here
    ∙ ap (λ xs. cond (not (is_among (key_in t r) ks)) (r ∷ xs) xs)
    (without_some t p ks rs (λ k among. stay k (or_right (same_key k (key_in t r)) (is_among k (keys_in t rs)) among)))

-- rows that are replaced

pub replaced_can :
    (t : Table) (stored : List (List Datum)) (xs : List Numbered) (cells : List Datum)
    (ns : List ℕ) → IsStored t stored xs → FindsAll (known_keys cells xs) xs ns → has_repeated cells ≡ false
    → CanRetract ns (joined stored xs)
replaced_can t stored xs cells ns is all single =
    found_can t stored (known_keys cells xs) xs ns is.keyed all
    (repeated_some (λ d. is_among d (live_keys xs)) cells single)

pub replaced_gone :
    (t : Table) (stored : List (List Datum)) (xs : List Numbered) (cells : List Datum)
    (ns : List ℕ) → IsStored t stored xs → FindsAll (known_keys cells xs) xs ns
    → without t (keys_at t ns (joined stored xs)) (live (joined stored xs))
    ≡ without t cells (live (joined stored xs))
replaced_gone t stored xs cells ns is all =
    let rows : List (List Datum) = live (joined stored xs) in
    ap (λ ks. without t ks rows) (found_keys t stored (known_keys cells xs) xs ns is.keyed all)
    ∙ without_some t (λ d. is_among d (live_keys xs)) cells rows
    (λ k among. ap (λ ks. is_among k ks) (live_keys_are t stored xs is) ∙ among)

pub put_refused :
    (t : Table) (c : Contents) (rows : List (List Datum)) (e : EditFault) → RefusesKeys (keys_in t rows) [] e
    → Refuses (cause_of t c (put rows)) e
unfolding cause_of
put_refused t c rows (fault.Unfit unfit.NullKey) h = rw h refl
put_refused t c rows (fault.Unfit unfit.DuplicateKey) h =
    let twice : has_repeated (keys_in t rows) ≡ true = twice_named (keys_in t rows) h.1 in
    rw (h.0, twice) refl
put_refused t c rows fault.Memory h = tt
put_refused t c rows (fault.Unfit u) h = absurd h

-- The causes for which rows that are put are refused are those for rows that are added once those with their keys are
-- removed.
pub put_refusal :
    (old mid : Store) (rows : List (List Datum)) (ns ms : List ℕ)
    → mid ≡ with_slots old (retracted ms old.slots)
    → contents_of mid.slots ≡ applied old.table (retract (keys_at old.table ms old.slots)) (contents_of old.slots)
    → ms ≡ ns
    → without old.table (keys_at old.table ns old.slots) (live old.slots)
    ≡ without old.table (keys_in old.table rows) (live old.slots)
    → cause_of old.table (contents_of old.slots) (put rows) ≡ cause_of mid.table (contents_of mid.slots) (append rows)
unfolding cause_of
put_refusal old mid rows ns ms is same named rest =
    let table : mid.table ≡ old.table = ap (λ (s : Store). s.table) is in
    sym (ap (λ u. cause_of u (contents_of mid.slots) (append rows)) table
    ∙ ap (λ c. cause_of old.table c (append rows)) same
    ∙ ap (λ ks. cause_of old.table
    (record { live = without old.table (keys_at old.table ks old.slots) (live old.slots); appended = length old.slots })
    (append rows)) named
    ∙ ap (λ xs. cause_of old.table (record { live = xs; appended = length old.slots }) (append rows)) rest)
