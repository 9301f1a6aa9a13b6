-- What a store stores, call by call.
use Rattle.std.proofs.Common.{◌≡◌, inl, inr, ℕ, zero, suc, ◌+◌, ◌-◌, ◌<◌, ◌≤◌, Bool, true, false, List, [], ◌∷◌, None, Some, All, drop, length, take, get_or, refl, ap, sym, subst, ◌∙◌, arith, true≢false}
use Rattle.std.specs.Prelude.{Option, MatchOption, if◌then◌else◌, slice_set}
use Rattle.std.proofs.lemmas.List.{drop_all, drop_more}
use Rattle.std.proofs.lemmas.List.Elements.{All-cons, All-get_or, All-head, All-tail, All-take}
use Rattle.values.specs.Datum.{Datum, items_of}
use Rattle.values.specs.Keys.{datum_of_key}
use Rattle.values.specs.Layouts.{HoldsEach}
use Rattle.values.specs.Rose.{Roses, more, none}
use Rattle.values.specs.declared.layout.Layout.{Layout}
use Rattle.values.specs.declared.key.Key.{Key}
use Rattle.view_lang.specs.Config.{Table}
use Rattle.view_lang.specs.Contents.{applied, is_among}
use Rattle.view_lang.specs.Edits.{retract}
use Rattle.view_lang.specs.Rows.{IsRow}
use Rattle.row_keys.specs.Batches.{AreAlike}
use Rattle.row_keys.specs.Numbers.{
  AreDistinct,
  AreLive,
  CanRevive,
  IsAt,
  IsUnused,
  Numbered,
  live_count,
  no_row,
  numbered,
  revived,
  turned_off,
}
use Rattle.row_keys.specs.Slots.{
  AllOut,
  CanPutBack,
  CanRetract,
  CanRevert,
  HasKey,
  IsOut,
  Slot,
  contents_of,
  emptied,
  keys_at,
  live,
  no_slot,
  put_back,
  released,
  retracted,
  reverted,
  row_of,
  slot,
}
use Rattle.row_keys.specs.Store.{IsAbsent, IsFound, Store, with_slots}
use Rattle.row_keys.specs.Stored.{AreKeyed, IsRight, IsStored, joined}
use Rattle.row_keys.proofs.Emptied.{out_emptied}
use Rattle.row_keys.proofs.JoinedNumbers.{
  joined_at,
  joined_taken,
  keyed_length,
  keyed_taken,
  keys_live,
  live_counted,
  unused_among,
}
use Rattle.row_keys.proofs.Places.{at_taken, some_same}
use Rattle.row_keys.proofs.RowsPutBack.{can_retract_again, retracted_again}
use Rattle.row_keys.proofs.RetractedRows.{can_put_back, put_back_undoes, world_retracted}
use Rattle.row_keys.proofs.TurnedRows.{
  can_revive,
  fewer_off,
  given_off,
  given_on,
  joined_off,
  joined_revived,
  keyed_off,
  keyed_revived,
  proper_joined,
}

abbrev store_of : Table → List (List Datum) → List Numbered → ℕ → Store
store_of t stored xs v = record { table = t; slots = joined stored xs; visits = v }

pub found_in :
    (t : Table) (stored : List (List Datum)) (xs : List Numbered) (v : ℕ) (k : Key) (r : Option ℕ)
    → IsStored t stored xs
    → MatchOption r (IsUnused xs k) (λ n. IsAt xs n k true)
    → MatchOption r (IsAbsent (store_of t stored xs v) k) (IsFound (store_of t stored xs v) k)
found_in t stored xs v k None is unused =
    ap (λ ks. is_among (datum_of_key k) ks) (keys_live t stored xs is.keyed) ∙ unused_among xs k unused
found_in t stored xs v k (Some n) is at = joined_at t stored xs n k true is.keyed at

pub stored_off : (t : Table) (stored : List (List Datum)) (xs : List Numbered) (ns : List ℕ)
    → IsStored t stored xs
    → AreLive ns xs → IsStored t stored (turned_off ns xs)
stored_off t stored xs ns is are = record {
  table = is.table;
  right = is.right;
  given = given_off ns xs is.given;
  keyed = keyed_off t stored ns xs is.keyed;
  few = let few = fewer_off ns xs are in omega (arith, few, is.few);
}

pub off_world :
    (t : Table) (stored : List (List Datum)) (xs ys : List Numbered) (ns : List ℕ) → IsStored t stored xs
    → AreDistinct xs
    → CanRetract ns (joined stored xs) → ys ≡ turned_off ns xs
    → contents_of (joined stored ys) ≡ applied t (retract (keys_at t ns (joined stored xs)))
    (contents_of (joined stored xs))
off_world t stored xs ys ns is distinct can same =
    ap (λ zs. contents_of (joined stored zs)) same ∙ ap contents_of (joined_off stored ns xs)
    ∙ world_retracted t ns (joined stored xs) can (proper_joined t stored xs is.keyed distinct is.given)

pub off_can :
    (t : Table) (stored : List (List Datum)) (xs ys : List Numbered) (ns : List ℕ) → IsStored t stored xs
    → AreDistinct xs
    → CanRetract ns (joined stored xs) → ys ≡ turned_off ns xs → CanPutBack t ns (joined stored ys)
off_can t stored xs ys ns is distinct can same =
    let slots : joined stored ys ≡ retracted ns (joined stored xs) =
    ap (λ zs. joined stored zs) same ∙ joined_off stored ns xs in
    let counted = live_counted t stored xs is.keyed in
    let P : List Slot → Type 0 = λ ss. CanPutBack t ns ss in
    subst P (sym slots)
    (can_put_back t ns (joined stored xs) can (proper_joined t stored xs is.keyed distinct is.given)
    (omega (arith, counted, is.few)))

pub off_back :
    (stored : List (List Datum)) (xs ys : List Numbered) (ns : List ℕ)
    → CanRetract ns (joined stored xs)
    → ys ≡ turned_off ns xs
    → put_back ns (joined stored ys) ≡ joined stored xs
off_back stored xs ys ns can same =
    ap (λ zs. put_back ns (joined stored zs)) same
    ∙ ap (λ ss. put_back ns ss) (joined_off stored ns xs)
    ∙ put_back_undoes ns (joined stored xs) can

pub revive_can :
    (t : Table) (stored : List (List Datum)) (xs : List Numbered) (ns : List ℕ) → IsStored t stored xs
    → CanPutBack t ns (joined stored xs) → CanRevive ns xs
unfolding CanPutBack
revive_can t stored xs ns is can = can_revive t stored ns xs is.keyed can.0

pub stored_revived :
    (t : Table) (stored : List (List Datum)) (xs : List Numbered) (ns : List ℕ) → IsStored t stored xs
    → CanPutBack t ns (joined stored xs) → IsStored t stored (revived ns xs)
unfolding CanPutBack
stored_revived t stored xs ns is can =
    let keyed : AreKeyed t stored (revived ns xs) = keyed_revived t stored ns xs is.keyed in
    let same :
    length (live (joined stored (revived ns xs))) ≡ length
    (live (put_back ns (joined stored xs))) =
    ap (λ ss. length (live ss)) (joined_revived stored ns xs) in
    let counted : length (live (joined stored (revived ns xs))) ≡ live_count (revived ns xs) =
    live_counted t stored (revived ns xs) keyed in
    record {
      table = is.table;
      right = is.right;
      given = given_on t stored ns xs is.keyed is.given can.0;
      keyed = keyed;
      few = omega (arith, same, counted, can.1);
    }

pub revived_can :
    (t : Table) (stored : List (List Datum)) (xs ys : List Numbered) (ns : List ℕ)
    → CanPutBack t ns (joined stored xs) → ys ≡ revived ns xs → CanRetract ns (joined stored ys)
unfolding CanPutBack
revived_can t stored xs ys ns can same =
    let slots : joined stored ys ≡ put_back ns (joined stored xs) =
    ap (λ zs. joined stored zs) same ∙ joined_revived stored ns xs in
    let P : List Slot → Type 0 = λ ss. CanRetract ns ss in
    subst P (sym slots) (can_retract_again t ns (joined stored xs) can.0)

pub revived_back :
    (t : Table) (stored : List (List Datum)) (xs ys : List Numbered) (ns : List ℕ)
    → CanPutBack t ns (joined stored xs) → ys ≡ revived ns xs
    → retracted ns (joined stored ys) ≡ joined stored xs
unfolding CanPutBack
revived_back t stored xs ys ns can same =
    ap (λ zs. retracted ns (joined stored zs)) same
    ∙ ap (λ ss. retracted ns ss) (joined_revived stored ns xs)
    ∙ retracted_again t ns (joined stored xs) can.0

count_taken : (k : ℕ) (xs : List Numbered) → live_count (take k xs) ≤ live_count xs
count_taken zero [] = omega arith
count_taken zero (x ∷ xs) = omega arith
count_taken (suc k) [] = omega arith
count_taken (suc k) (x ∷ xs) = by x.live (count_taken k xs)
  where
    by : (b : Bool) → live_count (take k xs) ≤ live_count xs
        → (if b then suc (live_count (take k xs)) else live_count (take k xs)) ≤ (if b then suc (live_count xs)
        else live_count xs)
    by true h = omega (arith, h)
    by false h = h

pub stored_taken : (t : Table) (stored : List (List Datum)) (xs : List Numbered) (k : ℕ) → IsStored t stored xs
    → IsStored t (take k stored) (take k xs)
stored_taken t stored xs k is = record {
  table = is.table;
  right = All-take (IsRight t) k stored is.right;
  given = λ n key at. is.given n key (at_taken xs k n (numbered key true) at).1;
  keyed = keyed_taken t k stored xs is.keyed;
  few = let few = count_taken k xs in omega (arith, few, is.few);
}

pub taken_slots :
    (t : Table) (stored : List (List Datum)) (xs : List Numbered) (n : ℕ) → IsStored t stored xs
    → joined (take (length xs - n) stored) (take (length xs - n) xs) ≡ reverted n (joined stored xs)
unfolding reverted
taken_slots t stored xs n is =
    joined_taken (length xs - n) stored xs
    ∙ ap (λ m. take (m - n) (joined stored xs)) (sym (keyed_length t stored xs is.keyed).1)

pub can_take :
    (t : Table) (stored : List (List Datum)) (xs : List Numbered) (n : ℕ) → IsStored t stored xs
    → CanRevert n (joined stored xs) → n ≤ length xs
unfolding CanRevert
can_take t stored xs n is can = let many = (keyed_length t stored xs is.keyed).1 in omega (arith, many, can)

-- a row that is opened

pub number_within :
    (t : Table) (stored : List (List Datum)) (xs : List Numbered) (n : ℕ) → IsStored t stored xs
    → n < length (joined stored xs)
    → (n < length stored) × (n < length xs)
number_within t stored xs n is below =
    let all = keyed_length t stored xs is.keyed in
    (omega (arith, all.0, all.1, below), omega (arith, all.1, below))

row_joined : (rows : List (List Datum)) (xs : List Numbered) (n : ℕ) (d : List Datum) → length rows ≡ length xs
    → n < length rows → row_of (joined rows xs) n ≡ get_or rows n d
row_joined [] xs n d same below = absurd (omega (arith, below))
row_joined (r ∷ rs) [] n d same below = absurd (omega (arith, same))
row_joined (r ∷ rs) (x ∷ xs) zero d same below = refl
row_joined (r ∷ rs) (x ∷ xs) (suc n) d same below = row_joined rs xs n d (omega (arith, same)) (omega (arith, below))

no_key : (t : Table) → HasKey t [] → ⊥
no_key t key = true≢false key

-- a row with a key isn't released
pub keyed_row : (t : Table) (row : List Datum) → IsRight t row → HasKey t row → IsRow t.columns row
keyed_row t row (inl gone) key = absurd (no_key t (subst (HasKey t) gone key))
keyed_row t row (inr is) key = is

-- a row where it lies
pub row_lies :
    (t : Table) (stored : List (List Datum)) (xs : List Numbered) (n : ℕ) (row : List Datum) → IsStored t stored xs
    → n < length (joined stored xs) → row ≡ get_or stored n []
    → (row ≡ row_of (joined stored xs) n) × (HasKey t row → IsRow t.columns row)
row_lies t stored xs n row is below read =
    let within = (number_within t stored xs n is below).0 in
    let all = keyed_length t stored xs is.keyed in
    let P : List Datum → Type 0 = λ r. IsRight t r in (
      read ∙ sym (row_joined stored xs n [] all.0 within),
      keyed_row t row (subst P (sym read) (All-get_or (IsRight t) stored n [] within is.right)),
    )

pub held_alike : (ts us : Roses Layout) (ds : List Datum) → AreAlike ts us → HoldsEach us (items_of ds)
    → HoldsEach ts (items_of ds)
held_alike none none [] alike held = held
held_alike none none (d ∷ ds) alike held = held
held_alike none (more u us) ds alike held = absurd alike
held_alike (more t ts) none ds alike held = absurd alike
held_alike (more t ts) (more u us) [] alike held = held
held_alike (more t ts) (more u us) (d ∷ ds) alike held = (alike.0.holds d held.0, held_alike ts us ds alike.1 held.1)

pub live_joined : (rows : List (List Datum)) (xs : List Numbered) (n : ℕ) → n < length (joined rows xs)
    → (get_or (joined rows xs) n no_slot).live ≡ (get_or xs n no_row).live
live_joined [] xs n below = absurd (omega (arith, below))
live_joined (r ∷ rs) [] n below = absurd (omega (arith, below))
live_joined (r ∷ rs) (x ∷ xs) zero below = refl
live_joined (r ∷ rs) (x ∷ xs) (suc n) below = live_joined rs xs n (omega (arith, below))

-- A row that isn't live is released.

right_gone : (t : Table) (rows : List (List Datum)) (n : ℕ) → All (IsRight t) rows
    → All (IsRight t) (slice_set rows n [])
right_gone t [] n right = right
right_gone t (r ∷ rs) zero right =
    All-cons (IsRight t) [] rs (inl refl) (All-tail (IsRight t) r rs right)
right_gone t (r ∷ rs) (suc n) right =
    All-cons (IsRight t) r (slice_set rs n []) (All-head (IsRight t) r rs right)
    (right_gone t rs n (All-tail (IsRight t) r rs right))

given_gone : (xs : List Numbered) (n m : ℕ) (k : Key) → IsAt (slice_set xs n no_row) m k true → IsAt xs m k true
given_gone [] n m k at = at
given_gone (x ∷ xs) zero zero k at =
    absurd (true≢false (sym (ap (λ y. y.live) (some_same no_row (numbered k true) at))))
given_gone (x ∷ xs) zero (suc m) k at = at
given_gone (x ∷ xs) (suc n) zero k at = at
given_gone (x ∷ xs) (suc n) (suc m) k at = given_gone xs n m k at

keyed_gone : (t : Table) (rows : List (List Datum)) (xs : List Numbered) (n : ℕ) → AreKeyed t rows xs
    → AreKeyed t (slice_set rows n []) (slice_set xs n no_row)
keyed_gone t [] [] n keyed = tt
keyed_gone t [] (x ∷ xs) n keyed = absurd keyed
keyed_gone t (r ∷ rs) [] n keyed = absurd keyed
keyed_gone t (r ∷ rs) (x ∷ xs) zero keyed = (refl, keyed.1)
keyed_gone t (r ∷ rs) (x ∷ xs) (suc n) keyed = (keyed.0, keyed_gone t rs xs n keyed.1)

pub count_gone : (xs : List Numbered) (n : ℕ) → (get_or xs n no_row).live ≡ false
    → live_count (slice_set xs n no_row) ≡ live_count xs
count_gone [] n off = refl
count_gone (x ∷ xs) zero off = sym (ap (λ b. if b then suc (live_count xs) else live_count xs) off)
count_gone (x ∷ xs) (suc n) off = ap (λ m. if x.live then suc m else m) (count_gone xs n off)

pub joined_gone : (rows : List (List Datum)) (xs : List Numbered) (n : ℕ)
    → joined (slice_set rows n []) (slice_set xs n no_row) ≡ emptied (joined rows xs) n
joined_gone [] xs n = refl
joined_gone (r ∷ rs) [] zero = refl
joined_gone (r ∷ rs) [] (suc n) = refl
joined_gone (r ∷ rs) (x ∷ xs) zero = refl
joined_gone (r ∷ rs) (x ∷ xs) (suc n) = ap (λ ss. slot r x.live ∷ ss) (joined_gone rs xs n)

pub stored_gone : (t : Table) (stored : List (List Datum)) (xs : List Numbered) (n : ℕ) → IsStored t stored xs
    → (get_or xs n no_row).live ≡ false → IsStored t (slice_set stored n []) (slice_set xs n no_row)
stored_gone t stored xs n is off = record {
  table = is.table;
  right = right_gone t stored n is.right;
  given = λ m k at. is.given m k (given_gone xs n m k at);
  keyed = keyed_gone t stored xs n is.keyed;
  few = let same = count_gone xs n off in omega (arith, same, is.few);
}

-- Several are, one after the other.

-- what remains to be released
pub record IsLeft (old : Store) (ns : List ℕ) (i : ℕ) (now : Store) : Type 0 where
  pub same : now ≡ with_slots old now.slots
  pub out : AllOut (drop i ns) now.slots
  pub ends : released (drop i ns) now.slots ≡ released ns old.slots

pub out_next : (old now : Store) (ns : List ℕ) (i : ℕ) → IsLeft old ns i now → i < length ns
    → IsOut now.slots (get_or ns i 0)
out_next old now ns i left below =
    let P : List ℕ → Type 0 = λ ms. AllOut ms now.slots in
    let out : IsOut now.slots (get_or ns i 0) × AllOut (drop (i + 1) ns) now.slots =
    subst P (drop_more ns i 0 below) left.out in
    out.0

pub left_next : (old now new : Store) (ns : List ℕ) (i : ℕ) → IsLeft old ns i now → i < length ns
    → new ≡ with_slots now (emptied now.slots (get_or ns i 0)) → IsLeft old ns (i + 1) new
left_next old now new ns i left below step =
    let next : drop i ns ≡ get_or ns i 0 ∷ drop (i + 1) ns = drop_more ns i 0 below in
    let slots : new.slots ≡ emptied now.slots (get_or ns i 0) = ap (λ (s : Store). s.slots) step in
    let P : List ℕ → Type 0 = λ ms. AllOut ms now.slots in
    let Q : List Slot → Type 0 = λ ss. AllOut (drop (i + 1) ns) ss in
    let out : IsOut now.slots (get_or ns i 0) × AllOut (drop (i + 1) ns) now.slots = subst P next left.out in
    record {
      same =
          step ∙ ap (λ ss. with_slots now ss) (sym slots)
          ∙ ap (λ (s : Store). with_slots s new.slots) left.same;
      out = subst Q (sym slots) (out_emptied (drop (i + 1) ns) now.slots (get_or ns i 0) out.1);
      ends =
          ap (λ ss. released (drop (i + 1) ns) ss) slots ∙ ap (λ ms. released ms now.slots) (sym next) ∙ left.ends;
    }

pub left_first : (old : Store) (ns : List ℕ) → AllOut ns old.slots → IsLeft old ns 0 old
left_first old ns out =
    let whole : drop 0 ns ≡ ns = drop_none ns in
    record {
      same = refl;
      out = let P : List ℕ → Type 0 = λ ms. AllOut ms old.slots in subst P (sym whole) out;
      ends = ap (λ ms. released ms old.slots) whole;
    }
  where
    drop_none : (xs : List ℕ) → drop 0 xs ≡ xs
    drop_none [] = refl
    drop_none (x ∷ xs) = refl

pub left_none : (old now : Store) (ns : List ℕ) (i : ℕ) → IsLeft old ns i now → length ns ≤ i
    → now ≡ with_slots old (released ns old.slots)
left_none old now ns i left end =
    let ends : released (drop i ns) now.slots ≡ now.slots = ap (λ ms. released ms now.slots) (drop_all i ns end) in
    left.same ∙ ap (λ ss. with_slots old ss) (sym ends ∙ left.ends)
