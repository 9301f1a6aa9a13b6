-- Rows that are added one after the other, each replacing the live row with its key.
use Rattle.std.proofs.Common.{◌≡◌, inl, inr, ℕ, zero, suc, ◌+◌, ◌<◌, ◌≤◌, Bool, true, false, List, [], ◌∷◌, ◌++◌, Some, length, take, drop, get_or, map, refl, ap, sym, subst, ◌∙◌, arith, true≢false}
use Rattle.std.specs.Prelude.{if◌then◌else◌, slice_get}
use Rattle.std.proofs.lemmas.Option.{none-some}
use Rattle.values.specs.Datum.{Datum, is_null, null}
use Rattle.values.specs.Keys.{datum_of_key}
use Rattle.values.specs.declared.key.Key.{Key}
use Rattle.view_lang.specs.Causes.{any_among, has_null, has_repeated}
use Rattle.view_lang.specs.Contents.{is_among, same_key}
use Rattle.view_lang.specs.declared.unfit.Unfit.TheVariants as unfit
use Rattle.row_keys.specs.declared.faults.EditFault.{EditFault}
use Rattle.row_keys.specs.declared.faults.EditFault.TheVariants as fault
use Rattle.row_keys.specs.Found.{FindsAll, known_keys}
use Rattle.row_keys.specs.KeyColumns.{PushesKeys, RefusesKeys, fresh}
use Rattle.row_keys.specs.Numbers.{
  AreDistinct,
  AreLive,
  CanRevive,
  IsAt,
  IsUnused,
  Numbered,
  numbered,
  revived,
  turned,
  turned_off,
}
use Rattle.row_keys.specs.PutKeys.{PutsKey, PutsKeys, RefusesPut}
use Rattle.row_keys.specs.Stored.{AreGiven, live_keys}
use Rattle.row_keys.proofs.FoundRows.{all_taken, at_turned}
use Rattle.row_keys.proofs.JoinedNumbers.{unused_among, used_among}
use Rattle.row_keys.proofs.KeyFacts.{among_joined, neither, null_joined, or_left, or_none, or_right, repeated_by, same_refl}
use Rattle.row_keys.proofs.KeysOfBatch.{both_parts, keys_more, keys_none, keys_now, split_at}
use Rattle.row_keys.proofs.Places.{some_same, take_front}
use Rattle.row_keys.proofs.ReplacedRows.{among_some, known_found, known_passed}
use Rattle.row_keys.proofs.TurnedRows.{off_before}

-- rows in front of others

turned_long : (b : Bool) (xs : List Numbered) (n : ℕ) → length (turned b xs n) ≡ length xs
turned_long b [] n = refl
turned_long b (x ∷ xs) zero = refl
turned_long b (x ∷ xs) (suc n) = ap suc (turned_long b xs n)

pub off_long : (ns : List ℕ) (xs : List Numbered) → length (turned_off ns xs) ≡ length xs
off_long [] xs = refl
off_long (n ∷ ns) xs = off_long ns (turned false xs n) ∙ turned_long false xs n

at_front : (xs ys : List Numbered) (n : ℕ) (x : Numbered) → n < length xs → slice_get (xs ++ ys) n ≡ Some x
    → slice_get xs n ≡ Some x
at_front [] ys n x below at = absurd (omega (arith, below))
at_front (a ∷ xs) ys zero x below at = at
at_front (a ∷ xs) ys (suc n) x below at = at_front xs ys n x (omega (arith, below)) at

turned_front : (xs ys : List Numbered) (n : ℕ) → n < length xs → turned false (xs ++ ys) n ≡ turned false xs n ++ ys
turned_front [] ys n below = absurd (omega (arith, below))
turned_front (x ∷ xs) ys zero below = refl
turned_front (x ∷ xs) ys (suc n) below = ap (λ zs. x ∷ zs) (turned_front xs ys n (omega (arith, below)))

-- a row after the front has one of the keys that were added
fresh_at : (ks : List Key) (n : ℕ) (k : Key) → IsAt (map fresh ks) n k true
    → is_among (datum_of_key k) (map datum_of_key ks) ≡ true
unfolding is_among
fresh_at [] n k at = absurd (none-some (numbered k true) at)
fresh_at (j ∷ ks) zero k at =
    let same : j ≡ k = ap (λ (x : Numbered). x.key) (some_same (fresh j) (numbered k true) at) in
    let P : Key → Type 0 = λ i. same_key (datum_of_key k) (datum_of_key i) ≡ true in
    or_left (same_key (datum_of_key k) (datum_of_key j)) (is_among (datum_of_key k) (map datum_of_key ks))
    (subst P (sym same) (same_refl k))
fresh_at (j ∷ ks) (suc n) k at =
    or_right (same_key (datum_of_key k) (datum_of_key j)) (is_among (datum_of_key k) (map datum_of_key ks))
    (fresh_at ks n k at)

fresh_among : (xs : List Numbered) (ks : List Key) (n : ℕ) (k : Key) → length xs ≤ n → IsAt (xs ++ map fresh ks) n k true
    → is_among (datum_of_key k) (map datum_of_key ks) ≡ true
fresh_among [] ks n k from at = fresh_at ks n k at
fresh_among (x ∷ xs) ks zero k from at = absurd (omega (arith, from))
fresh_among (x ∷ xs) ks (suc n) k from at = fresh_among xs ks n k (omega (arith, from)) at

-- rows that are retracted one after the other

off_pushed : (ns : List ℕ) (n : ℕ) (xs : List Numbered)
    → turned_off (ns ++ n ∷ []) xs ≡ turned false (turned_off ns xs) n
off_pushed [] n xs = refl
off_pushed (m ∷ ns) n xs = off_pushed ns n (turned false xs m)

live_pushed : (ns : List ℕ) (n : ℕ) (xs : List Numbered) (k : Key) → AreLive ns xs
    → IsAt (turned_off ns xs) n k true → AreLive (ns ++ n ∷ []) xs
live_pushed [] n xs k live at = ((k, at), tt)
live_pushed (m ∷ ns) n xs k live at = (live.0, live_pushed ns n (turned false xs m) k live.1 at)

off_back : (ns : List ℕ) (xs : List Numbered) (n : ℕ) (k : Key) → IsAt (turned_off ns xs) n k true → IsAt xs n k true
off_back [] xs n k at = at
off_back (m ∷ ns) xs n k at = off_before xs m n k (off_back ns (turned false xs m) n k at)

turned_not : (xs : List Numbered) (n : ℕ) (k : Key) → IsAt (turned false xs n) n k true → ⊥
turned_not [] n k at = none-some (numbered k true) at
turned_not (x ∷ xs) zero k at =
    true≢false (sym (ap (λ (y : Numbered). y.live) (some_same (numbered x.key false) (numbered k true) at)))
turned_not (x ∷ xs) (suc n) k at = turned_not xs n k at

distinct_turned : (xs : List Numbered) (n : ℕ) → AreDistinct xs → AreDistinct (turned false xs n)
distinct_turned xs n distinct = λ l m k a b. distinct l m k (off_before xs n l k a) (off_before xs n m k b)

unused_turned : (xs : List Numbered) (n : ℕ) (k : Key) → AreDistinct xs → IsAt xs n k true → IsUnused (turned false xs n) k
unused_turned xs n k distinct at = λ m there.
    let same : m ≡ n = distinct m n k (off_before xs n m k there) at in
    let P : ℕ → Type 0 = λ j. IsAt (turned false xs n) j k true in
    turned_not xs n k (subst P same there)

-- fewer rows are live then
fewer_among : (d : Datum) (xs : List Numbered) (n : ℕ) → is_among d (live_keys xs) ≡ false
    → is_among d (live_keys (turned false xs n)) ≡ false
unfolding is_among
fewer_among d [] n h = h
fewer_among d (x ∷ xs) zero h = by x.live h
  where
    by : (b : Bool) → is_among d (if b then datum_of_key x.key ∷ live_keys xs else live_keys xs) ≡ false
        → is_among d (live_keys xs) ≡ false
    by true e = (neither (same_key d (datum_of_key x.key)) (is_among d (live_keys xs)) e).1
    by false e = e
fewer_among d (x ∷ xs) (suc n) h = by x.live h (λ e. fewer_among d xs n e)
  where
    by : (b : Bool) → is_among d (if b then datum_of_key x.key ∷ live_keys xs else live_keys xs) ≡ false
        → (is_among d (live_keys xs) ≡ false → is_among d (live_keys (turned false xs n)) ≡ false)
        → is_among d (if b then datum_of_key x.key ∷ live_keys (turned false xs n) else live_keys (turned false xs n))
        ≡ false
    by true e rest =
        let parts = neither (same_key d (datum_of_key x.key)) (is_among d (live_keys xs)) e in
        or_none (same_key d (datum_of_key x.key)) (is_among d (live_keys (turned false xs n))) parts.0 (rest parts.1)
    by false e rest = rest e

any_fewer : (cells : List Datum) (xs : List Numbered) (n : ℕ) → any_among cells (live_keys xs) ≡ false
    → any_among cells (live_keys (turned false xs n)) ≡ false
unfolding any_among
any_fewer [] xs n h = refl
any_fewer (d ∷ ds) xs n h =
    let parts = neither (is_among d (live_keys xs)) (any_among ds (live_keys xs)) h in
    or_none (is_among d (live_keys (turned false xs n))) (any_among ds (live_keys (turned false xs n)))
    (fewer_among d xs n parts.0) (any_fewer ds xs n parts.1)

-- A row stays live whose key is none of those that were found.
off_live : (ds : List Datum) (ns : List ℕ) (xs ys : List Numbered) (n : ℕ) (k : Key) → FindsAll ds xs ns
    → is_among (datum_of_key k) ds ≡ false → IsAt xs n k true → IsAt ys n k true → IsAt (turned_off ns ys) n k true
unfolding is_among
off_live [] [] xs ys n k all other at here = here
off_live [] (m ∷ ms) xs ys n k all other at here = absurd all
off_live (d ∷ ds) [] xs ys n k all other at here = absurd all
off_live (d ∷ ds) (m ∷ ms) xs ys n k all other at here =
    let parts = neither (same_key (datum_of_key k) d) (is_among (datum_of_key k) ds) other in
    let differ : n ≡ m → ⊥ = λ e.
    let P : ℕ → Type 0 = λ j. slice_get xs j ≡ Some (numbered k true) in
    let same : k ≡ all.0.0 =
    ap (λ (x : Numbered). x.key) (some_same (numbered k true) (numbered all.0.0 true) (sym (subst P e at) ∙ all.0.2)) in
    true≢false
    (sym (ap (λ x. same_key (datum_of_key k) x) (sym all.0.1)
    ∙ ap (λ y. same_key (datum_of_key k) (datum_of_key y)) (sym same) ∙ same_refl k) ∙ parts.0) in
    off_live ds ms xs (turned false ys m) n k all.1 parts.1 at (at_turned ys m n (numbered k true) differ here)

-- a key that no live row has now had none before
unused_old :
    (cells : List Datum) (i : ℕ) (old mid : List Numbered) (ns : List ℕ) (k : Key) → PutsKeys (take i cells) old ns mid
    → IsUnused mid k → IsUnused old k
unused_old cells i old mid ns k p unused = λ n at.
    let off : List Numbered = turned_off ns old in
    let none : is_among (datum_of_key k) (live_keys mid) ≡ false = unused_among mid k unused in
    let joined : is_among (datum_of_key k) (live_keys off ++ take i cells) ≡ false =
    ap (λ ks. is_among (datum_of_key k) ks) (sym (keys_now cells i off mid p.pushed)) ∙ none in
    let parts =
    neither (is_among (datum_of_key k) (live_keys off)) (is_among (datum_of_key k) (take i cells))
    (sym (among_joined (datum_of_key k) (live_keys off) (take i cells)) ∙ joined) in
    let other = among_some (λ d. is_among d (live_keys old)) (datum_of_key k) (take i cells) parts.1 in
    let here = off_live (known_keys (take i cells) old) ns old old n k p.found other at at in
    true≢false (sym (used_among off n k here) ∙ parts.0)

-- one key after another

pub puts_none : (old : List Numbered) (ns : List ℕ) → ns ≡ [] → PutsKeys [] old ns old
puts_none old ns none =
    let P : List ℕ → Type 0 = λ ms. PutsKeys [] old ms old in
    subst P (sym none) (record { found = tt; live = tt; pushed = keys_none old })

puts_unused :
    (cells : List Datum) (i first : ℕ) (old mid new : List Numbered) (ns : List ℕ) (k : Key) → i < length cells
    → PutsKeys (take i cells) old ns mid → datum_of_key k ≡ get_or cells i null → is_null (get_or cells i null) ≡ false
    → IsUnused mid k → new ≡ mid ++ fresh k ∷ [] → PutsKeys (take (i + 1) cells) old ns new
puts_unused cells i first old mid new ns k below p is given unused pushed = record {
  found = known_passed cells i old ns k below p.found is (unused_old cells i old mid ns k p unused);
  live = p.live;
  pushed = keys_more cells i (turned_off ns old) mid new below p.pushed
      (record { key = k; is = is; given = given; unused = unused; pushed = pushed });
}

puts_replaced :
    (cells : List Datum) (i n : ℕ) (old mid new : List Numbered) (ns : List ℕ) (k : Key) → i < length cells
    → PutsKeys (take i cells) old ns mid → datum_of_key k ≡ get_or cells i null → is_null (get_or cells i null) ≡ false
    → AreDistinct mid → n < length old → IsAt mid n k true → new ≡ turned false mid n ++ fresh k ∷ []
    → PutsKeys (take (i + 1) cells) old (ns ++ n ∷ []) new
puts_replaced cells i n old mid new ns k below p is given distinct within at pushed =
    let off : List Numbered = turned_off ns old in
    let there : n < length off = let long = off_long ns old in omega (arith, long, within) in
    let P : List Numbered → Type 0 = λ xs. IsAt xs n k true in
    let front : IsAt off n k true =
    at_front off (map fresh p.pushed.keys) n (numbered k true) there (subst P p.pushed.pushed at) in
    let before : PushesKeys (take i cells) (turned false off n) (turned false mid n) = record {
      keys = p.pushed.keys;
      are = p.pushed.are;
      given = p.pushed.given;
      single = p.pushed.single;
      unused = any_fewer (take i cells) off n p.pushed.unused;
      pushed = ap (λ xs. turned false xs n) p.pushed.pushed ∙ turned_front off (map fresh p.pushed.keys) n there;
    } in
    let Q : List Numbered → Type 0 = λ xs. PushesKeys (take (i + 1) cells) xs new in
    record {
      found = known_found cells i n old ns k below p.found is (off_back ns old n k front);
      live = live_pushed ns n old k p.live front;
      pushed = subst Q (sym (off_pushed ns n old))
          (keys_more cells i (turned false off n) (turned false mid n) new below before (record {
            key = k;
            is = is;
            given = given;
            unused = unused_turned mid n k distinct at;
            pushed = pushed;
          }));
    }

pub puts_more :
    (cells : List Datum) (i first : ℕ) (old mid new : List Numbered) (ns ms : List ℕ) → i < length cells
    → first ≡ length old → PutsKeys (take i cells) old ns mid → PutsKey cells i first mid ns new ms
    → PutsKeys (take (i + 1) cells) old ms new
puts_more cells i first old mid new ns ms below start p k =
    let P : List ℕ → Type 0 = λ ls. PutsKeys (take (i + 1) cells) old ls new in
    elim k.put [
      | inl u ↦ subst P (sym u.2) (puts_unused cells i first old mid new ns k.key below p k.is k.given u.0 u.1)
      | inr r ↦
          subst P (sym r.4)
          (puts_replaced cells i r.0 old mid new ns k.key below p k.is k.given k.distinct (omega (arith, r.1, start)) r.2
          r.3)
    ]

pub puts_end : (cells : List Datum) (i : ℕ) (old new : List Numbered) (ns : List ℕ) → length cells ≤ i
    → PutsKeys (take i cells) old ns new → PutsKeys cells old ns new
puts_end cells i old new ns end p =
    let P : List Datum → Type 0 = λ ds. PutsKeys ds old ns new in subst P (all_taken cells i end) p

pub puts_refused :
    (cells : List Datum) (i first : ℕ) (old mid : List Numbered) (ns : List ℕ) (e : EditFault) → i < length cells
    → first ≡ length old → PutsKeys (take i cells) old ns mid → RefusesPut cells i first mid e → RefusesKeys cells [] e
puts_refused cells i first old mid ns (fault.Unfit unfit.NullKey) below start p h =
    ap has_null (sym (both_parts cells i)) ∙ null_joined (take i cells) (drop i cells)
    ∙ or_right (has_null (take i cells)) (has_null (drop i cells)) h
puts_refused cells i first old mid ns (fault.Unfit unfit.DuplicateKey) below start p h =
    let off : List Numbered = turned_off ns old in
    let all : take i cells ++ get_or cells i null ∷ drop (i + 1) cells ≡ cells =
    ap (λ xs. take i cells ++ xs) (sym (split_at cells i below)) ∙ both_parts cells i in
    let P : List Numbered → Type 0 = λ xs. IsAt xs h.3 h.1 true in
    let long = off_long ns old in
    let among : is_among (datum_of_key h.1) (take i cells) ≡ true =
    ap (λ ds. is_among (datum_of_key h.1) ds) (sym p.pushed.are)
    ∙ fresh_among off p.pushed.keys h.3 h.1 (omega (arith, long, start, h.4)) (subst P p.pushed.pushed h.5) in (
      ap has_null (sym (both_parts cells i)) ∙ null_joined (take i cells) (drop i cells)
          ∙ or_none (has_null (take i cells)) (has_null (drop i cells)) p.pushed.given h.0,
      or_left (has_repeated cells) (any_among cells [])
          (ap has_repeated (sym all) ∙ ap (λ x. has_repeated (take i cells ++ x ∷ drop (i + 1) cells)) (sym h.2)
          ∙ repeated_by h.1 (take i cells) (drop (i + 1) cells) p.pushed.keys p.pushed.are among),
    )
puts_refused cells i first old mid ns fault.Memory below start p h = tt
puts_refused cells i first old mid ns (fault.Unfit u) below start p h = absurd h

-- what is there without the rows that were added
pub puts_taken : (cells : List Datum) (old mid : List Numbered) (ns : List ℕ) → PutsKeys cells old ns mid
    → take (length old) mid ≡ turned_off ns old
puts_taken cells old mid ns p =
    let off : List Numbered = turned_off ns old in
    ap (λ xs. take (length old) xs) p.pushed.pushed
    ∙ ap (λ n. take n (off ++ map fresh p.pushed.keys)) (sym (off_long ns old))
    ∙ take_front off (map fresh p.pushed.keys)

-- Rows that were retracted are live again.

at_off : (xs : List Numbered) (n : ℕ) (k : Key) → IsAt xs n k true → IsAt (turned false xs n) n k false
at_off [] n k at = absurd (none-some (numbered k true) at)
at_off (x ∷ xs) zero k at =
    ap (λ (y : Numbered). Some (numbered y.key false)) (some_same x (numbered k true) at)
at_off (x ∷ xs) (suc n) k at = at_off xs n k at

turned_back : (xs : List Numbered) (n : ℕ) (k : Key) → IsAt xs n k true → turned true (turned false xs n) n ≡ xs
turned_back [] n k at = refl
turned_back (x ∷ xs) zero k at =
    let same : x ≡ numbered k true = some_same x (numbered k true) at in
    let P : Numbered → Type 0 = λ y. numbered y.key true ∷ xs ≡ y ∷ xs in
    subst P (sym same) refl
turned_back (x ∷ xs) (suc n) k at = ap (λ ys. x ∷ ys) (turned_back xs n k at)

pub off_revived : (ns : List ℕ) (xs : List Numbered) → AreLive ns xs → AreDistinct xs → AreGiven xs
    → CanRevive ns (turned_off ns xs) × (revived ns (turned_off ns xs) ≡ xs)
off_revived [] xs live distinct given = (tt, refl)
off_revived (n ∷ ns) xs live distinct given =
    let mid : List Numbered = turned false xs n in
    let k : Key = live.0.0 in
    let at : IsAt xs n k true = live.0.1 in
    let rest =
    off_revived ns mid live.1 (distinct_turned xs n distinct) (λ m j there. given m j (off_before xs n m j there)) in
    let here : IsAt mid n k false = at_off xs n k at in
    let P : List Numbered → Type 0 = λ ys. (j : Key) × IsAt ys n j false × IsUnused ys j × (is_null (datum_of_key j) ≡ false)
    in (
      (rest.0, subst P (sym rest.1) (k, here, unused_turned xs n k distinct at, given n k at)),
      ap (λ ys. turned true ys n) rest.1 ∙ turned_back xs n k at,
    )

pub puts_can_revive : (cells : List Datum) (old mid : List Numbered) (ns : List ℕ) (first : ℕ) → first ≡ length old
    → PutsKeys cells old ns mid → AreDistinct old → AreGiven old → CanRevive ns (take first mid)
puts_can_revive cells old mid ns first start p distinct given =
    let P : List Numbered → Type 0 = λ xs. CanRevive ns xs in
    subst P (sym (ap (λ n. take n mid) start ∙ puts_taken cells old mid ns p))
    (off_revived ns old p.live distinct given).0

pub puts_revived : (cells : List Datum) (old mid : List Numbered) (ns : List ℕ) (first : ℕ) → first ≡ length old
    → PutsKeys cells old ns mid → AreDistinct old → AreGiven old → revived ns (take first mid) ≡ old
puts_revived cells old mid ns first start p distinct given =
    ap (λ xs. revived ns xs) (ap (λ n. take n mid) start ∙ puts_taken cells old mid ns p)
    ∙ (off_revived ns old p.live distinct given).1

pub ruleset putting = (puts_none, puts_more, puts_end, puts_refused, puts_can_revive, puts_revived)
