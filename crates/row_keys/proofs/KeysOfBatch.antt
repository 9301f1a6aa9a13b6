-- The keys of a batch, one after another.
use Rattle.std.proofs.Common.{
  ◌≡◌,
  inl,
  inr,
  ℕ,
  zero,
  suc,
  ◌+◌,
  ◌<◌,
  ◌≤◌,
  ◌||◌,
  All,
  Bool,
  true,
  false,
  List,
  [],
  ◌∷◌,
  ◌++◌,
  Some,
  length,
  take,
  drop,
  get_or,
  map,
  refl,
  ap,
  sym,
  subst,
  ◌∙◌,
  arith,
  append_assoc,
  append-nil,
}
use Rattle.std.specs.Prelude.{Option, if◌then◌else◌, IsSome}
use Rattle.std.proofs.Math.Seq.{take-suc}
use Rattle.std.proofs.lemmas.List.{drop_all, drop_more, map-append}
use Rattle.std.proofs.lemmas.List.Elements.{All-get_or}
use Rattle.values.specs.CellViews.{shallow}
use Rattle.values.specs.Datum.{Datum, is_null, null}
use Rattle.values.specs.Layouts.{Holds}
use Rattle.values.specs.Rose.{Rose}
use Rattle.values.specs.declared.layout.Layout.{Layout}
use Rattle.values.proofs.ShallowLemmas.{key_of-shallow}
use Rattle.values.specs.Keys.{datum_of_key, key_of}
use Rattle.values.specs.declared.key.Key.{Key}
use Rattle.view_lang.specs.Causes.{any_among, has_null, has_repeated}
use Rattle.view_lang.specs.Contents.{is_among}
use Rattle.view_lang.specs.declared.unfit.Unfit.TheVariants as unfit
use Rattle.row_keys.specs.declared.faults.EditFault.{EditFault}
use Rattle.row_keys.specs.declared.faults.EditFault.TheVariants as fault
use Rattle.row_keys.specs.KeyColumns.{HoldsKeys, PushesKey, PushesKeys, RefusesKey, RefusesKeys, fresh, used_key}
use Rattle.row_keys.specs.Numbers.{IsAt, Numbered}
use Rattle.row_keys.specs.Stored.{live_keys}
use Rattle.row_keys.proofs.JoinedNumbers.{unused_among, used_among}
use Rattle.row_keys.proofs.KeyFacts.{
  among_joined,
  any_joined,
  either,
  key_datum,
  neither,
  null_joined,
  or_left,
  or_none,
  or_right,
  repeated_by,
  repeated_pushed,
}
use Rattle.row_keys.proofs.Places.{take_front}

-- a cell that is a key, read where it lies
pub key_read :
    (cells : List Datum) (i : ℕ) (s : Datum) (k : Key) (o : Option Key) → s ≡ shallow (get_or cells i null)
    → o ≡ key_of s → o ≡ Some k → datum_of_key k ≡ get_or cells i null
key_read cells i s k o same is some =
    let d : Datum = get_or cells i null in
    key_datum d k (sym (key_of-shallow d) ∙ ap key_of (sym same) ∙ sym is ∙ some)

pub key_some :
    (t : Rose Layout) (cells : List Datum) (i : ℕ) (s : Datum) (o : Option Key) → HoldsKeys t → All (Holds t) cells
    → i < length cells → s ≡ shallow (get_or cells i null) → o ≡ key_of s → IsSome o
key_some t cells i s o keys held below same is =
    let d : Datum = get_or cells i null in
    subst (λ x. IsSome x) (sym (key_of-shallow d) ∙ ap key_of (sym same) ∙ sym is)
    (keys d (All-get_or (Holds t) cells i null below held))

pub ruleset reading = (key_read, key_some)

pub split_at : (cells : List Datum) (i : ℕ) → i < length cells → drop i cells ≡ get_or cells i null ∷ drop (i + 1) cells
split_at cells i below = drop_more cells i null below

-- a null key from there on is found
pub null_at : (cells : List Datum) (i : ℕ) → i < length cells → is_null (get_or cells i null) ≡ true
    → has_null (drop i cells) ≡ true
unfolding has_null
null_at cells i below is = ap has_null (split_at cells i below)
    ∙ or_left (is_null (get_or cells i null)) (has_null (drop (i + 1) cells)) is

pub null_found : (cells : List Datum) (i : ℕ) (b all : Bool) → i < length cells → b ≡ is_null (get_or cells i null)
    → b ≡ true → has_null (drop i cells) ≡ all → true ≡ all
null_found cells i b all below is given h = sym (null_at cells i below (sym is ∙ given)) ∙ h

pub null_later : (cells : List Datum) (i : ℕ) (b all : Bool) → i < length cells → b ≡ is_null (get_or cells i null)
    → b ≡ false → has_null (drop i cells) ≡ all → has_null (drop (i + 1) cells) ≡ all
unfolding has_null
null_later cells i b all below is given h =
    sym (ap (λ x. x || has_null (drop (i + 1) cells)) (sym is ∙ given)) ∙ sym (ap has_null (split_at cells i below)) ∙ h

pub null_never : (cells : List Datum) (i : ℕ) (all : Bool) → length cells ≤ i → has_null (drop i cells) ≡ all
    → false ≡ all
unfolding has_null
null_never cells i all end h = sym (ap has_null (drop_all i cells end)) ∙ h

pub ruleset nulls = (null_found, null_later, null_never)

pub null_told :
    (cells : List Datum) (i : ℕ) (k : Key) (b : Bool) → i < length cells → datum_of_key k ≡ get_or cells i null
    → b ≡ is_null (datum_of_key k) → b ≡ true
    → has_null (drop i cells) ≡ true
null_told cells i k b below read is null_key = null_at cells i below (ap is_null (sym read) ∙ sym is ∙ null_key)

one_more : (cells : List Datum) (i : ℕ) → i < length cells
    → take (i + 1) cells ≡ take i cells ++ get_or cells i null ∷ []
one_more cells i below = let e : i + 1 ≡ suc i = omega arith in ap (λ n. take n cells) e ∙ take-suc cells i null below

pub both_parts : (cells : List Datum) (i : ℕ) → take i cells ++ drop i cells ≡ cells
both_parts [] zero = refl
both_parts [] (suc i) = refl
both_parts (c ∷ cells) zero = refl
both_parts (c ∷ cells) (suc i) = ap (λ xs. c ∷ xs) (both_parts cells i)

live_added : (xs : List Numbered) (ks : List Key) → live_keys (xs ++ map fresh ks) ≡ live_keys xs ++ map datum_of_key ks
live_added [] [] = refl
live_added [] (k ∷ ks) = ap (λ ds. datum_of_key k ∷ ds) (live_added [] ks)
live_added (x ∷ xs) ks = by x.live (live_added xs ks)
  where
    by : (b : Bool) → live_keys (xs ++ map fresh ks) ≡ live_keys xs ++ map datum_of_key ks
        → (if b then datum_of_key x.key ∷ live_keys (xs ++ map fresh ks) else live_keys (xs ++ map fresh ks)) ≡ (if b
        then datum_of_key x.key ∷ live_keys xs else live_keys xs) ++ map datum_of_key ks
    by true h = ap (λ ds. datum_of_key x.key ∷ ds) h
    by false h = h

pub keys_none : (xs : List Numbered) → PushesKeys [] xs xs
unfolding has_null has_repeated any_among
keys_none xs =
    record { keys = []; are = refl; given = refl; single = refl; unused = refl; pushed = sym (append-nil xs) }

-- which keys the live rows have now
pub keys_now : (cells : List Datum) (i : ℕ) (old mid : List Numbered) → (p : PushesKeys (take i cells) old mid)
    → live_keys mid ≡ live_keys old ++ take i cells
keys_now cells i old mid p = ap live_keys p.pushed ∙ live_added old p.keys ∙ ap (λ ds. live_keys old ++ ds) p.are

one_null : (d : Datum) → is_null d ≡ false → has_null (d ∷ []) ≡ false
unfolding has_null
one_null d h = or_none (is_null d) false h refl

one_unused : (d : Datum) (others : List Datum) → is_among d others ≡ false → any_among (d ∷ []) others ≡ false
unfolding any_among
one_unused d others h = or_none (is_among d others) false h refl

pub keys_more :
    (cells : List Datum) (i : ℕ) (old mid new : List Numbered) → i < length cells → PushesKeys (take i cells) old mid
    → PushesKey cells i mid new
    → PushesKeys (take (i + 1) cells) old new
keys_more cells i old mid new below p k =
    let d : Datum = get_or cells i null in
    let among : is_among d (live_keys old ++ take i cells) ≡ false =
    ap (λ ks. is_among d ks) (sym (keys_now cells i old mid p)) ∙ ap (λ x. is_among x (live_keys mid)) (sym k.is)
    ∙ unused_among mid k.key k.unused in
    let parts =
    neither (is_among d (live_keys old)) (is_among d (take i cells))
    (sym (among_joined d (live_keys old) (take i cells)) ∙ among) in
    let P : List Datum → Type 0 = λ ds. PushesKeys ds old new in
    subst P (sym (one_more cells i below)) (record {
      keys = p.keys ++ k.key ∷ [];
      are = map-append datum_of_key p.keys (k.key ∷ []) ∙ ap (λ ds. ds ++ datum_of_key k.key ∷ []) p.are
          ∙ ap (λ x. take i cells ++ x ∷ []) k.is;
      given = null_joined (take i cells) (d ∷ [])
          ∙ or_none (has_null (take i cells)) (has_null (d ∷ [])) p.given (one_null d k.given);
      single = repeated_pushed (take i cells) d p.single parts.1;
      unused = any_joined (take i cells) (d ∷ []) (live_keys old)
          ∙ or_none (any_among (take i cells) (live_keys old)) (any_among (d ∷ []) (live_keys old)) p.unused
          (one_unused d (live_keys old) parts.0);
      pushed = k.pushed ∙ ap (λ xs. xs ++ fresh k.key ∷ []) p.pushed
          ∙ append_assoc old (map fresh p.keys) (fresh k.key ∷ [])
          ∙ ap (λ xs. old ++ xs) (sym (map-append fresh p.keys (k.key ∷ [])));
    })

all_taken : (cells : List Datum) (i : ℕ) → length cells ≤ i → take i cells ≡ cells
all_taken [] zero h = refl
all_taken [] (suc i) h = refl
all_taken (c ∷ cells) zero h = absurd (omega (arith, h))
all_taken (c ∷ cells) (suc i) h = ap (λ xs. c ∷ xs) (all_taken cells i (omega (arith, h)))

pub keys_end : (cells : List Datum) (i : ℕ) (old new : List Numbered) → length cells ≤ i
    → PushesKeys (take i cells) old new → PushesKeys cells old new
keys_end cells i old new end p = let P : List Datum
    → Type 0 = λ ds. PushesKeys ds old new in subst P (all_taken cells i end) p

used_first : (d : Datum) (rest others : List Datum) → is_among d others ≡ true → any_among (d ∷ rest) others ≡ true
unfolding any_among
used_first d rest others h = or_left (is_among d others) (any_among rest others) h

pub keys_refused :
    (cells : List Datum) (i : ℕ) (old mid : List Numbered) (e : EditFault) → i < length cells
    → PushesKeys (take i cells) old mid → RefusesKey cells i mid e
    → RefusesKeys cells old e
keys_refused cells i old mid (fault.Unfit unfit.NullKey) below p h =
    ap has_null (sym (both_parts cells i)) ∙ null_joined (take i cells) (drop i cells)
    ∙ or_right (has_null (take i cells)) (has_null (drop i cells)) h
keys_refused cells i old mid (fault.Unfit unfit.DuplicateKey) below p h =
    let d : Datum = get_or cells i null in
    let all : take i cells ++ d ∷ drop (i + 1) cells ≡ cells =
    ap (λ xs. take i cells ++ xs) (sym (split_at cells i below)) ∙ both_parts cells i in
    let among : (is_among d (live_keys old) || is_among d (take i cells)) ≡ true =
    sym (among_joined d (live_keys old) (take i cells)) ∙ ap (λ ks. is_among d ks) (sym (keys_now cells i old mid p))
    ∙ ap (λ x. is_among x (live_keys mid)) (sym h.2) ∙ used_among mid h.3 h.1 h.4 in (
      ap has_null (sym (both_parts cells i)) ∙ null_joined (take i cells) (drop i cells)
          ∙ or_none (has_null (take i cells)) (has_null (drop i cells)) p.given h.0,
      elim (either (is_among d (live_keys old)) (is_among d (take i cells)) among) [
        | inl e ↦
            or_right (has_repeated cells) (any_among cells (live_keys old))
            (ap (λ ds. any_among ds (live_keys old)) (sym all)
            ∙ any_joined (take i cells) (d ∷ drop (i + 1) cells) (live_keys old)
            ∙ or_right (any_among (take i cells) (live_keys old)) (any_among (d ∷ drop (i + 1) cells) (live_keys old))
            (used_first d (drop (i + 1) cells) (live_keys old) e))
        | inr e ↦
            or_left (has_repeated cells) (any_among cells (live_keys old))
            (ap has_repeated (sym all) ∙ ap (λ x. has_repeated (take i cells ++ x ∷ drop (i + 1) cells)) (sym h.2)
            ∙ repeated_by h.1 (take i cells) (drop (i + 1) cells) p.keys p.are (ap (λ x. is_among x (take i cells)) h.2
            ∙ e))
      ],
    )
keys_refused cells i old mid fault.Memory below p h = tt
keys_refused cells i old mid (fault.Unfit u) below p h = absurd h

pub keys_dropped : (cells : List Datum) (i : ℕ) (old mid : List Numbered) → PushesKeys (take i cells) old mid
    → take (length old) mid ≡ old
keys_dropped cells i old mid p = ap (λ xs. take (length old) xs) p.pushed ∙ take_front old (map fresh p.keys)

pub ruleset pushing = (keys_none, keys_more, keys_end, keys_refused, keys_dropped)

-- a live row's key is refused
pub used_refuses : (cells : List Datum) (i n : ℕ) (old : List Numbered) (k : Key) (e : EditFault)
    → e ≡ used_key (has_null (drop i cells)) → datum_of_key k ≡ get_or cells i null → IsAt old n k true
    → RefusesKey cells i old e
used_refuses cells i n old k e is read at = by (has_null (drop i cells)) refl is
  where
    by : (b : Bool) → has_null (drop i cells) ≡ b → e ≡ used_key b → RefusesKey cells i old e
    by true h same = subst (RefusesKey cells i old) (sym same) h
    by false h same = subst (RefusesKey cells i old) (sym same) (h, k, read, n, at)

pub ruleset numbering = (null_told, used_refuses)
