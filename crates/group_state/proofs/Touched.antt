-- Groups that a change doesn't touch stay as they are.
use Rattle.std.proofs.Common.{◌≡◌, refl, ap, sym, ◌∙◌, get_or, take, true≢false}
use Rattle.std.specs.Prelude.{ℕ, ◌+◌, ◌<◌, ◌||◌, Bool, true, false, cond, List, [], ◌∷◌, length}
use Rattle.std.specs.BTreeMap.{is_at}
use Rattle.std.specs.Cmp.{eq_by_cmp_equiv}
use Rattle.std.specs.List.{list_any}
use Rattle.std.specs.Map.{lookup}
use Rattle.std.proofs.lemmas.List.Folds.{list_any_more}
use Rattle.values.specs.Datum.{Datum}
use Rattle.values.specs.declared.key.Key.{Key}
use Rattle.view_lang.specs.Shifts.{Shift}
use Rattle.group_state.specs.GroupCounts.{GroupCounts}
use Rattle.group_state.specs.Grouped.{Grouped}
use Rattle.group_state.specs.Keys.{tuple_cmp, tuple_total}
use Rattle.group_state.specs.Touched.{StayBut, comes, goes, touches}
use Rattle.group_state.specs.Tuples.{has_tuple, tuple_of}

or-first : (a b : Bool) → (a || b) ≡ false → a ≡ false
or-first true b h = absurd (true≢false h)
or-first false b h = refl

or-second : (a b : Bool) → (a || b) ≡ false → b ≡ false
or-second true b h = absurd (true≢false h)
or-second false b h = h

-- one more change, as at a step of a loop
pub stay-more : (f : List ℕ → List Key → Shift → Bool) (old mid new : Grouped) (es : List Shift) (i : ℕ) (d e : Shift)
    → i < length es → e ≡ get_or es i d → mid.keys ≡ old.keys
    → StayBut (λ t. list_any (f old.keys t) (take i es)) old mid → StayBut (λ t. f mid.keys t e) mid new
    → StayBut (λ t. list_any (f old.keys t) (take (i + 1) es)) old new
stay-more f old mid new es i d e h is keys a b = λ t n.
    let both = sym (list_any_more (f old.keys t) es i d h) ∙ n in
    let first = or-first (list_any (f old.keys t) (take i es)) (f old.keys t (get_or es i d)) both in
    let second = or-second (list_any (f old.keys t) (take i es)) (f old.keys t (get_or es i d)) both in
    b t (ap (λ k. f k t e) keys ∙ ap (f old.keys t) is ∙ second) ∙ a t first

-- the tuples of inserted and of deleted rows are touched
pub untouched : (keys : List ℕ) (t : List Key) (es : List Shift) → list_any (touches keys t) es ≡ false
    → (list_any (goes keys t) es ≡ false) × (list_any (comes keys t) es ≡ false)
untouched keys t [] h = (refl, refl)
untouched keys t (s ∷ ss) h =
    let here = or-first (touches keys t s) (list_any (touches keys t) ss) h in
    let rest = untouched keys t ss (or-second (touches keys t s) (list_any (touches keys t) ss) h) in
    let g = or-first (goes keys t s) (comes keys t s) here in
    let c = or-second (goes keys t s) (comes keys t s) here in
    (rw (g, rest.0) refl, rw (c, rest.1) refl)

pub others-stay : (keys own : List ℕ) (row : List Datum) (es fs old : List (List Key × GroupCounts))
    → keys ≡ own → es ≡ old
    → ((t : List Key) → is_at (tuple_cmp (tuple_of keys row)) t ≡ false
    → lookup (is_at (tuple_cmp t)) fs ≡ lookup (is_at (tuple_cmp t)) es)
    → (t : List Key) → has_tuple own t row ≡ false
    → lookup (is_at (tuple_cmp t)) fs ≡ lookup (is_at (tuple_cmp t)) old
others-stay keys own row es fs old a b h t n =
    h t ((eq_by_cmp_equiv tuple_total).symm (tuple_of keys row) t ∙ ap (λ k. has_tuple k t row) a ∙ n)
    ∙ ap (lookup (is_at (tuple_cmp t))) b

or-turned : (a b : Bool) → cond a true b ≡ (b || a)
or-turned true true = refl
or-turned true false = refl
or-turned false true = refl
or-turned false false = refl

-- a tuple that is inserted is there, as are those that were
pub inserted : (keys : List ℕ) (row : List Datum) (t u : List Key) (before after : Bool) → u ≡ tuple_of keys row
    → after ≡ cond (is_at (tuple_cmp u) t) true before → after ≡ (before || has_tuple keys t row)
inserted keys row t u before after same h =
    h ∙ or-turned (is_at (tuple_cmp u) t) before
    ∙ ap (λ a. before || a) ((eq_by_cmp_equiv tuple_total).symm u t ∙ ap (is_at (tuple_cmp t)) same)
