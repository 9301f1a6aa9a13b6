-- Sub-groups that a change of a side table moves.
use Rattle.std.proofs.Common.{
  ◌≡◌,
  ℕ,
  zero,
  suc,
  ◌+◌,
  ◌<◌,
  ◌≤◌,
  ◌||◌,
  All,
  Bool,
  true,
  false,
  cond,
  not,
  List,
  [],
  ◌∷◌,
  ◌++◌,
  Option,
  None,
  Some,
  count_by,
  drop,
  get_or,
  length,
  take,
  refl,
  ap,
  sym,
  subst,
  ◌∙◌,
  arith,
}
use Rattle.std.proofs.lemmas.List.{drop_more, take_more}
use Rattle.std.proofs.lemmas.Map.Keys.{Less-from_sorted}
use Rattle.std.proofs.lemmas.Option.{none-some}
use Rattle.std.specs.BTreeMap.{is_at}
use Rattle.std.specs.Cmp.{eq_by_cmp_equiv}
use Rattle.std.specs.List.{cons_option, filter, filter_map, list_any}
use Rattle.std.specs.List.Sorted.{IsStrictlySortedBy}
use Rattle.std.specs.Ordering.{is_eq}
use Rattle.std.specs.declared.cmp.Ordering.TheVariants.{Less}
use Rattle.std.specs.Map.{lookup}
use Rattle.std.specs.Option.{option_map}
use Rattle.std.specs.Prelude.{is_some}
use Rattle.values.specs.Datum.{Datum}
use Rattle.values.specs.declared.key.Key.{Key}
use Rattle.view_lang.specs.Config.{Table, View}
use Rattle.view_lang.specs.Limits.{max_appended_rows}
use Rattle.view_lang.specs.Views.{passing_row}
use Rattle.group_order.specs.Ranked.{Keeps as KeepsRanked, Ranked}
use Rattle.group_state.specs.GroupCounts.{GroupCounts}
use Rattle.group_state.specs.Groups.{KeepsAt}
use Rattle.group_state.specs.Keys.{tuple_cmp, tuple_total}
use Rattle.group_state.specs.Moves.{AreTogether, IsPartOf}
use Rattle.group_state.specs.Rows.{KeepsRows}
use Rattle.group_state.specs.Tuples.{members, tuple_of}
use Rattle.group_state.specs.declared.accumulated_columns.AccumulatedColumn.{AccumulatedColumn}
use Rattle.group_state.proofs.Same.{keeps-same}
use Rattle.sub_groups.specs.Places.{representative_row}
use Rattle.sub_groups.specs.SubGroups.{ArePlaced, IsSubRow, SubGroupsArePlaced, SubGroupsPart, rows_but, sub_keys}
use Rattle.sub_groups.specs.declared.sub_groups.SubGroups.{SubGroups}
use Rattle.upkeep.specs.Moves.{AreGrouped, AreParted, CanMove, after_move, before_move, out_at, projected_but}
use Rattle.upkeep.specs.ViewStates.{width_in}
use Rattle.upkeep.specs.declared.view_state.Turn.{Turn}
use Rattle.upkeep.specs.declared.view_state.Turn.TheVariants as turn
use Rattle.view_lang.specs.Joined.{Side, joined_by, joined_row, looked_up, or_missing}
use Rattle.view_lang.specs.declared.view.Lookup.{Lookup}

-- Rows that are joined

pub joined_alone : (o : Option Lookup) (side : Side) (row : List Datum) → o ≡ None → Some row ≡ joined_row o side row
unfolding joined_row
joined_alone o side row is = ap (λ l. joined_by l row (looked_up l side row)) (sym is)

joined_with : (l : Lookup) (o : Option Lookup) (side : Side) (row : List Datum) (found more : Option (List Datum))
    → o ≡ Some l → found ≡ looked_up o side row → more ≡ or_missing l.missing l.columns found
    → option_map (λ cells. row ++ cells) more ≡ joined_row o side row
unfolding joined_row
joined_with l o side row found more is there cells =
    ap (option_map (λ cs. row ++ cs)) (cells ∙ ap (or_missing l.missing l.columns) there)
    ∙ ap (λ x. joined_by x row (looked_up o side row)) (sym is)

pub joined_left : (l : Lookup) (o : Option Lookup) (side : Side) (row : List Datum) (found more : Option (List Datum))
    → o ≡ Some l → found ≡ looked_up o side row → more ≡ or_missing l.missing l.columns found → more ≡ None
    → None ≡ joined_row o side row
joined_left l o side row found more is there cells none =
    sym (ap (option_map (λ cs. row ++ cs)) none) ∙ joined_with l o side row found more is there cells

pub joined_more :
    (l : Lookup) (o : Option Lookup) (side : Side) (row cs : List Datum) (found more : Option (List Datum))
    → o ≡ Some l → found ≡ looked_up o side row → more ≡ or_missing l.missing l.columns found → more ≡ Some cs
    → Some (row ++ cs) ≡ joined_row o side row
joined_more l o side row cs found more is there cells some =
    sym (ap (option_map (λ cs. row ++ cs)) some) ∙ joined_with l o side row found more is there cells

-- A sub-group that is removed or added

some_is : {X : Type 0} (x y : X) → Some x ≡ Some y → x ≡ y
some_is x y h = cc h

-- an option mapped by a function that gives something
pub made_of : {X Y : Type 0} (f : X → Y) (o : Option X) (y : Y) → option_map f o ≡ Some y
    → (x : X) × ((o ≡ Some x) × (f x ≡ y))
made_of f None y h = absurd (none-some y h)
made_of f (Some x) y h = (x, (refl, some_is (f x) y h))

pub made_none : {X Y : Type 0} (f : X → Y) (o : Option X) → option_map f o ≡ None → o ≡ None
made_none f None h = refl
made_none f (Some x) h = absurd (none-some (f x) (sym h))

-- Groups accumulate rows of which each test counts as many.
same_kept : (g : Ranked) (xs ys : List (List Datum)) → ((p : List Datum → Bool) → count_by p xs ≡ count_by p ys)
    → KeepsRanked g xs → KeepsRanked g ys
same_kept g xs ys same kept = record { groups_are = keeps-same xs ys same g.groups kept.groups_are; ranked = kept.ranked }

-- The rows of the sub-group have no projected rows.
pub none_moved : (u : Turn) (g : Ranked) (moved all others : List (List Datum)) → moved ≡ [] → AreTogether all moved others
    → KeepsRanked g (before_move u all others) → KeepsRanked g (after_move u all others)
none_moved u g moved all others none together = go u
  where
    same : (p : List Datum → Bool) → count_by p all ≡ count_by p others
    same p =
        let one = together p in
        let zero_of : count_by p moved ≡ 0 = ap (count_by p) none in omega (arith, one, zero_of)

    go : (w : Turn) → KeepsRanked g (before_move w all others) → KeepsRanked g (after_move w all others)
    go turn.Go = same_kept g all others same
    go turn.Come = same_kept g others all (λ p. sym (same p))

pub before_is : (u w : Turn) (g : Ranked) (all others : List (List Datum)) → u ≡ w
    → KeepsRanked g (before_move u all others) → KeepsRanked g (before_move w all others)
before_is u w g all others is = subst (λ (x : Turn). KeepsRanked g (before_move x all others)) is

pub after_is : (u w : Turn) (g : Ranked) (all others : List (List Datum)) → u ≡ w
    → KeepsRanked g (after_move w all others) → KeepsRanked g (after_move u all others)
after_is u w g all others is = subst (λ (x : Turn). KeepsRanked g (after_move x all others)) (sym is)

module _ (law : SubGroupsArePlaced) (tables : List Table) (v : View) (side : Side) (s : SubGroups) (g : Ranked)
    (can : CanMove tables v s g) (t : List Key) (rows all others : List (List Datum))
    (grouped : AreGrouped tables v s rows) (parted : AreParted v side s.groups.keys t rows all others) where
  abbrev pub moved_rows : List (List Datum)
  moved_rows = filter_map (passing_row v side) (members s.groups.keys t rows)

  placed : ArePlaced can.right.by s.groups.columns (representative_row (width_in tables) v side s.groups.keys t)
      (members s.groups.keys t rows) moved_rows
  placed =
      let keys : List ℕ = sub_keys (width_in tables) can.right.look can.right.by in
      let P : List ℕ → Type 0 =
      λ ks. ArePlaced can.right.by s.groups.columns (representative_row (width_in tables) v side ks t) (members ks t rows)
      (filter_map (passing_row v side) (members ks t rows)) in
      subst P (sym can.right.keyed)
      (law (width_in tables) v can.right.look can.right.by s.groups.columns side rows t can.right.can
      (subst (λ (ks : List ℕ). All (IsSubRow (width_in tables) v ks) rows) can.right.keyed grouped.each))

  kept_at : (o : Option GroupCounts) → o ≡ lookup (is_at (tuple_cmp t)) s.groups.groups
      → KeepsAt s.groups.columns (members s.groups.keys t rows) o
  kept_at o is =
      subst (λ (x : Option GroupCounts). KeepsAt s.groups.columns (members s.groups.keys t rows) x) (sym is)
      (grouped.kept.groups_are t)

  pub no_group : None ≡ lookup (is_at (tuple_cmp t)) s.groups.groups → moved_rows ≡ []
  no_group is = ap (filter_map (passing_row v side)) (kept_at None is)

  pub no_place : representative_row (width_in tables) v side s.groups.keys t ≡ None → moved_rows ≡ []
  no_place none = placed.none none

  pub part :
      (h : GroupCounts) (place : List Key) → Some h ≡ lookup (is_at (tuple_cmp t)) s.groups.groups
      → option_map (tuple_of g.groups.keys) (representative_row (width_in tables) v side s.groups.keys t) ≡ Some place
      → IsPartOf g.groups.keys g.groups.columns place h all moved_rows others
  part h place there made =
      let r = made_of (tuple_of g.groups.keys) (representative_row (width_in tables) v side s.groups.keys t) place made in
      let at = kept_at (Some h) there in
      record {
        together = parted.together;
        kept = subst (λ (cs : List AccumulatedColumn). KeepsRows cs h moved_rows) (sym can.counted)
            (placed.kept (ap is_some r.1.0) h at.1);
        tuple = subst (λ (u : List Key). All (λ row. tuple_of g.groups.keys row ≡ u) moved_rows) r.1.1
            (subst (λ (ks : List ℕ). All (λ row. tuple_of ks row ≡ tuple_of ks r.0) moved_rows) (sym can.keyed)
            (placed.some r.0 r.1.0));
        some = at.0;
      }

or_assoc : (a b c : Bool) → ((a || b) || c) ≡ (a || (b || c))
or_assoc true b c = refl
or_assoc false b c = refl

or_swap : (a b : Bool) → (a || b) ≡ (b || a)
or_swap true true = refl
or_swap true false = refl
or_swap false true = refl
or_swap false false = refl

-- Sub-groups one after the other

none_take : {X : Type 0} (p : X → Bool) (xs : List X) (i : ℕ) (d : X)
    → ((j : ℕ) → j < i → j < length xs → p (get_or xs j d) ≡ false) → list_any p (take i xs) ≡ false
none_take p [] zero d h = refl
none_take p [] (suc i) d h = refl
none_take p (x ∷ xs) zero d h = refl
none_take p (x ∷ xs) (suc i) d h =
    ap (λ b. b || list_any p (take i xs)) (h zero (omega arith) (omega arith))
    ∙ none_take p xs i d (λ j below inside. h (suc j) (omega (arith, below)) (omega (arith, inside)))

none_drop : {X : Type 0} (p : X → Bool) (xs : List X) (k : ℕ) (d : X)
    → ((j : ℕ) → k ≤ j → j < length xs → p (get_or xs j d) ≡ false) → list_any p (drop k xs) ≡ false
none_drop p [] zero d h = refl
none_drop p [] (suc k) d h = refl
none_drop p (x ∷ xs) zero d h =
    ap (λ b. b || list_any p xs) (h zero (omega arith) (omega arith))
    ∙ none_drop p xs zero d (λ j above inside. h (suc j) (omega arith) (omega (arith, inside)))
none_drop p (x ∷ xs) (suc k) d h =
    none_drop p xs k d (λ j above inside. h (suc j) (omega (arith, above)) (omega (arith, inside)))

any_push : {X : Type 0} (p : X → Bool) (xs : List X) (x : X) → list_any p (xs ++ x ∷ []) ≡ (list_any p xs || p x)
any_push p [] x = or_swap (p x) false
any_push p (y ∷ ys) x = ap (λ b. p y || b) (any_push p ys x) ∙ sym (or_assoc (p y) (list_any p ys) (p x))

module _ (ts : List (List Key)) (ascending : IsStrictlySortedBy tuple_cmp ts) (i : ℕ) (t : List Key)
    (is : t ≡ get_or ts i t) (below : i < length ts) where
  apart_by : (u : List Key) → tuple_cmp u t ≡ Less → is_at (tuple_cmp t) u ≡ false
  apart_by u h = (eq_by_cmp_equiv tuple_total).symm t u ∙ ap is_eq h

  apart_of : (u : List Key) → tuple_cmp t u ≡ Less → is_at (tuple_cmp t) u ≡ false
  apart_of u h = ap is_eq h

  taken_apart : list_any (is_at (tuple_cmp t)) (take i ts) ≡ false
  taken_apart =
      none_take (is_at (tuple_cmp t)) ts i t
      (λ j before inside.
      apart_by (get_or ts j t)
      (ap (tuple_cmp (get_or ts j t)) is ∙ Less-from_sorted tuple_cmp ts j i t ascending before below))

  dropped_apart : list_any (is_at (tuple_cmp t)) (drop (i + 1) ts) ≡ false
  dropped_apart =
      none_drop (is_at (tuple_cmp t)) ts (i + 1) t
      (λ j after inside.
      apart_of (get_or ts j t)
      (ap (λ x. tuple_cmp x (get_or ts j t)) is
      ∙ Less-from_sorted tuple_cmp ts i j t ascending (omega (arith, after)) inside))

  taken_more : (u : List Key) → list_any (is_at (tuple_cmp u)) (take (i + 1) ts)
      ≡ (list_any (is_at (tuple_cmp u)) (take i ts) || is_at (tuple_cmp u) t)
  taken_more u =
      ap (list_any (is_at (tuple_cmp u)))
      (take_more ts i t below ∙ ap (λ x. take i ts ++ x ∷ []) (sym is))
      ∙ any_push (is_at (tuple_cmp u)) (take i ts) t

  dropped_more : (u : List Key) → list_any (is_at (tuple_cmp u)) (drop i ts)
      ≡ (list_any (is_at (tuple_cmp u)) (drop (i + 1) ts) || is_at (tuple_cmp u) t)
  dropped_more u =
      ap (list_any (is_at (tuple_cmp u)))
      (drop_more ts i t below ∙ ap (λ x. x ∷ drop (i + 1) ts) (sym is))
      ∙ or_swap (is_at (tuple_cmp u) t) (list_any (is_at (tuple_cmp u)) (drop (i + 1) ts))

-- which sub-groups are out where the rows of a sub-group are all in, and where the others are
abbrev all_out : Turn → ℕ → List (List Key) → List (List Key)
all_out turn.Go i ts = take i ts
all_out turn.Come i ts = drop (i + 1) ts

abbrev others_out : Turn → ℕ → List (List Key) → List (List Key)
others_out turn.Go i ts = take (i + 1) ts
others_out turn.Come i ts = drop i ts

made_few : (f : List Datum → Option (List Datum)) (rows : List (List Datum)) → length (filter_map f rows) ≤ length rows
made_few f [] = omega arith
made_few f (r ∷ rs) = go (f r) (made_few f rs)
  where
    go : (o : Option (List Datum)) → length (filter_map f rs) ≤ length rs
        → length (cons_option o (filter_map f rs)) ≤ suc (length rs)
    go None h = omega (arith, h)
    go (Some x) h = omega (arith, h)

some_left : (p : List Datum → Bool) (rows : List (List Datum)) → length (filter p rows) ≤ length rows
some_left p [] = omega arith
some_left p (r ∷ rs) = go (p r) (some_left p rs)
  where
    go : (b : Bool) → length (filter p rs) ≤ length rs → length (cond b (r ∷ filter p rs) (filter p rs)) ≤ suc (length rs)
    go true h = omega (arith, h)
    go false h = omega (arith, h)

made_but_few : (v : View) (side : Side) (keys : List ℕ) (out : List (List Key)) (rows : List (List Datum))
    → length rows < max_appended_rows → length (projected_but v side keys out rows) < max_appended_rows
made_but_few v side keys out rows few =
    let one = made_few (passing_row v side) (rows_but keys out rows) in
    let two = some_left (λ row. not (list_any (is_at (tuple_cmp (tuple_of keys row))) out)) rows in
    omega (arith, few, one, two)

module _ (law : SubGroupsPart) (v : View) (side : Side) (keys : List ℕ) (rows : List (List Datum))
    (few : length rows < max_appended_rows) (ts : List (List Key)) (ascending : IsStrictlySortedBy tuple_cmp ts) (i : ℕ)
    (t : List Key) (is : t ≡ get_or ts i t) (below : i < length ts) where
  pub next_parted : (u : Turn)
      → AreParted v side keys t rows (projected_but v side keys (all_out u i ts) rows)
      (projected_but v side keys (others_out u i ts) rows)
  next_parted turn.Go = record {
    together = law keys (passing_row v side) rows t (take i ts) (take (i + 1) ts) (taken_apart ts ascending i t is below)
        (taken_more ts ascending i t is below);
    few = made_but_few v side keys (take i ts) rows few;
  }
  next_parted turn.Come = record {
    together = law keys (passing_row v side) rows t (drop (i + 1) ts) (drop i ts)
        (dropped_apart ts ascending i t is below) (dropped_more ts ascending i t is below);
    few = made_but_few v side keys (drop (i + 1) ts) rows few;
  }

  pub next_before : (u : Turn) (g : Ranked) → KeepsRanked g (projected_but v side keys (out_at u i ts) rows)
      → KeepsRanked g (before_move u (projected_but v side keys (all_out u i ts) rows)
      (projected_but v side keys (others_out u i ts) rows))
  next_before turn.Go g h = h
  next_before turn.Come g h = h

  pub next_after : (u : Turn) (g : Ranked)
      → KeepsRanked g (after_move u (projected_but v side keys (all_out u i ts) rows)
      (projected_but v side keys (others_out u i ts) rows))
      → KeepsRanked g (projected_but v side keys (out_at u (i + 1) ts) rows)
  next_after turn.Go g h = h
  next_after turn.Come g h = h

pub still_can : (tables : List Table) (v : View) (s : SubGroups) (g h : Ranked) → h.groups.keys ≡ g.groups.keys
    → h.groups.columns ≡ g.groups.columns → CanMove tables v s g → CanMove tables v s h
still_can tables v s g h keys columns can = record {
  right = can.right;
  keyed = keys ∙ can.keyed;
  counted = columns ∙ can.counted;
}
