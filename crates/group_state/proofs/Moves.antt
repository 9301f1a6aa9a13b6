-- All rows of a group are inserted or deleted at once.
use Rattle.std.proofs.Common.{◌≡◌, refl, ap, sym, ◌∙◌, subst, arith, ℕ, ◌+◌, ◌-◌, ◌<◌, ◌≤◌, List, [], ◌∷◌, ◌++◌, length}
use Rattle.std.proofs.lemmas.List.{length-append, length-map, map-append}
use Rattle.std.specs.Prelude.{ℤ, ◌+ℤ◌, ◌-ℤ◌, Bool, true, false, cond, All, Option, count_by, filter}
use Rattle.std.specs.BTreeMap.{is_at}
use Rattle.std.specs.Cmp.{eq_by_cmp_equiv}
use Rattle.std.specs.Int.{int_wrap}
use Rattle.std.specs.Map.{lookup}
use Rattle.std.proofs.lemmas.Int.{ints, int_wrap-add_left, int_wrap-add_right, int_wrap-sub_right}
use Rattle.std.proofs.lemmas.List.Elements.{All-head, All-tail, filter-append}
use Rattle.std.proofs.lemmas.List.Sums.{count_by-le-length, length-filter, sum_by-append, sum_by-cons}
use lib.IntN.{neg_ℤ}
use mir.Syntax.{w128}
use Rattle.values.specs.Datum.{Datum}
use Rattle.values.specs.declared.key.Key.{Key}
use Rattle.view_lang.specs.Folds.{total}
use Rattle.view_lang.specs.Limits.{max_appended_rows}
use Rattle.group_state.specs.Cells.{KeepsTotal, is_filled}
use Rattle.group_state.specs.GroupCounts.{GroupCounts}
use Rattle.group_state.specs.Groups.{Keeps, KeepsAt}
use Rattle.group_state.specs.Keys.{tuple_cmp, tuple_total}
use Rattle.group_state.specs.Moves.{AreTogether, IsPartOf}
use Rattle.group_state.specs.Rows.{KeepsRows, cell, cells}
use Rattle.group_state.specs.Tuples.{has_tuple, members, tuple_of}
use Rattle.group_state.specs.declared.accumulated_columns.AccumulatedColumn.{AccumulatedColumn}
use Rattle.group_state.specs.declared.total.Total.{Total}
use Rattle.group_state.proofs.Members.{same_tuple, tuple_itself}
use Rattle.group_state.proofs.Same.{keeps-same}

-- Totals.

total-append : (xs ys : List Datum) → total (xs ++ ys) ≡ total xs +ℤ total ys
unfolding total
total-append [] ys = omega (arith, ints)
total-append (x ∷ xs) ys = let h = total-append xs ys in omega (arith, ints, h)

filled-append : (xs ys : List Datum)
    → count_by is_filled (xs ++ ys) ≡ count_by is_filled xs + count_by is_filled ys
filled-append xs ys = sum_by-append (λ (d : Datum). cond (is_filled d) 1 0) xs ys

sum-append : (xs ys : List Datum)
    → total (filter is_filled (xs ++ ys)) ≡ total (filter is_filled xs) +ℤ total (filter is_filled ys)
sum-append xs ys =
    ap total (filter-append is_filled xs ys) ∙ total-append (filter is_filled xs) (filter is_filled ys)

wrap-both : (t u a b c : ℤ) → t ≡ int_wrap w128 a → u ≡ int_wrap w128 b → c ≡ b +ℤ a
    → int_wrap w128 (t +ℤ u) ≡ int_wrap w128 c
wrap-both t u a b c h k e =
    let turned : a +ℤ b ≡ c = omega (arith, ints, e) in
    rw (h, k) (int_wrap-add_left w128 a (int_wrap w128 b) ∙ int_wrap-add_right w128 a b ∙ ap (int_wrap w128) turned)

wrap-less : (t u a b c : ℤ) → t ≡ int_wrap w128 a → u ≡ int_wrap w128 b → a ≡ b +ℤ c
    → int_wrap w128 (t -ℤ u) ≡ int_wrap w128 c
wrap-less t u a b c h k e =
    let left : a +ℤ neg_ℤ b ≡ c = omega (arith, ints, e) in
    rw (h, k)
    (int_wrap-sub_right w128 (int_wrap w128 a) b ∙ int_wrap-add_left w128 a (neg_ℤ b) ∙ ap (int_wrap w128) left)

module _ (t u v : Total) (rest moved : List Datum) where
  pub total-in : v.filled ≡ t.filled + u.filled → v.total ≡ int_wrap w128 (t.total +ℤ u.total) → KeepsTotal t rest
      → KeepsTotal u moved → KeepsTotal v (moved ++ rest)
  total-in f s k l = record {
    filled_is =
        let a = k.filled_is in let b = l.filled_is in let c = filled-append moved rest in omega (arith, f, a, b, c);
    total_is =
        s ∙ wrap-both t.total u.total (total (filter is_filled rest)) (total (filter is_filled moved))
        (total (filter is_filled (moved ++ rest))) k.total_is l.total_is (sum-append moved rest);
  }

  pub total-out : v.filled ≡ t.filled - u.filled → v.total ≡ int_wrap w128 (t.total -ℤ u.total)
      → KeepsTotal t (moved ++ rest) → KeepsTotal u moved → KeepsTotal v rest
  total-out f s k l = record {
    filled_is =
        let a = k.filled_is in let b = l.filled_is in let c = filled-append moved rest in omega (arith, f, a, b, c);
    total_is =
        s ∙ wrap-less t.total u.total (total (filter is_filled (moved ++ rest))) (total (filter is_filled moved))
        (total (filter is_filled rest)) k.total_is l.total_is (sum-append moved rest);
  }

  pub filled-few : KeepsTotal t rest → KeepsTotal u moved → length rest + length moved < max_appended_rows
      → t.filled + u.filled < max_appended_rows
  filled-few k l h =
      let a = k.filled_is in
      let b = l.filled_is in
      let c = count_by-le-length is_filled rest in
      let d = count_by-le-length is_filled moved in
      omega (arith, h, a, b, c, d)

-- Cells of rows.

pub cells-append : (j : ℕ) (xs ys : List (List Datum)) → cells j (xs ++ ys) ≡ cells j xs ++ cells j ys
cells-append j xs ys = map-append (cell j) xs ys

pub cells-few : (j : ℕ) (xs ys : List (List Datum)) → length xs + length ys < max_appended_rows
    → length (cells j xs) + length (cells j ys) < max_appended_rows
cells-few j xs ys h =
    let a = length-map xs (cell j) in
    let b = length-map ys (cell j) in
    omega (arith, h, a, b)

none : {X : Type 0} (xs : List X) → length xs ≡ 0 → xs ≡ []
none [] h = refl
none (x ∷ xs) h = absurd (omega (arith, h))

-- a group that has no more rows than are deleted has no others
pub none-left : (columns : List AccumulatedColumn) (g h : GroupCounts) (rest moved : List (List Datum))
    → KeepsRows columns g (moved ++ rest) → KeepsRows columns h moved → g.rows ≤ h.rows → rest ≡ []
none-left columns g h rest moved k l few =
    let a = k.rows_are in
    let b = l.rows_are in
    let c = length-append moved rest in
    none rest (omega (arith, few, a, b, c))

pub none-after : (xs ys : List (List Datum)) → xs ++ ys ≡ [] → ys ≡ []
none-after [] ys h = h
none-after (x ∷ xs) ys h = absurd (cc)

pub ruleset none_left = (none-left, none-after)

-- Members of groups.

module _ (keys : List ℕ) (t : List Key) (rows : List (List Datum)) where
  abbrev AreOf : List (List Datum) → Type 0
  AreOf moved = All (λ (row : List Datum). tuple_of keys row ≡ t) moved

  own : (moved : List (List Datum)) → AreOf moved → members keys t (moved ++ rows) ≡ moved ++ members keys t rows
  own [] a = refl
  own (r ∷ rs) a =
      ap (λ u. cond (is_at (tuple_cmp t) u) (r ∷ members keys t (rs ++ rows)) (members keys t (rs ++ rows)))
      (All-head (λ (row : List Datum). tuple_of keys row ≡ t) r rs a)
      ∙ ap (λ b. cond b (r ∷ members keys t (rs ++ rows)) (members keys t (rs ++ rows))) (tuple_itself t)
      ∙ ap (λ l. r ∷ l) (own rs (All-tail (λ (row : List Datum). tuple_of keys row ≡ t) r rs a))

  other : (u : List Key) → is_at (tuple_cmp u) t ≡ false → (moved : List (List Datum)) → AreOf moved
      → members keys u (moved ++ rows) ≡ members keys u rows
  other u h [] a = refl
  other u h (r ∷ rs) a =
      ap (λ v. cond (is_at (tuple_cmp u) v) (r ∷ members keys u (rs ++ rows)) (members keys u (rs ++ rows)))
      (All-head (λ (row : List Datum). tuple_of keys row ≡ t) r rs a)
      ∙ ap (λ b. cond b (r ∷ members keys u (rs ++ rows)) (members keys u (rs ++ rows))) h
      ∙ other u h rs (All-tail (λ (row : List Datum). tuple_of keys row ≡ t) r rs a)

count-append : (all some others : List (List Datum)) → AreTogether all some others → (p : List Datum → Bool)
    → count_by p (some ++ others) ≡ count_by p all
count-append all some others together p =
    sum_by-append (λ (r : List Datum). cond (p r) 1 0) some others ∙ sym (together p)

count-all : (rows : List (List Datum)) → count_by (λ (r : List Datum). true) rows ≡ length rows
count-all [] = refl
count-all (r ∷ rs) =
    let h = count-all rs in
    let s = sum_by-cons (λ (x : List Datum). 1) r rs in
    omega (arith, h, s)

length-together : (all some others : List (List Datum)) → AreTogether all some others
    → length all ≡ length some + length others
length-together all some others together =
    let a = count-all all in
    let b = count-all some in
    let c = count-all others in
    let h = together (λ (r : List Datum). true) in
    omega (arith, a, b, c, h)

module _ (keys : List ℕ) (columns : List AccumulatedColumn) (old new : List (List Key × GroupCounts)) (t : List Key)
    (g : GroupCounts) (all moved others : List (List Datum)) (part : IsPartOf keys columns t g all moved others)
  where
    abbrev at : List (List Key × GroupCounts) → List Key → Option GroupCounts
    at es u = lookup (is_at (tuple_cmp u)) es

    abbrev KeepsBy : List (List Key × GroupCounts) → List (List Datum) → Type 0
    KeepsBy es rows = Keeps (record { keys = keys; columns = columns; groups = es }) rows

    whole : (es : List (List Key × GroupCounts)) → KeepsBy es (moved ++ others) → KeepsBy es all
    whole es k =
        keeps-same (moved ++ others) all (count-append all moved others part.together)
        (record { keys = keys; columns = columns; groups = es }) k

    parted : (es : List (List Key × GroupCounts)) → KeepsBy es all → KeepsBy es (moved ++ others)
    parted es k =
        keeps-same all (moved ++ others) (λ p. sym (count-append all moved others part.together p))
        (record { keys = keys; columns = columns; groups = es }) k

    pub put-needs : KeepsBy old others → length all < max_appended_rows
        → (x : List (List Datum)) × (y : List (List Datum)) × (KeepsAt columns x (at old t)
        × (KeepsRows columns g y × (length x + length y < max_appended_rows)))
    put-needs k h =
        let a = length-filter (has_tuple keys t) others in
        let b = count_by-le-length (has_tuple keys t) others in
        let c = length-together all moved others part.together in
        (members keys t others, moved, (k.groups_are t, (part.kept, omega (arith, a, b, c, h))))

    pub take-needs : KeepsBy old all
        → (x : List (List Datum)) × (y : List (List Datum)) × (KeepsAt columns (y ++ x) (at old t) × KeepsRows columns g y)
    take-needs k =
        let whole_at = (parted old k).groups_are t in (
          members keys t others,
          moved,
          (subst (λ m. KeepsAt columns m (at old t)) (own keys t others moved part.tuple) whole_at, part.kept),
        )

    module _ (stay : (u : List Key) → is_at (tuple_cmp t) u ≡ false → at new u ≡ at old u) where
      apart : (u : List Key) → is_at (tuple_cmp u) t ≡ false → at new u ≡ at old u
      apart u h = stay u ((eq_by_cmp_equiv tuple_total).symm t u ∙ h)

      put_by : ((m : List (List Datum)) → KeepsAt columns m (at old t) → KeepsAt columns (moved ++ m) (at new t))
          → (u : List Key) → KeepsAt columns (members keys u others) (at old u) → (b : Bool)
          → is_at (tuple_cmp u) t ≡ b → KeepsAt columns (members keys u (moved ++ others)) (at new u)
      put_by here u k true h =
          let e = same_tuple u t h in
          let P : List Key → Type 0 = λ v. KeepsAt columns (members keys v others) (at old v) in
          let Q : List Key → Type 0 = λ v. KeepsAt columns (members keys v (moved ++ others)) (at new v) in
          subst Q (sym e)
          (subst (λ m. KeepsAt columns m (at new t)) (sym (own keys t others moved part.tuple))
          (here (members keys t others) (subst P e k)))
      put_by here u k false h =
          subst (λ m. KeepsAt columns m (at new u)) (sym (other keys t others u h moved part.tuple))
          (subst (KeepsAt columns (members keys u others)) (sym (apart u h)) k)

      pub keeps-in : ((m : List (List Datum)) → KeepsAt columns m (at old t) → KeepsAt columns (moved ++ m) (at new t))
          → KeepsBy old others → KeepsBy new all
      keeps-in here k =
          whole new (record { groups_are = λ u. put_by here u (k.groups_are u) (is_at (tuple_cmp u) t) refl })

      take_by : ((m : List (List Datum)) → KeepsAt columns (moved ++ m) (at old t) → KeepsAt columns m (at new t))
          → (u : List Key) → KeepsAt columns (members keys u (moved ++ others)) (at old u) → (b : Bool)
          → is_at (tuple_cmp u) t ≡ b → KeepsAt columns (members keys u others) (at new u)
      take_by here u k true h =
          let e = same_tuple u t h in
          let P : List Key → Type 0 = λ v. KeepsAt columns (members keys v (moved ++ others)) (at old v) in
          let Q : List Key → Type 0 = λ v. KeepsAt columns (members keys v others) (at new v) in
          subst Q (sym e)
          (here (members keys t others)
          (subst (λ m. KeepsAt columns m (at old t)) (own keys t others moved part.tuple) (subst P e k)))
      take_by here u k false h =
          subst (KeepsAt columns (members keys u others)) (sym (apart u h))
          (subst (λ m. KeepsAt columns m (at old u)) (other keys t others u h moved part.tuple) k)

      pub keeps-out : ((m : List (List Datum)) → KeepsAt columns (moved ++ m) (at old t) → KeepsAt columns m (at new t))
          → KeepsBy old all → KeepsBy new others
      keeps-out here k = record {
        groups_are = λ u. take_by here u ((parted old k).groups_are u) (is_at (tuple_cmp u) t) refl;
      }
