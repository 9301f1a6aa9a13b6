-- The group of each tuple after a row is inserted or deleted.
use Rattle.std.proofs.Common.{◌≡◌, refl, sym, ◌∙◌, arith, ℕ, ◌<◌, List, [], ◌∷◌, subst, length}
use Rattle.std.specs.Prelude.{Bool, true, false, cond, Option}
use Rattle.std.specs.declared.cmp.Ordering.{Ordering}
use Rattle.std.specs.declared.cmp.Ordering.TheVariants.{Less, Equal, Greater}
use Rattle.std.specs.Ordering.{ordering_then}
use Rattle.std.specs.Cmp.{Equal-is, tied_itself, eq_by_cmp_equiv}
use Rattle.std.specs.Map.{lookup}
use Rattle.std.proofs.lemmas.List.Sums.{length-filter, count_by-le-length}
use Rattle.std.specs.BTreeMap.{is_at}
use Rattle.values.specs.Datum.{Datum}
use Rattle.values.specs.declared.key.Key.{Key}
use Rattle.view_lang.specs.Limits.{max_appended_rows}
use Rattle.group_state.specs.Keys.{key_cmp, tuple_cmp, tuple_total}
use Rattle.group_state.specs.GroupCounts.{GroupCounts}
use Rattle.group_state.specs.declared.accumulated_columns.AccumulatedColumn.{AccumulatedColumn}
use Rattle.group_state.specs.Tuples.{tuple_of, has_tuple, members}
use Rattle.group_state.specs.Groups.{Keeps, KeepsAt}
use Rattle.view_lang.proofs.ExactKeys.{key_exact}

tuple_by : (a b : Key) (ks ls : List Key) → (tuple_cmp ks ls ≡ Equal → ks ≡ ls) → (r : Ordering) → key_cmp a b ≡ r
    → ordering_then r (tuple_cmp ks ls) ≡ Equal → a ∷ ks ≡ b ∷ ls
tuple_by a b ks ls h Less q e = absurd (cc)
tuple_by a b ks ls h Equal q e = let k = key_exact a b q in let l = h e in cc
tuple_by a b ks ls h Greater q e = absurd (cc)

pub tuple_exact : (ks ls : List Key) → tuple_cmp ks ls ≡ Equal → ks ≡ ls
tuple_exact [] [] h = refl
tuple_exact [] (b ∷ ls) h = absurd (cc)
tuple_exact (a ∷ ks) [] h = absurd (cc)
tuple_exact (a ∷ ks) (b ∷ ls) h = tuple_by a b ks ls (tuple_exact ks ls) (key_cmp a b) refl h

pub same_tuple : (t u : List Key) → is_at (tuple_cmp t) u ≡ true → t ≡ u
same_tuple t u h = tuple_exact t u ((Equal-is (tuple_cmp t u)).0 h)

pub tuple_itself : (t : List Key) → is_at (tuple_cmp t) t ≡ true
tuple_itself t = (Equal-is (tuple_cmp t t)).1 (tied_itself tuple_total t)

module _ (keys : List ℕ) (columns : List AccumulatedColumn) (old new : List (List Key × GroupCounts)) (row : List Datum) (rows : List (List Datum))
  where
    abbrev at : List (List Key × GroupCounts) → List Key → Option GroupCounts
    at es t = lookup (is_at (tuple_cmp t)) es

    -- the tuple of the row itself
    pub own : members keys (tuple_of keys row) (row ∷ rows) ≡ row ∷ members keys (tuple_of keys row) rows
    own = rw (tuple_itself (tuple_of keys row)) refl

    module _ (others : (t : List Key) → is_at (tuple_cmp (tuple_of keys row)) t ≡ false → at new t ≡ at old t) where
      apart : (t : List Key) → is_at (tuple_cmp t) (tuple_of keys row) ≡ false → at new t ≡ at old t
      apart t h = others t ((eq_by_cmp_equiv tuple_total).symm (tuple_of keys row) t ∙ h)

      put_by : ((m : List (List Datum)) → KeepsAt columns m (at old (tuple_of keys row))
          → KeepsAt columns (row ∷ m) (at new (tuple_of keys row)))
          → (t : List Key) → KeepsAt columns (members keys t rows) (at old t) → (b : Bool)
          → is_at (tuple_cmp t) (tuple_of keys row) ≡ b
          → KeepsAt columns (cond b (row ∷ members keys t rows) (members keys t rows)) (at new t)
      put_by here t k true h =
          let P : List Key → Type 0 = λ u. KeepsAt columns (members keys u rows) (at old u) in
          let Q : List Key → Type 0 = λ u. KeepsAt columns (row ∷ members keys u rows) (at new u) in
          let e = same_tuple t (tuple_of keys row) h in
          subst Q (sym e) (here (members keys (tuple_of keys row) rows) (subst P e k))
      put_by here t k false h = subst (KeepsAt columns (members keys t rows)) (sym (apart t h)) k

      pub keeps-put : ((m : List (List Datum)) → KeepsAt columns m (at old (tuple_of keys row))
          → KeepsAt columns (row ∷ m) (at new (tuple_of keys row)))
          → Keeps (record { keys = keys; columns = columns; groups = old }) rows
          → Keeps (record { keys = keys; columns = columns; groups = new }) (row ∷ rows)
      keeps-put here k = record {
        groups_are = λ t. put_by here t (k.groups_are t) (is_at (tuple_cmp t) (tuple_of keys row)) refl;
      }

      take_by : ((m : List (List Datum)) → KeepsAt columns (row ∷ m) (at old (tuple_of keys row))
          → KeepsAt columns m (at new (tuple_of keys row)))
          → (t : List Key) → (b : Bool) → is_at (tuple_cmp t) (tuple_of keys row) ≡ b
          → KeepsAt columns (cond b (row ∷ members keys t rows) (members keys t rows)) (at old t)
          → KeepsAt columns (members keys t rows) (at new t)
      take_by here t true h k =
          let P : List Key → Type 0 = λ u. KeepsAt columns (row ∷ members keys u rows) (at old u) in
          let Q : List Key → Type 0 = λ u. KeepsAt columns (members keys u rows) (at new u) in
          let e = same_tuple t (tuple_of keys row) h in
          subst Q (sym e) (here (members keys (tuple_of keys row) rows) (subst P e k))
      take_by here t false h k = subst (KeepsAt columns (members keys t rows)) (sym (apart t h)) k

      pub keeps-take : ((m : List (List Datum)) → KeepsAt columns (row ∷ m) (at old (tuple_of keys row))
          → KeepsAt columns m (at new (tuple_of keys row)))
          → Keeps (record { keys = keys; columns = columns; groups = old }) (row ∷ rows)
          → Keeps (record { keys = keys; columns = columns; groups = new }) rows
      keeps-take here k = record {
        groups_are = λ t. take_by here t (is_at (tuple_cmp t) (tuple_of keys row)) refl (k.groups_are t);
      }

    pub put-needs : Keeps (record { keys = keys; columns = columns; groups = old }) rows → length rows < max_appended_rows
        → (x : List (List Datum)) × (KeepsAt columns x (at old (tuple_of keys row)) × (length x < max_appended_rows))
    put-needs k h =
        let a = length-filter (has_tuple keys (tuple_of keys row)) rows in
        let b = count_by-le-length (has_tuple keys (tuple_of keys row)) rows in
        (members keys (tuple_of keys row) rows, (k.groups_are (tuple_of keys row), omega (arith, a, b)))

    pub take-needs : Keeps (record { keys = keys; columns = columns; groups = old }) (row ∷ rows)
        → (x : List (List Datum)) × KeepsAt columns (row ∷ x) (at old (tuple_of keys row))
    take-needs k =
        let P : List (List Datum) → Type 0 = λ m. KeepsAt columns m (at old (tuple_of keys row)) in
        (members keys (tuple_of keys row) rows, subst P own (k.groups_are (tuple_of keys row)))
