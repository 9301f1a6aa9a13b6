-- The values of one multiset are added to another, or removed from it, one by one.
use Rattle.std.proofs.Common.{◌≡◌, refl, ap, sym, ◌∙◌, subst, arith, ℕ, zero, suc, ◌+◌, ◌-◌, ◌<◌, ◌≤◌, List, [], ◌∷◌, ◌++◌, length, drop}
use Rattle.std.specs.Prelude.{◌^◌, cond, slice_index_or, count_by}
use Rattle.std.specs.BTreeMap.{is_at}
use Rattle.std.specs.List.{All}
use Rattle.std.specs.List.Sorted.{IsStrictlySortedBy}
use Rattle.std.specs.Map.{keys_of, values_of}
use Rattle.std.proofs.lemmas.List.Elements.{All-tail}
use Rattle.std.proofs.lemmas.List.Sums.{count_by-le-length, sum_by-append}
use Rattle.std.proofs.lemmas.Map.Keys.{sorted_tail}
use Rattle.std.proofs.Math.ListN.{drop_of_length-le}
use Rattle.values.specs.Datum.{Datum}
use Rattle.values.specs.declared.key.Key.{Key}
use Rattle.view_lang.specs.Limits.{max_appended_rows}
use Rattle.group_state.specs.Cells.{KeepsValues, is_value}
use Rattle.group_state.specs.Counts.{had}
use Rattle.group_state.specs.Keys.{key_cmp}
use Rattle.group_state.proofs.Folds.{had-first, key_itself}

abbrev Entries : Type 0
Entries = List (Key × ℕ)

-- values in ascending order, none with a count of 0
pub record AreLeft (left : Entries) : Type 0 where
  pub ascend : IsStrictlySortedBy key_cmp (keys_of left)
  pub present : All (λ n. 0 < n) (values_of left)

left-tail : (e : Key × ℕ) (es : Entries) → AreLeft (e ∷ es) → AreLeft es
left-tail e es l = record {
  ascend = sorted_tail key_cmp e.0 (keys_of es) l.ascend;
  present = All-tail (λ n. 0 < n) e.1 (values_of es) l.present;
}

-- so far those were added that aren't left
pub record Adds (before all left now : Entries) : Type 0 where
  pub left_are : AreLeft left
  pub so_far : (q : Key) → had now q + had left q ≡ had before q + had all q

-- so far those were removed that aren't left
pub record Takes (before all left now : Entries) : Type 0 where
  pub left_are : AreLeft left
  pub so_far : (q : Key) → had now q - had left q ≡ had before q - had all q

module _ (before all : Entries) where
  pub adds-first : (left : Entries) → left ≡ all → IsStrictlySortedBy key_cmp (keys_of all)
      → All (λ n. 0 < n) (values_of all) → Adds before all left before
  adds-first left is s p =
      subst (λ l. Adds before all l before) (sym is)
      (record { left_are = record { ascend = s; present = p }; so_far = λ q. refl })

  pub takes-first : (left : Entries) → left ≡ all → IsStrictlySortedBy key_cmp (keys_of all)
      → All (λ n. 0 < n) (values_of all) → Takes before all left before
  takes-first left is s p =
      subst (λ l. Takes before all l before) (sym is)
      (record { left_are = record { ascend = s; present = p }; so_far = λ q. refl })

  module _ (left next now : Entries) (k : Key) (n : ℕ) (is : left ≡ (k, n) ∷ next) where
    pub adds-next : (later : Entries) → ((q : Key) → had later q ≡ had now q + cond (is_at (key_cmp k) q) n 0)
        → Adds before all left now → Adds before all next later
    adds-next later put a =
        let own = subst (λ l. Adds before all l now) is a in
        record {
          left_are = left-tail (k, n) next own.left_are;
          so_far = λ q.
              let f = had-first (k, n) next own.left_are.ascend q in
              let h = own.so_far q in
              let p = put q in
              omega (arith, f, h, p);
        }

    pub takes-next : (later : Entries) → ((q : Key) → had later q ≡ had now q - cond (is_at (key_cmp k) q) n 0)
        → Takes before all left now → Takes before all next later
    takes-next later put a =
        let own = subst (λ l. Takes before all l now) is a in
        record {
          left_are = left-tail (k, n) next own.left_are;
          so_far = λ q.
              let f = had-first (k, n) next own.left_are.ascend q in
              let h = own.so_far q in
              let p = put q in
              omega (arith, f, h, p);
        }

    pub adds-some : Adds before all left now → 0 < n
    adds-some a =
        let own = subst (λ l. Adds before all l now) is a in
        own.left_are.present 0 0 (omega arith)

    pub adds-few : ((q : Key) → had before q + had all q < 2 ^ 63) → Adds before all left now
        → had now k + n < 2 ^ 64
    adds-few few a =
        let own = subst (λ l. Adds before all l now) is a in
        let f = had-first (k, n) next own.left_are.ascend k in
        let same : cond (is_at (key_cmp k) k) n 0 ≡ n = ap (λ b. cond b n 0) (key_itself k) in
        let h = own.so_far k in
        let most = few k in
        omega (arith, f, same, h, most)

  pub adds-last : (left now : Entries) → left ≡ [] → Adds before all left now → (q : Key)
      → had now q ≡ had before q + had all q
  adds-last left now is a q =
      let own = subst (λ l. Adds before all l now) is a in
      let h = own.so_far q in
      omega (arith, h)

  pub takes-last : (left now : Entries) → left ≡ [] → Takes before all left now → (q : Key)
      → had now q ≡ had before q - had all q
  takes-last left now is a q =
      let own = subst (λ l. Takes before all l now) is a in
      let h = own.so_far q in
      omega (arith, h)

-- what is left from a place on
pub left-from : (es : Entries) (i : ℕ) (k : Key) (n : ℕ) → i < length es
    → ((e : Key × ℕ) → k ≡ (slice_index_or es i e).0) → ((e : Key × ℕ) → n ≡ (slice_index_or es i e).1)
    → drop i es ≡ (k, n) ∷ drop (i + 1) es
left-from [] i k n h a b = absurd (omega (arith, h))
left-from (e ∷ es) zero k n h a b = λ j. (sym (a e) j, sym (b e) j) ∷ es
left-from (e ∷ es) (suc i) k n h a b =
    let next : suc (i + 1) ≡ suc i + 1 = omega arith in
    left-from es i k n (omega (arith, h)) a b ∙ ap (λ m. (k, n) ∷ drop m (e ∷ es)) next

pub drop-none : (es : Entries) → drop 0 es ≡ es
drop-none [] = refl
drop-none (e ∷ es) = refl

pub none-left : (es : Entries) (i : ℕ) → length es ≤ i → drop i es ≡ []
none-left es i h = drop_of_length-le es h

-- the cells of both

counted : (q : Key) (xs ys : List Datum)
    → count_by (is_value q) (xs ++ ys) ≡ count_by (is_value q) xs + count_by (is_value q) ys
counted q xs ys = sum_by-append (λ (d : Datum). cond (is_value q d) 1 0) xs ys

module _ (es fs gs : Entries) (rest moved : List Datum) where
  pub values-few : KeepsValues es rest → KeepsValues fs moved → length rest + length moved < max_appended_rows → (q : Key)
      → had es q + had fs q < 2 ^ 63
  values-few k l h q =
      let a = k.values_are q in
      let b = l.values_are q in
      let c = count_by-le-length (is_value q) rest in
      let d = count_by-le-length (is_value q) moved in
      omega (arith, h, a, b, c, d)

  module _ (s : IsStrictlySortedBy key_cmp (keys_of gs)) (p : All (λ n. 0 < n) (values_of gs)) where
    pub values-in : ((q : Key) → had gs q ≡ had es q + had fs q) → KeepsValues es rest → KeepsValues fs moved
        → KeepsValues gs (moved ++ rest)
    values-in put k l = record {
      values_are = λ q.
          let a = k.values_are q in
          let b = l.values_are q in
          let c = put q in
          let d = counted q moved rest in
          omega (arith, a, b, c, d);
      ascending = s;
      present = p;
    }

    pub values-out : ((q : Key) → had gs q ≡ had es q - had fs q) → KeepsValues es (moved ++ rest)
        → KeepsValues fs moved → KeepsValues gs rest
    values-out taken k l = record {
      values_are = λ q.
          let a = k.values_are q in
          let b = l.values_are q in
          let c = taken q in
          let d = counted q moved rest in
          omega (arith, a, b, c, d);
      ascending = s;
      present = p;
    }
