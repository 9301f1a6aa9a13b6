-- Views that can be kept by sub-groups.
use Rattle.std.proofs.Common.{◌≡◌, ◌&&◌, ◌||◌, ℕ, suc, arith, Bool, List, None, Option, Some, [], ◌∷◌, ap, ap₂, false, not, refl, subst, sym, true, true≢false}
use Rattle.std.proofs.lemmas.Bool.{eqb-true}
use Rattle.std.specs.List.{list_any}
use Rattle.std.specs.Prelude.{◌==◌}
use Rattle.view_lang.specs.Outputs.{GroupOutput}
use Rattle.view_lang.specs.declared.aggregate.Aggregate.{Aggregate}
use Rattle.view_lang.specs.Aggregates.{column_read}
use Rattle.group_state.specs.Aggregates.{AreReadBy, is_number_of, is_read, reads}
use Rattle.group_state.specs.declared.accumulated_columns.AccumulatedColumn.{AccumulatedColumn}
use Rattle.sub_groups.specs.FilterParts.{is_main}
use Rattle.sub_groups.specs.Moved.{is_side, read_side, reads_side}
use Rattle.sub_groups.specs.SubGroups.{are_main}

not-not : (b : Bool) → not b ≡ false → b ≡ true
not-not true h = refl
not-not false h = absurd (true≢false h)

same-main : (n j k : ℕ) → (j == k) ≡ true → not (is_main n j) ≡ false → is_main n k ≡ true
same-main n j k same main = subst (λ (i : ℕ). is_main n i ≡ true) (eqb-true j k same) (not-not (is_main n j) main)

by-column : (n k : ℕ) (column : Option ℕ) → is_number_of column k ≡ true → is_side n column ≡ false → is_main n k ≡ true
by-column n k None read main = absurd (true≢false (sym read))
by-column n k (Some j) read main = same-main n j k read main

one-main : (n k : ℕ) (a : Aggregate) → reads a k ≡ true → reads_side n a ≡ false → is_main n k ≡ true
one-main n k a = by-column n k (column_read a)

either-main : (P : Type 0) (a b c d : Bool) → (c || d) ≡ false → (a || b) ≡ true
    → (a ≡ true → c ≡ false → P) → (b ≡ true → d ≡ false → P) → P
either-main P true b false d none some first rest = first refl refl
either-main P false b false d none some first rest = rest some none
either-main P a b true d none some first rest = absurd (true≢false none)

-- A column that an output reads is the main table's where none reads another.
some-main : (n k : ℕ) (outs : List GroupOutput) → read_side n outs ≡ false → is_read outs k ≡ true → is_main n k ≡ true
some-main n k [] none some = absurd (true≢false (sym some))
some-main n k (o ∷ os) none some =
    either-main (is_main n k ≡ true) (reads o.aggregate k) (is_read os k) (reads_side n o.aggregate) (read_side n os)
    none some (λ here main. one-main n k o.aggregate here main) (λ there main. some-main n k os main there)

-- So are the columns that groups with these outputs accumulate.
all-main : (n : ℕ) (outs : List GroupOutput) (columns : List AccumulatedColumn) → read_side n outs ≡ false
    → AreReadBy outs columns → list_any (λ c. not (is_main n c.column)) columns ≡ false
all-main n outs [] none read = refl
all-main n outs (c ∷ cs) none read =
    ap₂ (λ a b. not a || b) (some-main n c.column outs none (read 0 c (omega arith)))
    (all-main n outs cs none (λ i d below. read (suc i) d (omega (arith, below))))

both-false : (a b c d : Bool) → ((not c) ≡ true → b ≡ true) → (a && (b && d)) ≡ false → (a && (not c && d)) ≡ false
both-false false b c d weaker h = refl
both-false true b true d weaker h = refl
both-false true true false d weaker h = h
both-false true false false d weaker h = absurd (true≢false (sym (weaker refl)))

flipped : (c : Bool) → not c ≡ true → c ≡ false
flipped false h = refl
flipped true h = absurd (true≢false (sym h))

-- Where a view can't be kept by sub-groups, it doesn't move them.
pub unmoved :
    (n : ℕ) (outs : List GroupOutput) (columns : List AccumulatedColumn) (on decided : Bool) → AreReadBy outs columns
    → (on && (are_main n columns && decided)) ≡ false → (on && (not (read_side n outs) && decided)) ≡ false
unmoved n outs columns on decided read h =
    both-false on (are_main n columns) (read_side n outs) decided
    (λ none. ap not (all-main n outs columns (flipped (read_side n outs) none) read)) h
