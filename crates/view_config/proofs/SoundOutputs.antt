-- Outputs that were read keep their rules.
use Rattle.std.proofs.Common.{
  ◌≡◌,
  ℕ,
  suc,
  ◌≤◌,
  List,
  [],
  ◌∷◌,
  length,
  map,
  refl,
  ap,
  subst,
  ◌∙◌,
  arith,
  Ok,
  Option,
  Some,
  None,
  true,
}
use Rattle.std.specs.Prelude.{All, codes}
use Rattle.std.specs.Str.{bytes_eq, is_utf8}
use Rattle.std.proofs.lemmas.List.Elements.{All-nil, All-cons}
use Rattle.toml.specs.Data.{Data, Items, no_items, item}
use Rattle.values.specs.Limits.{max_fields}
use Rattle.values.specs.Reading.{cons, must}
use Rattle.values.specs.Rose.{kids_of, roses_size}
use Rattle.values.proofs.Readings.{both_Ok, mapped_Ok, must_Ok}
use Rattle.view_lang.specs.ConfigRules.{AreOutputs, IsGroupOutput, IsHaving, IsOutput, IsText}
use Rattle.view_lang.specs.Fields.{IsColumn, IsOrdered}
use Rattle.view_lang.specs.Limits.{max_columns}
use Rattle.view_lang.specs.Outputs.{GroupOutput, Output, Outputs, columns}
use Rattle.view_lang.specs.ViewColumns.{output_fields}
use Rattle.view_config.specs.Limits.{column_name, few_fields}
use Rattle.view_config.specs.Outputs.{all_groups, distinct_numbers, group_of, group_output_named, group_output_of, grouping_column, output_limits, output_named, output_of, outputs_in, outputs_of, shown_by}
use Rattle.view_config.specs.Aggregates.{aggregate_by, sole_reference}
use Rattle.view_config.specs.Reading.{Reading}
use Rattle.view_config.specs.Scope.{Column, Scope, fields_of, ordered_reference}
use Rattle.view_config.specs.Tables.{few_columns}
use Rattle.view_config.specs.Tree.{count_items, each_item, headed, items_in}
use Rattle.view_config.specs.declared.faults.ConfigFault.TheVariants as fault
use Rattle.view_config.proofs.Found.{column-there, reference-ordered, sole-at}
use Rattle.view_config.proofs.Readings.{bound, items_all, test_Ok}
use Rattle.view_config.proofs.SoundFields.{headed-textual, name-sound}
use Rattle.view_config.proofs.SoundTables.{columns-some, few-sound, items-length, items-textual}
use Rattle.view_config.proofs.Texts.{AreTextual, IsTextual}
use Rattle.view_config.proofs.AggregateCases.{aggregate-sound}

-- the columns that rows are grouped by
grouping-sound : (s : Scope) (d : Data) (n : ℕ) → grouping_column s d ≡ Ok n → IsOrdered (fields_of s) n
unfolding grouping_column
grouping-sound s d n e =
    let read = mapped_Ok (λ (c : Column). c.0) (ordered_reference s d) n e in
    subst (IsOrdered (fields_of s)) read.2 (reference-ordered s d read.0 read.1)

pub group-sound : (s : Scope) (d : Data) (by : List ℕ) → group_of s d ≡ Ok by → All (IsOrdered (fields_of s)) by
unfolding group_of
group-sound s d by e =
    bound (items_in d) _ by e (λ ds a e1.
    bound (each_item (grouping_column s) ds) _ by e1 (λ ns b e2.
    bound (distinct_numbers ns) _ by e2 (λ u c e3.
    let same : ns ≡ by = cc in
    subst (λ (ms : List ℕ). All (IsOrdered (fields_of s)) ms) same
    (items_all (IsOrdered (fields_of s)) (grouping_column s) ds ns (grouping-sound s) b))))

shown-sound : (s : Scope) (w : List ℕ) (ds : Items) (n : ℕ) → shown_by s w ds ≡ Ok n → IsColumn (fields_of s) n
shown-sound s w ds n e =
    let test = test_Ok (bytes_eq w (codes "col")) _ _ n e in
    let read = mapped_Ok (λ (c : Column). c.0) (sole_reference s ds) n test.1 in
    subst (IsColumn (fields_of s)) read.2 (column-there (fields_of s) read.0 (sole-at s ds read.0 read.1))

-- a name that was read
name-text : (n m : List ℕ) → column_name n ≡ Ok m → is_utf8 n ≡ true → IsText m
name-text n m e t =
    let given = test_Ok _ (Ok n) _ m e in
    let same : n ≡ m = let q = given.1 in cc in
    subst IsText same (name-sound n m e, t)

output-sound : (s : Scope) (d : Data) (o : Output) → IsTextual d → output_of s d ≡ Ok o → IsOutput (fields_of s) o
unfolding output_of
output-sound s d o t e =
    bound (items_in d) _ o e (λ ds a e1.
    bound (must fault.Shape (headed ds)) _ o e1 (λ out b e2.
    bound (must fault.Shape (headed out.1)) _ o e2 (λ word c e3.
    bound (column_name out.0) _ o e3 (λ name n e4.
    let texts = headed-textual ds out (must_Ok fault.Shape (headed ds) out b) (items-textual d ds a t) in
    let made = mapped_Ok (output_named name) (shown_by s word.0 word.1) o e4 in
    subst (IsOutput (fields_of s)) made.2
    (name-text out.0 name n texts.0, shown-sound s word.0 word.1 made.0 made.1)))))

group-output-sound :
    (s : Scope) (by : List ℕ) (d : Data) (o : GroupOutput) → IsTextual d → group_output_of s by d ≡ Ok o
    → IsGroupOutput (fields_of s) by o
unfolding group_output_of
group-output-sound s by d o t e =
    bound (items_in d) _ o e (λ ds a e1.
    bound (must fault.Shape (headed ds)) _ o e1 (λ out b e2.
    bound (must fault.Shape (headed out.1)) _ o e2 (λ word c e3.
    bound (column_name out.0) _ o e3 (λ name n e4.
    let texts = headed-textual ds out (must_Ok fault.Shape (headed ds) out b) (items-textual d ds a t) in
    let made = mapped_Ok (group_output_named name) (aggregate_by s by word.0 word.1) o e4 in
    subst (IsGroupOutput (fields_of s) by) made.2
    (name-text out.0 name n texts.0, aggregate-sound s by word.0 word.1 made.0 made.1)))))

-- what holds of each item that is read from texts holds of all of them
each-sound :
    {X : Type 0} (P : X → Type 0) (f : Data → Reading X) (ds : Items) (xs : List X)
    → ((d : Data) (x : X) → IsTextual d → f d ≡ Ok x → P x) → AreTextual ds → each_item f ds ≡ Ok xs → All P xs
unfolding each_item
each-sound P f no_items xs h t e = let k : [] ≡ xs = cc in subst (λ (zs : List _). All P zs) k (All-nil P)
each-sound P f (item d ds) xs h t e =
    let p = both_Ok cons (f d) (each_item f ds) xs e in
    subst (λ (zs : List _). All P zs) p.4 (All-cons P p.0 p.1 (h d p.0 t.0 p.2) (each-sound P f ds p.1 h t.1 p.3))

-- the grouping columns of a view that has them
unfoldable pub AreGrouping : Scope → Option (List ℕ) → Type 0
AreGrouping s None = Unit {0}
AreGrouping s (Some by) = All (IsOrdered (fields_of s)) by

-- as many outputs as items
record AreShown (s : Scope) (n : ℕ) (os : Outputs) : Type 0 where
  rules : AreOutputs (fields_of s) os
  count : length (output_fields (fields_of s) os) ≡ n
  having : IsHaving (output_fields (fields_of s) os) os

count-map : {X Y : Type 0} (f : X → Y) (xs : List X) → length (map f xs) ≡ length xs
count-map f [] = refl
count-map f (x ∷ xs) = ap suc (count-map f xs)

in-sound :
    (s : Scope) (g : Option (List ℕ)) (ds : Items) (os : Outputs) → AreGrouping s g → AreTextual ds
    → outputs_in s g ds ≡ Ok os → AreShown s (count_items ds) os
unfolding outputs_in AreGrouping
in-sound s None ds os h t e =
    let read = mapped_Ok columns (each_item (output_of s) ds) os e in
    subst (AreShown s (count_items ds)) read.2 (record {
      rules = each-sound (IsOutput (fields_of s)) (output_of s) ds read.0 (output-sound s) t read.1;
      count = count-map _ read.0 ∙ items-length (output_of s) ds read.0 read.1;
      having = tt;
    })
in-sound s (Some by) ds os h t e =
    let read = mapped_Ok (all_groups by) (each_item (group_output_of s by) ds) os e in
    subst (AreShown s (count_items ds)) read.2 (record {
      rules = (
        h,
        each-sound (IsGroupOutput (fields_of s) by) (group_output_of s by) ds read.0 (group-output-sound s by) t read.1,
      );
      count = count-map _ read.0 ∙ items-length (group_output_of s by) ds read.0 read.1;
      having = tt;
    })

pub record AreColumnsOf (s : Scope) (os : Outputs) : Type 0 where
  pub rules : AreOutputs (fields_of s) os
  pub some : 1 ≤ length (output_fields (fields_of s) os)
  pub few : length (output_fields (fields_of s) os) ≤ max_columns
  pub small : roses_size (kids_of (output_fields (fields_of s) os)) ≤ max_fields
  pub having : IsHaving (output_fields (fields_of s) os) os

pub outputs-sound :
    (s : Scope) (g : Option (List ℕ)) (d : Data) (os : Outputs) → AreGrouping s g → IsTextual d
    → outputs_of s g d ≡ Ok os → AreColumnsOf s os
unfolding outputs_of output_limits
outputs-sound s g d os h t e =
    bound (items_in d) _ os e (λ ds a e1.
    bound (few_columns ds) _ os e1 (λ u b e2.
    bound (outputs_in s g ds) _ os e2 (λ ps c e3.
    bound (output_limits (fields_of s) ps) _ os e3 (λ v f e4.
    bound (few_fields (output_fields (fields_of s) ps)) _ v f (λ x few f1.
    let shown = in-sound s g ds ps h (items-textual d ds a t) c in
    let count = columns-some ds u b in
    let same : ps ≡ os = cc in
    subst (AreColumnsOf s) same (record {
      rules = shown.rules;
      some = omega (arith, count.0, shown.count);
      few = omega (arith, count.1, shown.count);
      small = few-sound (output_fields (fields_of s) ps) x few;
      having = shown.having;
    }))))))
