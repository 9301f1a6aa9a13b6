-- A filter that was read keeps its rules.
use Rattle.std.proofs.Common.{◌≡◌, ℕ, zero, suc, List, [], subst, Ok, Bool, true, false}
use Rattle.std.specs.Prelude.{codes, if◌then◌else◌, nat_lt}
use Rattle.std.specs.Str.{bytes_eq}
use Rattle.toml.specs.Data.{Data, string, integer, float, boolean, datetime, array, table, Items, no_items, item}
use Rattle.values.specs.Reading.{◌>>=◌, cons, mapped, must, refused_if}
use Rattle.values.proofs.Readings.{both_Ok, mapped_Ok}
use Rattle.values.specs.declared.col_type.ColType.{ColType}
use Rattle.values.specs.contracts.col_type.ColTypePartialEq.TheImpl as equality
use Rattle.view_lang.specs.ConfigRules.{AreFilters, IsFilter, IsOperand}
use Rattle.view_lang.specs.Filter.{Filter, compare, filter_size, negation, null_in, parts_of}
use Rattle.view_lang.specs.TableRules.{type_of}
use Rattle.view_lang.specs.declared.filter.Comparison.{Comparison}
use Rattle.view_lang.specs.declared.filter.Operand.{Operand}
use Rattle.view_lang.specs.declared.filter.Operand.TheVariants as operand
use Rattle.view_config.specs.Constants.{constant_of}
use Rattle.view_config.specs.Filters.{alike, comparison_by, comparison_of, conjunction, disjunction, filter_by}
use Rattle.view_config.specs.Filters.{filter_of, filter_with, filters_in, negation_of, null_of, operand_of}
use Rattle.view_config.specs.Filters.{whole_filter}
use Rattle.view_config.specs.Limits.{max_filter_depth, max_filter_parts}
use Rattle.view_config.specs.Reading.{Reading}
use Rattle.view_config.specs.Scope.{Column, Scope, fields_of, ordered_reference, reference}
use Rattle.view_config.specs.Tree.{each_item, headed, pair, sole}
use Rattle.view_config.specs.declared.faults.ConfigFault.TheVariants as fault
use Rattle.view_config.proofs.Found.{column-there, reference-at, reference-ordered}
use Rattle.view_config.proofs.Readings.{bound, test_Ok}

constant-sound : (s : Scope) (t : ColType) (d : Data) (o : Operand) → mapped operand.Constant (constant_of t d) ≡ Ok o
    → IsOperand (fields_of s) o
constant-sound s t d o e =
    let read = mapped_Ok operand.Constant (constant_of t d) o e in subst (IsOperand (fields_of s)) read.2 tt

operand-sound : (s : Scope) (t : ColType) (d : Data) (o : Operand) → operand_of s t d ≡ Ok o → IsOperand (fields_of s) o
unfolding operand_of
operand-sound s t (array ds) o e =
    bound (ordered_reference s (array ds)) (alike t) o e (λ c a e1.
    let read = test_Ok (equality.ghosts.eq t (type_of c.1)) (Ok (operand.Column c.0)) _ o e1 in
    let same : operand.Column c.0 ≡ o = let q = read.1 in cc in
    subst (IsOperand (fields_of s)) same (reference-ordered s (array ds) c a))
operand-sound s t (string w) o e = constant-sound s t (string w) o e
operand-sound s t (integer z) o e = constant-sound s t (integer z) o e
operand-sound s t (float x) o e = constant-sound s t (float x) o e
operand-sound s t (boolean b) o e = constant-sound s t (boolean b) o e
operand-sound s t (datetime w) o e = constant-sound s t (datetime w) o e
operand-sound s t (table ms) o e = constant-sound s t (table ms) o e

comparison-sound :
    (s : Scope) (c : Comparison) (ds : Items) (f : Filter) → comparison_of s c ds ≡ Ok f → IsFilter (fields_of s) f
unfolding comparison_of
comparison-sound s c ds f e =
    bound (must fault.Shape (pair ds)) _ f e (λ parts a e1.
    bound (ordered_reference s parts.0) _ f e1 (λ column b e2.
    let read = mapped_Ok (compare c column.0) (operand_of s (type_of column.1) parts.1) f e2 in
    subst (IsFilter (fields_of s)) read.2 (
      reference-ordered s parts.0 column b,
      operand-sound s (type_of column.1) parts.1 read.0 read.1,
    )))

null-sound : (s : Scope) (ds : Items) (f : Filter) → null_of s ds ≡ Ok f → IsFilter (fields_of s) f
unfolding null_of
null-sound s ds f e =
    bound (must fault.Shape (sole ds)) _ f e (λ d a e1.
    let read = mapped_Ok (λ (c : Column). null_in c.0) (reference s d) f e1 in
    subst (IsFilter (fields_of s)) read.2 (column-there (fields_of s) read.0 (reference-at s d read.0 read.1)))

-- what reads filters that keep their rules
ReadsFilters : Scope → (Data → Reading Filter) → Type 0
ReadsFilters s below = (d : Data) (f : Filter) → below d ≡ Ok f → IsFilter (fields_of s) f

parts-sound :
    (s : Scope) (below : Data → Reading Filter) (ds : Items) (fs : List Filter) → ReadsFilters s below
    → each_item below ds ≡ Ok fs → AreFilters (fields_of s) (parts_of fs)
unfolding each_item ReadsFilters
parts-sound s below no_items fs reads e =
    let k : [] ≡ fs = cc in subst (λ (gs : List Filter). AreFilters (fields_of s) (parts_of gs)) k tt
parts-sound s below (item d ds) fs reads e =
    let p = both_Ok cons (below d) (each_item below ds) fs e in
    subst (λ (gs : List Filter). AreFilters (fields_of s) (parts_of gs)) p.4
    (reads d p.0 p.2, parts-sound s below ds p.1 reads p.3)

some-sound :
    (s : Scope) (below : Data → Reading Filter) (ds : Items) (fs : List Filter) → ReadsFilters s below
    → filters_in below ds ≡ Ok fs → AreFilters (fields_of s) (parts_of fs)
some-sound s below no_items fs reads e = cc
some-sound s below (item d ds) fs reads e = parts-sound s below (item d ds) fs reads e

negation-sound :
    (s : Scope) (below : Data → Reading Filter) (ds : Items) (f : Filter) → ReadsFilters s below
    → negation_of below ds ≡ Ok f → IsFilter (fields_of s) f
unfolding negation_of ReadsFilters
negation-sound s below ds f reads e =
    bound (must fault.Shape (sole ds)) _ f e (λ d a e1.
    let read = mapped_Ok negation (below d) f e1 in
    subst (IsFilter (fields_of s)) read.2 (reads d read.0 read.1))

by-sound :
    (s : Scope) (below : Data → Reading Filter) (w : List ℕ) (ds : Items) (f : Filter) (a b c n : Bool)
    → ReadsFilters s below
    → (if a then negation_of below ds
    else if b then mapped conjunction (filters_in below ds)
    else if c then mapped disjunction (filters_in below ds)
    else if n then null_of s ds
    else (must fault.Shape (comparison_by w) >>= λ k. comparison_of s k ds)) ≡ Ok f
    → IsFilter (fields_of s) f
by-sound s below w ds f true b c n reads e = negation-sound s below ds f reads e
by-sound s below w ds f false true c n reads e =
    let read = mapped_Ok conjunction (filters_in below ds) f e in
    subst (IsFilter (fields_of s)) read.2 (some-sound s below ds read.0 reads read.1)
by-sound s below w ds f false false true n reads e =
    let read = mapped_Ok disjunction (filters_in below ds) f e in
    subst (IsFilter (fields_of s)) read.2 (some-sound s below ds read.0 reads read.1)
by-sound s below w ds f false false false true reads e = null-sound s ds f e
by-sound s below w ds f false false false false reads e =
    bound (must fault.Shape (comparison_by w)) _ f e (λ k a e1. comparison-sound s k ds f e1)

with-sound :
    (s : Scope) (below : Data → Reading Filter) (d : Data) (f : Filter) → ReadsFilters s below
    → filter_with s below d ≡ Ok f → IsFilter (fields_of s) f
unfolding filter_with filter_by
with-sound s below (array ds) f reads e =
    bound (must fault.Shape (headed ds)) _ f e (λ p a e1.
    by-sound s below p.0 p.1 f (bytes_eq p.0 (codes "not")) (bytes_eq p.0 (codes "and")) (bytes_eq p.0 (codes "or"))
    (bytes_eq p.0 (codes "is_null")) reads e1)
with-sound s below (string w) f reads e = cc
with-sound s below (integer z) f reads e = cc
with-sound s below (float x) f reads e = cc
with-sound s below (boolean b) f reads e = cc
with-sound s below (datetime t) f reads e = cc
with-sound s below (table ms) f reads e = cc

filter-sound : (n : ℕ) (s : Scope) → ReadsFilters s (filter_of n s)
unfolding filter_of ReadsFilters
filter-sound zero s d f e = cc
filter-sound (suc n) s d f e = with-sound s (filter_of n s) d f (filter-sound n s) e

pub whole-sound : (s : Scope) (d : Data) (f : Filter) → whole_filter s d ≡ Ok f → IsFilter (fields_of s) f
unfolding whole_filter ReadsFilters
whole-sound s d f e =
    bound (filter_of max_filter_depth s d) _ f e (λ g a e1.
    bound (refused_if fault.OverLimit (nat_lt max_filter_parts (filter_size g))) _ f e1 (λ u b e2.
    let same : g ≡ f = cc in
    subst (IsFilter (fields_of s)) same (filter-sound max_filter_depth s d g a)))
