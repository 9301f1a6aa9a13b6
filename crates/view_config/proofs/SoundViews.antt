-- A view that was read keeps its rules.
use Rattle.std.proofs.Common.{◌≡◌, ℕ, suc, ◌≤◌, List, [], ◌∷◌, ◌++◌, length, map, refl, ap, sym, subst, ◌∙◌, arith, Ok, Option, Some, None, slice_get, append-nil}
use Rattle.std.specs.Prelude.{All, codes, not}
use Rattle.std.specs.Option.{option_map}
use Rattle.std.proofs.lemmas.Option.{get_or_from_slice_get, slice_get_within, slice_get-map}
use Rattle.toml.specs.Data.{as_str, Data, Members, get_member}
use Rattle.toml.specs.View.{view}
use Rattle.toml.specs.declared.value.Value.{Value}
use Rattle.values.specs.Coded.{AreCoded}
use Rattle.values.specs.Limits.{max_fields}
use Rattle.values.specs.Logical.{NamedType}
use Rattle.values.specs.Reading.{◌>>=◌, must, refused_if}
use Rattle.values.specs.Rose.{Rose, kids_of, roses_size}
use Rattle.values.proofs.Readings.{mapped_Ok, must_Ok}
use Rattle.view_lang.specs.Config.{SideTable, Table, View}
use Rattle.view_lang.specs.ConfigRules.{AreOutputs, IsFilter, IsFilterOf, IsHaving, IsLookup, IsView}
use Rattle.view_lang.specs.Fields.{IsOrdered}
use Rattle.view_lang.specs.Limits.{max_columns}
use Rattle.view_lang.specs.Filter.{Filter}
use Rattle.view_lang.specs.Outputs.{Outputs, columns, groups}
use Rattle.view_lang.specs.TableRules.{IsSideTable, type_of}
use Rattle.view_lang.specs.ViewColumns.{joined_columns, output_fields}
use Rattle.view_lang.specs.World.{no_table, table_at}
use Rattle.view_lang.specs.declared.view.Lookup.{Lookup}
use Rattle.view_lang.specs.declared.view.OrderBy.{OrderBy}
use Rattle.view_config.specs.Columns.{find, ordered}
use Rattle.view_config.specs.Dict.{dict_in}
use Rattle.view_config.specs.Entries.{entry_name}
use Rattle.view_config.specs.Filters.{whole_filter}
use Rattle.view_config.specs.Lookups.{Looked, has_key_of, looked_up, lookup_entries, lookup_of, missing_by}
use Rattle.view_config.specs.Outputs.{distinct_numbers, group_of, outputs_of}
use Rattle.view_config.specs.Scope.{Column, Scope, fields_of, group_scope}
use Rattle.view_config.specs.Sides.{side_called}
use Rattle.view_config.specs.Tables.{key_of, ordered_column}
use Rattle.view_config.specs.Tree.{each_item, items_in, members_in, needed, only, pair_in, text_in}
use Rattle.view_config.specs.Views.{direction_by, first_of, lookup_alone, numbers_of, order_by_of, order_in, order_of, having_in, perhaps, scope_of, sorted_by, view_entries, view_in, view_named, view_of}
use Rattle.view_config.specs.declared.faults.ConfigFault.TheVariants as fault
use Rattle.view_config.proofs.Found.{found-at, ordered-column, side-at}
use Rattle.view_config.proofs.Readings.{bound, items_all}
use Rattle.view_config.proofs.SoundDict.{dict-in-sound}
use Rattle.view_config.proofs.SoundFilters.{whole-sound}
use Rattle.view_config.proofs.SoundOutputs.{AreGrouping, group-sound, outputs-sound}
use Rattle.view_config.proofs.SoundTables.{members-textual, needed-textual}
use Rattle.view_config.proofs.Texts.{HasTextual, IsTextual, value-textual}

-- the tables of a configuration, by number
abbrev pub tables : Table → List SideTable → List Table
tables main sides = main ∷ map (λ s. s.table) sides

column-order : (cs : List (Rose NamedType)) (n : List ℕ) (c : Column) → ordered_column cs n ≡ Ok c → IsOrdered cs c.0
unfolding ordered_column
column-order cs n c e =
    bound (must fault.UnknownName (find 0 n cs)) ordered c e (λ p a e1.
    ordered-column cs p c (found-at cs n p (must_Ok fault.UnknownName (find 0 n cs) p a)) e1)

-- a side table by its number among the tables
table-there : (main : Table) (sides : List SideTable) (k : ℕ) (s : SideTable) → slice_get sides k ≡ Some s
    → table_at (tables main sides) (suc k) ≡ s.table
table-there main sides k s e =
    get_or_from_slice_get (map (λ t. t.table) sides) k s.table no_table
    (slice_get-map (λ t. t.table) sides k ∙ ap (option_map (λ t. t.table)) e)

count-map : {X Y : Type 0} (f : X → Y) (xs : List X) → length (map f xs) ≡ length xs
count-map f [] = refl
count-map f (x ∷ xs) = ap suc (count-map f xs)

-- those that are looked up are side tables
side-table : (sides : List SideTable) (k : ℕ) (s : SideTable) → All (λ s. IsSideTable s.table) sides
    → slice_get sides k ≡ Some s → IsSideTable s.table
side-table sides k s are at =
    subst (λ (t : SideTable). IsSideTable t.table) (get_or_from_slice_get sides k s s at)
    (are k s (slice_get_within sides k s at))

-- a lookup that was read, in its side table
record IsLooked (main : Table) (sides : List SideTable) (l : Looked) : Type 0 where
  rules : IsLookup (tables main sides) (Some l.0)
  table : table_at (tables main sides) (suc l.0.side) ≡ l.1.table

lookup-sound :
    (main : Table) (sides : List SideTable) (d : Data) (l : Looked) → All (λ s. IsSideTable s.table) sides
    → lookup_of main sides d ≡ Ok l
    → IsLooked main sides l
unfolding lookup_of
lookup-sound main sides d l are e =
    bound (members_in d) _ l e (λ ms a e1.
    bound (only lookup_entries ms) _ l e1 (λ u b e2.
    bound (needed (codes "side") ms >>= text_in) _ l e2 (λ side_name c e3.
    bound (needed (codes "on") ms >>= text_in) _ l e3 (λ on_name f e4.
    bound (needed (codes "missing") ms >>= text_in) _ l e4 (λ word g e5.
    bound (must fault.Shape (missing_by word)) _ l e5 (λ m h e6.
    bound (side_called sides side_name) _ l e6 (λ side i e7.
    bound (ordered_column main.columns on_name) _ l e7 (λ on j e8.
    bound (refused_if fault.ConstantType (not (has_key_of (type_of on.1) side.1.table))) _ l e8 (λ v k e9.
    let at = side-at sides side_name side i in
    let within = slice_get_within sides side.0 side.1 at in
    let count = count-map (λ (t : SideTable). t.table) sides in
    let there = table-there main sides side.0 side.1 at in
    let same : looked_up side on.0 m ≡ l = cc in
    subst (IsLooked main sides) same (record {
      rules = (
        omega (arith, within, count),
        column-order main.columns on_name on j,
        ap (λ (t : Table). length t.columns) (sym there),
        subst IsSideTable (sym there) (side-table sides side.0 side.1 are at),
      );
      table = there;
    }))))))))))

order-by-sound : (fields : List (Rose NamedType)) (d : Data) (o : OrderBy) → order_by_of fields d ≡ Ok o
    → IsOrdered fields o.column
unfolding order_by_of
order-by-sound fields d o e =
    bound (must fault.Shape (pair_in d)) _ o e (λ parts a e1.
    bound (must fault.Shape (as_str parts.0)) _ o e1 (λ name b e2.
    bound (must fault.Shape (as_str parts.1)) _ o e2 (λ word c e3.
    bound (must fault.Shape (direction_by word)) _ o e3 (λ towards f e4.
    let read = mapped_Ok (sorted_by towards) (key_of fields name) o e4 in
    let key = mapped_Ok (λ (k : Column). k.0) (ordered_column fields name) read.0 read.1 in
    let order = subst (IsOrdered fields) key.2 (column-order fields name key.0 key.1) in
    subst (λ (p : OrderBy). IsOrdered fields p.column) read.2 order))))

AreOrdered : List (Rose NamedType) → List OrderBy → Type 0
AreOrdered fields os = All (λ o. IsOrdered fields o.column) os

order-sound : (fields : List (Rose NamedType)) (d : Data) (os : List OrderBy) → order_of fields d ≡ Ok os
    → AreOrdered fields os
unfolding order_of AreOrdered
order-sound fields d os e =
    bound (items_in d) _ os e (λ ds a e1.
    bound (each_item (order_by_of fields) ds) _ os e1 (λ ps b e2.
    bound (distinct_numbers (numbers_of ps)) _ os e2 (λ u c e3.
    let same : ps ≡ os = cc in
    subst (AreOrdered fields) same
    (items_all (λ (o : OrderBy). IsOrdered fields o.column) (order_by_of fields) ds ps (order-by-sound fields) b))))

order-in-sound : (fields : List (Rose NamedType)) (o : Option Data) (os : List OrderBy) → order_in fields o ≡ Ok os
    → AreOrdered fields os
unfolding AreOrdered
order-in-sound fields None os e =
    let none : [] ≡ os = cc in subst (AreOrdered fields) none (λ k d h. absurd (omega (arith, h)))
order-in-sound fields (Some d) os e = order-sound fields d os e

filter-in-sound : (s : Scope) (o : Option Data) (f : Option Filter) → perhaps (whole_filter s) o ≡ Ok f
    → IsFilterOf (fields_of s) f
filter-in-sound s None f e = let none : None ≡ f = cc in subst (IsFilterOf (fields_of s)) none tt
filter-in-sound s (Some d) f e =
    let read = mapped_Ok (λ (g : Filter). Some g) (whole_filter s d) f e in
    subst (IsFilterOf (fields_of s)) read.2 (whole-sound s d read.0 read.1)

group-in-sound : (s : Scope) (o : Option Data) (g : Option (List ℕ)) → perhaps (group_of s) o ≡ Ok g → AreGrouping s g
unfolding AreGrouping
group-in-sound s None g e = let none : None ≡ g = cc in subst (AreGrouping s) none tt
group-in-sound s (Some d) g e =
    let read = mapped_Ok (λ (by : List ℕ). Some by) (group_of s d) g e in
    subst (AreGrouping s) read.2 (group-sound s d read.0 read.1)

-- outputs that were read keep their rules, before it is read which groups are shown
pub outputs-ready :
    (s : Scope) (o : Option Data) (g : Option (List ℕ)) (v : Value) (os : Outputs) → perhaps (group_of s) o ≡ Ok g
    → outputs_of s g (view v) ≡ Ok os → AreOutputs (fields_of s) os
outputs-ready s o g v os e f = (outputs-sound s g (view v) os (group-in-sound s o g e) (value-textual v) f).rules

-- The filter of groups leaves the columns as they are.
record IsShown (fields : List (Rose NamedType)) (all os : Outputs) : Type 0 where
  rules : AreOutputs fields os
  made : output_fields fields os ≡ output_fields fields all
  having : IsHaving (output_fields fields os) os

having-sound :
    (s : Scope) (all : Outputs) (o : Option Data) (os : Outputs) → AreOutputs (fields_of s) all
    → IsHaving (output_fields (fields_of s) all) all
    → having_in (output_fields (fields_of s) all) all o ≡ Ok os → IsShown (fields_of s) all os
unfolding having_in
having-sound s all None os rules none e =
    let same : all ≡ os = cc in
    subst (IsShown (fields_of s) all) same (record { rules = rules; made = refl; having = none })
having-sound s (columns outputs) (Some d) os rules none e = cc
having-sound s (groups by outputs having) (Some d) os rules none e =
    let fields : List (Rose NamedType) = output_fields (fields_of s) (groups by outputs having) in
    let read = mapped_Ok (λ (f : Filter). groups by outputs (Some f)) (whole_filter (group_scope fields) d) os e in
    let kept = subst (λ (fs : List (Rose NamedType)). IsFilter fs read.0) (append-nil fields)
    (whole-sound (group_scope fields) d read.0 read.1) in
    subst (IsShown (fields_of s) (groups by outputs having)) read.2
    (record { rules = rules; made = refl; having = kept })

-- Outputs that were read with such a filter keep their rules.
pub shown-ready :
    (s : Scope) (g o : Option Data) (by : Option (List ℕ)) (v : Value) (all os : Outputs)
    → perhaps (group_of s) g ≡ Ok by → outputs_of s by (view v) ≡ Ok all
    → having_in (output_fields (fields_of s) all) all o ≡ Ok os → AreOutputs (fields_of s) os
shown-ready s g o by v all os e f h =
    let read = outputs-sound s by (view v) all (group-in-sound s g by e) (value-textual v) f in
    (having-sound s all o os read.rules read.having h).rules

view-in-sound :
    (ts : List Table) (s : Scope) (name : List ℕ) (lookup : Option Lookup) (ms : Members) (v : View) → HasTextual ms
    → IsLookup ts lookup → fields_of s ≡ joined_columns ts lookup → view_in s name lookup ms ≡ Ok v → IsView ts v
unfolding view_in AreOrdered
view-in-sound ts s name lookup ms v t looked joined e =
    bound (perhaps (whole_filter s) (get_member (codes "filter") ms)) _ v e (λ filter a e1.
    bound (perhaps (group_of s) (get_member (codes "group") ms)) _ v e1 (λ group b e2.
    bound (needed (codes "columns") ms >>= outputs_of s group) _ v e2 (λ all c e3.
    bound (having_in (output_fields (fields_of s) all) all (get_member (codes "having") ms)) _ v e3 (λ os h e4.
    bound (order_in (output_fields (fields_of s) os) (get_member (codes "order") ms)) _ v e4 (λ order f e5.
    bound (needed (codes "columns") ms) (outputs_of s group) all c (λ d there read.
    bound (dict_in (output_fields (fields_of s) os) (get_member (codes "dict") ms)) _ v e5 (λ coded i e6.
    let made = mapped_Ok (view_named name lookup filter os order coded)
    (perhaps first_of (get_member (codes "first") ms)) v e6 in
    let grouping = group-in-sound s (get_member (codes "group") ms) group b in
    let read_all = outputs-sound s group d all grouping (needed-textual (codes "columns") ms d there t) read in
    let shown = having-sound s all (get_member (codes "having") ms) os read_all.rules read_all.having h in
    let Sizes : List (Rose NamedType) → Type 0 = λ fields.
    (1 ≤ length fields) × (length fields ≤ max_columns) × (roses_size (kids_of fields) ≤ max_fields) in
    let sizes = subst Sizes (sym shown.made) (read_all.some, read_all.few, read_all.small) in
    let sorted = order-in-sound (output_fields (fields_of s) os) (get_member (codes "order") ms) order f in
    let texts = dict-in-sound (output_fields (fields_of s) os) (get_member (codes "dict") ms) coded i in
    let kept = filter-in-sound s (get_member (codes "filter") ms) filter a in
    let Rules : List (Rose NamedType) → Type 0 = λ fields.
    IsFilterOf fields filter × AreOutputs fields os × (1 ≤ length (output_fields fields os))
    × (length (output_fields fields os) ≤ max_columns)
    × (roses_size (kids_of (output_fields fields os)) ≤ max_fields) × IsHaving (output_fields fields os) os
    × All (λ (o : OrderBy). IsOrdered (output_fields fields os) o.column) order
    × AreCoded coded (output_fields fields os) in
    let rules = subst Rules joined (kept, shown.rules, sizes.0, sizes.1, sizes.2, shown.having, sorted, texts) in
    subst (IsView ts) made.2 (record {
      lookup = looked;
      filter = rules.0;
      outputs = rules.1;
      some = rules.2;
      few = rules.3;
      small = rules.4;
      having = rules.5;
      order = rules.6;
      coded = rules.7;
    }))))))))

-- the columns that a view can name are those of the rows that it is made of
looked-sound :
    (main : Table) (sides : List SideTable) (o : Option Data) (l : Option Looked)
    → All (λ s. IsSideTable s.table) sides → perhaps (lookup_of main sides) o ≡ Ok l
    → IsLookup (tables main sides) (lookup_alone l)
    × (fields_of (scope_of main l) ≡ joined_columns (tables main sides) (lookup_alone l))
looked-sound main sides None l are e =
    let none : None ≡ l = cc in
    subst (λ (m : Option Looked). IsLookup (tables main sides) (lookup_alone m)
    × (fields_of (scope_of main m) ≡ joined_columns (tables main sides) (lookup_alone m))) none
    (tt, append-nil main.columns)
looked-sound main sides (Some d) l are e =
    let read = mapped_Ok (λ (m : Looked). Some m) (lookup_of main sides d) l e in
    let looked = lookup-sound main sides d read.0 are read.1 in
    subst (λ (m : Option Looked). IsLookup (tables main sides) (lookup_alone m)
    × (fields_of (scope_of main m) ≡ joined_columns (tables main sides) (lookup_alone m))) read.2
    (looked.rules, ap (λ (t : Table). main.columns ++ t.columns) (sym looked.table))

pub view-sound :
    (main : Table) (sides : List SideTable) → All (λ s. IsSideTable s.table) sides → (key : List ℕ) (d : Data) (v : View)
    → IsTextual d → view_of main sides key d ≡ Ok v → IsView (tables main sides) v
unfolding view_of
view-sound main sides are key d v t e =
    bound (members_in d) _ v e (λ ms a e1.
    bound (only view_entries ms) _ v e1 (λ u b e2.
    bound (entry_name key) _ v e2 (λ name c e3.
    bound (perhaps (lookup_of main sides) (get_member (codes "lookup") ms)) _ v e3 (λ l f e4.
    let looked = looked-sound main sides (get_member (codes "lookup") ms) l are f in
    view-in-sound (tables main sides) (scope_of main l) name (lookup_alone l) ms v (members-textual d ms a t) looked.0
    looked.1 e4))))
