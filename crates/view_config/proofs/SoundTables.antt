-- A table that was read keeps its rules.
use Rattle.std.proofs.Common.{◌≡◌, ℕ, suc, ◌≤◌, Bool, true, false, Ok, refl, ap, sym, subst, arith, ◌&&◌, ◌∙◌}
use Rattle.std.specs.Prelude.{codes, nat_le, nat_lt, not, length, List, [], Option, Some, slice_get}
use Rattle.std.specs.Ordering.{match_ordering, nat_cmp}
use Rattle.std.specs.Cmp.Lexicographic.{slice_cmp}
use Rattle.std.proofs.Common.{Ordering, Less, Equal, Greater}
use Rattle.std.proofs.lemmas.Bool.{and_parts, leb-true}
use Rattle.toml.specs.Data.{as_str, Data, string, integer, float, boolean, datetime, array, table, Items, no_items}
use Rattle.toml.specs.Data.{item, Members, no_members, member, get_member}
use Rattle.values.specs.Layouts.{null_weight}
use Rattle.values.specs.Limits.{max_depth, max_fields, max_main_rows, max_null_weight}
use Rattle.values.specs.Logical.{NamedType, trees_of}
use Rattle.values.specs.Reading.{◌>>=◌, cons, first, must, refused_if}
use Rattle.values.specs.Rose.{Rose, Roses, none, more, node, kids_of, roses_size}
use Rattle.values.proofs.Readings.{both_Ok, mapped_Ok, must_Ok}
use Rattle.values.specs.declared.layout.Layout.{Layout}
use Rattle.view_lang.specs.Config.{Table}
use Rattle.view_lang.specs.TableRules.{AreColumns, AreSlim, IsKeyColumn, IsSlim, IsTable, type_of}
use Rattle.view_lang.specs.Limits.{max_columns}
use Rattle.view_config.specs.Columns.{find, ordered}
use Rattle.view_config.specs.Reading.{Reading}
use Rattle.view_config.specs.Tree.{count_items, each_item, items_in, members_in, needed, only, pair_in, text_in}
use Rattle.view_config.specs.Limits.{column_limits, column_name, few_fields, null_weight_fits, null_weights_fit}
use Rattle.view_config.specs.ColumnTypes.{field_of}
use Rattle.view_config.specs.Tables.{column_of, columns_of, few_columns, key_of, keyed, main_of, ordered_column}
use Rattle.view_config.specs.Tables.{table_entries, table_of}
use Rattle.view_config.specs.declared.faults.ConfigFault.{ConfigFault}
use Rattle.view_config.specs.declared.faults.ConfigFault.TheVariants as fault
use Rattle.view_config.proofs.Found.{found-at, order-single, ordered-same}
use Rattle.view_config.proofs.Readings.{bound}
use Rattle.view_config.proofs.SoundFields.{IsColumn, column-sound, items-fields, pair_in-textual, string-textual}
use Rattle.view_config.proofs.Texts.{AreTextual, HasTextual, IsTextual}

-- what a test that is passed says
pub passed : (c : ConfigFault) (b : Bool) (u : Unit {0}) → refused_if c b ≡ Ok u → b ≡ false
passed c true u e = cc
passed c false u e = refl

pub few-sound : (fs : List (Rose NamedType)) (u : Unit {0}) → few_fields fs ≡ Ok u
    → roses_size (kids_of fs) ≤ max_fields
few-sound fs u e =
    let p = passed fault.OverLimit (nat_lt max_fields (roses_size (kids_of fs))) u e in
    grind (arith, p)

-- as many as the items that they are read from
pub items-length :
    {X : Type 0} (f : Data → Reading X) (ds : Items) (xs : List X) → each_item f ds ≡ Ok xs → length xs ≡ count_items ds
unfolding each_item
items-length f no_items xs e = let k : [] ≡ xs = cc in ap length (sym k)
items-length f (item d ds) xs e =
    let p = both_Ok cons (f d) (each_item f ds) xs e in
    ap length (sym p.4) ∙ ap suc (items-length f ds p.1 p.3)

pub columns-some : (ds : Items) (u : Unit {0}) → few_columns ds ≡ Ok u
    → (1 ≤ count_items ds) × (count_items ds ≤ max_columns)
columns-some ds u e =
    let p = passed fault.OverLimit (not (nat_le 1 (count_items ds) && nat_le (count_items ds) max_columns)) u e in
    let q = not-false (nat_le 1 (count_items ds) && nat_le (count_items ds) max_columns) p in
    let r = and_parts (nat_le 1 (count_items ds)) (nat_le (count_items ds) max_columns) q in
    (leb-true 1 (count_items ds) r.0, leb-true (count_items ds) max_columns r.1)
  where
    not-false : (b : Bool) → not b ≡ false → b ≡ true
    not-false true h = refl
    not-false false h = cc

pub items-textual : (d : Data) (ds : Items) → items_in d ≡ Ok ds → IsTextual d → AreTextual ds
items-textual (array es) ds e h = let q : es ≡ ds = cc in subst AreTextual q h
items-textual (string s) ds e h = cc
items-textual (integer z) ds e h = cc
items-textual (float x) ds e h = cc
items-textual (boolean b) ds e h = cc
items-textual (datetime t) ds e h = cc
items-textual (table ms) ds e h = cc

pub members-textual : (d : Data) (ms : Members) → members_in d ≡ Ok ms → IsTextual d → HasTextual ms
members-textual (table ns) ms e h = let q : ns ≡ ms = cc in subst HasTextual q h
members-textual (string s) ms e h = cc
members-textual (integer z) ms e h = cc
members-textual (float x) ms e h = cc
members-textual (boolean b) ms e h = cc
members-textual (datetime t) ms e h = cc
members-textual (array ds) ms e h = cc

choice :
    (o : Ordering) (a b : Option Data) (d e : Data) → match_ordering o a (Some d) b ≡ Some e → (d ≡ e → IsTextual e)
    → (a ≡ Some e → IsTextual e)
    → (b ≡ Some e → IsTextual e) → IsTextual e
choice Less a b d e h f g k = g h
choice Equal a b d e h f g k = f cc
choice Greater a b d e h f g k = k h

pub entry-textual : (key : List ℕ) (ms : Members) (d : Data) → get_member key ms ≡ Some d → HasTextual ms → IsTextual d
entry-textual key no_members d e h = cc
entry-textual key (member l f ms) d e h =
    choice (slice_cmp nat_cmp key l) (get_member key ms) (get_member key ms) f d e (λ q. subst IsTextual q h.0)
    (λ q. entry-textual key ms d q h.1) (λ q. entry-textual key ms d q h.1)

pub needed-textual : (key : List ℕ) (ms : Members) (d : Data) → needed key ms ≡ Ok d → HasTextual ms → IsTextual d
needed-textual key ms d e h = entry-textual key ms d (must_Ok fault.Shape (get_member key ms) d e) h

mutual
  slim-sound : (t : Rose Layout) → null_weight_fits t ≡ true → IsSlim t
  slim-sound (node l kids) e =
      let p = and_parts (nat_le (null_weight (node l kids)) max_null_weight) (null_weights_fit kids) e in
      (leb-true (null_weight (node l kids)) max_null_weight p.0, slims-sound kids p.1)

  slims-sound : (ts : Roses Layout) → null_weights_fit ts ≡ true → AreSlim ts
  slims-sound none e = tt
  slims-sound (more t ts) e = let p = and_parts (null_weight_fits t) (null_weights_fit ts) e in
      (slim-sound t p.0, slims-sound ts p.1)

column_of-sound : (d : Data) (f : Rose NamedType) → IsTextual d → column_of d ≡ Ok f → IsColumn max_depth f
unfolding column_of
column_of-sound d f t e =
    bound (must fault.Shape (pair_in d)) _ f e (λ parts a e1.
    bound (must fault.Shape (as_str parts.0)) _ f e1 (λ name b e2.
    let read = both_Ok first (field_of max_depth name parts.1) (column_name name) f e2 in
    let texts = pair_in-textual d parts (must_Ok fault.Shape (pair_in d) parts a) t in
    let text = string-textual parts.0 name (must_Ok fault.Shape (as_str parts.0) name b) texts.0 in
    subst (IsColumn max_depth) read.4 (column-sound max_depth name read.1 parts.1 read.0 read.3 text texts.1 read.2)))

columns-sound : (d : Data) (cs : List (Rose NamedType)) → IsTextual d → columns_of d ≡ Ok cs → AreColumns cs
unfolding columns_of column_limits
columns-sound d cs t e =
    bound (items_in d) _ cs e (λ ds a e1.
    bound (few_columns ds) _ cs e1 (λ u b e2.
    bound (each_item column_of ds) _ cs e2 (λ fs c e3.
    bound (column_limits fs) _ cs e3 (λ v f e4.
    bound (few_fields fs) _ v f (λ x few f1.
    bound (refused_if fault.OverLimit (not (null_weights_fit (trees_of (kids_of fs))))) _ v f1 (λ y slim f2.
    let count = columns-some ds u b in
    let long = items-length column_of ds fs c in
    let fields = items-fields max_depth column_of ds fs column_of-sound (items-textual d ds a t) c in
    let light = slims-sound (trees_of (kids_of fs))
    (slim-true (null_weights_fit (trees_of (kids_of fs))) (passed fault.OverLimit _ y slim)) in
    let same : fs ≡ cs = cc in
    subst AreColumns same (record {
      some = omega (arith, count.0, long);
      few = omega (arith, count.1, long);
      small = few-sound fs x few;
      shallow = fields.shallow;
      within = fields.within;
      slim = light;
      layouts = fields.layouts;
      logical = fields.logical;
    })))))))
  where
    slim-true : (b : Bool) → not b ≡ false → b ≡ true
    slim-true true h = refl
    slim-true false h = cc

key-sound : (cs : List (Rose NamedType)) (name : List ℕ) (k : ℕ) → key_of cs name ≡ Ok k → IsKeyColumn k cs
unfolding ordered_column
key-sound cs name k e =
    let named = mapped_Ok (λ (f : ℕ × Rose NamedType). f.0) (ordered_column cs name) k e in
    bound (must fault.UnknownName (find 0 name cs)) ordered named.0 named.1 (λ p a e1.
    let found = found-at cs name p (must_Ok fault.UnknownName (find 0 name cs) p a) in
    let order = ordered-same p named.0 e1 in
    let number : p.0 ≡ k = ap (λ (f : ℕ × Rose NamedType). f.0) order.0 ∙ named.2 in
    (p.1, subst (λ (i : ℕ). slice_get cs i ≡ Some p.1) number found, order-single (type_of p.1) order.1))

-- a table of at most this many rows
pub table-sound :
    (rows : ℕ) (ms : Members) (t : Table) → rows ≤ max_main_rows → HasTextual ms → table_of rows ms ≡ Ok t
    → IsTable t × (t.max_rows ≡ rows)
unfolding table_of
table-sound rows ms t few h e =
    bound (only table_entries ms) _ t e (λ u a e1.
    bound (needed (codes "key") ms >>= text_in) _ t e1 (λ name b e2.
    bound (needed (codes "columns") ms >>= columns_of) _ t e2 (λ cs c e3.
    bound (needed (codes "columns") ms) columns_of cs c (λ d there read.
    let made = mapped_Ok (keyed rows cs) (key_of cs name) t e3 in
    let fields = columns-sound d cs (needed-textual (codes "columns") ms d there h) read in
    subst (λ (u : Table). IsTable u × (u.max_rows ≡ rows)) made.2
    (record { columns = fields; key = key-sound cs name made.0 made.1; few = few }, refl)))))

pub main-sound : (ms : Members) (t : Table) → HasTextual ms → main_of ms ≡ Ok t
    → IsTable t × (t.max_rows ≡ max_main_rows)
unfolding main_of
main-sound ms t h e =
    bound (needed (codes "main") ms >>= members_in) (table_of max_main_rows) t e (λ ns a e1.
    bound (needed (codes "main") ms) members_in ns a (λ d there read.
    table-sound max_main_rows ns t (omega arith)
    (members-textual d ns read (needed-textual (codes "main") ms d there h)) e1))
