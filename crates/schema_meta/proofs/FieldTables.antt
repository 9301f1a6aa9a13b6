-- The tables of fields, one after another.
use Rattle.std.proofs.Common.{
  ◌≡◌,
  ℕ,
  suc,
  ◌+◌,
  ◌<◌,
  List,
  [],
  ◌∷◌,
  ◌++◌,
  length,
  get_or,
  take,
  Option,
  None,
  Some,
  refl,
  ap,
  sym,
  ◌∙◌,
  arith,
}
use Rattle.std.specs.Prelude.{if◌then◌else◌}
use Rattle.std.proofs.lemmas.List.{length-take, take_more}
use Rattle.flatbuf.specs.Tree.{absent, table, no_nodes, node as and_node}
use Rattle.flatbuf.specs.Built.{add}
use Rattle.values.specs.Rose.{Rose, node, kids_of}
use Rattle.values.proofs.Roses.{kid_smaller}
use Rattle.values.specs.Logical.{NamedType}
use Rattle.values.specs.Coded.{is_coded}
use Rattle.schema_meta.specs.SchemaTree.{
  column_slots,
  column_tables,
  dictionary_node,
  field_slots,
  field_tables,
  slots_of,
}

tables-append :
    (fs : List (Rose NamedType)) (f : Rose NamedType)
    → field_tables (kids_of (fs ++ f ∷ [])) ≡ add (field_tables (kids_of fs)) (table (field_slots f))
tables-append [] f = refl
tables-append (g ∷ fs) f = ap (λ r. and_node (table (field_slots g)) r) (tables-append fs f)

plain-slots : (f : Rose NamedType) → field_slots f ≡ slots_of absent f
plain-slots (node f kids) = refl

-- one more field is in the vector
pub tables_step :
    (fs : List (Rose NamedType)) (k : ℕ) (e d : Rose NamedType) → e ≡ get_or fs k d → k < length fs
    → field_tables (kids_of (take (k + 1) fs)) ≡ add (field_tables (kids_of (take k fs))) (table (slots_of absent e))
tables_step fs k e d is below =
    rw (take_more fs k d below)
    (tables-append (take k fs) (get_or fs k d)
    ∙ ap (λ g. add (field_tables (kids_of (take k fs))) (table (field_slots g))) (sym is)
    ∙ ap (λ s. add (field_tables (kids_of (take k fs))) (table s)) (plain-slots e))

pub ruleset field_tables_made = (tables_step, kid_smaller)

columns-append :
    (coded : List ℕ) (j m : ℕ) (fs : List (Rose NamedType)) (f : Rose NamedType) → j + length fs ≡ m
    → column_tables coded j (fs ++ f ∷ []) ≡ add (column_tables coded j fs) (table (column_slots coded m f))
columns-append coded j m [] f same =
    let is : j ≡ m = omega (arith, same) in ap (λ k. and_node (table (column_slots coded k f)) no_nodes) is
columns-append coded j m (g ∷ fs) f same =
    ap (λ r. and_node (table (column_slots coded j g)) r) (columns-append coded (suc j) m fs f (omega (arith, same)))

-- one more column is in the vector
pub columns_step :
    (coded : List ℕ) (fs : List (Rose NamedType)) (k : ℕ) (e d : Rose NamedType) (o : Option ℕ) → e ≡ get_or fs k d
    → k < length fs → o ≡ (if is_coded coded k then Some k else None)
    → column_tables coded 0 (take (k + 1) fs)
    ≡ add (column_tables coded 0 (take k fs)) (table (slots_of (dictionary_node o) e))
columns_step coded fs k e d o is below has =
    let cut = length-take k fs in
    ap (column_tables coded 0) (take_more fs k d below)
    ∙ columns-append coded 0 k (take k fs) (get_or fs k d) (omega (arith, cut, below))
    ∙ ap (λ g. add (column_tables coded 0 (take k fs)) (table (column_slots coded k g))) (sym is)
    ∙ ap (λ q. add (column_tables coded 0 (take k fs)) (table (slots_of (dictionary_node q) e))) (sym has)

pub ruleset column_tables_made = (columns_step)
