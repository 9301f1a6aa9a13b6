-- Fields that were read keep the rules of columns.
use Rattle.std.proofs.Common.{◌≡◌, ℕ, zero, suc, ◌≤◌, Bool, true, false, Ok, refl, subst, arith, ◌&&◌}
use Rattle.std.specs.Prelude.{codes, nat_le, length, map, slice_index, ◌<◌, List, [], ◌∷◌, Some, if◌then◌else◌}
use Rattle.std.specs.Str.{bytes_eq, is_utf8}
use Rattle.std.proofs.lemmas.Bool.{and_parts, leb-true}
use Rattle.std.proofs.lemmas.Str.{is_utf8-from_IsUtf8, IsUtf8-from_ascii}
use Rattle.toml.specs.Data.{as_str, Data, string, integer, float, boolean, datetime, array, table, Items, no_items}
use Rattle.toml.specs.Data.{item}
use Rattle.values.specs.Layouts.{AreLayouts, IsLayout}
use Rattle.values.specs.Logical.{AreLogical, IsLogical, NamedType, child_name, item_name, tree_of, trees_of}
use Rattle.values.specs.Reading.{cons, first, mapped, must}
use Rattle.values.specs.Rose.{Rose, Roses, none, more, kids_of, rose_depth, roses_depth}
use Rattle.values.proofs.Readings.{both_Ok, mapped_Ok, must_Ok}
use Rattle.values.specs.declared.layout.OffsetWidth.TheVariants as offset
use Rattle.values.specs.declared.col_type.ColType.{ColType}
use Rattle.values.specs.declared.col_type.ColType.TheVariants as col
use Rattle.view_lang.specs.TableRules.{AreWithin, IsName, IsWithin}
use Rattle.view_lang.specs.Limits.{max_column_name_len}
use Rattle.view_config.specs.Columns.{name_of}
use Rattle.view_config.specs.Reading.{Reading}
use Rattle.view_config.specs.Tree.{each_item, headed, pair_in, sole}
use Rattle.view_config.specs.ColumnTypes.{array_of, child_of, field_of, leaf, list_of, nested, plain_type, simple_of}
use Rattle.view_config.specs.ColumnTypes.{struct_of, type_by}
use Rattle.view_config.specs.Limits.{column_name, distinct, few_fields}
use Rattle.view_config.specs.declared.faults.ConfigFault.TheVariants as fault
use Rattle.view_config.proofs.Readings.{bound, test_Ok}
use Rattle.view_config.proofs.SoundTypes.{IsPlain, pair-textual, plain-sound, simple-sound}
use Rattle.view_config.proofs.Texts.{AreTextual, IsTextual}

-- a field of this name, nested to at most this many levels
record IsField (n : ℕ) (name : List ℕ) (f : Rose NamedType) : Type 0 where
  shallow : rose_depth f ≤ n
  within : IsWithin f
  layout : IsLayout (tree_of f)
  logical : (parent : ColType) → child_name parent name ≡ name → IsLogical parent f

-- a column, or a child of a struct
pub record IsColumn (n : ℕ) (f : Rose NamedType) : Type 0 where
  pub shallow : rose_depth f ≤ n
  pub within : IsWithin f
  pub layout : IsLayout (tree_of f)
  pub logical : IsLogical col.Struct f

pub record AreFields (n : ℕ) (fs : Roses NamedType) : Type 0 where
  pub shallow : roses_depth fs ≤ n
  pub within : AreWithin fs
  pub layouts : AreLayouts (trees_of fs)
  pub logical : AreLogical col.Struct fs

column-of : (n : ℕ) (name : List ℕ) (f : Rose NamedType) → IsField n name f → IsColumn n f
column-of n name f h =
    record { shallow = h.shallow; within = h.within; layout = h.layout; logical = h.logical col.Struct refl }

no-fields : (n : ℕ) → AreFields n none
no-fields n = record { shallow = omega arith; within = tt; layouts = tt; logical = tt }

more-fields : (n : ℕ) (f : Rose NamedType) (fs : Roses NamedType) → IsColumn n f → AreFields n fs
    → AreFields n (more f fs)
more-fields n f fs h k = record {
  shallow = omega (arith, h.shallow, k.shallow);
  within = (h.within, k.within);
  layouts = (h.layout, k.layouts);
  logical = (h.logical, k.logical);
}

-- what each item of a document gives
pub items-fields :
    (n : ℕ) (f : Data → Reading (Rose NamedType)) (ds : Items) (fs : List (Rose NamedType))
    → ((d : Data) (x : Rose NamedType) → IsTextual d → f d ≡ Ok x → IsColumn n x) → AreTextual ds
    → each_item f ds ≡ Ok fs
    → AreFields n (kids_of fs)
unfolding each_item
items-fields n f no_items fs h t e =
    let k : [] ≡ fs = cc in subst (λ (gs : List (Rose NamedType)). AreFields n (kids_of gs)) k (no-fields n)
items-fields n f (item d ds) fs h t e =
    let p = both_Ok cons (f d) (each_item f ds) fs e in
    subst (λ (gs : List (Rose NamedType)). AreFields n (kids_of gs)) p.4
    (more-fields n p.0 (kids_of p.1) (h d p.0 t.0 p.2) (items-fields n f ds p.1 h t.1 p.3))

-- texts within texts
pub string-textual : (d : Data) (s : List ℕ) → as_str d ≡ Some s → IsTextual d → is_utf8 s ≡ true
string-textual (string w) s e h = let q : w ≡ s = cc in subst (λ (r : List ℕ). is_utf8 r ≡ true) q h
string-textual (integer z) s e h = cc
string-textual (float x) s e h = cc
string-textual (boolean b) s e h = cc
string-textual (datetime t) s e h = cc
string-textual (array ds) s e h = cc
string-textual (table ms) s e h = cc

sole-textual : (ds : Items) (d : Data) → sole ds ≡ Some d → AreTextual ds → IsTextual d
sole-textual no_items d e h = cc
sole-textual (item f no_items) d e h = let q : f ≡ d = cc in subst IsTextual q h.0
sole-textual (item f (item g ds)) d e h = cc

pub pair_in-textual : (d : Data) (p : Data × Data) → pair_in d ≡ Some p → IsTextual d → IsTextual p.0 × IsTextual p.1
pair_in-textual (array ds) p e h = pair-textual ds p e h
pair_in-textual (string w) p e h = cc
pair_in-textual (integer z) p e h = cc
pair_in-textual (float x) p e h = cc
pair_in-textual (boolean b) p e h = cc
pair_in-textual (datetime t) p e h = cc
pair_in-textual (table ms) p e h = cc

pub headed-textual : (ds : Items) (p : List ℕ × Items) → headed ds ≡ Some p → AreTextual ds
    → (is_utf8 p.0 ≡ true) × AreTextual p.1
headed-textual no_items p e h = cc
headed-textual (item (string w) ds) p e h =
    let q : (w, ds) ≡ p = cc in subst (λ (r : List ℕ × Items). (is_utf8 r.0 ≡ true) × AreTextual r.1) q h
headed-textual (item (integer z) ds) p e h = cc
headed-textual (item (float x) ds) p e h = cc
headed-textual (item (boolean b) ds) p e h = cc
headed-textual (item (datetime t) ds) p e h = cc
headed-textual (item (array es) ds) p e h = cc
headed-textual (item (table ms) ds) p e h = cc

pub name-sound : (s n : List ℕ) → column_name s ≡ Ok n → IsName s
name-sound s n e =
    let p = test_Ok (nat_le 1 (length s) && nat_le (length s) max_column_name_len) (Ok s) _ n e in
    let q = and_parts (nat_le 1 (length s)) (nat_le (length s) max_column_name_len) p.0 in
    (leb-true 1 (length s) q.0, leb-true (length s) max_column_name_len q.1)

-- The name of a field is a text within its length.
IsGoodName : List ℕ → Type 0
IsGoodName name = IsName name × (is_utf8 name ≡ true)

leaf-field : (n : ℕ) (name : List ℕ) (t : ColType) → IsGoodName name → IsPlain t → IsField (suc n) name (leaf name t)
unfolding IsGoodName
leaf-field n name t h p = record {
  shallow = omega arith;
  within = (h.0, p.bounds, tt);
  layout = (p.node, tt);
  logical = λ parent e. (h.1, e, p.narrow, tt);
}

struct-field :
    (n : ℕ) (name : List ℕ) (kids : List (Rose NamedType)) → IsGoodName name → AreFields n (kids_of kids)
    → IsField (suc n) name (nested name col.Struct kids)
unfolding IsGoodName
struct-field n name kids h k = record {
  shallow = omega (arith, k.shallow);
  within = (h.0, tt, k.within);
  layout = (tt, k.layouts);
  logical = λ parent e. (h.1, e, refl, k.logical);
}

list-field :
    (n : ℕ) (name : List ℕ) (kid : Rose NamedType) → IsGoodName name → IsField n item_name kid
    → IsField (suc n) name (nested name (col.List offset.Bits32) (kid ∷ []))
unfolding IsGoodName
list-field n name kid h k = record {
  shallow = omega (arith, k.shallow);
  within = (h.0, tt, (k.within, tt));
  layout = (tt, (k.layout, tt));
  logical = λ parent e. (h.1, e, refl, (k.logical (col.List offset.Bits32) refl, tt));
}

-- what reads a type so that the field is right
ReadsFields : ℕ → (List ℕ → Data → Reading (Rose NamedType)) → Type 0
ReadsFields n below =
    (name : List ℕ) (d : Data) (f : Rose NamedType) → IsGoodName name → IsTextual d → below name d ≡ Ok f
    → IsField n name f

item-text : is_utf8 item_name ≡ true
item-text = is_utf8-from_IsUtf8 item_name (IsUtf8-from_ascii item_name ascii)
  where
    ascii : (i : ℕ) → slice_index item_name i < 128
    ascii zero = omega arith
    ascii (suc zero) = omega arith
    ascii (suc (suc zero)) = omega arith
    ascii (suc (suc (suc zero))) = omega arith
    ascii (suc (suc (suc (suc i)))) = omega arith

item-valid : IsGoodName item_name
unfolding IsGoodName
item-valid = ((omega arith, omega arith), item-text)

list-sound :
    (n : ℕ) (below : List ℕ → Data → Reading (Rose NamedType)) (name : List ℕ) (ds : Items) (f : Rose NamedType)
    → ReadsFields n below
    → IsGoodName name → AreTextual ds → list_of below name ds ≡ Ok f → IsField (suc n) name f
unfolding list_of ReadsFields
list-sound n below name ds f reads h t e =
    bound (must fault.TypeText (sole ds)) _ f e (λ d a e1.
    bound (below item_name d) _ f e1 (λ kid b e2.
    let made : nested name (col.List offset.Bits32) (kid ∷ []) ≡ f = cc in
    let below_it = reads item_name d kid item-valid (sole-textual ds d (must_Ok fault.TypeText (sole ds) d a) t) b in
    subst (IsField (suc n) name) made (list-field n name kid h below_it)))

child-sound :
    (n : ℕ) (below : List ℕ → Data → Reading (Rose NamedType)) (d : Data) (f : Rose NamedType)
    → ReadsFields n below → IsTextual d
    → child_of below d ≡ Ok f → IsColumn n f
unfolding child_of ReadsFields IsGoodName
child-sound n below d f reads t e =
    bound (must fault.TypeText (pair_in d)) _ f e (λ parts a e1.
    bound (must fault.TypeText (as_str parts.0)) _ f e1 (λ name b e2.
    let both_read = both_Ok first (below name parts.1) (column_name name) f e2 in
    let texts = pair_in-textual d parts (must_Ok fault.TypeText (pair_in d) parts a) t in
    let valid : IsGoodName name = (
      name-sound name both_read.1 both_read.3,
      string-textual parts.0 name
          (must_Ok fault.TypeText (as_str parts.0) name b) texts.0,
    ) in
    subst (IsColumn n) both_read.4
    (column-of n name both_read.0 (reads name parts.1 both_read.0 valid texts.1 both_read.2))))

struct-sound :
    (n : ℕ) (below : List ℕ → Data → Reading (Rose NamedType)) (name : List ℕ) (ds : Items) (f : Rose NamedType)
    → ReadsFields n below
    → IsGoodName name → AreTextual ds → struct_of below name ds ≡ Ok f → IsField (suc n) name f
unfolding struct_of
struct-sound n below name ds f reads h t e =
    bound (each_item (child_of below) ds) _ f e (λ kids a e1.
    bound (few_fields kids) _ f e1 (λ u b e2.
    bound (distinct (map name_of kids)) _ f e2 (λ v c e3.
    let made : nested name col.Struct kids ≡ f = cc in
    let fields = items-fields n (child_of below) ds kids (λ d x q r. child-sound n below d x reads q r) t a in
    subst (IsField (suc n) name) made (struct-field n name kids h fields))))

array-by :
    (n : ℕ) (below : List ℕ → Data → Reading (Rose NamedType)) (name w : List ℕ) (ds : Items)
    (f : Rose NamedType) (a b : Bool)
    → ReadsFields n below → IsGoodName name → AreTextual ds
    → (if a then list_of below name ds else if b then struct_of below name ds else mapped (leaf name)
    (simple_of w ds)) ≡ Ok f
    → IsField (suc n) name f
array-by n below name w ds f true b reads h t e = list-sound n below name ds f reads h t e
array-by n below name w ds f false true reads h t e = struct-sound n below name ds f reads h t e
array-by n below name w ds f false false reads h t e =
    let made = mapped_Ok (leaf name) (simple_of w ds) f e in
    subst (IsField (suc n) name) made.2 (leaf-field n name made.0 h (simple-sound w ds made.0 made.1 t))

type-sound :
    (n : ℕ) (below : List ℕ → Data → Reading (Rose NamedType)) (name : List ℕ) (d : Data) (f : Rose NamedType)
    → ReadsFields n below
    → IsGoodName name → IsTextual d → type_by below name d ≡ Ok f → IsField (suc n) name f
unfolding type_by array_of
type-sound n below name (string w) f reads h t e =
    let made = mapped_Ok (leaf name) (must fault.TypeText (plain_type w)) f e in
    subst (IsField (suc n) name) made.2
    (leaf-field n name made.0 h (plain-sound w made.0 (must_Ok fault.TypeText (plain_type w) made.0 made.1)))
type-sound n below name (array ds) f reads h t e =
    bound (must fault.TypeText (headed ds)) _ f e (λ p a e1.
    let texts = headed-textual ds p (must_Ok fault.TypeText (headed ds) p a) t in
    array-by n below name p.0 p.1 f (bytes_eq p.0 (codes "list")) (bytes_eq p.0 (codes "struct")) reads h texts.1 e1)
type-sound n below name (integer z) f reads h t e = cc
type-sound n below name (float x) f reads h t e = cc
type-sound n below name (boolean b) f reads h t e = cc
type-sound n below name (datetime s) f reads h t e = cc
type-sound n below name (table ms) f reads h t e = cc

field-sound : (n : ℕ) → ReadsFields n (field_of n)
unfolding field_of ReadsFields
field-sound zero name d f h t e = cc
field-sound (suc n) name d f h t e = type-sound n (field_of n) name d f (field-sound n) h t e

pub column-sound :
    (n : ℕ) (name m : List ℕ) (d : Data) (f : Rose NamedType) → column_name name ≡ Ok m → is_utf8 name ≡ true
    → IsTextual d
    → field_of n name d ≡ Ok f → IsColumn n f
unfolding ReadsFields IsGoodName
column-sound n name m d f named text t e =
    column-of n name f (field-sound n name d f (name-sound name m named, text) t e)
