-- The texts of the cells of lists and structs, one after the other.
use Rattle.std.proofs.Common.{
  ◌≡◌,
  ℕ,
  List,
  [],
  ◌∷◌,
  ◌++◌,
  ◌+◌,
  ◌-◌,
  ◌<◌,
  ◌≤◌,
  length,
  drop,
  get_or,
  refl,
  ap,
  sym,
  subst,
  ◌∙◌,
  arith,
}
use Rattle.std.specs.Prelude.{Option, IfSome, Ok, Err, Some, codes, slice_get}
use Rattle.std.proofs.lemmas.List.{at_drop_all, at_drop_more}
use Rattle.std.proofs.lemmas.Option.{slice_get-get_or}
use Rattle.values.specs.Datum.{Datum, null, list, structure, Items, no_items, item, items_of}
use Rattle.values.specs.Reading.{Reading, both, cons, each, IsValid}
use Rattle.values.specs.Rose.{Rose, Roses, none, more, kids_of}
use Rattle.values.proofs.Readings.{each_step}
use Rattle.array_layout.specs.declared.array.ArrayData.{ArrayData}
use Rattle.array_layout.specs.Cells.{cell, list_of, row, structure_of}
use Rattle.schema_meta.specs.Entry.{Entry}
use Rattle.arrays.specs.Checked.{CheckedColumn}
use Rattle.showing.specs.Csv.{field_text}
use Rattle.showing.specs.declared.cell.Cell.{Cell}
use Rattle.showing.specs.declared.cell.Cell.TheVariants.{Struct}
use Rattle.showing.specs.declared.cell.Members.{Members}
use Rattle.showing.specs.Fields.{below, entry}
use Rattle.showing.specs.Joined.{joined, joined_behind}
use Rattle.showing.specs.Json.{items_of_first, json, json_string, members}
use Rattle.showing.specs.Lines.{cell_field, name_fields, row_fields}
use Rattle.showing.specs.Shown.{AreMembers, IsReadable, cell_in, seen, shown, value_of, values_of}

pub drop-step : {A : Type 0} (xs : List A) (k : ℕ) (x d : A) → x ≡ get_or xs k d → k < length xs
    → drop k xs ≡ x ∷ drop (k + 1) xs
drop-step xs k x d is below = at_drop_more (λ ys. ys) xs k d below ∙ ap (λ y. y ∷ drop (k + 1) xs) (sym is)

-- the names of columns
pub names-step :
    (fs : List (Rose Entry)) (k : ℕ) (f : Rose Entry) (name led separator : List ℕ) → f ≡ get_or fs k f → k < length fs
    → name ≡ (entry f).name
    → joined_behind led separator (name_fields (drop k fs))
    ≡ led ++ (field_text name ++ joined_behind separator separator (name_fields (drop (k + 1) fs)))
names-step fs k f name led separator is below named =
    ap (λ gs. joined_behind led separator (name_fields gs)) (drop-step fs k f f is below)
    ∙ ap (λ n. led ++ (field_text n ++ joined_behind separator separator (name_fields (drop (k + 1) fs)))) (sym named)

-- the cells of a row
pub row-fields-step :
    (fs rest : List (Rose Entry)) (cs : List CheckedColumn) (k i : ℕ) (f : Rose Entry) (c : CheckedColumn) (d : Datum)
    (led separator : List ℕ)
    → fs ≡ f ∷ rest → c ≡ get_or cs k c → k < length cs → d ≡ cell_in c i
    → joined_behind led separator (row_fields fs (drop k cs) i)
    ≡ led ++ (cell_field f d ++ joined_behind separator separator (row_fields rest (drop (k + 1) cs) i))
row-fields-step fs rest cs k i f c d led separator first is below here =
    ap (λ gs. joined_behind led separator (row_fields gs (drop k cs) i)) first
    ∙ ap (λ xs. joined_behind led separator (row_fields (f ∷ rest) xs i)) (drop-step cs k c c is below)
    ∙ ap
    (λ x. led ++ (cell_field f x ++ joined_behind separator separator (row_fields rest (drop (k + 1) cs) i)))
    (sym here)

pub row-fields-none : (fs : List (Rose Entry)) (cs : List CheckedColumn) (i : ℕ) → length fs ≡ 0 → row_fields fs cs i ≡ []
row-fields-none [] [] i empty = refl
row-fields-none [] (c ∷ cs) i empty = refl
row-fields-none (f ∷ fs) cs i empty = absurd (omega (arith, empty))

row-fields-without : (fs : List (Rose Entry)) (i : ℕ) → row_fields fs [] i ≡ []
row-fields-without [] i = refl
row-fields-without (f ∷ fs) i = refl

pub row-fields-end : (fs : List (Rose Entry)) (cs : List CheckedColumn) (k i : ℕ) → length cs ≤ k
    → row_fields fs (drop k cs) i ≡ []
row-fields-end fs cs k i end = at_drop_all (λ xs. row_fields fs xs i) cs k end ∙ row-fields-without fs i

-- what is read from the first, and then from the others
pub values-more : (a : Reading Datum) (b : Reading (List Datum)) → IsValid (both cons a b)
    → values_of (both cons a b) ≡ value_of a ∷ values_of b
values-more (Ok d) (Ok ds) valid = refl
values-more (Ok d) (Err gs) valid = absurd valid
values-more (Err fs) (Ok ds) valid = absurd valid
values-more (Err fs) (Err gs) valid = absurd valid

pub values-step :
    (read : ℕ → Reading Datum) (i n : ℕ) → i < n → IsValid (each read i (n - i))
    → values_of (each read i (n - i)) ≡ value_of (read i) ∷ values_of (each read (i + 1) (n - (i + 1)))
values-step read i n below valid =
    let P : Reading (List Datum) → Type 0 = λ m. IsValid m in
    ap values_of (each_step read i n below)
    ∙ values-more (read i) (each read (i + 1) (n - (i + 1))) (subst P (each_step read i n below) valid)

pub list-value : (m : Reading (List Datum)) → IsValid m → value_of (list_of m) ≡ list (items_of (values_of m))
list-value (Ok ds) valid = refl
list-value (Err fs) valid = absurd valid

pub structure-value : (m : Reading (List Datum)) → IsValid m
    → value_of (structure_of m) ≡ structure (items_of (values_of m))
structure-value (Ok ds) valid = refl
structure-value (Err fs) valid = absurd valid

-- of the fields below a list only the first matters
pub items-of-one :
    (quote : List ℕ) (f : Rose Entry) (fs : Roses Entry) (es : Items)
    → items_of_first quote (more f fs) es ≡ items_of_first quote (more f none) es
items-of-one quote f fs no_items = refl
items-of-one quote f fs (item d ds) = ap (λ ts. json quote f d ∷ ts) (items-of-one quote f fs ds)

pub first-items :
    (quote : List ℕ) (fs : List (Rose Entry)) (f : Rose Entry) (es : Items) → Some f ≡ slice_get fs 0
    → items_of_first quote (more f none) es ≡ items_of_first quote (kids_of fs) es
first-items quote [] f es is = cc
first-items quote (g ∷ gs) f es is =
    let same : f ≡ g = cc in
    ap (λ h. items_of_first quote (more h none) es) same ∙ sym (items-of-one quote g (kids_of gs) es)

-- the items of a list, the first of which is d
pub items-step :
    (quote led separator : List ℕ) (f : Rose Entry) (es ds : List Datum) (d : Datum) → es ≡ d ∷ ds
    → joined_behind led separator (items_of_first quote (more f none) (items_of es))
    ≡ led
    ++ (json quote f d ++ joined_behind separator separator (items_of_first quote (more f none) (items_of ds)))
items-step quote led separator f es ds d is =
    ap (λ xs. joined_behind led separator (items_of_first quote (more f none) (items_of xs))) is

-- the children of a struct, the first of which is d
pub members-step :
    (quote led separator : List ℕ) (fs : List (Rose Entry)) (k : ℕ) (f : Rose Entry) (name : List ℕ)
    (es ds : List Datum) (d : Datum)
    → f ≡ get_or fs k f → k < length fs → name ≡ (entry f).name → es ≡ d ∷ ds
    → joined_behind led separator (members quote (kids_of (drop k fs)) (items_of es))
    ≡ led
    ++ ((json_string quote name ++ (codes ":" ++ json quote f d))
    ++ joined_behind separator separator (members quote (kids_of (drop (k + 1) fs)) (items_of ds)))
members-step quote led separator fs k f name es ds d is below named first =
    ap (λ gs. joined_behind led separator (members quote (kids_of gs) (items_of es))) (drop-step fs k f f is below)
    ∙ ap (λ xs. joined_behind led separator (members quote (more f (kids_of (drop (k + 1) fs))) (items_of xs))) first
    ∙ ap
    (λ n. led
    ++ ((json_string quote n ++ (codes ":" ++ json quote f d))
    ++ joined_behind separator separator (members quote (kids_of (drop (k + 1) fs)) (items_of ds)))) (sym named)

-- the children of a struct that lie in arrays
pub row-step :
    (b : List ℕ) (arrays rest : List (Rose ArrayData)) (array : Rose ArrayData) (i : ℕ) (d : Datum)
    → IsValid (row b (kids_of arrays) i) → arrays ≡ array ∷ rest → d ≡ value_of (cell b array i)
    → values_of (row b (kids_of arrays) i) ≡ d ∷ values_of (row b (kids_of rest) i)
row-step b arrays rest array i d valid first here =
    let P : List (Rose ArrayData) → Type 0 = λ ts. IsValid (row b (kids_of ts) i) in
    ap (λ ts. values_of (row b (kids_of ts) i)) first
    ∙ values-more (cell b array i) (row b (kids_of rest) i) (subst P first valid)
    ∙ ap (λ x. x ∷ values_of (row b (kids_of rest) i)) (sym here)

-- a struct that is read
pub structure-shown :
    (quote : List ℕ) (f : Rose Entry) (kids : Roses Entry) (c : Cell) (s : Members) → IsReadable c → c ≡ Struct s
    → kids ≡ below f
    → codes "{"
    ++ (joined (codes ",") (members quote kids (items_of (values_of (row s.body.now (kids_of s.arrays.now) s.at))))
    ++ codes "}")
    ≡ json quote f (seen c)
structure-shown quote f kids c s are is same =
    let m : Reading (List Datum) = row s.body.now (kids_of s.arrays.now) s.at in
    let there : AreMembers s.body.now (kids_of s.arrays.now) s.at = subst IsReadable is are in
    ap (λ ks. codes "{" ++ (joined (codes ",") (members quote ks (items_of (values_of m))) ++ codes "}")) same
    ∙ ap (json quote f) (sym (ap seen is ∙ structure-value m there.valid))

-- a cell of a column that is seen where it lies
pub seen-in : (c : Cell) (cs : CheckedColumn) (i : ℕ) → i < length cs.cells
    → IfSome (slice_get cs.cells i) (λ d. shown c ≡ Ok d) → seen c ≡ cell_in cs i
seen-in c cs i below shows =
    let got : slice_get cs.cells i ≡ Some (get_or cs.cells i null) = slice_get-get_or cs.cells i null below in
    let P : Option Datum → Type 0 = λ o. IfSome o (λ d. shown c ≡ Ok d) in
    ap value_of (subst P got shows)
