-- The lengths of arrays, as loops over fields check them.
use Rattle.std.proofs.Common.{
  ◌≡◌,
  ◌≢◌,
  Ok,
  None,
  [],
  ℕ,
  ◌+◌,
  ◌<◌,
  ◌≤◌,
  Bool,
  true,
  false,
  ◌&&◌,
  List,
  length,
  drop,
  get_or,
  refl,
  ap,
  sym,
  subst,
  ◌∙◌,
  arith,
}
use Rattle.std.specs.Prelude.{nat_le, ◌==◌}
use Rattle.values.specs.Rose.{Rose, node, Roses, none, more, kids_of, rose_size}
use Rattle.values.proofs.Roses.{kids_step, kids_end, kid_smaller}
use Rattle.values.specs.declared.layout.Layout.{Layout}
use Rattle.array_layout.specs.declared.array.FieldNode.{FieldNode}
use Rattle.array_layout.specs.Placing.{node_at}
use Rattle.schema_meta.specs.Entry.{Entry}
use Rattle.schema_meta.specs.FieldLayouts.{slot_layout_of, slot_layouts_below}
use Rattle.values.specs.declared.col_type.ColType.TheVariants as stored
use Rattle.schema_meta.specs.Batch.{is_long, are_long, columns_fit, node_of, nodes_in}
use Rattle.std.proofs.lemmas.Bool.{lt-leb}
use Rattle.std.proofs.lemmas.Bool.Decides.{nat_tests}
use Rattle.values.proofs.Readings.{fails_first, fails-stands, each_length}
use Rattle.schema_meta.proofs.Counts.{nodes_step}

-- the fields from number k on
abbrev left : List (Rose Entry) → ℕ → Roses Layout
left fs k = slot_layouts_below (kids_of (drop k fs))

left-more :
    (fs : List (Rose Entry)) (k : ℕ) (e d : Rose Entry) → e ≡ get_or fs k d → k < length fs
    → left fs k ≡ more (slot_layout_of e) (left fs (k + 1))
left-more fs k e d is below = ap slot_layouts_below (kids_step fs k e d is below)

left-none : (fs : List (Rose Entry)) (k : ℕ) → length fs ≤ k → left fs k ≡ none
left-none fs k all = ap slot_layouts_below (kids_end fs k all)

pub long_step :
    (nodes : List FieldNode) (n m floor k : ℕ) (fs : List (Rose Entry)) (e d : Rose Entry) (whole : Bool)
    → e ≡ get_or fs k d → k < length fs
    → is_long nodes n floor (slot_layout_of e) ≡ true → m ≡ n + rose_size (slot_layout_of e)
    → are_long nodes n floor (left fs k) ≡ whole
    → are_long nodes m floor (left fs (k + 1)) ≡ whole
long_step nodes n m floor k fs e d whole is below long next all =
    let P : Roses Layout → Type 0 = λ ts. are_long nodes n floor ts ≡ whole in
    let Q : Bool
    → Type 0 = λ b. (b && are_long nodes (n + rose_size (slot_layout_of e)) floor (left fs (k + 1))) ≡ whole in
    let R : ℕ → Type 0 = λ i. are_long nodes i floor (left fs (k + 1)) ≡ whole in
    subst R (sym next) (subst Q long (subst P (left-more fs k e d is below) all))

pub long_stop :
    (nodes : List FieldNode) (n floor k : ℕ) (fs : List (Rose Entry)) (e d : Rose Entry) (whole : Bool)
    → e ≡ get_or fs k d → k < length fs
    → is_long nodes n floor (slot_layout_of e) ≡ false → are_long nodes n floor (left fs k) ≡ whole → whole ≡ false
long_stop nodes n floor k fs e d whole is below short all =
    let P : Roses Layout → Type 0 = λ ts. are_long nodes n floor ts ≡ whole in
    let Q : Bool
    → Type 0 = λ b. (b && are_long nodes (n + rose_size (slot_layout_of e)) floor (left fs (k + 1))) ≡ whole in
    sym (subst Q short (subst P (left-more fs k e d is below) all))

pub long_end :
    (nodes : List FieldNode) (n floor k : ℕ) (fs : List (Rose Entry)) (whole : Bool) → length fs ≤ k
    → are_long nodes n floor (left fs k) ≡ whole
    → whole ≡ true
long_end nodes n floor k fs whole all left-is =
    let P : Roses Layout → Type 0 = λ ts. are_long nodes n floor ts ≡ whole in
    sym (subst P (left-none fs k all) left-is)

equal : (a b : ℕ) → a ≡ b → (a == b) ≡ true
equal a b e = grind (arith, nat_tests, e)

unequal : (a b : ℕ) → a ≢ b → (a == b) ≡ false
unequal a b e = grind (arith, nat_tests, e)

pub fit_step :
    (nodes : List FieldNode) (n m rows k : ℕ) (fs : List (Rose Entry)) (e d : Rose Entry) (whole : Bool)
    → e ≡ get_or fs k d → k < length fs
    → (node_at nodes n).length ≡ rows → is_long nodes n rows (slot_layout_of e) ≡ true
    → m ≡ n + rose_size (slot_layout_of e)
    → columns_fit nodes n rows (left fs k) ≡ whole → columns_fit nodes m rows (left fs (k + 1)) ≡ whole
fit_step nodes n m rows k fs e d whole is below same long next all =
    let rest : Bool = columns_fit nodes (n + rose_size (slot_layout_of e)) rows (left fs (k + 1)) in
    let P : Roses Layout → Type 0 = λ ts. columns_fit nodes n rows ts ≡ whole in
    let Q : Bool → Type 0 = λ b. (b && (is_long nodes n rows (slot_layout_of e) && rest)) ≡ whole in
    let R : Bool → Type 0 = λ b. (b && rest) ≡ whole in
    let S : ℕ → Type 0 = λ i. columns_fit nodes i rows (left fs (k + 1)) ≡ whole in
    subst S (sym next)
    (subst R long (subst Q (equal (node_at nodes n).length rows same) (subst P (left-more fs k e d is below) all)))

and_false : (a b : Bool) → b ≡ false → (a && b) ≡ false
and_false true b e = e
and_false false b e = refl

pub fit_stop :
    (nodes : List FieldNode) (n rows k : ℕ) (fs : List (Rose Entry)) (e d : Rose Entry) (whole : Bool)
    → e ≡ get_or fs k d → k < length fs
    → is_long nodes n rows (slot_layout_of e) ≡ false → columns_fit nodes n rows (left fs k) ≡ whole → whole ≡ false
fit_stop nodes n rows k fs e d whole is below short all =
    let rest : Bool = columns_fit nodes (n + rose_size (slot_layout_of e)) rows (left fs (k + 1)) in
    let P : Roses Layout → Type 0 = λ ts. columns_fit nodes n rows ts ≡ whole in
    let Q : Bool → Type 0 = λ b. ((node_at nodes n).length == rows && (b && rest)) ≡ whole in
    sym (subst Q short (subst P (left-more fs k e d is below) all))
    ∙ and_false ((node_at nodes n).length == rows) false refl

pub fit_other :
    (nodes : List FieldNode) (n rows k len : ℕ) (fs : List (Rose Entry)) (whole : Bool) → k < length fs
    → len ≡ (node_at nodes n).length → len ≢ rows → columns_fit nodes n rows (left fs k) ≡ whole → whole ≡ false
fit_other nodes n rows k len fs whole below length_is other all =
    let d : Rose Entry = node (record { name = []; nullable = false; stored = stored.Struct; encoding = None }) none in
    let e : Rose Entry = get_or fs k d in
    let rest : Bool = columns_fit nodes (n + rose_size (slot_layout_of e)) rows (left fs (k + 1)) in
    let P : Roses Layout → Type 0 = λ ts. columns_fit nodes n rows ts ≡ whole in
    let Q : Bool → Type 0 = λ b. (b && (is_long nodes n rows (slot_layout_of e) && rest)) ≡ whole in
    sym (subst Q (unequal (node_at nodes n).length rows (λ same. other (length_is ∙ same)))
    (subst P (left-more fs k e d refl below) all))

pub fit_end :
    (nodes : List FieldNode) (n rows k : ℕ) (fs : List (Rose Entry)) (whole : Bool) → length fs ≤ k
    → columns_fit nodes n rows (left fs k) ≡ whole
    → whole ≡ true
fit_end nodes n rows k fs whole all left-is =
    let P : Roses Layout → Type 0 = λ ts. columns_fit nodes n rows ts ≡ whole in
    sym (subst P (left-none fs k all) left-is)

pub long_short :
    (nodes : List FieldNode) (n floor len : ℕ) (f : Rose Entry) → len ≡ (node_at nodes n).length → len < floor
    → is_long nodes n floor (slot_layout_of f) ≡ false
long_short nodes n floor len (node e kids) is below =
    let test : nat_le floor (node_at nodes n).length ≡ false =
    lt-leb floor (node_at nodes n).length (omega (arith, is, below)) in
    rw test refl

-- a batch of one column
pub one_fits : (n rows : ℕ) → (n == rows && (nat_le rows n && true && true)) ≡ (n == rows)
one_fits n rows = by_test (n == rows) refl where
  by_test : (b : Bool) → (n == rows) ≡ b → (b && (nat_le rows n && true && true)) ≡ b
  by_test true e = let l : nat_le rows n ≡ true = grind (arith, nat_tests, e) in rw l refl
  by_test false e = refl

pub nodes_length : (n : ℕ) (bytes : List ℕ) (ns : List FieldNode) → nodes_in n bytes ≡ Ok ns → n ≤ length ns
unfolding nodes_in
nodes_length n bytes ns e = omega (arith, each_length (node_of bytes) 0 n ns e)

pub ruleset lengths =
    (long_short, long_step, long_stop, long_end, fit_step, fit_stop, fit_other, fit_end, nodes_step, kid_smaller)

pub ruleset counted = (fails_first, fails-stands, nodes_length)
