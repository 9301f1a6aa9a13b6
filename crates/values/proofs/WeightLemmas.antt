-- How a weight is summed in 64 bits.
use Rattle.std.proofs.Common.{
  ◌≡◌,
  ℕ,
  List,
  [],
  ◌∷◌,
  ◌+◌,
  ◌^◌,
  ◌<◌,
  ◌≤◌,
  length,
  drop,
  get_or,
  refl,
  ap,
  sym,
  subst,
  ◌∙◌,
  arith,
}
use Rattle.std.proofs.lemmas.List.{drop_all, drop_more}
use Rattle.values.specs.Rose.{Rose, node, Roses, none, more, kids_of}
use Rattle.values.proofs.Roses.{kids_step, kids_end, kid_smaller}
use Rattle.values.specs.Datum.{Datum, null, truth, whole, text, bytes, list, structure, Items, no_items, items_of}
use Rattle.values.specs.declared.layout.OffsetWidth.{OffsetWidth}
use Rattle.values.specs.declared.layout.Layout.{Layout}
use Rattle.values.specs.declared.layout.Layout.TheVariants.{
  Bool as Booleans,
  Int,
  Decimal,
  FixedSizeBinary,
  Utf8,
  Binary,
  List as Listed,
  Struct,
}
use Rattle.values.specs.Layouts.{null_weight, null_weights, weight, items_weight, row_weight}
use Rattle.values.specs.Weights.{saturated, text_in, blob_in, items_in, weights}

saturated_sum : (s a r : ℕ) → saturated (saturated (s + saturated a) + r) ≡ saturated (s + (a + r))
unfolding saturated
saturated_sum s a r = grind arith

saturated_small : (k : ℕ) → k < 2 ^ 64 → k ≡ saturated k
unfolding saturated
saturated_small k h = grind arith

-- a weight that fits into 64 bits is exact
pub saturated-exact : (k : ℕ) → k < 2 ^ 64 → saturated k ≡ k
unfolding saturated
saturated-exact k h = grind arith

saturated_bound : (k : ℕ) → saturated k < 2 ^ 64
unfolding saturated
saturated_bound k = grind arith

-- a slot's own weight, and the rest of it
pub saturated_on : (s x a t : ℕ) → x ≡ saturated a → t ≡ saturated (s + x) → t ≡ saturated (s + a)
saturated_on s x a t is sum =
    let e : saturated (saturated (s + saturated a) + 0) ≡ saturated (s + (a + 0)) = saturated_sum s a 0 in
    let P : ℕ → Type 0 = λ k. saturated (s + k) ≡ saturated (s + a) in
    let inner : saturated (s + saturated a) < 2 ^ 64 = saturated_bound (s + saturated a) in
    let first : saturated (s + saturated a) + 0 ≡ saturated (s + saturated a) = omega arith in
    let last : a + 0 ≡ a = omega arith in
    sum ∙ subst P (sym is) (saturated_small (saturated (s + saturated a)) inner ∙ ap saturated (sym first) ∙ e
    ∙ ap (λ k. saturated (s + k)) last)

-- only structs weigh their children
pub own-null_weight : (l : Layout) (kids : Roses Layout) → ¬ (l ≡ Struct) → null_weight (node l kids) ≡ null_weight (node l none)
own-null_weight Booleans kids h = refl
own-null_weight (Int w s) kids h = refl
own-null_weight (Decimal p) kids h = refl
own-null_weight (FixedSizeBinary w) kids h = refl
own-null_weight (Utf8 o) kids h = refl
own-null_weight (Binary o) kids h = refl
own-null_weight (Listed o) kids h = refl
own-null_weight Struct kids h = absurd (h refl)

pub null_weight-saturated :
    (l : Layout) (kids : Roses Layout) (r : ℕ) → ¬ (l ≡ Struct) → r ≡ null_weight (node l none) → r < 2 ^ 64
    → r ≡ saturated (null_weight (node l kids))
null_weight-saturated l kids r single is short = saturated_small r short ∙ ap saturated (is ∙ sym (own-null_weight l kids single))

pub struct-saturated : (l : Layout) (kids : Roses Layout) (x r : ℕ) → l ≡ Struct → x ≡ saturated (null_weights kids)
    → r ≡ saturated (1 + x) → r ≡ saturated (null_weight (node l kids))
struct-saturated l kids x r is below sum =
    let P : Layout → Type 0 = λ m. r ≡ saturated (null_weight (node m kids)) in
    subst P (sym is) (saturated_on 1 x (null_weights kids) r below sum)

pub ruleset own_null_weights = (null_weight-saturated, struct-saturated)

-- one number more of a sum
sum_more : (s x t a r w : ℕ) → x ≡ saturated a → t ≡ saturated (s + x) → saturated (s + (a + r)) ≡ w
    → saturated (t + r) ≡ w
sum_more s x t a r w is sum left =
    let P : ℕ → Type 0 = λ k. saturated (k + r) ≡ w in
    let Q : ℕ → Type 0 = λ k. saturated (saturated (s + k) + r) ≡ w in
    subst P (sym sum) (subst Q (sym is) (saturated_sum s a r ∙ left))

sum_none : (s r w : ℕ) → s < 2 ^ 64 → r ≡ 0 → saturated (s + r) ≡ w → s ≡ w
sum_none s r w bound nothing left =
    let e : s ≡ s + r = omega (arith, nothing) in
    saturated_small s bound ∙ ap saturated e ∙ left

-- over the children's slots

pub slots_step :
    (ts : List (Rose Layout)) (k : ℕ) (e d : Rose Layout) (s x t w : ℕ) → e ≡ get_or ts k d → k < length ts
    → x ≡ saturated (null_weight e)
    → t ≡ saturated (s + x) → saturated (s + null_weights (kids_of (drop k ts))) ≡ w
    → saturated (t + null_weights (kids_of (drop (k + 1) ts))) ≡ w
slots_step ts k e d s x t w is below here sum left =
    let P : Roses Layout → Type 0 = λ r. saturated (s + null_weights r) ≡ w in
    sum_more s x t (null_weight e) (null_weights (kids_of (drop (k + 1) ts))) w here sum (subst P (kids_step ts k e d is below) left)

pub slots_end :
    (ts : List (Rose Layout)) (k s w : ℕ) → length ts ≤ k → s < 2 ^ 64 → saturated (s + null_weights (kids_of (drop k ts))) ≡ w
    → s ≡ w
slots_end ts k s w past bound left =
    let none_left : null_weights (kids_of (drop k ts)) ≡ 0 = ap null_weights (kids_end ts k past) in
    sum_none s (null_weights (kids_of (drop k ts))) w bound none_left left

pub ruleset null_weight_sums = (slots_step, slots_end, kid_smaller)

-- over a list's items

pub items_step :
    (u : Rose Layout) (ds : List Datum) (k : ℕ) (e : Datum) (s x t w : ℕ) → e ≡ get_or ds k e → k < length ds
    → x ≡ saturated (weight u e)
    → t ≡ saturated (s + x) → saturated (s + weights u (drop k ds)) ≡ w
    → saturated (t + weights u (drop (k + 1) ds)) ≡ w
items_step u ds k e s x t w is below here sum left =
    let P : List Datum → Type 0 = λ r. saturated (s + weights u r) ≡ w in
    let split : drop k ds ≡ e ∷ drop (k + 1) ds = drop_more ds k e below ∙ ap (λ c. c ∷ drop (k + 1) ds) (sym is) in
    sum_more s x t (weight u e) (weights u (drop (k + 1) ds)) w here sum (subst P split left)

pub items_end : (u : Rose Layout) (ds : List Datum) (k s w : ℕ) → length ds ≤ k → s < 2 ^ 64
    → saturated (s + weights u (drop k ds)) ≡ w → s ≡ w
items_end u ds k s w past bound left =
    let none_left : weights u (drop k ds) ≡ 0 = ap (weights u) (drop_all k ds past) in
    sum_none s (weights u (drop k ds)) w bound none_left left

pub ruleset item_sums = (items_step, items_end)

items-total : (t : Rose Layout) (ts : Roses Layout) (ds : List Datum)
    → items_weight (more t ts) (items_of ds) ≡ weights t ds
items-total t ts [] = refl
items-total t ts (d ∷ ds) = ap (λ n. weight t d + n) (items-total t ts ds)

pub first-total :
    (ts : List (Rose Layout)) (t d : Rose Layout) (ds : List Datum) (r : ℕ) → t ≡ get_or ts 0 d → 0 < length ts
    → r ≡ saturated (weights t ds)
    → r ≡ saturated (items_weight (kids_of ts) (items_of ds))
first-total [] t d ds r is some e = absurd (omega (arith, some))
first-total (u ∷ ts) t d ds r is some e =
    e ∙ ap (λ v. saturated (weights v ds)) is ∙ ap saturated (sym (items-total u (kids_of ts) ds))

pub no-total : (ts : List (Rose Layout)) (es : Items) → length ts ≡ 0 → 0 ≡ saturated (items_weight (kids_of ts) es)
unfolding saturated
no-total [] es h = refl
no-total (t ∷ ts) es h = absurd (omega (arith, h))

pub ruleset first_sums = (first-total, no-total, kid_smaller)

-- over a row's cells

pub row_step :
    (ts : List (Rose Layout)) (ds : List Datum) (k : ℕ) (u : Rose Layout) (e : Datum) (s x t w : ℕ) → u ≡ get_or ts k u
    → e ≡ get_or ds k e
    → k < length ts → k < length ds → x ≡ saturated (weight u e) → t ≡ saturated (s + x)
    → saturated (s + row_weight (kids_of (drop k ts)) (items_of (drop k ds))) ≡ w
    → saturated (t + row_weight (kids_of (drop (k + 1) ts)) (items_of (drop (k + 1) ds))) ≡ w
row_step ts ds k u e s x t w tree cell inside within here sum left =
    let P : List Datum → Type 0 = λ r. saturated (s + row_weight (kids_of (drop k ts)) (items_of r)) ≡ w in
    let Q : Roses Layout → Type 0 = λ r. saturated (s + row_weight r (items_of (e ∷ drop (k + 1) ds))) ≡ w in
    let split : drop k ds ≡ e ∷ drop (k + 1) ds = drop_more ds k e within ∙ ap (λ c. c ∷ drop (k + 1) ds) (sym cell) in
    sum_more s x t (weight u e) (row_weight (kids_of (drop (k + 1) ts)) (items_of (drop (k + 1) ds))) w here sum
    (subst Q (kids_step ts k u u tree inside) (subst P split left))

no-cells : (ts : Roses Layout) → row_weight ts no_items ≡ 0
no-cells none = refl
no-cells (more t ts) = refl

pub row_end_trees :
    (ts : List (Rose Layout)) (ds : List Datum) (k s w : ℕ) → length ts ≤ k → s < 2 ^ 64
    → saturated (s + row_weight (kids_of (drop k ts)) (items_of (drop k ds))) ≡ w → s ≡ w
row_end_trees ts ds k s w past bound left =
    let es = items_of (drop k ds) in
    let none_left : row_weight (kids_of (drop k ts)) es ≡ 0 = ap (λ r. row_weight r es) (kids_end ts k past) in
    sum_none s (row_weight (kids_of (drop k ts)) es) w bound none_left left

pub row_end_cells :
    (ts : List (Rose Layout)) (ds : List Datum) (k s w : ℕ) → length ds ≤ k → s < 2 ^ 64
    → saturated (s + row_weight (kids_of (drop k ts)) (items_of (drop k ds))) ≡ w → s ≡ w
row_end_cells ts ds k s w past bound left =
    let us = kids_of (drop k ts) in
    let none_left : row_weight us (items_of (drop k ds)) ≡ 0 =
    ap (λ r. row_weight us (items_of r)) (drop_all k ds past) ∙ no-cells us in
    sum_none s (row_weight us (items_of (drop k ds))) w bound none_left left

pub ruleset row_sums = (row_step, row_end_trees, row_end_cells, kid_smaller)

-- by layout

text-null_weight : (o : OffsetWidth) (kids : Roses Layout) (d : Datum) → 5 + length (text_in d) ≡ weight (node (Utf8 o) kids) d
text-null_weight o kids null = refl
text-null_weight o kids (truth b) = refl
text-null_weight o kids (whole z) = refl
text-null_weight o kids (text t) = refl
text-null_weight o kids (bytes b) = refl
text-null_weight o kids (list es) = refl
text-null_weight o kids (structure es) = refl

bytes-null_weight : (o : OffsetWidth) (kids : Roses Layout) (d : Datum)
    → 5 + length (blob_in d) ≡ weight (node (Binary o) kids) d
bytes-null_weight o kids null = refl
bytes-null_weight o kids (truth b) = refl
bytes-null_weight o kids (whole z) = refl
bytes-null_weight o kids (text t) = refl
bytes-null_weight o kids (bytes b) = refl
bytes-null_weight o kids (list es) = refl
bytes-null_weight o kids (structure es) = refl

list-null_weight : (o : OffsetWidth) (d : Datum) → 5 ≡ weight (node (Listed o) none) d
list-null_weight o null = refl
list-null_weight o (truth b) = refl
list-null_weight o (whole z) = refl
list-null_weight o (text t) = refl
list-null_weight o (bytes b) = refl
list-null_weight o (list es) = refl
list-null_weight o (structure es) = refl

struct-null_weight : (d : Datum) → 1 ≡ weight (node Struct none) d
struct-null_weight null = refl
struct-null_weight (truth b) = refl
struct-null_weight (whole z) = refl
struct-null_weight (text t) = refl
struct-null_weight (bytes b) = refl
struct-null_weight (list es) = refl
struct-null_weight (structure es) = refl

pub text-own : (l : Layout) (o : OffsetWidth) (d : Datum) (n : ℕ) → l ≡ Utf8 o → n ≡ length (text_in d)
    → 5 + n ≡ weight (node l none) d
text-own l o d n is len =
    let P : Layout → Type 0 = λ m. 5 + n ≡ weight (node m none) d in
    subst P (sym is) (ap (λ k. 5 + k) len ∙ text-null_weight o none d)

pub bytes-own : (l : Layout) (o : OffsetWidth) (d : Datum) (n : ℕ) → l ≡ Binary o → n ≡ length (blob_in d)
    → 5 + n ≡ weight (node l none) d
bytes-own l o d n is len =
    let P : Layout → Type 0 = λ m. 5 + n ≡ weight (node m none) d in
    subst P (sym is) (ap (λ k. 5 + k) len ∙ bytes-null_weight o none d)

pub bare-own :
    (l : Layout) (d : Datum) (r : ℕ) → ((o : OffsetWidth) → ¬ (l ≡ Utf8 o)) → ((o : OffsetWidth) → ¬ (l ≡ Binary o))
    → r ≡ null_weight (node l none)
    → r ≡ weight (node l none) d
bare-own Booleans d r no_text no_bytes is = is
bare-own (Int w s) d r no_text no_bytes is = is
bare-own (Decimal p) d r no_text no_bytes is = is
bare-own (FixedSizeBinary w) d r no_text no_bytes is = is
bare-own (Utf8 o) d r no_text no_bytes is = absurd (no_text o refl)
bare-own (Binary o) d r no_text no_bytes is = absurd (no_bytes o refl)
bare-own (Listed o) d r no_text no_bytes is = is ∙ list-null_weight o d
bare-own Struct d r no_text no_bytes is = is ∙ struct-null_weight d

pub ruleset own_weights = (text-own, bytes-own, bare-own)

-- nothing else has children
own-weight : (l : Layout) (kids : Roses Layout) (d : Datum) → ((o : OffsetWidth) → ¬ (l ≡ Listed o)) → ¬ (l ≡ Struct)
    → weight (node l none) d ≡ weight (node l kids) d
own-weight Booleans kids d no_list no_struct = refl
own-weight (Int w s) kids d no_list no_struct = refl
own-weight (Decimal p) kids d no_list no_struct = refl
own-weight (FixedSizeBinary w) kids d no_list no_struct = refl
own-weight (Utf8 o) kids d no_list no_struct = sym (text-null_weight o none d) ∙ text-null_weight o kids d
own-weight (Binary o) kids d no_list no_struct = sym (bytes-null_weight o none d) ∙ bytes-null_weight o kids d
own-weight (Listed o) kids d no_list no_struct = absurd (no_list o refl)
own-weight Struct kids d no_list no_struct = absurd (no_struct refl)

pub own-saturated :
    (l : Layout) (kids : Roses Layout) (d : Datum) (r : ℕ) → ((o : OffsetWidth) → ¬ (l ≡ Listed o)) → ¬ (l ≡ Struct)
    → r ≡ weight (node l none) d → r < 2 ^ 64 → r ≡ saturated (weight (node l kids) d)
own-saturated l kids d r no_list no_struct is short =
    saturated_small r short ∙ ap saturated (is ∙ own-weight l kids d no_list no_struct)

none-weigh : (kids : Roses Layout) → items_weight kids no_items ≡ 0
none-weigh none = refl
none-weigh (more t ts) = refl

list-weighs : (o : OffsetWidth) (kids : Roses Layout) (d : Datum)
    → weight (node (Listed o) kids) d ≡ 5 + items_weight kids (items_in d)
list-weighs o kids null = ap (λ n. 5 + n) (sym (none-weigh kids))
list-weighs o kids (truth b) = ap (λ n. 5 + n) (sym (none-weigh kids))
list-weighs o kids (whole z) = ap (λ n. 5 + n) (sym (none-weigh kids))
list-weighs o kids (text b) = ap (λ n. 5 + n) (sym (none-weigh kids))
list-weighs o kids (bytes b) = ap (λ n. 5 + n) (sym (none-weigh kids))
list-weighs o kids (list es) = refl
list-weighs o kids (structure es) = ap (λ n. 5 + n) (sym (none-weigh kids))

pub list-saturated :
    (l : Layout) (o : OffsetWidth) (kids : Roses Layout) (d : Datum) (es : Items) (n r : ℕ) → l ≡ Listed o
    → es ≡ items_in d
    → n ≡ saturated (items_weight kids es) → r ≡ saturated (5 + n) → r ≡ saturated (weight (node l kids) d)
list-saturated l o kids d es n r is same items e =
    let P : Layout → Type 0 = λ l. r ≡ saturated (weight (node l kids) d) in
    subst P (sym is)
    (saturated_on 5 n (items_weight kids es) r items e ∙ ap (λ xs. saturated (5 + items_weight kids xs)) same
    ∙ ap saturated (sym (list-weighs o kids d)))

pub ruleset layout_weights = (own-saturated, list-saturated)

pub ruleset struct_sums = (saturated_on)
