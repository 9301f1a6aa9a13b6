-- How a weight is summed up to a limit.
use Rattle.std.proofs.Common.{
  ◌≡◌,
  ℕ,
  suc,
  List,
  [],
  ◌∷◌,
  ◌+◌,
  ◌-◌,
  ◌<◌,
  ◌≤◌,
  length,
  drop,
  get_or,
  refl,
  ap,
  sym,
  subst,
  ◌∙◌,
  arith,
}
use Rattle.std.specs.Prelude.{Option, None, Some, Bool, false, if◌then◌else◌}
use Rattle.values.specs.Limits.{max_cell_weight}
use Rattle.values.specs.Rose.{Rose, node, Roses, none, kids_of}
use Rattle.values.proofs.WeightLemmas.{own-null_weight}
use Rattle.values.proofs.Roses.{kids_step, kids_end, kid_smaller}
use Rattle.values.specs.declared.layout.OffsetWidth.{OffsetWidth}
use Rattle.values.specs.declared.layout.Layout.{Layout}
use Rattle.values.specs.declared.layout.Layout.TheVariants.{List as Listed, Struct}
use Rattle.values.specs.Layouts.{null_weight, null_weights}
use Rattle.array_layout.specs.declared.array.DictionaryValues.{DictionaryValues}
use Rattle.array_layout.specs.declared.array.ArrayData.{ArrayData}
use Rattle.array_layout.specs.Placing.{bytes_of, layout_by, layout_of, layouts_of}
use Rattle.array_layout.specs.Buffers.{is_null, offset_at}
use Rattle.array_layout.specs.Cells.{coded_by}
use Rattle.array_layout.proofs.SoundLemmas.{kid_sound}
use Rattle.arrays.proofs.DictionaryLemmas.{index_room}
use Rattle.arrays.specs.Weights.{
  capped,
  extent,
  sum_from,
  weight_in,
  weight_by,
  encoded_weight,
  slot_weight,
  weight_at,
  first_weight,
  weight_beside,
}
use Rattle.arrays.proofs.ValidationLemmas.{
  text_fit,
  bytes_fit,
  list_fit,
  struct_long,
  kids_sound,
  list_child,
  child_sound,
  child_within,
  child_smaller,
  kid_long,
}

capped_sum : (s a r : ℕ) → capped (capped (s + capped a) + r) ≡ capped (s + (a + r))
unfolding capped
capped_sum s a r = grind arith

capped_more : (s a r : ℕ) → capped (capped (s + a) + r) ≡ capped (s + (a + r))
unfolding capped
capped_more s a r = grind arith

capped_full : (r : ℕ) → capped (max_cell_weight + 1 + r) ≡ max_cell_weight + 1
unfolding capped
capped_full r = grind arith

pub capped_here : (a : ℕ) → capped (capped a) ≡ capped a
unfolding capped
capped_here a = grind arith

-- one number more of a sum
pub sum_more : (s x t a r w : ℕ) → x ≡ capped a → t ≡ capped (s + x) → capped (s + (a + r)) ≡ w → capped (t + r) ≡ w
sum_more s x t a r w is sum left =
    let P : ℕ → Type 0 = λ k. capped (k + r) ≡ w in
    let Q : ℕ → Type 0 = λ k. capped (capped (s + k) + r) ≡ w in
    subst P (sym sum) (subst Q (sym is) (capped_sum s a r ∙ left))

pub sum_full : (s r w : ℕ) → s ≡ max_cell_weight + 1 → capped (s + r) ≡ w → s ≡ w
sum_full s r w full left =
    let P : ℕ → Type 0 = λ k. capped (k + r) ≡ w in
    full ∙ sym (capped_full r) ∙ subst P full left

capped_small : (k : ℕ) → k ≤ max_cell_weight + 1 → k ≡ capped k
unfolding capped
capped_small k h = grind arith

pub sum_none : (s r w : ℕ) → s ≤ max_cell_weight + 1 → r ≡ 0 → capped (s + r) ≡ w → s ≡ w
sum_none s r w bound nothing left =
    let e : s ≡ s + r = omega (arith, nothing) in
    capped_small s bound ∙ ap capped e ∙ left

sum_step : (f : ℕ → ℕ) (i n : ℕ) → i < n → sum_from f i (n - i) ≡ f i + sum_from f (i + 1) (n - (i + 1))
unfolding sum_from
sum_step f i n h = let k : n - i ≡ suc (n - (i + 1)) = omega arith in rw k refl

sum_past : (f : ℕ → ℕ) (i n : ℕ) → n ≤ i → sum_from f i (n - i) ≡ 0
unfolding sum_from
sum_past f i n h = let k : n - i ≡ 0 = omega arith in rw k refl

-- the sum over a list's items
pub items_start : (s f r w : ℕ) → s ≡ capped f → w ≡ capped (f + r) → capped (s + r) ≡ w
items_start s f r w is whole =
    let P : ℕ → Type 0 = λ k. capped (k + r) ≡ w in
    let e : capped (capped (f + 0) + r) ≡ capped (f + (0 + r)) = capped_more f 0 r in
    let a : f + 0 ≡ f = omega arith in
    let b : 0 + r ≡ r = omega arith in
    let Q : ℕ → Type 0 = λ k. capped (capped k + r) ≡ capped (f + r) in
    let R : ℕ → Type 0 = λ k. capped (capped (f + 0) + r) ≡ capped (f + k) in
    subst P (sym is) (subst Q a (subst R b e) ∙ sym whole)

pub items_step :
    (f : ℕ → ℕ) (i n s x t w : ℕ) → i < n → x ≡ capped (f i) → t ≡ capped (s + x)
    → capped (s + sum_from f i (n - i)) ≡ w
    → capped (t + sum_from f (i + 1) (n - (i + 1))) ≡ w
items_step f i n s x t w below is sum left =
    let P : ℕ → Type 0 = λ k. capped (s + k) ≡ w in
    sum_more s x t (f i) (sum_from f (i + 1) (n - (i + 1))) w is sum (subst P (sum_step f i n below) left)

pub items_end : (f : ℕ → ℕ) (i n s w : ℕ) → n ≤ i → s ≤ max_cell_weight + 1 → capped (s + sum_from f i (n - i)) ≡ w
    → s ≡ w
items_end f i n s w past bound left = sum_none s (sum_from f i (n - i)) w bound (sum_past f i n past) left

pub ruleset item_laws = (items_start, items_step, items_end, sum_full)

-- over a struct's children
pub row_step :
    (b : List ℕ) (ts : List (Rose ArrayData)) (k : ℕ) (e d : Rose ArrayData) (i s x t w : ℕ) → e ≡ get_or ts k d
    → k < length ts
    → x ≡ capped (weight_at b e i) → t ≡ capped (s + x) → capped (s + weight_beside b (kids_of (drop k ts)) i) ≡ w
    → capped (t + weight_beside b (kids_of (drop (k + 1) ts)) i) ≡ w
row_step b ts k e d i s x t w is below here sum left =
    let P : Roses ArrayData → Type 0 = λ r. capped (s + weight_beside b r i) ≡ w in
    sum_more s x t (weight_at b e i) (weight_beside b (kids_of (drop (k + 1) ts)) i) w here sum
    (subst P (kids_step ts k e d is below) left)

pub row_end :
    (b : List ℕ) (ts : List (Rose ArrayData)) (k i s w : ℕ) → length ts ≤ k → s ≤ max_cell_weight + 1
    → capped (s + weight_beside b (kids_of (drop k ts)) i) ≡ w
    → s ≡ w
row_end b ts k i s w past bound left =
    let none_left : weight_beside b (kids_of (drop k ts)) i ≡ 0 = ap (λ r. weight_beside b r i) (kids_end ts k past) in
    sum_none s (weight_beside b (kids_of (drop k ts)) i) w bound none_left left

pub ruleset row_laws = (items_start, row_step, row_end, sum_full, kid_long, kid_sound, kid_smaller)

-- over the children's slots
pub slots_step :
    (ts : List (Rose ArrayData)) (k : ℕ) (e d : Rose ArrayData) (s x t w : ℕ) → e ≡ get_or ts k d → k < length ts
    → x ≡ capped (null_weight (layout_of e))
    → t ≡ capped (s + x) → capped (s + null_weights (layouts_of (kids_of (drop k ts)))) ≡ w
    → capped (t + null_weights (layouts_of (kids_of (drop (k + 1) ts)))) ≡ w
slots_step ts k e d s x t w is below here sum left =
    let P : Roses ArrayData → Type 0 = λ r. capped (s + null_weights (layouts_of r)) ≡ w in
    sum_more s x t (null_weight (layout_of e)) (null_weights (layouts_of (kids_of (drop (k + 1) ts)))) w here sum
    (subst P (kids_step ts k e d is below) left)

pub slots_end :
    (ts : List (Rose ArrayData)) (k s w : ℕ) → length ts ≤ k → s ≤ max_cell_weight + 1
    → capped (s + null_weights (layouts_of (kids_of (drop k ts)))) ≡ w → s ≡ w
slots_end ts k s w past bound left =
    let none_left : null_weights (layouts_of (kids_of (drop k ts))) ≡ 0 =
    ap (λ r. null_weights (layouts_of r)) (kids_end ts k past) in
    sum_none s (null_weights (layouts_of (kids_of (drop k ts)))) w bound none_left left

-- nothing else has children
pub bare_slot :
    (l : Layout) (kids : Roses Layout) (n r : ℕ) → ¬ (l ≡ Struct) → n ≡ null_weight (node l none) → r ≡ capped n
    → r ≡ capped (null_weight (node l kids))
bare_slot l kids n r single own is = is ∙ ap capped (own ∙ sym (own-null_weight l kids single))

pub ruleset slot_laws = (items_start, slots_step, slots_end, kid_smaller)

pub ruleset own_laws = (bare_slot)

-- the items' array
pub items_weigh :
    (b : List ℕ) (ts : List (Rose ArrayData)) (e d : Rose ArrayData) (i n r : ℕ) → e ≡ get_or ts 0 d → 0 < length ts
    → r ≡ capped (5 + sum_from (weight_at b e) i n) → r ≡ capped (5 + sum_from (λ j. first_weight b (kids_of ts) j) i n)
items_weigh b [] e d i n r is some h = absurd (omega (arith, some))
items_weigh b (t ∷ ts) e d i n r is some h =
    let P : Rose ArrayData → Type 0 = λ u. r ≡ capped (5 + sum_from (weight_at b u) i n) in subst P is h

pub ruleset list_laws = (list_fit, list_child, child_sound, child_within, child_smaller, items_weigh)

pub list_weighs :
    (r : ℕ) (b : List ℕ) (p : ArrayData) (bare : ℕ) (kids : Roses ArrayData) (o : OffsetWidth) (i : ℕ)
    → p.layout ≡ Listed o
    → r ≡ capped
    (5 + sum_from (λ j. first_weight b kids j) (offset_at o (bytes_of b p.offsets) i)
    (extent o (bytes_of b p.offsets) i))
    → r ≡ capped (weight_by p.layout b p bare (λ j. first_weight b kids j) (λ j. weight_beside b kids j) i)
list_weighs r b p bare kids o i is h =
    let P : Layout
    → Type 0 =
    λ l. r ≡ capped (weight_by l b p bare (λ j. first_weight b kids j) (λ j. weight_beside b kids j) i) in
    subst P (sym is) h

pub ruleset value_laws = (list_weighs, text_fit, bytes_fit, struct_long, kids_sound)

-- the weight of a valid slot is that of the cell
abbrev here : List ℕ → ArrayData → ℕ → Roses ArrayData → ℕ → Option DictionaryValues → ℕ
here b p bare kids i o = slot_weight o b p bare (λ j. first_weight b kids j) (λ j. weight_beside b kids j) i

slot_weighs :
    (r : ℕ) (b : List ℕ) (p : ArrayData) (bare : ℕ) (kids : Roses ArrayData) (o : Option DictionaryValues) (i : ℕ)
    → is_null (bytes_of b p.validity) i ≡ false
    → p.dictionary ≡ o → r ≡ capped (here b p bare kids i o)
    → r ≡ capped (weight_in b p bare (λ j. first_weight b kids j) (λ j. weight_beside b kids j) i)
unfolding weight_in
slot_weighs r b p bare kids o i there is h =
    let P : Option DictionaryValues → Type 0 = λ w. r ≡ capped (here b p bare kids i w) in
    let Q : Bool → Type 0 = λ n. r ≡ capped (if n then bare else here b p bare kids i p.dictionary) in
    subst Q (sym there) (subst P (sym is) h)

pub encoded_weighs :
    (r : ℕ) (b : List ℕ) (p : ArrayData) (kids : Roses ArrayData) (w : DictionaryValues) (i : ℕ)
    → is_null (bytes_of b p.validity) i ≡ false → p.dictionary ≡ Some w
    → r ≡ capped (encoded_weight w.layout (coded_by p.layout w.values (bytes_of b p.values) i))
    → r ≡ capped (weight_at b (node p kids) i)
encoded_weighs r b p kids w i there is h = slot_weighs r b p _ kids (Some w) i there is h

abbrev slot_by_dictionary : ArrayData → Roses ArrayData → Option DictionaryValues → ℕ
slot_by_dictionary p kids o = null_weight (node (layout_by o p.layout) (layouts_of kids))

pub value_weighs :
    (r : ℕ) (b : List ℕ) (p : ArrayData) (kids : Roses ArrayData) (i : ℕ) → is_null (bytes_of b p.validity) i ≡ false
    → p.dictionary ≡ None
    → r ≡ capped
    (weight_by p.layout b p (null_weight (node p.layout (layouts_of kids))) (λ j. first_weight b kids j)
    (λ j. weight_beside b kids j) i)
    → r ≡ capped (weight_at b (node p kids) i)
value_weighs r b p kids i there is h =
    let P : Option DictionaryValues
    → Type 0 =
    λ o. r ≡ capped
    (weight_by p.layout b p (slot_by_dictionary p kids o) (λ j. first_weight b kids j) (λ j. weight_beside b kids j)
    i) in
    slot_weighs r b p (slot_by_dictionary p kids p.dictionary) kids None i there is (subst P (sym is) h)

pub ruleset weight_laws = (encoded_weighs, value_weighs, index_room)

pub ruleset bytes_laws = (capped_here)
