-- Values as contracts see them.
use Rattle.std.specs.Prelude.{◌≡◌, ℕ, ℤ, pos, suc, ◌+◌, ◌==◌, ◌≤◌, Bool, true, false, if◌then◌else◌, List, [], ◌∷◌, refl}
use Rattle.std.proofs.Common.{ap, arith, ◌∙◌}
use Rattle.std.specs.Coded.{Coded, code_by, coded×, coded_ℕ, coded_ℤ, coded_bool, coded_list}
use denote.Param.Weighed.{most}
use Rattle.values.specs.Rose.{Rose, node, Roses, none, more, rose_code}

-- a cell: no value, a truth value, a whole number, the bytes of a text, bytes, the items of a list, or the children of
-- a struct
mutual
  pub data Datum : Type 0 where
    null : Datum
    truth : Bool → Datum
    whole : ℤ → Datum
    text : List ℕ → Datum
    bytes : List ℕ → Datum
    list : Items → Datum
    structure : Items → Datum

  pub data Items : Type 0 where
    no_items : Items
    item : Datum → Items → Items

abbrev pub items_of : List Datum → Items
items_of [] = no_items
items_of (d ∷ ds) = item d (items_of ds)

abbrev pub is_null : Datum → Bool
is_null null = true
is_null _ = false

-- how many values a value consists of
abbrev mutual
  pub datum_size : Datum → ℕ
  datum_size null = 1
  datum_size (truth b) = 1
  datum_size (whole n) = 1
  datum_size (text t) = 1
  datum_size (bytes b) = 1
  datum_size (list es) = suc (items_size es)
  datum_size (structure es) = suc (items_size es)

  pub items_size : Items → ℕ
  items_size no_items = 0
  items_size (item d es) = datum_size d + items_size es

-- The code of a value is that of a tree, each of whose nodes has a kind and what a value of it holds.

abbrev pub Head : Type 0
Head = ℕ × (Bool × (ℤ × List ℕ))

abbrev pub head_code : Coded Head
head_code = coded× coded_ℕ (coded× coded_bool (coded× coded_ℤ (coded_list coded_ℕ)))

abbrev mutual
  pub rose_of : Datum → Rose Head
  rose_of null = node (0, (false, (pos 0, []))) none
  rose_of (truth b) = node (1, (b, (pos 0, []))) none
  rose_of (whole n) = node (2, (false, (n, []))) none
  rose_of (text t) = node (3, (false, (pos 0, t))) none
  rose_of (bytes b) = node (4, (false, (pos 0, b))) none
  rose_of (list es) = node (5, (false, (pos 0, []))) (roses_of es)
  rose_of (structure es) = node (6, (false, (pos 0, []))) (roses_of es)

  pub roses_of : Items → Roses Head
  roses_of no_items = none
  roses_of (item d es) = more (rose_of d) (roses_of es)

abbrev pub datum_with : Head → Items → Datum
datum_with h es =
    if h.0 == 0 then null else if h.0 == 1 then truth h.1.0 else if h.0 == 2 then whole h.1.1.0 else if h.0 == 3
    then text h.1.1.1
    else if h.0 == 4 then bytes h.1.1.1 else if h.0 == 5 then list es else structure es

abbrev mutual
  pub datum_in : Rose Head → Datum
  datum_in (node h kids) = datum_with h (items_in kids)

  pub items_in : Roses Head → Items
  items_in none = no_items
  items_in (more t ts) = item (datum_in t) (items_in ts)

mutual
  pub datum_in-rose_of : (d : Datum) → datum_in (rose_of d) ≡ d
  datum_in-rose_of null = refl
  datum_in-rose_of (truth b) = refl
  datum_in-rose_of (whole n) = refl
  datum_in-rose_of (text t) = refl
  datum_in-rose_of (bytes b) = refl
  datum_in-rose_of (list es) = ap list (items_in-roses_of es)
  datum_in-rose_of (structure es) = ap structure (items_in-roses_of es)

  pub items_in-roses_of : (es : Items) → items_in (roses_of es) ≡ es
  items_in-roses_of no_items = refl
  items_in-roses_of (item d es) =
      ap (λ e. item e (items_in (roses_of es))) (datum_in-rose_of d) ∙ ap (item d) (items_in-roses_of es)

abbrev pub datum_code : Coded Datum
datum_code = code_by (Rose Head) (rose_code head_code) rose_of datum_in datum_in-rose_of

-- no item is larger than all of them together
pub most_le-items_size : (ds : List Datum) → most (λ d. datum_size d + 1) ds ≤ suc (items_size (items_of ds))
most_le-items_size [] = omega arith
most_le-items_size (d ∷ ds) = omega (arith, most_le-items_size ds)
