-- The cells of the children are held by the children's layouts.
use Rattle.std.proofs.Common.{◌≡◌, ℕ, zero, suc, List, [], ◌∷◌, get_or, All, refl, sym, subst}
use Rattle.std.specs.List.{flat_map}
use Rattle.std.proofs.lemmas.List.Elements.{All-head, All-tail, All-nil, All-cons, All-append, All-map}
use Rattle.values.specs.Rose.{Rose, node, Roses, none, more}
use Rattle.values.specs.Datum.{Datum, null, list, structure, Items, no_items, item}
use Rattle.values.specs.declared.layout.OffsetWidth.{OffsetWidth}
use Rattle.values.specs.declared.layout.Layout.{Layout}
use Rattle.values.specs.declared.layout.Layout.TheVariants.{
  Bool as Booleans,
  Int,
  Decimal,
  FixedSizeBinary,
  Utf8,
  Binary,
  List as Listed,
  Struct,
}
use Rattle.values.specs.Layouts.{IsNode, Holds, HoldsAll, HoldsEach}
use Rattle.body_writer.specs.Slots.{listed, items_in, part}
use Rattle.body_writer.specs.Columns.{items, child_cells}

-- the children of a struct from number j on
abbrev pub from_item : ℕ → Items → Items
from_item zero es = es
from_item (suc j) no_items = no_items
from_item (suc j) (item d es) = from_item j es

pub item-at : (j : ℕ) (es : Items) (d : Datum) (rest : Items) → from_item j es ≡ item d rest
    → get_or (listed es) j null ≡ d
item-at zero no_items d rest e = cc
item-at zero (item c es) d rest e = cc
item-at (suc j) no_items d rest e = cc
item-at (suc j) (item c es) d rest e = item-at j es d rest e

pub items-after : (j : ℕ) (es : Items) (d : Datum) (rest : Items) → from_item j es ≡ item d rest
    → from_item (suc j) es ≡ rest
items-after zero no_items d rest e = cc
items-after zero (item c es) d rest e = cc
items-after (suc j) no_items d rest e = cc
items-after (suc j) (item c es) d rest e = items-after j es d rest e

-- the parts of a struct from number j on are held
abbrev pub HoldsFrom : ℕ → Roses Layout → Datum → Type 0
HoldsFrom j ts null = Unit {0}
HoldsFrom j ts (structure es) = HoldsEach ts (from_item j es)
HoldsFrom j ts _ = ⊥

pub holds-null : (t : Rose Layout) → Holds t null
holds-null (node Booleans kids) = tt
holds-null (node (Int w s) kids) = tt
holds-null (node (Decimal p) kids) = tt
holds-null (node (FixedSizeBinary w) kids) = tt
holds-null (node (Utf8 o) kids) = tt
holds-null (node (Binary o) kids) = tt
holds-null (node (Listed o) kids) = tt
holds-null (node Struct kids) = tt

next-item :
    (j : ℕ) (es xs : Items) (t : Rose Layout) (ts : Roses Layout) → from_item j es ≡ xs → HoldsEach (more t ts) xs
    → Holds t (get_or (listed es) j null) × HoldsEach ts (from_item (suc j) es)
next-item j es no_items t ts e h = absurd h
next-item j es (item d rest) t ts e h =
    let P : Items → Type 0 = λ zs. HoldsEach ts zs in
    (subst (Holds t) (sym (item-at j es d rest e)) h.0, subst P (sym (items-after j es d rest e)) h.1)

pub part-held : (j : ℕ) (t : Rose Layout) (ts : Roses Layout) (c : Datum) → HoldsFrom j (more t ts) c
    → Holds t (part j c)
part-held j t ts null h = holds-null t
part-held j t ts (structure es) h = (next-item j es (from_item j es) t ts refl h).0
part-held j t ts c h = absurd h

pub parts-after : (j : ℕ) (t : Rose Layout) (ts : Roses Layout) (c : Datum) → HoldsFrom j (more t ts) c
    → HoldsFrom (suc j) ts c
parts-after j t ts null h = tt
parts-after j t ts (structure es) h = (next-item j es (from_item j es) t ts refl h).1
parts-after j t ts c h = absurd h

pub struct-held : (kids : Roses Layout) (c : Datum) → Holds (node Struct kids) c → HoldsFrom 0 kids c
struct-held kids null h = tt
struct-held kids (structure es) h = h
struct-held kids c h = absurd h

-- all cells of a column

pub all-with : {P Q : Datum → Type 0} (cs : List Datum) → ((c : Datum) → P c → Q c) → All P cs → All Q cs
all-with {P} {Q} cs f h = λ i d l. f (get_or cs i d) (h i d l)

list-held : (t : Rose Layout) (ts : Roses Layout) (es : Items) → HoldsAll (more t ts) es → All (Holds t) (listed es)
list-held t ts no_items h = All-nil (Holds t)
list-held t ts (item d es) h = All-cons (Holds t) d (listed es) h.0 (list-held t ts es h.1)

items_in-held : (o : OffsetWidth) (t : Rose Layout) (ts : Roses Layout) (c : Datum)
    → Holds (node (Listed o) (more t ts)) c → All (Holds t) (items_in c)
items_in-held o t ts null h = All-nil (Holds t)
items_in-held o t ts (list es) h = list-held t ts es h
items_in-held o t ts c h = absurd h

items-held : (o : OffsetWidth) (t : Rose Layout) (ts : Roses Layout) (cs : List Datum)
    → All (Holds (node (Listed o) (more t ts))) cs → All (Holds t) (items cs)
unfolding items
items-held o t ts [] h = All-nil (Holds t)
items-held o t ts (c ∷ cs) h =
    let P : Datum → Type 0 = Holds (node (Listed o) (more t ts)) in
    All-append (Holds t) (items_in c) (flat_map items_in cs) (items_in-held o t ts c (All-head P c cs h))
    (items-held o t ts cs (All-tail P c cs h))

abbrev pub HeldEach : Layout → ℕ → Roses Layout → List Datum → Type 0
HeldEach l j none cs = Unit {0}
HeldEach l j (more t ts) cs = All (Holds t) (child_cells l j cs) × HeldEach l (suc j) ts cs

parts-held : (j : ℕ) (ts : Roses Layout) (cs : List Datum) → All (HoldsFrom j ts) cs → HeldEach Struct j ts cs
parts-held j none cs h = tt
parts-held j (more t ts) cs h = (
  All-map (Holds t) (part j) cs (all-with cs (part-held j t ts) h),
  parts-held (suc j) ts cs (all-with cs (parts-after j t ts) h),
)

pub kids-held : (l : Layout) (kids : Roses Layout) (cs : List Datum) → IsNode l kids → All (Holds (node l kids)) cs
    → HeldEach l 0 kids cs
kids-held (Listed o) (more t none) cs is h = (items-held o t none cs h, tt)
kids-held (Listed o) none cs is h = absurd is
kids-held (Listed o) (more t (more u ts)) cs is h = absurd is
kids-held Struct kids cs is h = parts-held 0 kids cs (all-with cs (struct-held kids) h)
kids-held l none cs is h = tt
kids-held l (more t ts) cs is h = absurd is
