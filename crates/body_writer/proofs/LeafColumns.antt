-- Columns without children: the node and the buffers of such a column are its own.
use Rattle.std.proofs.Common.{◌≡◌, List, [], ◌∷◌, All, length, refl, subst, sym, ap, ◌∙◌, arith, ◌<◌, ◌^◌}
use Rattle.std.specs.List.{flat_map}
use Rattle.std.proofs.lemmas.List.{length-map}
use Rattle.std.specs.Prelude.{Option}
use Rattle.values.specs.Datum.{Datum}
use Rattle.values.specs.Rose.{Rose, node, Roses, none, more}
use Rattle.values.specs.Layouts.{IsNode, IsLayout}
use Rattle.values.specs.Weights.{weights}
use Rattle.values.specs.declared.layout.Layout.{Layout}
use Rattle.values.specs.declared.layout.Layout.TheVariants.{Bool as Booleans, Int, Decimal, FixedSizeBinary}
use Rattle.body_writer.specs.Columns.{buffers, fixed, nodes, numbers, own_buffers, own_node, validity}
use Rattle.body_writer.specs.Grows.{Grows}
use Rattle.body_writer.specs.Runs.{slot_bytes}
use Rattle.body_writer.specs.Locations.{Fits, layout_of, located_cell, located_cells}
use Rattle.body_writer.specs.declared.body.Body.{Body}
use Rattle.body_writer.specs.declared.from_locations.plain.PlainArray.{PlainArray}
use Rattle.body_writer.specs.declared.from_locations.location.RowLocation.{RowLocation}
use Rattle.body_writer.proofs.WeightLemmas.{weights-long}

-- a layout of slots of a fixed width in bytes
abbrev pub HasSlots : Layout → Type 0
HasSlots (Int w s) = Unit {0}
HasSlots (Decimal p) = Unit {0}
HasSlots (FixedSizeBinary w) = Unit {0}
HasSlots l = ⊥

pub has-slots : (l k : Layout) → l ≡ k → HasSlots k → HasSlots l
has-slots l k is has = subst HasSlots (sym is) has

abbrev SlotsColumn : Layout → Roses Layout → List Datum → Type 0
SlotsColumn l kids ds =
    (nodes (node l kids) ds ≡ own_node ds ∷ [])
    × (buffers (node l kids) ds ≡ validity ds ∷ flat_map (slot_bytes l) ds ∷ [])

slots-alone : (l : Layout) (kids : Roses Layout) (ds : List Datum) → HasSlots l → IsNode l kids → SlotsColumn l kids ds
unfolding numbers fixed
slots-alone (Int w s) none ds has is = (refl, refl)
slots-alone (Int w s) (more t ts) ds has is = absurd is
slots-alone (Decimal p) none ds has is = (refl, refl)
slots-alone (Decimal p) (more t ts) ds has is = absurd is
slots-alone (FixedSizeBinary w) none ds has is = (refl, refl)
slots-alone (FixedSizeBinary w) (more t ts) ds has is = absurd is
slots-alone l kids ds has is = absurd has

pub slots-column : (t : Rose Layout) (l : Layout) (kids : Roses Layout) (ds : List Datum) (old new : Body)
    → node l kids ≡ t → HasSlots l → IsLayout t
    → Grows old new (own_node ds ∷ []) (validity ds ∷ flat_map (slot_bytes l) ds ∷ [])
    → Grows old new (nodes t ds) (buffers t ds)
slots-column t l kids ds old new e has known grows =
    let P : Rose Layout → Type 0 = λ u. IsLayout u → Grows old new (nodes u ds) (buffers u ds) in
    subst P e (λ is.
    let alone = slots-alone l kids ds has is.0 in
    subst (λ xs. Grows old new xs (buffers (node l kids) ds)) (sym alone.0)
    (subst (λ xs. Grows old new (own_node ds ∷ []) xs) (sym alone.1) grows)) known

bits-alone : (kids : Roses Layout) (ds : List Datum) → IsNode Booleans kids
    → (nodes (node Booleans kids) ds ≡ own_node ds ∷ []) × (buffers (node Booleans kids) ds ≡ own_buffers Booleans ds)
bits-alone none ds is = (refl, refl)
bits-alone (more t ts) ds is = absurd is

pub bits-column : (t : Rose Layout) (l : Layout) (kids : Roses Layout) (ds : List Datum) (old new : Body)
    → node l kids ≡ t → l ≡ Booleans → IsLayout t
    → Grows old new (own_node ds ∷ []) (own_buffers Booleans ds) → Grows old new (nodes t ds) (buffers t ds)
bits-column t l kids ds old new e is known grows =
    let P : Rose Layout → Type 0 = λ u. IsLayout u → Grows old new (nodes u ds) (buffers u ds) in
    subst P (ap (λ k. node k kids) (sym is) ∙ e) (λ known.
    let alone = bits-alone kids ds known.0 in
    subst (λ xs. Grows old new xs (buffers (node Booleans kids) ds)) (sym alone.0)
    (subst (λ xs. Grows old new (own_node ds ∷ []) xs) (sym alone.1) grows)) known

-- the arrays of a column of this layout
pub fit-as : (t : Rose Layout) (l k : Layout) (kids : Roses Layout) (xs : List (Option PlainArray))
    (ps : List RowLocation) → node l kids ≡ t → l ≡ k → All (Fits (layout_of t) xs) ps → All (Fits k xs) ps
fit-as t l k kids xs ps e is all = subst (λ y. All (Fits y xs) ps) (sym (ap layout_of e) ∙ is) all

pub locations-few : (t : Rose Layout) (xs : List (Option PlainArray)) (ps : List RowLocation)
    → weights t (located_cells xs ps) < 2 ^ 31 → length ps < 2 ^ 31
locations-few t xs ps light =
    let long = weights-long t (located_cells xs ps) in
    let many = length-map ps (located_cell xs) in
    omega (arith, long, many, light)
