-- The children of an array, one after another.
use Rattle.std.proofs.Common.{◌≡◌, ℕ, suc, ◌+◌, ◌^◌, ◌<◌, List, ◌++◌, length, get_or, drop, All, refl, ap, sym, subst, ◌∙◌, arith, append_assoc, length-append}
use Rattle.std.proofs.lemmas.List.Concat.{flat_map-append}
use Rattle.values.specs.Rose.{Rose, node, Roses, more, kids_of}
use Rattle.values.proofs.Roses.{kids_step}
use Rattle.values.specs.Datum.{Datum}
use Rattle.values.specs.declared.layout.Layout.{Layout}
use Rattle.values.specs.Layouts.{IsNode, IsLayout, AreLayouts, Holds}
use Rattle.array_layout.specs.declared.array.FieldNode.{FieldNode}
use Rattle.array_layout.specs.declared.array.BufferRange.{BufferRange}
use Rattle.body_writer.specs.Columns.{child_cells, nodes, nodes_below, buffers, buffers_below}
use Rattle.body_writer.specs.Body.{laid, padded, ranges_from}
use Rattle.values.specs.Weights.{weights}
use Rattle.body_writer.specs.Grows.{Grows}
use Rattle.body_writer.specs.declared.body.Body.{Body}
use Rattle.body_writer.proofs.Held.{HeldEach, kids-held}
use Rattle.body_writer.proofs.WeightLemmas.{weights_each, weights-split}
use Rattle.body_writer.proofs.GrowthLemmas.{ranges_from-append}

-- the children from number j on are still to be written, and then the body is the whole
pub record Ahead (l : Layout) (j : ℕ) (ts : Roses Layout) (cs : List Datum) (now : Body) (ns : List FieldNode)
    (ss : List BufferRange) (bs : List ℕ) : Type 0 where
  pub layouts : AreLayouts ts
  pub held : HeldEach l j ts cs
  pub light : weights_each l j ts cs < 2 ^ 31
  pub nodes : now.nodes.items ++ nodes_below l j ts cs ≡ ns
  pub ranges : now.ranges.items ++ ranges_from (length now.bytes.items) (buffers_below l j ts cs) ≡ ss
  pub bytes : now.bytes.items ++ laid (buffers_below l j ts cs) ≡ bs

abbrev pub AheadOf : Layout → ℕ → Roses Layout → List Datum → Body → Body → Roses Layout → Type 0
AheadOf l j ts cs now old kids =
    Ahead l j ts cs now (old.nodes.items ++ nodes_below l 0 kids cs)
    (old.ranges.items ++ ranges_from (length old.bytes.items) (buffers_below l 0 kids cs))
    (old.bytes.items ++ laid (buffers_below l 0 kids cs))

pub ahead-start :
    (l : Layout) (kids : Roses Layout) (cs : List Datum) (old : Body) → IsNode l kids → AreLayouts kids
    → All (Holds (node l kids)) cs
    → weights (node l kids) cs < 2 ^ 31 → AheadOf l 0 kids cs old old kids
ahead-start l kids cs old is layouts held light =
    let split = weights-split l kids cs is held in
    record {
      layouts = layouts;
      held = kids-held l kids cs is held;
      light = omega (arith, light, split);
      nodes = refl;
      ranges = refl;
      bytes = refl;
    }

step :
    (l : Layout) (j : ℕ) (t : Rose Layout) (ts : Roses Layout) (cs : List Datum) (now next : Body) (ns : List FieldNode)
    (ss : List BufferRange) (bs : List ℕ)
    → Ahead l j (more t ts) cs now ns ss bs
    → Grows now next (nodes t (child_cells l j cs)) (buffers t (child_cells l j cs))
    → Ahead l (suc j) ts cs next ns ss bs
step l j t ts cs now next ns ss bs a g =
    let light = a.light in
    let mine = buffers t (child_cells l j cs) in
    let rest = buffers_below l (suc j) ts cs in
    let start : ℕ = length now.bytes.items in
    let moved : length next.bytes.items ≡ start + length (laid mine) =
    ap length g.bytes ∙ length-append now.bytes.items (laid mine) in
    record {
      layouts = a.layouts.1;
      held = a.held.1;
      light = omega (arith, light);
      nodes = rw g.nodes (append_assoc now.nodes.items (nodes t (child_cells l j cs)) (nodes_below l (suc j) ts cs))
          ∙ a.nodes;
      ranges =
          rw (g.ranges, moved)
          (append_assoc now.ranges.items (ranges_from start mine) (ranges_from (start + length (laid mine)) rest))
          ∙ ap (λ xs. now.ranges.items ++ xs) (sym (ranges_from-append start mine rest)) ∙ a.ranges;
      bytes = rw g.bytes (append_assoc now.bytes.items (laid mine) (laid rest))
          ∙ ap (λ xs. now.bytes.items ++ xs) (sym (flat_map-append padded mine rest)) ∙ a.bytes;
    }

pub ahead-first :
    (l : Layout) (j : ℕ) (ts : List (Rose Layout)) (t : Rose Layout) (cs : List Datum) (now : Body)
    (ns : List FieldNode) (ss : List BufferRange) (bs : List ℕ)
    → j < length ts → t ≡ get_or ts j t → Ahead l j (kids_of (drop j ts)) cs now ns ss bs
    → Ahead l j (more t (kids_of (drop (j + 1) ts))) cs now ns ss bs
ahead-first l j ts t cs now ns ss bs h e a =
    subst (λ (xs : Roses Layout). Ahead l j xs cs now ns ss bs) (kids_step ts j t t e h) a

pub ahead-call :
    (l : Layout) (j : ℕ) (t : Rose Layout) (ts : Roses Layout) (cs below : List Datum) (now : Body)
    (ns : List FieldNode) (ss : List BufferRange) (bs : List ℕ)
    → below ≡ child_cells l j cs → Ahead l j (more t ts) cs now ns ss bs
    → IsLayout t × All (Holds t) below × (weights t below < 2 ^ 31)
ahead-call l j t ts cs below now ns ss bs e a =
    let light = a.light in
    let mine : weights t (child_cells l j cs) < 2 ^ 31 = omega (arith, light) in
    let P : List Datum → Type 0 = λ ds. All (Holds t) ds × (weights t ds < 2 ^ 31) in
    let there : P below = subst P (sym e) (a.held.0, mine) in
    (a.layouts.0, there.0, there.1)

pub ahead-next :
    (l : Layout) (j : ℕ) (t : Rose Layout) (ts : Roses Layout) (cs below : List Datum) (now next : Body)
    (ns : List FieldNode) (ss : List BufferRange) (bs : List ℕ)
    → below ≡ child_cells l j cs → Ahead l j (more t ts) cs now ns ss bs
    → Grows now next (nodes t below) (buffers t below)
    → Ahead l (j + 1) ts cs next ns ss bs
ahead-next l j t ts cs below now next ns ss bs e a g =
    let after : suc j ≡ j + 1 = omega arith in
    let P : ℕ → Type 0 = λ k. Ahead l k ts cs next ns ss bs in
    subst P after
    (step l j t ts cs now next ns ss bs a
    (subst (λ (ds : List Datum). Grows now next (nodes t ds) (buffers t ds)) e g))
