use Rattle.std.proofs.Common.{rules, ap, ◌∙◌, ◌+◌, ◌∷◌, [], drop, arith, subst, sym, All, OnOk}
use Rattle.std.proofs.lemmas.Result.{on_ok_weaker}
use denote.Param.Weighed.{at_most}
use Rattle.values.proofs.Roses.{kid_smaller}
use Rattle.values.specs.Rose.{Rose, node, kids_of}
use Rattle.values.specs.declared.layout.Layout.{Layout}
use Rattle.body_writer.specs.Columns.{own_node, own_buffers, nodes, nodes_below, buffers, buffers_below}
use Rattle.body_writer.specs.Grows.{Grows}
use Rattle.body_writer.proofs.GrowthLemmas.{Grows-then}
use Rattle.body_writer.proofs.Ahead.{ahead-start, ahead-first, ahead-call, ahead-next}
use Rattle.body_writer.proofs.WeightLemmas.{weights-long, total-short}
use Rattle.array_layout.specs.declared.array.ArrayData.{ArrayData}
use Rattle.body_writer.specs.Segments.{segments_cells, Lies, LiesAs}
use Rattle.body_writer.proofs.LieLemmas.{
  all-encoded,
  all-below,
  own-layouts,
  models-many,
  child-lies,
  have-child,
  lie-below,
}
use Rattle.body_writer.proofs.from_columns.write.+column.Goals as goal

pub write_segments-write_encoded-requires-clause-encoded : goal.write_segments-write_encoded-requires-clause-encoded
write_segments-write_encoded-requires-clause-encoded t c =
    all-encoded c.args.layout.now c.args.model.now (kids_of c.args.models.now) c.args.segments.now (search rules)
    c.requires.lie

pub write_segments-write_own-requires-clause-layout : goal.write_segments-write_own-requires-clause-layout
write_segments-write_own-requires-clause-layout t c =
    own-layouts c.layout.inside.layout (kids_of c.layout.inside.children.items) (kids_of c.args.models.now)
    c.args.segments.now
    (all-below c.layout.inside.layout (kids_of c.layout.inside.children.items) c.args.model.now (kids_of
    c.args.models.now) c.args.segments.now (search rules)
    (subst (λ (u : Rose Layout). All (LiesAs u (node c.args.model.now (kids_of c.args.models.now))) c.args.segments.now)
    (sym c.layout.view_is) c.requires.lie))

pub write_segments-write_own-requires-clause-few : goal.write_segments-write_own-requires-clause-few
write_segments-write_own-requires-clause-few t c =
    let long = weights-long c.args.layout.now (segments_cells c.args.segments.now) in
    omega (arith, long, c.requires.light)

pub write_segments-write_own-requires-clause-short : goal.write_segments-write_own-requires-clause-short
write_segments-write_own-requires-clause-short t c =
    total-short c.args.layout.now (segments_cells c.args.segments.now) c.requires.layouts c.requires.held c.requires.light

pub write_children-loop-j-init : goal.write_children-loop-j-init
write_children-loop-j-init t c =
    ahead-start c.args.layout (kids_of c.args.children.now) (segments_cells c.args.segments.now) c.args.body.now
    c.requires.own c.requires.layouts
    c.requires.held c.requires.light

pub write_children-child_segments-requires : goal.write_children-child_segments-requires
write_children-child_segments-requires t c =
    have-child c.args.layout c.args.children.now c.args.models.now c.loop-j.j c.args.segments.now c.loop-j-test.true
    c.requires.lie

pub write_children-child_at-model-requires : goal.write_children-child_at-model-requires
write_children-child_at-model-requires t c =
    (models-many c.args.children.now c.args.models.now c.args.models.now c.loop-j.j c.requires.models
    c.loop-j-test.true).0

pub write_children-write_segments-requires : goal.write_children-write_segments-requires
write_children-write_segments-requires t c =
    let children = c.args.children.now in
    let models = c.args.models.now in
    let child = c.index-children-j.result in
    let model = c.child_at-model.result.now in
    let small = kid_smaller children c.loop-j.j child child c.index-children-j.is c.loop-j-test.true in
    let below = ap segments_cells c.deref-in-loop-j.ensures.value ∙ c.in_ok-below.ensures.cells in
    let same = sym c.model.view_is ∙ ap (λ cs. node c.model.inside.own (kids_of cs)) (sym c.deref.ensures.value) in
    let like = child-lies children models models c.loop-j.j child model model c.requires.models c.loop-j-test.true
    c.index-children-j.is c.child_at-model.ensures c.child_at-model.ensures in
    let lie =
    c.in_ok-below.ensures.lies child model
    (lie-below c.args.layout children models c.loop-j.j child model c.args.segments.now c.loop-j-test.true
    c.index-children-j.is c.child_at-model.ensures c.requires.lie) in
    let first =
    ahead-first c.args.layout c.loop-j.j children child (segments_cells c.args.segments.now) c.loop-j.body _ _ _
    c.loop-j-test.true
    c.index-children-j.is c.loop-j.invariant in
    let call =
    ahead-call c.args.layout c.loop-j.j child (kids_of (drop (c.loop-j.j + 1) children)) (segments_cells
    c.args.segments.now)
    (segments_cells c.deref-in-loop-j.result.now) c.loop-j.body _ _ _ below first in (
      search (rules, at_most, small),
      (
        call.0,
        (
          subst (λ (m : Rose ArrayData). Lies child m m) same like,
          (
            subst (λ (m : Rose ArrayData). All (LiesAs child m) c.deref-in-loop-j.result.now) same
                (subst (All (LiesAs child model)) (sym c.deref-in-loop-j.ensures.value) lie),
            (
              call.1,
              call.2,
            ),
          ),
        ),
      ),
    )

pub write_children-loop-j-preserved : goal.write_children-loop-j-preserved
write_children-loop-j-preserved t c =
    let children = c.args.children.now in
    let child = c.index-children-j.result in
    let below = ap segments_cells c.deref-in-loop-j.ensures.value ∙ c.in_ok-below.ensures.cells in
    let first =
    ahead-first c.args.layout c.loop-j.j children child (segments_cells c.args.segments.now) c.loop-j.body _ _ _
    c.loop-j-test.true
    c.index-children-j.is c.loop-j.invariant in
    ahead-next c.args.layout c.loop-j.j child (kids_of (drop (c.loop-j.j + 1) children)) (segments_cells
    c.args.segments.now)
    (segments_cells c.deref-in-loop-j.result.now) c.loop-j.body c.write_segments.new.body _ _ _ below first
    c.in_ok-write_segments.ensures

pub write_segments-returns : goal.write_segments-returns
write_segments-returns t c =
    let cs = segments_cells c.args.segments.now in
    let l = c.layout.inside.layout in
    let kids = kids_of c.deref.result.now in
    let same = sym c.layout.view_is ∙ ap (λ ts. node c.layout.inside.layout (kids_of ts)) (sym c.deref.ensures.value) in
    let P : Rose Layout → Type 0 = λ u. OnOk c.write_children.result
    (Grows c.args.body.now c.write_children.new.body (nodes u (segments_cells c.args.segments.now)) (buffers u (segments_cells
    c.args.segments.now))) in
    subst P (sym same)
    (on_ok_weaker c.write_children.result
    (λ (below : Grows c.write_own.new.body c.write_children.new.body (nodes_below c.layout.inside.layout 0 (kids_of
    c.deref.result.now) (segments_cells c.args.segments.now)) (buffers_below c.layout.inside.layout 0 (kids_of
    c.deref.result.now) (segments_cells c.args.segments.now))).
    Grows-then (own_node cs ∷ []) (nodes_below l 0 kids cs) (own_buffers l cs) (buffers_below l 0 kids cs)
    c.in_ok-write_own.ensures below) c.write_children.ensures)
