use Rattle.std.proofs.Common.{◌≡◌, ◌+◌, ◌-◌, ◌<◌, ◌∙◌, ap, arith, drop, length, sym, take}
use Rattle.values.specs.Rose.{kids_of}
use Rattle.stream_writer.proofs.ViewLemmas.{light-next, long-at}
use Rattle.stream_writer.proofs.viewed_rows.are_light.Goals as goal

pub loop-j-preserved : goal.loop-j-preserved
loop-j-preserved c =
    let r = c.args.rows.now in
    let ls = c.args.layouts.now in
    let j = c.loop-j.j in
    let tree = c.index-layouts-j.result in
    let column = c.index-rows-j.result in
    let under = c.if-sum-gt-MAX_LIGHT_ROW.false in
    let within : j < length r.columns.now = omega (arith, c.loop-j-test.true, c.requires.fits.many) in
    let long = long-at r.columns.now (r.from + r.left) j column within c.index-rows-j.is c.requires.fits.long in
    let same : r.from + c.args.count - r.from ≡ c.args.count = omega arith in
    let cut = ap (λ n. take n (drop r.from c.deref.result.now)) same
    ∙ ap (λ xs. take c.args.count (drop r.from xs))
    (c.deref.ensures.value ∙ ap (λ v. v.items) (sym c.index-rows-j.is)) in
    record {
      light = light-next ls r.columns.now r.from c.args.count j c.loop-j.sum c.bound_cells.result
          c.saturating_add-sum.result tree c.tree.inside.layout (kids_of c.tree.inside.children.items) column _ c.requires.fits.flat
          c.requires.fits.many (omega (arith, long, c.requires.within)) c.loop-j-test.true c.index-layouts-j.is
          (sym c.tree.view_is) c.index-rows-j.is cut c.bound_cells.ensures
          (omega (arith, c.saturating_add-sum.ensures, under)) c.loop-j.invariant.light;
      small = omega (arith, under);
    }
