use Rattle.bitmaps.proofs.BlockLemmas.{whole-block, cut-block}
use Rattle.bitmaps.proofs.lanes.load.Goals as goal
use Rattle.bitmaps.proofs.lanes.load.Goals.{then-place-eq0, else-place-eq0}

pub returns : goal.returns
returns c =
    let bytes = c.args.bytes.now in
    let low = c.load_bytes-low in
    elim c.if-place-eq0.branch [
      | then-place-eq0 w ↦
          whole-block bytes low.result c.if-place-eq0.result c.args.from w.if-place-eq0.true low.ensures.long
          low.ensures.each w.result-is
      | else-place-eq0 w ↦
          cut-block bytes low.result w.load_bytes.result w.join_lanes.result c.if-place-eq0.result c.args.from
          c.type_inv.bytes low.ensures.each w.load_bytes.ensures.each w.join_lanes.ensures.long
          w.join_lanes.ensures.each w.result-is
    ]
