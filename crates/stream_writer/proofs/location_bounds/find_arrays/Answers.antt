use Rattle.std.proofs.Common.{◌∙◌, get_or}
use Rattle.stream_writer.specs.JoinedRows.{half}
use Rattle.stream_writer.proofs.PlaceRowLemmas.{arrays-all, arrays-more, found-as}
use Rattle.stream_writer.proofs.location_bounds.find_arrays.Goals as goal

pub loop-j-preserved : goal.loop-j-preserved
loop-j-preserved c =
    let r = c.args.rows.now in
    let columns = c.args.columns.now in
    let j = c.loop-j.j in
    let found = c.in_ok-found in
    arrays-more r columns j c.loop-j.arrays.items c.push.new.self.items found.found c.loop-j-test.true
    (found-as c.half.result.now (half r (get_or columns j 0)) found.found c.half.ensures found.ensures.found)
    (found.ensures.column ∙ c.place_of.ensures) c.in_ok-push.ensures.items c.loop-j.invariant

pub returns : goal.returns
returns c =
    arrays-all c.args.rows.now c.args.columns.now c.loop-j.j c.loop-j.arrays.items c.loop-j-test.false c.loop-j.invariant
