use Rattle.std.proofs.Common.{arith}
use Rattle.body_writer.proofs.WeightLemmas.{weights-long}
use Rattle.body_writer.specs.Segments.{segments_cells}
use Rattle.body_writer.proofs.LieLemmas.{encoded-checked}
use Rattle.body_writer.proofs.from_columns.write.write_encoded_values.Goals as goal

pub count_cells-requires-clause-checked : goal.count_cells-requires-clause-checked
count_cells-requires-clause-checked c = encoded-checked c.args.segments.now c.requires.encoded

pub count_cells-requires-clause-few : goal.count_cells-requires-clause-few
count_cells-requires-clause-few c =
    let long = weights-long c.args.layout.now (segments_cells c.args.segments.now) in
    omega (arith, long, c.requires.light)
