use Rattle.body_writer.proofs.LieLemmas.{encoded-checked}
use Rattle.body_writer.proofs.from_columns.write.write_encoded_texts.Goals as goal

pub count_cells-requires-clause-checked : goal.count_cells-requires-clause-checked
count_cells-requires-clause-checked c = encoded-checked c.args.segments.now c.requires.encoded
