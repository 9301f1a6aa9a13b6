use Rattle.std.proofs.Common.{◌≡◌, ◌++◌, ◌+◌, ◌*◌, ◌^◌, ◌≤◌, drop, length, map}
use Rattle.values.specs.Limits.{max_fields}
use Rattle.body_writer.proofs.Rows.{cells_in}
use Rattle.stream_writer.specs.Coding.{indices_at}
use Rattle.stream_writer.specs.Stream.{dictionary_messages}
use Rattle.stream_writer.proofs.dictionary_batch.write_dictionaries.Given as goal

abbrev pub invariant-loop-j : goal.invariant-loop-j
invariant-loop-j l = record {
  columns :
      cells_in l.columns.items ++ map (λ j. indices_at j (cells_in l.rows)) (drop l.j-index l.coded)
      ≡ map (λ j. indices_at j (cells_in l.rows)) l.coded;
  bytes :
      l.bytes.items ++ dictionary_messages (drop l.j-index l.coded) (cells_in l.rows)
      ≡ l.fn.bytes.items ++ dictionary_messages l.coded (cells_in l.rows);
  short :
      length l.bytes.items + 2 ^ 29 * length (drop l.j-index l.coded) ≤ length l.fn.bytes.items + 2 ^ 29 * max_fields;
}
