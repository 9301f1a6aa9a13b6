use Rattle.std.proofs.Common.{◌++◌, ◌+◌, arith, get_or, length-drop, map, refl}
use Rattle.body_writer.proofs.Rows.{cells_in}
use Rattle.stream_writer.specs.Coding.{indices_at, values_at}
use Rattle.stream_writer.specs.Stream.{dictionary_message, dictionary_messages}
use Rattle.stream_writer.proofs.DictionaryBodies.{columns-more, dictionaries-more}
use Rattle.stream_writer.proofs.dictionary_batch.write_dictionaries.Goals as goal

pub write_dictionary-requires-clause-texts : goal.write_dictionary-requires-clause-texts
write_dictionary-requires-clause-texts c = c.requires.texts c.loop-j.j-index 0 c.loop-j-test.true

pub write_dictionary-requires-clause-batch : goal.write_dictionary-requires-clause-batch
write_dictionary-requires-clause-batch c = c.requires.batches c.loop-j.j-index 0 c.loop-j-test.true

pub loop-j-preserved : goal.loop-j-preserved
loop-j-preserved c =
    let coded = c.args.coded.now in
    let rows = cells_in c.args.rows.now in
    let i = c.loop-j.j-index in
    let j = get_or coded i 0 in
    let inv = c.loop-j.invariant in
    let now = length-drop i coded in
    let next = length-drop (i + 1) coded in
    let size = c.in_ok-write_dictionary.ensures.size in
    record {
      columns =
          columns-more coded rows i 0 c.loop-j.columns.items c.push.new.self.items c.in_ok-write_dictionary.field-0
          (map (λ k. indices_at k rows) coded) c.loop-j-test.true c.in_ok-write_dictionary.ensures.indices
          c.in_ok-push.ensures.items inv.columns;
      bytes =
          dictionaries-more coded rows i j 0 c.loop-j.bytes.items (dictionary_message j (values_at j rows))
          c.write_dictionary.new.bytes.items (c.args.bytes.now.items ++ dictionary_messages coded rows)
          c.loop-j-test.true refl refl c.in_ok-write_dictionary.ensures.bytes inv.bytes;
      short = omega (arith, inv.short, now, next, size, c.loop-j-test.true);
    }
