use Rattle.std.proofs.Common.{All, ◌∙◌, ◌-◌, length, take, drop, arith, ap, length-drop, List, subst, sym, ℕ}
use Rattle.std.proofs.lemmas.List.Elements.{All-drop}
use Rattle.values.specs.Datum.{Datum}
use Rattle.values.specs.Rose.{kids_of}
use Rattle.body_writer.specs.declared.from_columns.batch.Batch.{Batch}
use Rattle.body_writer.specs.RowRanges.{IsSized, rows_of}
use Rattle.stream_writer.specs.BatchRows.{AreWeighed}
use Rattle.stream_writer.proofs.BatchRowLemmas.{rest-is, skipped, weighed-left}
use Rattle.stream_writer.proofs.batch_rows.BatchRowsRowSource.skip.Goals as goal

pub returns-clause-fits : goal.returns-clause-fits
returns-clause-fits c = λ ls fits.
    let old = c.args.self.now in
    let rows = rows_of old.batches.now in
    let n = c.args.count in
    let ws = old.weights.now in
    let place = c.find_row-place.result in
    let rest = rest-is old.batches.now place.batches c.find_row-place.ensures.within in
    let same = ap (λ bs. drop place.from (rows_of bs)) rest ∙ c.find_row-place.ensures.rows in
    let kept : List Batch = take (length old.batches.now - place.batches) (drop place.batches old.batches.now) in
    let left : List (List Datum) = drop place.from (rows_of kept) in
    let behind = skipped rows old.from n left same in
    let size = ap length behind ∙ length-drop n (drop old.from rows) in
    let least = c.min-weighed.ensures in
    let weighed = rest-is ws c.min-weighed.result (omega (arith, least)) in
    record {
      sized = subst (All (IsSized (length ls))) (sym rest)
          (All-drop (IsSized (length ls)) place.batches old.batches.now fits.sized);
      weighed = subst (λ (us : List ℕ). AreWeighed (kids_of ls) us left) (sym weighed)
          (weighed-left (kids_of ls) ws (drop old.from rows) left n c.min-weighed.result fits.weighed behind
          c.requires.within least);
      left = omega (arith, size, fits.left);
      small = omega (arith, fits.small, fits.left, c.find_row-place.ensures.bound, c.requires.within);
    }
