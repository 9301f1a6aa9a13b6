use Rattle.std.proofs.Common.{◌≡◌, ◌-◌, ◌∙◌, All, List, length, take, drop, arith, ap, length-drop, subst, sym}
use Rattle.std.proofs.lemmas.List.Elements.{All-drop}
use Rattle.values.specs.Datum.{Datum}
use Rattle.values.specs.Rose.{kids_of}
use Rattle.body_writer.specs.declared.from_columns.batch.RowRange.{RowRange}
use Rattle.body_writer.specs.RowRanges.{IsRange, ranges_rows}
use Rattle.body_writer.specs.Picked.{picked_rows}
use Rattle.stream_writer.specs.RangeRows.{picked_left}
use Rattle.stream_writer.proofs.BatchRowLemmas.{light-left, rest-is, skipped}
use Rattle.stream_writer.proofs.RangeLemmas.{picked-dropped}
use Rattle.stream_writer.proofs.range_rows.RangeRowsRowSource.skip.Goals as goal

pub find_range-place-requires : goal.find_range-place-requires
find_range-place-requires c =
    let fits = c.requires.fits.1 in (fits.width, fits.have.ranges)

pub returns-clause-rows : goal.returns-clause-rows
returns-clause-rows c =
    let old = c.args.self.now in
    let rows = ranges_rows old.ranges.now in
    let place = c.find_range-place.result in
    let rest = rest-is old.ranges.now place.ranges c.find_range-place.ensures.within in
    let same = ap (λ rs. drop place.from (ranges_rows rs)) rest ∙ c.find_range-place.ensures.rows in
    ap (picked_rows old.columns.now) (skipped rows old.from c.args.count _ same)
    ∙ sym (picked-dropped old.columns.now c.args.count (drop old.from rows))

pub returns-clause-fits : goal.returns-clause-fits
returns-clause-fits c = λ ls fits.
    let old = c.args.self.now in
    let rows = ranges_rows old.ranges.now in
    let n = c.args.count in
    let place = c.find_range-place.result in
    let rest = rest-is old.ranges.now place.ranges c.find_range-place.ensures.within in
    let same = ap (λ rs. drop place.from (ranges_rows rs)) rest ∙ c.find_range-place.ensures.rows in
    let kept : List RowRange = take (length old.ranges.now - place.ranges) (drop place.ranges old.ranges.now) in
    let left : List (List Datum) = picked_rows old.columns.now (drop place.from (ranges_rows kept)) in
    let behind : left ≡ drop n (picked_left old) =
    ap (picked_rows old.columns.now) (skipped rows old.from n (drop place.from (ranges_rows kept)) same)
    ∙ sym (picked-dropped old.columns.now n (drop old.from rows)) in
    let size = ap length behind ∙ length-drop n (picked_left old) in
    record {
      many = fits.many;
      width = fits.width;
      have = record {
        ranges = subst (All (IsRange fits.width)) (sym rest)
            (All-drop (IsRange fits.width) place.ranges old.ranges.now fits.have.ranges);
        below = fits.have.below;
      };
      light = light-left (kids_of ls) (picked_left old) left n behind fits.light;
      left = omega (arith, size, fits.left);
      small = omega (arith, fits.small, fits.left, c.find_range-place.ensures.bound, c.requires.within);
    }
