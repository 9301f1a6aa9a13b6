use Rattle.upkeep.proofs.EachRow.{live_are_shown}
use Rattle.upkeep.proofs.MadeRows.{Laws, firsts_are_shown, groups_are_shown}
use Rattle.upkeep.proofs.reading.reading_law.Goals as goal

pub returns : goal.returns
returns c =
    let laws : Laws = record {
      fits = c.image_law.ensures.fits;
      at = c.image_law.ensures.at;
      values = c.image_law.ensures.values;
      kept = c.one_by_one_law.ensures.kept;
      shown = c.one_by_one_law.ensures.shown;
      ascend = c.numbers_law.ensures.ascend;
      live = c.numbers_law.ensures.live;
      numbers = c.numbers_law.ensures.at;
      sums = c.rows_law.ensures.sums;
      few = c.rows_law.ensures.few;
      keys = c.rows_law.ensures.keys;
      ordered = c.rows_law.ensures.ordered;
    } in
    record { groups = groups_are_shown laws; live = live_are_shown laws; first = firsts_are_shown laws }
