use Rattle.std.proofs.Common.{◌∙◌, ap}
use Rattle.row_keys.specs.Chunks.{Chunk}
use Rattle.row_keys.proofs.Tails.{tail_gathered, tail_numbered}
use Rattle.row_keys.proofs.rewriting.gather_tail.Goals as goal

pub returns-clause-rows : goal.returns-clause-rows
returns-clause-rows c =
    tail_gathered c.args.chunk.now c.chunk.inside.batch c.as_slice.result.now c.args.from c.new-ranges.result.items
    c.push_ranges.new.ranges.items (ap (λ (x : Chunk). x.rows) c.chunk.view_is)
    (ap (λ (x : Chunk). x.columns) c.chunk.view_is)
    (c.as_slice.ensures ∙ ap (λ (x : Chunk). x.gone) c.chunk.view_is) c.new-ranges.ensures.items
    c.in_ok-push_ranges.ensures.rows

pub returns-clause-numbers : goal.returns-clause-numbers
returns-clause-numbers c =
    tail_numbered c.args.chunk.now c.args.from c.new-numbers.result.items c.push_numbers.new.numbers.items
    c.new-numbers.ensures.items c.in_ok-push_numbers.ensures
