use Rattle.std.proofs.Common.{ap, refl, sym}
use Rattle.row_keys.specs.Chunks.{Chunk}
use Rattle.row_keys.proofs.RunRows.{run_at, run_pushed, run_pushed_sized}
use Rattle.row_keys.proofs.runs.push_run.Goals as goal

pub returns-in_ok-push-clause-rows : goal.returns-in_ok-push-clause-rows
returns-in_ok-push-clause-rows c =
    let run = c.args.run in
    let chunk = c.index-chunks-run.result in
    run_pushed c.args.chunks.now run.chunk run.from run.to chunk c.args.ranges.now.items c.push.new.self.items _
    c.in_ok-push.ensures.items
    (run_at c.args.chunks.now run.chunk run.to chunk c.index-chunks-run.is (c.requires.there c.if-run.true))
    (sym (ap (λ (x : Chunk). x.rows) c.chunk.view_is)) (sym (ap (λ (x : Chunk). x.columns) c.chunk.view_is)) refl refl

pub returns-in_ok-push-clause-ranges : goal.returns-in_ok-push-clause-ranges
returns-in_ok-push-clause-ranges c = λ w wide all.
    let run = c.args.run in
    let chunk = c.index-chunks-run.result in
    run_pushed_sized c.args.chunks.now run.chunk run.from run.to w chunk c.args.ranges.now.items c.push.new.self.items _
    c.in_ok-push.ensures.items
    (run_at c.args.chunks.now run.chunk run.to chunk c.index-chunks-run.is (c.requires.there c.if-run.true))
    (sym (ap (λ (x : Chunk). x.rows) c.chunk.view_is)) (sym (ap (λ (x : Chunk). x.columns) c.chunk.view_is)) refl refl
    c.requires.order (c.requires.there c.if-run.true) (wide c.if-run.true) all
