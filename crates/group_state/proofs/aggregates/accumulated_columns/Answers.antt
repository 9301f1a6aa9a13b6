use Rattle.std.proofs.Common.{◌≡◌, ℕ, All, Bool, List, subst, true}
use Rattle.std.proofs.lemmas.List.{take_all}
use Rattle.view_lang.specs.Outputs.{GroupOutput}
use Rattle.group_state.specs.Aggregates.{IsAccumulated, is_read, reads}
use Rattle.group_state.proofs.AccumulatedColumns.{kept-more, read-there}
use Rattle.group_state.proofs.aggregates.accumulated_columns.Goals as goal

pub loop-output-preserved : goal.loop-output-preserved
loop-output-preserved c =
    let P : GroupOutput → Type 0 = λ o. IsAccumulated c.keep_read.new.columns.items o.aggregate in
    let Q : GroupOutput → Type 0 = λ o. (p : ℕ → Bool) → ((k : ℕ) → reads o.aggregate k ≡ true → p k ≡ true)
    → All (λ k. p k.column ≡ true) c.loop-output.columns.items
    → All (λ k. p k.column ≡ true) c.keep_read.new.columns.items in
    record {
      kept =
          kept-more c.loop-output.columns.items c.keep_read.new.columns.items c.args.outputs.now
          c.loop-output.output-index c.output-item.result c.loop-output-test.true c.output-item.is
          c.in_ok-keep_read.ensures.still (subst P c.output.view_is c.in_ok-keep_read.ensures.here)
          c.loop-output.invariant.kept;
      read =
          subst Q c.output.view_is c.in_ok-keep_read.ensures.only (is_read c.args.outputs.now)
          (read-there c.args.outputs.now c.loop-output.output-index c.output-item.result c.loop-output-test.true
          c.output-item.is)
          c.loop-output.invariant.read;
    }

pub returns-clause-kept : goal.returns-clause-kept
returns-clause-kept c =
    let P : List GroupOutput → Type 0 = λ os. All (λ o. IsAccumulated c.loop-output.columns.items o.aggregate) os in
    subst P (take_all c.loop-output.output-index c.args.outputs.now c.loop-output-test.false) c.loop-output.invariant.kept
