use Rattle.std.proofs.Common.{rules, ℕ, ◌-◌, sym}
use Rattle.values.specs.declared.faults.StreamFault.{StreamFault}
use Rattle.values.specs.Datum.{Datum}
use Rattle.values.specs.Reading.{FailsWith, Reading, each}
use Rattle.array_layout.specs.Buffers.{slice_at}
use Rattle.array_layout.specs.Cells.{text_of}
use Rattle.arrays.specs.Ranges.{where_valid}
use Rattle.arrays.proofs.RangeLemmas.{run_fault}
use Rattle.arrays.proofs.TextLemmas.{texts_valid_too}
use Rattle.arrays.proofs.texts.validate_texts.Goals as goal

pub returns-then-are_texts : goal.returns-then-are_texts
returns-then-are_texts c =
    texts_valid_too c.args.bits.now c.args.width c.args.offsets.now c.args.values.now c.args.from c.args.to
    (c.are_texts.ensures c.if-are_texts.true) c.requires.order

pub returns-in_err-validate_run : goal.returns-in_err-validate_run
returns-in_err-validate_run c =
    let run = c.run_end-end.ensures in
    let cells : ℕ → Reading Datum = λ i. text_of (slice_at c.args.width c.args.offsets.now c.args.values.now i) in
    let fails : (d : StreamFault) → FailsWith (each cells c.loop-at.at (c.run_end-end.result - c.loop-at.at)) d
    → FailsWith (each (where_valid c.args.bits.now cells) c.args.from (c.args.to - c.args.from)) d =
    λ d h. run_fault c.args.bits.now cells c.loop-at.at c.run_end-end.result c.args.to
    (each (where_valid c.args.bits.now cells) c.args.from (c.args.to - c.args.from)) d c.loop-at.invariant.2
    (sym c.if-not-is_null_at.ensures) run.same run.past run.within h in
    search rules
