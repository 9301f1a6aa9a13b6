use Rattle.std.proofs.Common.{length, arith, ap, sym, subst, ◌∙◌, ◌≡◌, ◌-◌, ℕ, List, get_or, ◌<◌, ◌≤◌}
use Rattle.std.specs.Prelude.{Bool, false}
use Rattle.bitmaps.specs.Bits.{bits_at}
use Rattle.bitmaps.proofs.Runs.{length-bits_at}
use Rattle.array_layout.proofs.NullRuns.{alike-null, none-null, no-bytes}
use Rattle.array_layout.proofs.runs.run_end.Goals as goal

pub returns-then-is_empty-clause-same : goal.returns-then-is_empty-clause-same
returns-then-is_empty-clause-same c =
    let none = no-bytes (length c.args.bits.now) c.is_empty.result c.is_empty.ensures c.if-is_empty.true in
    λ k lo hi. none-null c.args.bits.now k none ∙ sym (none-null c.args.bits.now c.args.from none)

pub run_end-requires : goal.run_end-requires
run_end-requires c =
    let long = ap length c.new.ensures ∙ length-bits_at c.args.bits.now c.args.from (c.args.to - c.args.from) in
    omega (arith, long, c.requires.some)

pub overflow_add-result : goal.overflow_add-result
overflow_add-result c =
    let long = ap length c.new.ensures ∙ length-bits_at c.args.bits.now c.args.from (c.args.to - c.args.from) in
    omega (arith, long, c.requires.some, c.run_end.ensures.within, c.ranges.to.fits)

pub returns-clause-within : goal.returns-clause-within
returns-clause-within c =
    let long = ap length c.new.ensures ∙ length-bits_at c.args.bits.now c.args.from (c.args.to - c.args.from) in
    omega (arith, long, c.requires.some, c.run_end.ensures.within)

pub returns-clause-same : goal.returns-clause-same
returns-clause-same c =
    let long = ap length c.new.ensures ∙ length-bits_at c.args.bits.now c.args.from (c.args.to - c.args.from) in
    let run : List Bool → ℕ → Type 0 =
    λ bs len. (k : ℕ) → 0 ≤ k → k < len → get_or bs k false ≡ get_or bs 0 false in
    alike-null c.args.bits.now c.args.from (c.args.to - c.args.from) c.run_end.result
    (omega (arith, long, c.run_end.ensures.within))
    (subst (λ bs. run bs c.run_end.result) c.new.ensures c.run_end.ensures.same)
