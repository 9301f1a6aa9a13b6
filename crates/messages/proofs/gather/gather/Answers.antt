use Rattle.std.proofs.Common.{◌≤◌, ◌+◌, ◌++◌, length, take, List, ℕ, arith, ap, ◌∙◌}
use Rattle.std.specs.Prelude.{slice_range}
use Rattle.schema_meta.specs.Framing.{first}
use Rattle.messages.specs.State.{known_of, whole_seen}
use Rattle.messages.proofs.GatherLemmas.{next_part, part_found, part_fails, part_gathers, cut_back}
use Rattle.messages.proofs.gather.gather.Goals as goal

pub returns-in-Err-clause-found : goal.returns-in-Err-clause-found
returns-in-Err-clause-found c =
    let held : List ℕ = c.loop-used.held.items in
    let end : ℕ = c.loop-used.used + c.min-step.result in
    let within : end ≤ length c.args.piece.now = omega arith in
    let n =
    next_part held c.args.held.now.items c.args.piece.now c.loop-used.used c.min-step.result c.loop-used.invariant.held
    within
    in
    part_fails (known_of c.args.state.now) (held ++ slice_range c.args.piece.now c.loop-used.used end)
    c.args.held.now.items
    c.args.piece.now end c.in-Err.fault n c.in-Err.ensures.found

pub returns-in-Err-clause-unchanged : goal.returns-in-Err-clause-unchanged
returns-in-Err-clause-unchanged c =
    c.truncate.ensures.items
    ∙ cut_back c.grow.new.held.items c.loop-used.held.items c.args.held.now.items
    (take c.loop-used.used c.args.piece.now)
    c.len-before.result c.in-Err.ensures.kept c.loop-used.invariant.held c.loop-used.invariant.before

pub returns-in-Ok-Whole-clause-found : goal.returns-in-Ok-Whole-clause-found
returns-in-Ok-Whole-clause-found c =
    let held : List ℕ = c.loop-used.held.items in
    let end : ℕ = c.loop-used.used + c.min-step.result in
    let within : end ≤ length c.args.piece.now = omega arith in
    let n =
    next_part held c.args.held.now.items c.args.piece.now c.loop-used.used c.min-step.result c.loop-used.invariant.held
    within
    in
    let f = rw c.in-Ok-Whole.field-0-is at c.in-Ok-Whole.ensures.found in
    part_found (known_of c.args.state.now) (held ++ slice_range c.args.piece.now c.loop-used.used end)
    c.args.held.now.items
    c.args.piece.now end (whole_seen c.in-Ok-Whole.found) n f

pub returns-in-Ok-Whole-clause-grown : goal.returns-in-Ok-Whole-clause-grown
returns-in-Ok-Whole-clause-grown c =
    let held : List ℕ = c.loop-used.held.items in
    let end : ℕ = c.loop-used.used + c.min-step.result in
    let within : end ≤ length c.args.piece.now = omega arith in
    let n =
    next_part held c.args.held.now.items c.args.piece.now c.loop-used.used c.min-step.result c.loop-used.invariant.held
    within
    in
    let f = rw c.in-Ok-Whole.field-0-is at c.in-Ok-Whole.ensures.found in
    part_gathers (known_of c.args.state.now) c.grow.new.held.items c.args.held.now.items c.args.piece.now end
    (whole_seen c.in-Ok-Whole.found) within (c.in-Ok-Whole.ensures.grown ∙ n)
    (ap (λ bs. first (known_of c.args.state.now) bs) c.in-Ok-Whole.ensures.grown ∙ f)
