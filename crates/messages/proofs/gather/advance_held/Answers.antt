use Rattle.std.proofs.Common.{rules, ◌≡◌, ◌++◌, Ok, Some, length, take, arith, ap, ◌∙◌}
use Rattle.std.specs.Prelude.{slice_range}
use Rattle.schema_meta.specs.Stage.{Whole, end_of}
use Rattle.schema_meta.specs.Framing.{first}
use Rattle.messages.specs.State.{known_of, progress_seen, whole_seen}
use Rattle.messages.proofs.Messages.{first_beyond}
use Rattle.messages.proofs.GatherLemmas.{same_body, held_before}
use Rattle.messages.proofs.gather.advance_held.Goals as goal

pub overflow_sub-result : goal.overflow_sub-result
overflow_sub-result c =
    let w : Whole = whole_seen c.in-Whole.found in
    let f : first (known_of c.args.state.now) (c.args.held.now.items ++ c.args.piece.now) ≡ Ok (Some w) =
    c.in_ok-wanted.ensures.found ∙ ap (λ p. Ok (progress_seen p)) c.in-Whole.is in
    let b = first_beyond (known_of c.args.state.now) c.args.held.now.items c.args.piece.now w c.requires.partial f in
    omega (arith, c.len-had.ensures, b)

pub returns-in_ok-body-in-Whole-clause-ok : goal.returns-in_ok-body-in-Whole-clause-ok
returns-in_ok-body-in-Whole-clause-ok c =
    let w : Whole = whole_seen c.in-Whole.found in
    let f : first (known_of c.args.state.now) (c.args.held.now.items ++ c.args.piece.now) ≡ Ok (Some w) =
    c.in_ok-wanted.ensures.found ∙ ap (λ p. Ok (progress_seen p)) c.in-Whole.is in
    let b = first_beyond (known_of c.args.state.now) c.args.held.now.items c.args.piece.now w c.requires.partial f in
    let g = rw c.in-Whole.is at c.in_ok-wanted.ensures.grown in
    let s =
    same_body c.gather.new.held.items (c.args.held.now.items ++ c.args.piece.now) c.in-Whole.found.front (end_of w) g.0
    (omega arith) g.1
    in
    let e =
    c.in_ok-body-in-Whole.ensures.items
    ∙ (ap (λ bs. slice_range bs c.in-Whole.found.front (end_of w)) c.deref.ensures.value ∙ s)
    in
    let had : c.len-had.result ≡ length c.args.held.now.items = omega (arith, c.len-had.ensures) in
    let k =
    c.truncate.ensures.items
    ∙ (ap (λ n. take n c.gather.new.held.items) had
    ∙ held_before c.gather.new.held.items c.args.held.now.items c.args.piece.now g.0 (omega (arith, b, g.1)))
    in
    (f, omega (arith, c.len-had.ensures, b), e, k)

pub returns-in_err-body-in-Whole-clause-unchanged : goal.returns-in_err-body-in-Whole-clause-unchanged
returns-in_err-body-in-Whole-clause-unchanged c =
    let w : Whole = whole_seen c.in-Whole.found in
    let f : first (known_of c.args.state.now) (c.args.held.now.items ++ c.args.piece.now) ≡ Ok (Some w) =
    c.in_ok-wanted.ensures.found ∙ ap (λ p. Ok (progress_seen p)) c.in-Whole.is in
    let b = first_beyond (known_of c.args.state.now) c.args.held.now.items c.args.piece.now w c.requires.partial f in
    let g = rw c.in-Whole.is at c.in_ok-wanted.ensures.grown in
    let had : c.len-had.result ≡ length c.args.held.now.items = omega (arith, c.len-had.ensures) in
    let k : c.truncate.new.self.items ≡ c.args.held.now.items =
    c.truncate.ensures.items
    ∙ (ap (λ n. take n c.gather.new.held.items) had
    ∙ held_before c.gather.new.held.items c.args.held.now.items c.args.piece.now g.0 (omega (arith, b, g.1)))
    in
    search (rules, k)
