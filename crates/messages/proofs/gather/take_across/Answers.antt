use Rattle.std.proofs.Common.{◌++◌, ◌+◌, ◌-◌, arith, length, length-append}
use Rattle.std.proofs.lemmas.List.{length-take}
use Rattle.messages.specs.State.{known_of, whole_seen}
use Rattle.messages.proofs.Messages.{first_within}
use Rattle.messages.proofs.gather.take_across.Goals as goal

pub overflow_add-used : goal.overflow_add-used
overflow_add-used c =
    let b = first_within (known_of c.args.state.now) (c.args.held.now ++ c.args.piece.now) (whole_seen c.args.found)
    c.requires.found in
    omega (arith, b, length-append c.args.held.now c.args.piece.now)

pub slice_bounds-extend_from_slice-end-2 : goal.slice_bounds-extend_from_slice-end-2
slice_bounds-extend_from_slice-end-2 c =
    let b = first_within (known_of c.args.state.now) (c.args.held.now ++ c.args.piece.now) (whole_seen c.args.found)
    c.requires.found in
    let t = length-take (c.args.found.front + c.args.found.metadata.body - length c.args.held.now) c.args.piece.now in
    omega (arith, b, t, length-append c.args.held.now c.args.piece.now)
