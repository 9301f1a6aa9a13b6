use Rattle.std.proofs.Common.{arith, ap, ◌∙◌}
use Rattle.byteorder.specs.Endian.{little_number}
use Rattle.schema_meta.specs.Framing.{framed}
use Rattle.messages.specs.State.{known_of}
use Rattle.messages.proofs.WantedLemmas.{answer_awaits, tail_is}
use Rattle.messages.proofs.framing.first.Goals as goal

pub returns-clause-wanted : goal.returns-clause-wanted
returns-clause-wanted c =
    let e = rw (c.read_u32.ensures, c.read_u32-2.ensures) at c.in_ok-size.ensures.value in
    let sizes = ap (λ rest. framed (little_number 4 c.args.bytes.now) (little_number 4 rest)) (tail_is c.args.bytes.now)
    ∙ e in
    answer_awaits (known_of c.args.state.now) c.args.bytes.now c.in_ok-size.size c.message_at.result
    (omega (arith, c.if-bytes-lt8.false))
    sizes (omega (arith, c.if-size-eq0.false)) c.message_at.ensures.wanted
