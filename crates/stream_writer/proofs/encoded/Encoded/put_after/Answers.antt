use Rattle.std.proofs.Common.{◌≡◌, ◌++◌, ◌∙◌, ap, append_assoc, subst, sym}
use Rattle.stream_writer.specs.WrittenSoFar.{WrittenSoFar}
use Rattle.stream_writer.proofs.encoded.Encoded.put_after.Goals as goal

pub returns-clause-goes : goal.returns-clause-goes
returns-clause-goes g c = λ start whole rest so_far.
    let head = c.self.inside.head.items in
    let body = c.self.inside.body.items in
    let parts : c.args.self.now ++ rest ≡ c.deref.result.now ++ (c.deref-2.result.now ++ rest) =
    ap (λ xs. xs ++ rest) (sym c.self.view_is) ∙ append_assoc head body rest
    ∙ ap (λ xs. xs ++ (body ++ rest)) (sym c.deref.ensures.value)
    ∙ ap (λ ys. c.deref.result.now ++ (ys ++ rest)) (sym c.deref-2.ensures.value) in
    c.put_after-2.ensures.goes start whole rest
    (c.in_ok-written.ensures.goes start whole (c.deref-2.result.now ++ rest)
    (subst (WrittenSoFar start (g.S.Sink.sunk c.args.sink.now) c.args.written whole) parts so_far))
