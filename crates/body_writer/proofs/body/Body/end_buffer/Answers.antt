use Rattle.std.proofs.Common.{◌-◌, ◌∙◌, ◌++◌, ap, refl, arith}
use Rattle.std.proofs.lemmas.List.{take-replicate}
use Rattle.body_writer.specs.Body.{padding}
use Rattle.body_writer.proofs.GrowthLemmas.{buffer-ended}
use Rattle.body_writer.proofs.body.Body.end_buffer.Goals as goal

pub returns : goal.returns
returns c = λ before buffer place begins.
    let len = c.len.result - c.args.from in
    buffer-ended before c.args.self.now _ buffer len c.args.from place begins
    (ap (λ n. n - c.args.from) (c.len.ensures ∙ c.args.self.now.bytes.ok.0)) refl c.in_ok-push.ensures.items
    (c.in_ok-extend_from_slice.ensures.items
    ∙ ap (λ zeros. c.args.self.now.bytes.items ++ zeros) (take-replicate (padding len) 8 0 (omega arith)))
