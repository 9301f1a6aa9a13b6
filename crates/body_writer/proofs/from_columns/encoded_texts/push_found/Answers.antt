use Rattle.std.proofs.Common.{arith, ◌∙◌, ap}
use Rattle.values.specs.Rose.{node, kids_of}
use Rattle.array_layout.specs.Cells.{cell}
use Rattle.body_writer.specs.Texts.{as_bytes, bytes_cells}
use Rattle.body_writer.proofs.TextLemmas.{text-step, text-over}
use Rattle.body_writer.proofs.from_columns.encoded_texts.push_found.Goals as goal

pub loop-i-preserved : goal.loop-i-preserved
loop-i-preserved c =
    let parts = c.args.range.now.parts in
    record {
      past = omega (arith, c.loop-i.invariant.past);
      texts = text-step (cell parts.body.now (node parts.own.now (kids_of parts.children.now))) c.loop-i.i
          c.args.range.now.to
          c.text_of.result c.loop-i.texts.items c.push.new.self.items _ c.loop-i-test.true
          (c.text_of.ensures ∙ ap as_bytes c.value_of.ensures)
          c.in_ok-push.ensures.items
          c.loop-i.invariant.texts;
    }

pub returns : goal.returns
returns c =
    let parts = c.args.range.now.parts in
    text-over (cell parts.body.now (node parts.own.now (kids_of parts.children.now))) c.loop-i.i c.args.range.now.to
    (bytes_cells c.loop-i.texts.items) _ c.loop-i-test.false c.loop-i.invariant.texts
