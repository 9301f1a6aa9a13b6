use Rattle.std.proofs.Common.{rules, arith, refl}
use Rattle.values.specs.Rose.{node, kids_of}
use Rattle.body_writer.proofs.RowRangeLemmas.{cell-good}
use Rattle.body_writer.proofs.from_locations.plain.plain_of.Goals as goal

pub returns : goal.returns
returns c = λ ds is.
    let parts = c.args.parts in
    record {
      plain = record {
        own = record {
          plain = record {
            checked = record {
              sound = c.requires.sound;
              valid = λ k lo hi. cell-good parts.body.now (node parts.own.now (kids_of parts.children.now)) ds k is hi;
              order = omega arith;
              within = omega arith;
            };
            plain = search rules;
          };
          layout = search rules;
        };
        whole = refl;
        bits = c.buffer.ensures;
        offsets = c.buffer-2.ensures;
        values = c.bytes_in.ensures.bytes;
        small = c.bytes_in.ensures.small;
      };
      all = refl;
      cells_are = is;
    }
