use Rattle.std.proofs.Common.{◌≤◌, ap, sym, subst, ◌∙◌}
use Rattle.values.specs.Rose.{Rose, node, kids_of}
use Rattle.values.specs.Reading.{IsValid}
use Rattle.array_layout.specs.declared.array.ArrayData.{ArrayData}
use Rattle.array_layout.specs.Sound.{IsSound}
use Rattle.array_layout.specs.Cells.{cell, len_of}
use Rattle.body_writer.specs.Segments.{Lies}
use Rattle.body_writer.proofs.from_columns.segment.array_slots.Goals as goal

pub returns-clause-checked : goal.returns-clause-checked
returns-clause-checked c =
    let body = c.args.body.now in
    let same = sym c.array.view_is ∙ ap (λ cs. node c.array.inside.own (kids_of cs)) (sym c.deref.ensures.value) in
    record {
      sound = subst (IsSound body) same c.requires.sound;
      valid = λ k lo hi. subst (λ (t : Rose ArrayData). IsValid (cell body t k)) same (c.requires.valid k lo hi);
      order = c.requires.order;
      within = subst (λ (t : Rose ArrayData). c.args.to ≤ len_of t) same c.requires.within;
    }

pub returns-clause-lies : goal.returns-clause-lies
returns-clause-lies c = λ t m lies.
    let body = c.args.body.now in
    let same = sym c.array.view_is ∙ ap (λ cs. node c.array.inside.own (kids_of cs)) (sym c.deref.ensures.value) in
    record {
      width = record {
        checked = record {
          sound = subst (IsSound body) same c.requires.sound;
          valid = λ k lo hi. subst (λ (u : Rose ArrayData). IsValid (cell body u k)) same (c.requires.valid k lo hi);
          order = c.requires.order;
          within = subst (λ (u : Rose ArrayData). c.args.to ≤ len_of u) same c.requires.within;
        };
        offsets = c.offset_width.ensures;
      };
      lies = subst (Lies t m) same lies;
    }
