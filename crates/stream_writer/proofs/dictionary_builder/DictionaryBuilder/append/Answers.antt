use Rattle.std.proofs.Common.{◌≡◌, ap, sym, ◌∙◌}
use Rattle.stream_writer.specs.Coding.{index_in}
use Rattle.stream_writer.specs.Texts.{texts_in}
use Rattle.body_writer.specs.Slots.{cell_of}
use Rattle.stream_writer.proofs.NumberedTexts.{index-inserted, text-inserted}
use Rattle.stream_writer.proofs.dictionary_builder.DictionaryBuilder.append.Goals.{else-is_new, then-is_new+in_ok-push}
use Rattle.stream_writer.proofs.dictionary_builder.DictionaryBuilder.append.Goals as goal

pub returns-clause-texts : goal.returns-clause-texts
returns-clause-texts c =
    let keys : texts_in c.if-is_new.self.texts.keys ≡ texts_in c.insert_full.new.self.keys =
    elim c.if-is_new.branch [
      | then-is_new+in_ok-push w ↦ ap (λ s. texts_in s.texts.keys) w.self-is
      | else-is_new w ↦ ap (λ s. texts_in s.texts.keys) w.self-is
    ] in
    keys
    ∙ text-inserted (cell_of c.args.cell) c.in-Some.text c.args.self.now.texts.keys c.insert_full.new.self.keys
    (sym c.in-Some.ensures) c.in_ok-place.ensures.keys

pub returns-clause-index : goal.returns-clause-index
returns-clause-index c =
    let keys : texts_in c.if-is_new.self.texts.keys ≡ texts_in c.insert_full.new.self.keys =
    elim c.if-is_new.branch [
      | then-is_new+in_ok-push w ↦ ap (λ s. texts_in s.texts.keys) w.self-is
      | else-is_new w ↦ ap (λ s. texts_in s.texts.keys) w.self-is
    ] in
    c.index_value.ensures
    ∙ index-inserted (cell_of c.args.cell) c.in-Some.text c.args.self.now.texts.keys c.insert_full.new.self.keys
    c.in_ok-place.place (sym c.in-Some.ensures) c.in_ok-place.ensures.keys c.in_ok-place.ensures.index
    ∙ ap (λ s. index_in s (cell_of c.args.cell)) (sym keys)
