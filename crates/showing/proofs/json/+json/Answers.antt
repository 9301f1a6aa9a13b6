use Rattle.std.proofs.Common.{rules, ap, sym, ◌∙◌, ◌++◌, ◌∷◌, ◌+◌, ◌-◌}
use Rattle.std.specs.Prelude.{codes}
use Rattle.values.specs.Datum.{items_of}
use Rattle.values.specs.Reading.{each}
use Rattle.values.specs.Rose.{kids_of, more, none}
use Rattle.values.proofs.Readings.{each_none}
use Rattle.array_layout.specs.Cells.{cell}
use Rattle.arrays.proofs.CopyLemmas.{left_after}
use Rattle.showing.specs.Fields.{below, entry}
use Rattle.showing.specs.Joined.{joined, joined_behind}
use Rattle.showing.specs.Json.{items_of_first}
use Rattle.showing.specs.Shown.{value_of, values_of}
use Rattle.showing.proofs.WrittenTexts.{appends-same, appends-three}
use Rattle.showing.proofs.WrittenParts.{leaves-item, leaves-member, leaves-none}
use Rattle.showing.proofs.Lists.{drop-step, first-items, items-step, members-step, row-step, values-step, structure-shown}
use Rattle.showing.proofs.Members.{first-member}
use Rattle.showing.proofs.json.+json.Goals as goal

pub write_items-loop-i-preserved : goal.write_items-loop-i-preserved
write_items-loop-i-preserved g t c = record {
  valid = left_after (cell c.args.items.body.now c.args.items.array.now) c.loop-i.i c.args.items.to c.loop-i-test.true
      c.loop-i.invariant.valid;
  text = search rules;
  wrote = leaves-item _ _ _ _ _ _ _ _ _ c.loop-i.invariant.wrote c.in_ok-write.ensures.bytes c.in_ok-write_json.ensures
      (items-step c.args.quote.now _ _ c.args.field.now _ _ _
      (values-step (cell c.args.items.body.now c.args.items.array.now) c.loop-i.i c.args.items.to c.loop-i-test.true
      c.loop-i.invariant.valid
      ∙ ap (λ d. d ∷ values_of (each (cell c.args.items.body.now c.args.items.array.now) (c.loop-i.i + 1) (c.args.items.to - (c.loop-i.i + 1)))) (sym (ap value_of c.array_cell.ensures.value))));
}

pub write_items-returns : goal.write_items-returns
write_items-returns g t c =
    leaves-none _ _ _ _ c.loop-i.invariant.wrote
    (ap (λ m. joined_behind c.loop-i.comma.now (codes ",") (items_of_first c.args.quote.now (more c.args.field.now none) (items_of (values_of m))))
    (each_none (cell c.args.items.body.now c.args.items.array.now) c.loop-i.i c.args.items.to c.loop-i-test.false))

pub write_list-returns : goal.write_list-returns
write_list-returns g t c =
    appends-three _ _ _ _ _ _ _ _ _ c.in_ok-write_all.ensures.bytes c.in_ok-write_items.ensures c.write_all-3.ensures.bytes
    (ap (λ ts. codes "[" ++ (joined (codes ",") ts ++ codes "]"))
    (first-items c.args.quote.now c.args.fields.now c.in-Some.field.now _ c.in-Some.ensures.value))

pub write_held_list-returns : goal.write_held_list-returns
write_held_list-returns g t c =
    appends-three _ _ _ _ _ _ _ _ _ c.in_ok-write_all.ensures.bytes c.in_ok-write_held_items.ensures c.write_all-3.ensures.bytes
    (ap (λ ts. codes "[" ++ (joined (codes ",") ts ++ codes "]"))
    (first-items c.args.quote.now c.args.fields.now c.in-Some.field.now _ c.in-Some.ensures.value))

pub write_struct-loop-field-preserved : goal.write_struct-loop-field-preserved
write_struct-loop-field-preserved g t c = record {
  are = search (rules, first-member);
  text = search rules;
  wrote = leaves-member _ _ _ _ _ _ _ _ _ _ _ _ _ c.loop-field.invariant.wrote c.in_ok-write.ensures.bytes
      c.in_ok-write_string.ensures c.in_ok-write_all-2.ensures.bytes c.in_ok-write_json.ensures
      (members-step c.args.quote.now _ _ c.args.fields.now c.loop-field.field-index c.field-item.result c.deref.result.now _ _ _
      c.field-item.is c.loop-field-test.true
      (c.deref.ensures ∙ ap (λ f. (entry f).name) c.field.view_is)
      (row-step c.args.body.now c.loop-field.arrays.now c.in-Some.rest.now c.in-Some.array.now c.args.at _ c.loop-field.invariant.are.valid
      c.in-Some.ensures.cases.0 (ap value_of c.array_cell.ensures.value)));
}

pub write_held_items-loop-item-preserved : goal.write_held_items-loop-item-preserved
write_held_items-loop-item-preserved g t c = record {
  text = search rules;
  wrote = leaves-item _ _ _ _ _ _ _ _ _ c.loop-item.invariant.wrote c.in_ok-write.ensures.bytes c.in_ok-write_json.ensures
      (items-step c.args.quote.now _ _ c.args.field.now _ _ _
      (drop-step c.args.items.now c.loop-item.item-index _ c.item-item.result (ap value_of c.value_cell.ensures.value ∙ c.item-item.is) c.loop-item-test.true));
}

pub write_held_struct-loop-field-preserved : goal.write_held_struct-loop-field-preserved
write_held_struct-loop-field-preserved g t c = record {
  text = search rules;
  wrote = leaves-member _ _ _ _ _ _ _ _ _ _ _ _ _ c.loop-field.invariant.wrote c.in_ok-write.ensures.bytes
      c.in_ok-write_string.ensures c.in_ok-write_all-2.ensures.bytes c.in_ok-write_json.ensures
      (members-step c.args.quote.now _ _ c.args.fields.now c.loop-field.field-index c.field-item.result c.deref.result.now _ _ _
      c.field-item.is c.loop-field-test.true
      (c.deref.ensures ∙ ap (λ f. (entry f).name) c.field.view_is)
      (c.in-Some.ensures.cases.0 ∙ ap (λ d. d ∷ c.in-Some.rest.now) (sym (ap value_of c.value_cell.ensures.value))));
}

pub write_json-returns-in-Struct : goal.write_json-returns-in-Struct
write_json-returns-in-Struct g t c =
    appends-same _ _ _ _ _ c.write_struct.ensures
    (structure-shown c.args.quote.now c.args.field.now _ c.args.cell c.in-Struct.members c.requires.1.1.1 c.in-Struct.is
    (ap kids_of c.deref-in-Struct.ensures.value ∙ ap below c.field.view_is))
