use Rattle.std.proofs.Common.{rules, ℕ, arith, sym, ◌≤◌, ◌-◌}
use Rattle.values.specs.Datum.{Datum}
use Rattle.values.specs.Reading.{FailsWith, Reading, each}
use Rattle.values.specs.Rose.{kids_of}
use Rattle.array_layout.specs.Cells.{cell, len_of, list_of, items_at}
use Rattle.arrays.specs.Ranges.{where_valid}
use Rattle.arrays.proofs.RangeLemmas.{run_valid, run_fault}
use Rattle.arrays.proofs.TextLemmas.{offsets_rise, offsets_end}
use Rattle.arrays.proofs.ValidationLemmas.{
  rows_start,
  lists_valid,
  lists_fault,
  passes_decimals,
  passes_texts,
  passes_lists,
  passes_rows,
  list_child,
}
use Rattle.arrays.proofs.validate.+validate.Goals as goal

pub validate_rows-loop-child-init : goal.validate_rows-loop-child-init
validate_rows-loop-child-init t c =
    rows_start c.args.body.now c.args.bits.now (kids_of c.args.children.now) c.args.from (c.args.to - c.args.from)

pub validate_lists-validate_slots-requires : goal.validate_lists-validate_slots-requires
validate_lists-validate_slots-requires t c =
    let run = c.run_end-end.ensures in
    let limit = len_of c.args.items.now in
    let rise =
    offsets_rise c.args.width c.args.offsets.now c.args.to limit c.loop-at.at c.run_end-end.result c.requires.fit
    (omega (arith, run.past)) run.within in
    let end =
    offsets_end c.args.width c.args.offsets.now c.args.to limit c.loop-at.at c.run_end-end.result c.requires.fit
    run.past run.within in
    let order : c.offset-first.result ≤ c.offset.result =
    omega (arith, rise, c.offset-first.ensures, c.offset.ensures) in
    let within : c.offset.result ≤ len_of c.args.items.now = omega (arith, end, c.offset.ensures) in
    search rules

pub validate_lists-returns-in_err-validate_slots : goal.validate_lists-returns-in_err-validate_slots
validate_lists-returns-in_err-validate_slots t c =
    let run = c.run_end-end.ensures in
    let item = cell c.args.body.now c.args.items.now in
    let lists : ℕ → Reading Datum = λ i. list_of (items_at item c.args.width c.args.offsets.now i) in
    let whole = each (where_valid c.args.bits.now lists) c.args.from (c.args.to - c.args.from) in
    let d = c.in_err-validate_slots.field-0.0 in
    let stands : FailsWith whole d =
    run_fault c.args.bits.now lists c.loop-at.at c.run_end-end.result c.args.to whole d c.loop-at.invariant.2
    (sym c.if-not-is_null_at.ensures) run.same run.past run.within
    (lists_fault item c.args.width c.args.offsets.now c.args.to (len_of c.args.items.now) c.loop-at.at
    c.run_end-end.result d c.requires.fit run.past run.within
    (rw (sym c.offset-first.ensures, sym c.offset.ensures) c.in_err-validate_slots.ensures)) in
    search rules

pub validate_lists-loop-at-preserved-in_ok-validate_slots : goal.validate_lists-loop-at-preserved-in_ok-validate_slots
validate_lists-loop-at-preserved-in_ok-validate_slots t c =
    let run = c.run_end-end.ensures in
    let item = cell c.args.body.now c.args.items.now in
    let lists : ℕ → Reading Datum = λ i. list_of (items_at item c.args.width c.args.offsets.now i) in
    let whole = each (where_valid c.args.bits.now lists) c.args.from (c.args.to - c.args.from) in (
      omega (arith, c.loop-at.invariant.0, run.past),
      run.within,
      run_valid c.args.bits.now lists c.loop-at.at c.run_end-end.result c.args.to whole
          (sym c.if-not-is_null_at.ensures) run.same run.past run.within
          (lists_valid item c.args.width c.args.offsets.now c.args.to (len_of c.args.items.now) c.loop-at.at
          c.run_end-end.result c.requires.fit run.past run.within
          (rw (sym c.offset-first.ensures, sym c.offset.ensures) c.in_ok-validate_slots.ensures)) c.loop-at.invariant.2,
    )

pub validate_values-returns-in-Decimal : goal.validate_values-returns-in-Decimal
validate_values-returns-in-Decimal t c =
    passes_decimals c.validate_decimals.result c.args.body.now c.args.own.now (kids_of c.args.children.now)
    c.in-Decimal.precision c.buffer-bits.result.now c.buffer-values.result.now c.args.from (c.args.to - c.args.from)
    c.requires.plain c.in-Decimal.is c.buffer-bits.ensures c.buffer-values.ensures c.validate_decimals.ensures

pub validate_values-returns-in-Utf8 : goal.validate_values-returns-in-Utf8
validate_values-returns-in-Utf8 t c =
    passes_texts c.validate_texts.result c.args.body.now c.args.own.now (kids_of c.args.children.now)
    c.in-Utf8.width c.buffer-bits.result.now c.buffer-offsets.result.now c.buffer-values.result.now c.args.from
    (c.args.to - c.args.from) c.requires.plain c.in-Utf8.is c.buffer-bits.ensures c.buffer-offsets.ensures
    c.buffer-values.ensures c.validate_texts.ensures

pub validate_values-returns-in-List : goal.validate_values-returns-in-List
validate_values-returns-in-List t c =
    let some =
    list_child c.args.body.now c.args.own.now c.args.children.now c.in-List.width c.requires.sound c.in-List.is in
    passes_lists c.validate_lists.result c.args.body.now c.args.own.now c.args.children.now c.items_array.result.now
    c.items_array.result.now c.in-List.width c.buffer-bits.result.now c.buffer-offsets.result.now c.args.from
    (c.args.to - c.args.from) c.requires.plain c.in-List.is c.items_array.ensures some c.buffer-bits.ensures
    c.buffer-offsets.ensures c.validate_lists.ensures

pub validate_values-returns-in-Struct : goal.validate_values-returns-in-Struct
validate_values-returns-in-Struct t c =
    passes_rows c.validate_rows.result c.args.body.now c.args.own.now (kids_of c.args.children.now)
    c.buffer-bits.result.now c.args.from (c.args.to - c.args.from) c.requires.plain c.in-Struct.is
    c.buffer-bits.ensures c.validate_rows.ensures
