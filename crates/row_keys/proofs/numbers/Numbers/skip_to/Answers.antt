use Rattle.std.proofs.Common.{◌≤◌, ◌-◌, ◌++◌, ◌∙◌, List, ap, arith, length, subst, sym}
use Rattle.std.specs.Prelude.{replicate}
use Rattle.std.proofs.lemmas.List.{length-map}
use Rattle.row_keys.specs.declared.numbers.Entry.{Entry}
use Rattle.row_keys.specs.Entries.{all_entries}
use Rattle.row_keys.specs.Index.{IsIndex, seen, seen_all}
use Rattle.row_keys.specs.Numbers.{no_row}
use Rattle.row_keys.proofs.GoneRows.{index_skipped, seen_skipped, started}
use Rattle.row_keys.proofs.RetainedEntries.{entries_long, entries_passed, order_upto}
use Rattle.row_keys.proofs.numbers.Numbers.skip_to.Goals as goal

pub invariant_of-self-2 : goal.invariant_of-self-2
invariant_of-self-2 c =
    let es = all_entries c.self.inside.kept.items c.self.inside.len in
    let start =
    started c.self.inside.keys c.place_null.new.keys c.self.inside.holders.items c.place_null.new.holders.items
    es c.self.inside.live c.self.invariant.index c.in_ok-place_null.ensures.ok in
    let long =
    sym (entries_long c.self.inside.kept.items c.self.inside.len) ∙ sym (length-map es (seen c.self.inside.keys))
    ∙ ap length c.self.view_is in
    let le : c.self.inside.len ≤ c.args.number = omega (arith, long, c.requires.from) in
    let P : List Entry
    → Type 0 = λ fs. IsIndex c.place_null.new.keys c.place_null.new.holders.items fs c.self.inside.live in
    record {
      index = subst P
          (sym (entries_passed c.self.inside.kept.items c.self.inside.len c.args.number c.self.invariant.order le))
          (index_skipped c.place_null.new.keys c.place_null.new.holders.items es c.self.inside.live
          (c.args.number - c.self.inside.len) start.index start.some);
      order = order_upto 0 c.self.inside.len c.args.number c.self.inside.kept.items c.self.invariant.order le;
      bound = c.requires.bound;
    }

pub returns-clause-ok : goal.returns-clause-ok
returns-clause-ok c =
    let es = all_entries c.self.inside.kept.items c.self.inside.len in
    let start =
    started c.self.inside.keys c.place_null.new.keys c.self.inside.holders.items c.place_null.new.holders.items
    es c.self.inside.live c.self.invariant.index c.in_ok-place_null.ensures.ok in
    let long =
    sym (entries_long c.self.inside.kept.items c.self.inside.len) ∙ sym (length-map es (seen c.self.inside.keys))
    ∙ ap length c.self.view_is in
    let le : c.self.inside.len ≤ c.args.number = omega (arith, long, c.requires.from) in
    ap (seen_all c.place_null.new.keys)
    (entries_passed c.self.inside.kept.items c.self.inside.len c.args.number c.self.invariant.order le)
    ∙ seen_skipped c.place_null.new.keys es (c.args.number - c.self.inside.len) (start.index.null_first start.some)
    ∙ ap (λ xs. xs ++ replicate (c.args.number - c.self.inside.len) no_row) (start.same ∙ c.self.view_is)
    ∙ ap (λ n. c.args.self.now ++ replicate (c.args.number - n) no_row) long
