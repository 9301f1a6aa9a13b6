use Rattle.std.proofs.Common.{◌≡◌, ◌++◌, [], ◌∷◌, All, length, map, ap, arith, append_assoc, subst, sym, ◌∙◌}
use Rattle.std.specs.Vec.Iter.{into_iter_items}
use Rattle.std.proofs.lemmas.List.{map-append}
use Rattle.std.proofs.lemmas.List.Elements.{All-head, All-tail}
use Rattle.view_lang.specs.Config.{SideTable}
use Rattle.view_lang.specs.TableRules.{IsTable}
use Rattle.row_keys.specs.Store.{no_rows}
use Rattle.session.proofs.session.open_tables.Goals as goal

abbrev IsRight : SideTable → Type 0
IsRight s = IsTable s.table

pub open_side-requires : goal.open_side-requires
open_side-requires c =
    let at = c.loop-side in
    let steps : into_iter_items at.side-iterator ≡ c.in-Some.side ∷ into_iter_items c.next.new.self =
    c.in-Some.ensures.steps.0 in
    All-head IsRight c.in-Some.side (into_iter_items c.next.new.self) (subst (All IsRight) steps at.invariant.3)

pub loop-side-preserved : goal.loop-side-preserved
loop-side-preserved c =
    let at = c.loop-side in
    let x = c.in-Some.side in
    let steps : into_iter_items at.side-iterator ≡ x ∷ into_iter_items c.next.new.self = c.in-Some.ensures.steps.0 in (
      append_assoc at.yielded (x ∷ []) _ ∙ rw (← steps) at.invariant.0,
      c.in_ok-open_side.ensures.names ∙ ap (λ ns. ns ++ x.name ∷ []) at.invariant.1
          ∙ sym (map-append (λ (s : SideTable). s.name) at.yielded (x ∷ [])),
      c.in_ok-open_side.ensures.stores ∙ ap (λ ss. ss ++ no_rows x.table ∷ []) at.invariant.2
          ∙ append_assoc c.push.new.self.items (map (λ (s : SideTable). no_rows s.table) at.yielded) (no_rows x.table ∷
          [])
          ∙ ap (λ ss. c.push.new.self.items ++ ss) (sym (map-append (λ (s : SideTable). no_rows s.table) at.yielded (x
          ∷ []))),
      All-tail IsRight x (into_iter_items c.next.new.self) (subst (All IsRight) steps at.invariant.3),
      let was = at.invariant.4 in
          let gone = c.in-Some.ensures.steps.1 in
          let short = ap length steps in
          omega arith,
    )
