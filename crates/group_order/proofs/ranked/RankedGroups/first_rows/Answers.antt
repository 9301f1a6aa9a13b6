use Rattle.std.proofs.Common.{ap, sym, ◌∙◌, subst, true≢false, ◌≡◌, length}
use Rattle.std.specs.Prelude.{List, Vec, filter}
use Rattle.std.specs.declared.alloc.Global.{Global}
use Rattle.values.specs.Datum.{Datum}
use Rattle.view_lang.specs.Cells.{rows_of}
use Rattle.view_lang.specs.Groups.{group_rows}
use Rattle.view_lang.specs.Outputs.{GroupOutput}
use Rattle.view_lang.specs.Truth.{passes}
use Rattle.group_state.specs.Reading.{CanReadAll}
use Rattle.group_order.specs.Ranked.{Ranked}
use Rattle.group_order.proofs.RankedRows.{bare-first, take-map}
use Rattle.group_order.proofs.ranked.RankedGroups.first_rows.Goals as goal

pub bare_rows-requires : goal.bare_rows-requires
bare_rows-requires c = c.is_bare.ensures.0 c.if-is_bare.true

pub lent_rows-requires : goal.lent_rows-requires
lent_rows-requires c =
    subst (λ (r : Ranked). (length r.groups.keys ≡ 0) × (length r.groups.groups ≡ 0) → ⊥) c.self.view_is
    (λ n. true≢false (sym (c.is_bare.ensures.1 n) ∙ c.if-is_bare.false))

pub returns-then-is_bare : goal.returns-then-is_bare
returns-then-is_bare c =
    bare-first c.args.self.now c.self.inside.groups c.self.inside.ranking (rows_of c.in_ok-made.made.items)
    (rows_of c.in_ok-shown.shown.items) _ c.args.most (ap (λ (r : Ranked). r.groups) c.self.view_is)
    (ap (λ (r : Ranked). r.ranking) c.self.view_is) (c.is_bare.ensures.0 c.if-is_bare.true).0
    (ap rows_of c.truncate.ensures.items
    ∙ take-map (λ (v : Vec Datum Global). v.items) c.args.most c.in_ok-shown.shown.items)
    (c.in_ok-shown.ensures ∙ ap (λ h. filter (passes h) (rows_of c.in_ok-made.made.items)) c.having.ensures)
    (λ rows k r.
    c.in_ok-made.ensures rows k
    (subst (λ (os : List GroupOutput). CanReadAll c.self.inside.groups.keys c.self.inside.groups.columns os rows)
    (sym c.outputs.ensures) r)
    ∙ ap (λ (os : List GroupOutput). group_rows c.self.inside.groups.keys os rows) c.outputs.ensures)

pub returns : goal.returns
returns c = λ rows k r. c.in_ok-made-2.ensures ∙ c.as_slice.ensures.value ∙ c.in_ok-lent.ensures rows k r
