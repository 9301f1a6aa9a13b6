use Rattle.std.proofs.Common.{◌≡◌, [], ◌∷◌, ◌∙◌, ap, rules, subst, false, true}
use Rattle.std.specs.Prelude.{cond}
use Rattle.std.specs.BTreeMap.{is_at}
use Rattle.std.specs.BTreeMap.Range.{entries_between}
use Rattle.std.specs.List.{list_any}
use Rattle.std.specs.List.Sorted.{IsStrictlySortedBy}
use Rattle.std.specs.Map.{keys_of}
use Rattle.std.specs.declared.ops.Bound.TheVariants.{Included, Unbounded}
use Rattle.values.specs.declared.key.Key.{Key}
use Rattle.group_state.specs.Grouped.{Grouped}
use Rattle.group_state.specs.Keys.{tuple_cmp}
use Rattle.group_state.specs.Moves.{begins_with}
use Rattle.group_state.proofs.Under.{between, walked-out, walked-past, walks-first, walks-next}
use Rattle.group_state.proofs.groups.Groups.insert_under.Goals as goal
use Rattle.group_state.proofs.groups.Groups.insert_under.Goals.{in-None, in-Some+then-not-begins_with}

pub loop-tuple-init : goal.loop-tuple-init
loop-tuple-init c =
    walks-first c.args.first.now c.args.self.now.groups c.into_iter-tuple-iterator.result c.args.tuples.now.keys
    (c.into_iter-tuple-iterator.ensures.into_iter_gives ∙ c.range-tuple-items.ensures.between tt
    ∙ ap (λ u. entries_between tuple_cmp (Included u) Unbounded c.self.inside.groups.entries)
    (c.one-start.ensures ∙ ap (λ (k : Key). k ∷ []) c.in_ok-copy.ensures)
    ∙ ap (λ (s : Grouped). between c.args.first.now s.groups) c.self.view_is)
    (subst (λ (s : Grouped). IsStrictlySortedBy tuple_cmp (keys_of s.groups)) c.self.view_is c.range-tuple-items.ensures.ordered)

pub loop-tuple-preserved : goal.loop-tuple-preserved
loop-tuple-preserved c =
    let left : c.loop-tuple.tuple-iterator ≡ (c.in-Some.tuple.now, c.in-Some._group.now) ∷ c.next.new.self =
    search rules in
    let here : begins_with c.args.first.now c.in-Some.tuple.now ≡ true = search rules in
    walks-next c.args.first.now c.args.self.now.groups c.loop-tuple.tuple-iterator c.next.new.self _
    c.args.tuples.now.keys c.loop-tuple.tuples.keys c.insert.new.self.keys left here
    (λ t. c.in_ok-insert.ensures.updates.0 t
    ∙ ap (λ u. cond (is_at (tuple_cmp u) t) true (list_any (is_at (tuple_cmp t)) c.loop-tuple.tuples.keys))
    c.in_ok-copy-2.ensures)
    c.loop-tuple.invariant

pub returns : goal.returns
returns c = λ t.
    elim c.match-next.branch [
      | in-None w ↦
          let none : c.loop-tuple.tuple-iterator ≡ [] = search rules in
          walked-out c.args.first.now c.args.self.now.groups c.loop-tuple.tuple-iterator c.args.tuples.now.keys
          c.loop-tuple.tuples.keys none c.loop-tuple.invariant t
      | in-Some+then-not-begins_with w ↦
          let left : c.loop-tuple.tuple-iterator ≡ (w.in-Some.tuple.now, w.in-Some._group.now) ∷ c.next.new.self =
          search rules in
          let past : begins_with c.args.first.now w.in-Some.tuple.now ≡ false = search rules in
          walked-past c.args.first.now c.args.self.now.groups c.loop-tuple.tuple-iterator c.next.new.self _
          c.args.tuples.now.keys c.loop-tuple.tuples.keys left past c.loop-tuple.invariant t
    ]
