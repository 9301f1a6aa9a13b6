use Rattle.std.proofs.Common.{ap, ap₂, sym, subst, ◌∙◌}
use Rattle.std.specs.Cmp.Lexicographic.{slice_cmp}
use Rattle.std.specs.Ordering.{nat_cmp}
use Rattle.values.specs.SmallBytes.{IsRoom, bytes_in}
use Rattle.values.proofs.HeadLemmas.{settled-by-heads}
use Rattle.values.proofs.small_bytes.SmallBytes.cmp_in_place.Goals as goal

pub returns-in-Heap-Heap : goal.returns-in-Heap-Heap
returns-in-Heap-Heap c =
    let room = c.in-Heap-Heap in
    c.cmp.ensures
    ∙ (settled-by-heads 15 room.field-1-0.value.items room.field-1-1.value.items
    (subst IsRoom room.is-0 c.self.invariant).1
    (subst IsRoom room.is-1 c.other.invariant).1
    c.if-ne.ensures
    ∙ ap₂ (slice_cmp nat_cmp)
    (ap bytes_in (sym room.is-0) ∙ c.self.view_is)
    (ap bytes_in (sym room.is-1) ∙ c.other.view_is))
