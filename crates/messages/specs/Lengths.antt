-- Skipping the nodes of fields, whose arrays may be too short.
use Rattle.std.specs.Prelude.{◌≡◌, ℕ, ◌+◌, Bool, true, false, List, Option, MatchOption}
use Rattle.values.specs.Rose.{Rose, Roses, rose_size, roses_size}
use Rattle.values.specs.declared.layout.Layout.{Layout}
use Rattle.array_layout.specs.declared.array.FieldNode.{FieldNode}
use Rattle.schema_meta.specs.Batch.{are_long, is_long}

-- Where the arrays are long enough the answer is the number of the next node, else None.
abbrev pub Skips : Bool → ℕ → Option ℕ → Type 0
Skips long next answer = MatchOption answer (long ≡ false) (λ n. (long ≡ true) × (n ≡ next))

-- the nodes of an array of this layout and of all below it, from this one on
abbrev pub SkipsOne : List FieldNode → ℕ → ℕ → Rose Layout → Option ℕ → Type 0
SkipsOne nodes index floor l answer = Skips (is_long nodes index floor l) (index + rose_size l) answer

abbrev pub SkipsAll : List FieldNode → ℕ → ℕ → Roses Layout → Option ℕ → Type 0
SkipsAll nodes index floor ls answer = Skips (are_long nodes index floor ls) (index + roses_size ls) answer
