-- The parts of a table's stream, as its writer goes through them.
use Rattle.std.proofs.Common.{
  ◌≡◌,
  ℕ,
  ◌<◌,
  List,
  [],
  ◌++◌,
  length,
  take,
  drop,
  ap,
  sym,
  ◌∙◌,
  arith,
  subst,
  Result,
  Ok,
  Err,
}
use Rattle.std.specs.Prelude.{All, MatchResult, Bool, true, false, ◌==◌}
use Rattle.std.proofs.lemmas.Bool.Decides.{nat_tests}
use Rattle.std.specs.Result.{IsErrAnd}
use Rattle.values.specs.Datum.{Datum}
use Rattle.values.specs.Rose.{Rose, Roses}
use Rattle.values.specs.declared.layout.Layout.{Layout}
use Rattle.values.specs.Logical.{NamedType}
use Rattle.stream_writer.specs.Sinks.{Sunk, Writes}
use Rattle.stream_writer.specs.Stream.{
  schema_message,
  batch_messages,
  batch_len,
  batches,
  end_mark,
  coded_canon,
  trees,
}
use Rattle.stream_writer.specs.Table.{IsRow}
use Rattle.stream_writer.specs.WrittenSoFar.{WrittenSoFar}
use Rattle.stream_writer.specs.declared.faults.WriteFault.{WriteFault}
use Rattle.stream_writer.proofs.Cut.{batches-left, batches-none}
use Rattle.stream_writer.proofs.WrittenLemmas.{WrittenSoFar-end, WrittenSoFar-start}

pub from-err : (old new : Sunk) (answer : Result ℕ WriteFault) (fault : WriteFault) (whole : List ℕ)
    → IsErrAnd answer (λ e. e ≡ fault) → Writes old new (Err fault) whole → Writes old new answer whole
from-err old new (Ok n) fault whole is writes = absurd is
from-err old new (Err e) fault whole is writes = let P : WriteFault
    → Type 0 = λ f. Writes old new (Err f) whole in subst P (sym is) writes

-- the first message comes next
pub first-comes :
    (start : Sunk) (fs : List (Rose NamedType)) (coded : List ℕ) (rows : List (List Datum)) (bytes : List ℕ)
    → bytes ≡ schema_message coded fs
    → WrittenSoFar start start 0 (coded_canon fs coded rows)
    (bytes ++ (batches coded (trees fs) (length rows) rows ++ end_mark))
unfolding coded_canon
first-comes start fs coded rows bytes e =
    let P : List ℕ
    → Type 0 =
    λ bs. WrittenSoFar start start 0 (coded_canon fs coded rows)
    (bs ++ (batches coded (trees fs) (length rows) rows ++ end_mark)) in
    subst P (sym e) (WrittenSoFar-start start (coded_canon fs coded rows))

-- a batch comes next
pub batch-comes :
    (start now : Sunk) (written : ℕ) (whole : List ℕ) (fs : List (Rose NamedType)) (coded : List ℕ)
    (rows left : List (List Datum)) (n : ℕ)
    (bytes : List ℕ) → WrittenSoFar start now written whole (batches coded (trees fs) (length rows) rows ++ end_mark)
    → 0 < length rows
    → All (IsRow fs) rows → n ≡ batch_len (trees fs) rows → bytes ≡ batch_messages coded (trees fs) (take n rows)
    → left ≡ drop n rows
    → WrittenSoFar start now written whole (bytes ++ (batches coded (trees fs) (length left) left ++ end_mark))
batch-comes start now written whole fs coded rows left n bytes so_far some sound e is behind =
    let P : List ℕ → Type 0 = λ rest. WrittenSoFar start now written whole rest in
    subst P (batches-left coded fs rows left n end_mark some sound e behind
    ∙ ap (λ bs. bs ++ (batches coded (trees fs) (length left) left ++ end_mark)) (sym is)) so_far

-- the end mark comes next
pub end-comes :
    (start now : Sunk) (written : ℕ) (whole : List ℕ) (coded : List ℕ) (ls : Roses Layout) (rows : List (List Datum))
    → WrittenSoFar start now written whole (batches coded ls (length rows) rows ++ end_mark) → length rows ≡ 0
    → WrittenSoFar start now written whole (end_mark ++ [])
end-comes start now written whole coded ls rows so_far none =
    let P : List ℕ → Type 0 = λ rest. WrittenSoFar start now written whole rest in
    subst P (ap (λ bs. bs ++ end_mark) (batches-none coded ls rows none)) so_far

-- the answer of the last put is the writer's answer
pub last-put : (start now : Sunk) (answer : Result ℕ WriteFault) (whole : List ℕ) →
    MatchResult answer (λ n. WrittenSoFar start now n whole []) (λ fault. Writes start now (Err fault) whole)
    → Writes start now answer whole
last-put start now (Ok n) whole so_far = WrittenSoFar-end start now n whole so_far
last-put start now (Err e) whole writes = writes

pub some-left : (b : Bool) (n : ℕ) → b ≡ (n == 0) → b ≡ false → 0 < n
some-left b n e h = grind (arith, nat_tests)

pub none-left : (b : Bool) (n : ℕ) → b ≡ (n == 0) → b ≡ true → n ≡ 0
none-left b n e h = grind (arith, nat_tests)
