-- A table is written while its rows come.
use Rattle.std.proofs.Common.{◌≡◌, ℕ, ◌+◌, ◌-◌, ◌*◌, ◌^◌, ◌<◌, ◌≤◌, List, [], ◌++◌, length, take, drop, ap, sym, ◌∙◌, arith, append_assoc, append-nil, length-append, length-drop, subst, Result, Ok, Err, inl, inr}
use Rattle.std.specs.Prelude.{All, Bool, true, false, ◌==◌, ◌||◌, nat_lt, IfErr, IfOk, MatchResult}
use Rattle.std.specs.Result.{IsErrAnd}
use Rattle.std.proofs.lemmas.Bool.{cases_lt}
use Rattle.std.proofs.lemmas.List.{drop-drop}
use Rattle.std.proofs.lemmas.Bool.Decides.{nat_tests}
use Rattle.std.proofs.lemmas.List.Elements.{All-append, All-nil}
use Rattle.values.specs.Limits.{max_batch_rows, max_main_rows}
use Rattle.values.specs.Datum.{Datum}
use Rattle.values.specs.Rose.{Rose, Roses, kids_of}
use Rattle.values.specs.declared.layout.Layout.{Layout}
use Rattle.values.specs.Logical.{NamedType}
use Rattle.stream_writer.specs.ClosedBatches.{IsClosed}
use Rattle.stream_writer.specs.Progress.{HasPut, IsHeld, StopsIn, last_rows}
use Rattle.stream_writer.specs.Sinks.{Sunk, Writes}
use Rattle.stream_writer.specs.Stream.{batch_len, batch_messages, batches, coded_canon, end_mark, trees}
use Rattle.stream_writer.specs.Table.{IsRow, IsTable}
use Rattle.stream_writer.specs.WrittenSoFar.{WrittenSoFar}
use Rattle.stream_writer.specs.declared.faults.WriteFault.{WriteFault}
use Rattle.stream_writer.specs.declared.faults.WriteFault.TheVariants.{Memory}
use Rattle.stream_writer.proofs.Cut.{batch-of, batch-some, batch_len-within, light-of, sound-left}
use Rattle.stream_writer.proofs.ClosedBatchLemmas.{batch_len-stays, closed-some, first-stays, left-stays, more-some}
use Rattle.stream_writer.proofs.Whole.{batch-comes}
use Rattle.stream_writer.proofs.WrittenLemmas.{WrittenSoFar-memory}

-- The messages of a closed batch come next, whatever rows come later.
pub closed-comes :
    (start now : Sunk) (written : ℕ) (fs : List (Rose NamedType)) (coded : List ℕ) (rows held left : List (List Datum))
    (n : ℕ) (bytes : List ℕ) → HasPut start now written fs coded rows held → IsClosed (trees fs) held
    → All (IsRow fs) held → n ≡ batch_len (trees fs) held → bytes ≡ batch_messages coded (trees fs) (take n held)
    → left ≡ drop n held → (more : List (List Datum)) → All (IsRow fs) more
    → WrittenSoFar start now written (coded_canon fs coded (rows ++ more))
    (bytes ++ (batches coded (trees fs) (length (left ++ more)) (left ++ more) ++ end_mark))
closed-comes start now written fs coded rows held left n bytes put h sound e is behind more later =
    let ls = trees fs in
    let k : ℕ = batch_len ls held in
    let first : take n held ≡ take n (held ++ more) =
    ap (λ i. take i held) e ∙ sym (first-stays ls held more) ∙ ap (λ i. take i (held ++ more)) (sym e) in
    let rest : left ++ more ≡ drop n (held ++ more) =
    ap (λ rs. rs ++ more) (behind ∙ ap (λ i. drop i held) e) ∙ left-stays ls held more
    ∙ ap (λ i. drop i (held ++ more)) (sym e) in
    batch-comes start now written (coded_canon fs coded (rows ++ more)) fs coded (held ++ more) (left ++ more) n bytes
    (put more later) (more-some held more (closed-some ls held h)) (All-append (IsRow fs) held more sound later)
    (e ∙ sym (batch_len-stays ls held more h)) (is ∙ ap (batch_messages coded ls) first) rest

-- the test of the loop

pub closed-is : (fs : List (Rose NamedType)) (ls : Roses Layout) (held : List (List Datum)) (count size : ℕ) (b : Bool)
    → ls ≡ trees fs
    → count ≡ batch_len ls held → size ≡ length held → b ≡ ((count == max_batch_rows) || nat_lt count size) → b ≡ true
    → IsClosed (trees fs) held
closed-is fs ls held count size b same e long is is_so =
    let there : count ≡ batch_len (trees fs) held = e ∙ ap (λ us. batch_len us held) same in
    elim (cases_lt count size) [
      | inl some ↦ inr (omega (arith, there, long, some))
      | inr all ↦ inl (let k : count ≡ max_batch_rows = full count size all (sym is ∙ is_so) in omega (arith, there, k))
    ]
  where
    full : (count size : ℕ) → size ≤ count → ((count == max_batch_rows) || nat_lt count size) ≡ true
        → count ≡ max_batch_rows
    full count size all is_so = grind (arith, nat_tests)

pub open-is : (ls : Roses Layout) (held : List (List Datum)) (count size : ℕ) (b : Bool)
    → count ≡ batch_len ls held → size ≡ length held → b ≡ ((count == max_batch_rows) || nat_lt count size) → b ≡ false
    → length held < max_batch_rows
open-is ls held count size b e long is not_so =
    let within = (batch_len-within ls held).0 in
    let few : size ≤ count = at_least count size (sym is ∙ not_so) in
    let other : ¬ (count ≡ max_batch_rows) = not_full count size (sym is ∙ not_so) in
    let small = few_rows ls held in
    omega (arith, within, few, other, e, long, small)
  where
    at_least : (count size : ℕ) → ((count == max_batch_rows) || nat_lt count size) ≡ false → size ≤ count
    at_least count size not_so = grind (arith, nat_tests)

    not_full : (count size : ℕ) → ((count == max_batch_rows) || nat_lt count size) ≡ false
        → ¬ (count ≡ max_batch_rows)
    not_full count size not_so = λ e. absurd (grind (arith, nat_tests))

    few_rows : (ls : Roses Layout) (held : List (List Datum)) → batch_len ls held ≤ max_batch_rows
    few_rows ls held = Rattle.stream_writer.proofs.Cut.batch_len-few ls held

-- what is held after a batch was put

pub held-after : (fs : List (Rose NamedType)) (ls : List (Rose Layout)) (rows held left : List (List Datum))
    (written size n later : ℕ)
    → IsHeld fs ls rows held written → IsClosed (trees fs) held → n ≡ batch_len (kids_of ls) held → left ≡ drop n held
    → size ≤ 3 * 2 ^ 38 → later ≡ written + size → IsHeld fs ls rows left later
held-after fs ls rows held left written size n later h closed e behind small is =
    let there : n ≡ batch_len (trees fs) held = e ∙ ap (λ us. batch_len us held) h.layouts in
    let one = batch-some fs held (closed-some (trees fs) held closed) h.sound in
    let within = (batch_len-within (trees fs) held).0 in
    let gone = length-drop n held in
    let fewer = ap length behind in
    let short = h.short in
    record {
      layouts = h.layouts;
      columns = h.columns;
      known = h.known;
      sound = sound-left fs held left n behind h.sound;
      few = h.few;
      short = omega (arith, short, one, within, gone, fewer, there, small, is);
    }

-- the remaining rows are the last of those so far

pub gone-more : {A : Type 0} (old left behind : List A) (n : ℕ) → left ≡ drop (length old - length left) old
    → behind ≡ drop n left → n ≤ length left → behind ≡ drop (length old - length behind) old
gone-more old left behind n e is within =
    let a : ℕ = length old - length left in
    let here = ap length e in
    let there = length-drop a old in
    let next = ap length is in
    let rest = length-drop n left in
    let same : a + n ≡ length old - length behind = omega (arith, here, there, next, rest, within) in
    is ∙ ap (drop n) e ∙ drop-drop n a old ∙ ap (λ k. drop k old) same

pub gone-none : {A : Type 0} (old : List A) → old ≡ drop (length old - length old) old
gone-none old = let none : length old - length old ≡ 0 = omega arith in ap (λ k. drop k old) (sym none)

pub last-few : {A : Type 0} (old left : List A) → left ≡ drop (length old - length left) old → length left ≤ length old
last-few old left e =
    let here = ap length e in let there = length-drop (length old - length left) old in omega (arith, here, there)

pub last-as : (old left : List (List Datum)) (n : ℕ) → left ≡ last_rows (length left) old → n ≡ length left
    → left ≡ last_rows n old
last-as old left n e is = e ∙ ap (λ k. last_rows k old) (sym is)

-- what is held when rows come

pub held-more : (fs : List (Rose NamedType)) (ls : List (Rose Layout)) (rows held new : List (List Datum)) (written : ℕ)
    → IsHeld fs ls rows held written → All (IsRow fs) new → length rows + length new ≤ max_main_rows
    → IsHeld fs ls (rows ++ new) (held ++ new) written
held-more fs ls rows held new written h sound room =
    let both = length-append held new in
    let all = length-append rows new in
    let short = h.short in
    record {
      layouts = h.layouts;
      columns = h.columns;
      known = h.known;
      sound = All-append (IsRow fs) held new h.sound sound;
      few = omega (arith, all, room);
      short = omega (arith, both, all, short);
    }

pub put-more : (start now : Sunk) (written : ℕ) (fs : List (Rose NamedType)) (coded : List ℕ)
    (rows held new : List (List Datum)) → HasPut start now written fs coded rows held → All (IsRow fs) new
    → HasPut start now written fs coded (rows ++ new) (held ++ new)
put-more start now written fs coded rows held new put sound more later =
    let P : List (List Datum) → List (List Datum) → Type 0 =
    λ whole left. WrittenSoFar start now written (coded_canon fs coded whole)
    (batches coded (trees fs) (length left) left ++ end_mark) in
    let Q : List (List Datum) → Type 0 = λ whole. P whole ((held ++ new) ++ more) in
    let R : List (List Datum) → Type 0 = λ left. P (rows ++ (new ++ more)) left in
    subst Q (sym (append_assoc rows new more)) (subst R (sym (append_assoc held new more))
    (put (new ++ more) (All-append (IsRow fs) new more sound later)))

-- what one put of the Schema message answers, whatever rows come
pub put-short : (r : Result ℕ WriteFault) (bytes : List ℕ) → length bytes ≤ 2 ^ 39
    → IfOk r (λ n. n ≡ 0 + length bytes) → IfOk r (λ n. n ≤ 2 ^ 39)
put-short (Ok n) bytes short counted = omega (arith, short, counted)
put-short (Err fault) bytes short counted = tt

pub schema-put : (answer : Result ℕ WriteFault) (start now : Sunk) (fs : List (Rose NamedType)) (coded : List ℕ)
    → ((more : List (List Datum)) → All (IsRow fs) more
    → MatchResult answer (λ n. WrittenSoFar start now n (coded_canon fs coded more)
    (batches coded (trees fs) (length more) more ++ end_mark))
    (λ fault. Writes start now (Err fault) (coded_canon fs coded more)))
    → MatchResult answer (λ n. HasPut start now n fs coded [] []) (λ fault. StopsIn start now fault fs coded [])
schema-put (Ok n) start now fs coded puts = puts
schema-put (Err fault) start now fs coded puts = puts

-- no more rows come
pub ends-there : (start now : Sunk) (written : ℕ) (fs : List (Rose NamedType)) (coded : List ℕ)
    (rows held : List (List Datum)) → HasPut start now written fs coded rows held
    → WrittenSoFar start now written (coded_canon fs coded rows)
    (batches coded (trees fs) (length held) held ++ end_mark)
ends-there start now written fs coded rows held put =
    let P : List (List Datum) → List (List Datum) → Type 0 =
    λ whole left. WrittenSoFar start now written (coded_canon fs coded whole)
    (batches coded (trees fs) (length left) left ++ end_mark) in
    let Q : List (List Datum) → Type 0 = λ whole. P whole held in
    let R : List (List Datum) → Type 0 = λ left. P (rows ++ []) left in
    subst Q (append-nil rows) (subst R (append-nil held) (put [] (All-nil (IsRow fs))))

-- memory was refused between two messages
pub stops-memory : (start now : Sunk) (written : ℕ) (fs : List (Rose NamedType)) (coded : List ℕ)
    (rows held : List (List Datum)) → HasPut start now written fs coded rows held
    → StopsIn start now (Memory written) fs coded rows
stops-memory start now written fs coded rows held put more later =
    WrittenSoFar-memory start now written (coded_canon fs coded (rows ++ more))
    (batches coded (trees fs) (length (held ++ more)) (held ++ more) ++ end_mark) (put more later)

pub stops-err : {A : Type 0} (answer : Result A WriteFault) (fault : WriteFault) (P : A → Type 0) (start now : Sunk)
    (fs : List (Rose NamedType)) (coded : List ℕ) (rows : List (List Datum)) → IsErrAnd answer (λ e. e ≡ fault)
    → StopsIn start now fault fs coded rows → MatchResult answer P (λ f. StopsIn start now f fs coded rows)
stops-err (Ok n) fault P start now fs coded rows is stops = absurd is
stops-err (Err e) fault P start now fs coded rows is stops =
    let Q : WriteFault → Type 0 = λ f. StopsIn start now f fs coded rows in subst Q (sym is) stops

pub stops-err-if : {A : Type 0} (answer : Result A WriteFault) (fault : WriteFault) (P : WriteFault → Type 0)
    → IsErrAnd answer (λ e. e ≡ fault) → P fault → IfErr answer P
stops-err-if (Ok n) fault P is h = absurd is
stops-err-if (Err e) fault P is h = subst P (sym is) h

-- the whole table after its Schema message
pub held-first : (fs : List (Rose NamedType)) (ls : List (Rose Layout)) (rows : List (List Datum)) (written : ℕ)
    → kids_of ls ≡ trees fs → IsTable fs rows → written ≤ 2 ^ 39 → IsHeld fs ls rows rows written
held-first fs ls rows written layouts table small = record {
  layouts = layouts;
  columns = table.columns;
  known = table.layouts;
  sound = table.sound;
  few = table.few;
  short = omega (arith, small);
}

-- what is held after any batch was put
pub held-rest : (fs : List (Rose NamedType)) (ls : List (Rose Layout)) (rows held left : List (List Datum))
    (written size n later : ℕ)
    → IsHeld fs ls rows held written → 0 < length held → n ≡ batch_len (kids_of ls) held → left ≡ drop n held
    → size ≤ 3 * 2 ^ 38 → later ≡ written + size → IsHeld fs ls rows left later
held-rest fs ls rows held left written size n later h some e behind small is =
    let there : n ≡ batch_len (trees fs) held = e ∙ ap (λ us. batch_len us held) h.layouts in
    let one = batch-some fs held some h.sound in
    let within = (batch_len-within (trees fs) held).0 in
    let gone = length-drop n held in
    let fewer = ap length behind in
    let short = h.short in
    record {
      layouts = h.layouts;
      columns = h.columns;
      known = h.known;
      sound = sound-left fs held left n behind h.sound;
      few = h.few;
      short = omega (arith, short, one, within, gone, fewer, there, small, is);
    }
