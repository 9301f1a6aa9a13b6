-- What a sink holds after one put more.
use Rattle.std.proofs.Common.{
  ◌≡◌,
  ℕ,
  ◌+◌,
  ◌-◌,
  ◌<◌,
  ◌≤◌,
  List,
  ◌++◌,
  length,
  take,
  drop,
  ap,
  ◌∙◌,
  arith,
  append_assoc,
  length-drop,
  Option,
  Some,
  None,
  Ok,
}
use Rattle.std.proofs.lemmas.List.{take_all}
use Rattle.std.proofs.lemmas.Bool.Decides.{nat_tests}
use Rattle.std.proofs.Math.Seq.{take-add}
use Rattle.std.specs.Io.KnownBytes.{Appends}
use Rattle.stream_writer.specs.Sinks.{Puts, Sunk, count_after}

pub Appends-then : (a b c : Option (List ℕ)) (xs ys : List ℕ) → Appends a b xs → Appends b c ys → Appends a c (xs ++ ys)
Appends-then None b c xs ys first second = tt
Appends-then (Some x) None c xs ys first second = absurd first
Appends-then (Some x) (Some y) None xs ys first second = absurd second
Appends-then (Some x) (Some y) (Some z) xs ys first second = second ∙ ap (λ bs. bs ++ ys) first ∙ append_assoc x xs ys

count-on : (count taken : ℕ) (piece : List ℕ) → 0 < taken → count_after count (Ok taken) piece ≡ count
count-on count taken piece h = grind (arith, nat_tests)

pub put-on : (start old new : Sunk) (bytes : List ℕ) (written taken : ℕ) → written ≤ length bytes
    → Appends start.taken old.taken (take written bytes)
    → Puts old new (Ok taken) (take (length bytes - written) (drop written bytes)) → 0 < taken →
    (written + taken ≤ length bytes) × Appends start.taken new.taken (take (written + taken) bytes)
    × (new.failures ≡ old.failures)
put-on start old new bytes written taken h before puts some =
    let rest = length-drop written bytes in
    let piece : take (length bytes - written) (drop written bytes) ≡ drop written bytes =
    take_all (length bytes - written) (drop written bytes) (omega (arith, rest)) in
    let room : taken ≤ length (take (length bytes - written) (drop written bytes)) = puts.bound in
    let here = rw piece at room in
    let put = rw piece at puts.bytes in (
      omega (arith, here, rest),
      rw (take-add written taken bytes)
          (Appends-then start.taken old.taken new.taken (take written bytes) (take taken (drop written bytes)) before
          put),
      puts.counted ∙ count-on old.failures taken (take (length bytes - written) (drop written bytes)) some,
    )
