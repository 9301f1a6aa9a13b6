-- A message whose metadata is held, and which more bytes complete.
use Rattle.std.proofs.Common.{◌≡◌, ℕ, ◌+◌, ◌-◌, ◌≤◌, Option, Some, Ok, List, ◌++◌, length, take, drop, refl, ap, sym, subst, ◌∙◌, arith, length-append, length-drop}
use Rattle.std.specs.Prelude.{slice_range}
use Rattle.std.proofs.lemmas.Bool.{ne_eqb}
use Rattle.std.proofs.lemmas.List.{drop-append-le}
use Rattle.std.proofs.Math.Seq.{take-append-add, take-length}
use Rattle.values.specs.declared.faults.StreamFault.{StreamFault}
use Rattle.values.specs.Reading.{Reading, ◌>>=◌, Fails}
use Rattle.values.proofs.Readings.{fails_first}
use Rattle.schema_meta.specs.Stage.{Known, Meta, Whole}
use Rattle.schema_meta.specs.Message.{meta_of}
use Rattle.schema_meta.specs.Framing.{body_at, end_mark, message_at, staged, first}
use Rattle.messages.specs.Wanted.{followed_at}
use Rattle.messages.proofs.Stages.{not_lt}
use Rattle.messages.proofs.Messages.{sizes_at, same_sizes, first_beyond, first_within}
use Rattle.messages.proofs.WantedLemmas.{same_metadata}

-- what is read where the metadata is held

metadata_there :
    (len front : ℕ) (a b : Reading Meta) (r : Reading (Option Whole)) → front ≤ len → b ≡ a
    → (a >>= body_at len front) ≡ r → message_at len front b ≡ r
unfolding message_at
metadata_there len front a b r h e m = rw (not_lt len front h, e) m

same_reading :
    (known : Known) (bytes more : List ℕ) (front : ℕ) → 8 ≤ front → front ≤ length bytes
    → meta_of known (slice_range (bytes ++ more) 8 front) ≡ meta_of known (slice_range bytes 8 front)
same_reading known bytes more front l h = ap (meta_of known) (same_metadata bytes more front l h)

body_there : (len front : ℕ) (m : Meta) → front + m.body ≤ len
    → body_at len front m ≡ Ok (Some (record { front = front; meta = m }))
body_there len front m h = rw (not_lt len (front + m.body) h) refl

pub across_found :
    (known : Known) (bytes more : List ℕ) (front : ℕ) (m : Meta) → 8 ≤ front → front ≤ length bytes
    → meta_of known (slice_range bytes 8 front) ≡ Ok m → m.body ≤ length bytes - front + length more
    → followed_at known bytes front more ≡ Ok (Some (record { front = front; meta = m }))
across_found known bytes more front m l h e room =
    let len = length (bytes ++ more) in
    metadata_there len front (Ok m) (meta_of known (slice_range (bytes ++ more) 8 front)) _
    (omega (arith, length-append bytes more, h)) (same_reading known bytes more front l h ∙ e)
    (body_there len front m (omega (arith, length-append bytes more, h, room)))

pub across_fails :
    (known : Known) (bytes more : List ℕ) (front : ℕ) (c : StreamFault) → 8 ≤ front → front ≤ length bytes
    → Fails c (meta_of known (slice_range bytes 8 front)) → Fails c (followed_at known bytes front more)
across_fails known bytes more front c l h fails =
    let len = length (bytes ++ more) in
    let a = meta_of known (slice_range bytes 8 front) in
    let e = metadata_there len front a (meta_of known (slice_range (bytes ++ more) 8 front)) (a >>= body_at len front)
    (omega (arith, length-append bytes more, h)) (same_reading known bytes more front l h) refl in
    subst (Fails c) (sym e) (fails_first a (body_at len front) c fails)

pub ruleset across = (across_found, across_fails)

staged_is :
    (len n : ℕ) (size : Reading ℕ) (end r : Reading (Option Whole)) (f : ℕ → Reading Meta) → 8 ≤ len → size ≡ Ok n
    → 1 ≤ n → message_at len (8 + n) (f n) ≡ r → staged len size end f ≡ r
unfolding staged
staged_is len n size end r f h e z m = rw (not_lt len 8 h, e, ne_eqb n 0 (λ k. absurd (omega (arith, k)))) m

-- all is read of the message, once the size of its metadata is known
pub across_is : (known : Known) (bytes more : List ℕ) (n : ℕ) → 8 + n ≤ length bytes → 1 ≤ n → sizes_at bytes ≡ Ok n
    → followed_at known bytes (8 + n) more ≡ first known (bytes ++ more)
unfolding first
across_is known bytes more n h z e =
    sym (staged_is (length (bytes ++ more)) n (sizes_at (bytes ++ more)) (end_mark known)
    (followed_at known bytes (8 + n) more)
    (λ k. meta_of known (slice_range (bytes ++ more) 8 (8 + k))) (omega (arith, length-append bytes more))
    (same_sizes bytes more (omega (arith, h)) ∙ e) z refl)

-- its body lies in both
pub body_across : (held piece : List ℕ) (from end : ℕ) → from ≤ length held → length held ≤ end
    → slice_range held from (length held) ++ take (end - length held) piece ≡ slice_range (held ++ piece) from end
body_across held piece from end h l =
    let rest : List ℕ = drop from held in
    let long : length rest ≡ length held - from = length-drop from held in
    let all : take (length held - from) rest ≡ rest = ap (λ n. take n rest) (sym long) ∙ take-length rest in
    let n : length rest + (end - length held) ≡ end - from = omega (arith, long, h, l) in
    ap (λ bs. bs ++ take (end - length held) piece) all ∙ sym (take-append-add rest piece (end - length held))
    ∙ ap (λ k. take k (rest ++ piece)) n ∙ ap (λ bs. take (end - from) bs) (sym (drop-append-le from held piece h))

pub ruleset taking = (first_beyond, first_within, body_across)
