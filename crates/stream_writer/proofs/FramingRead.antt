-- Messages that are written are found one after another.
use Rattle.std.proofs.Common.{
  ◌≡◌,
  ℕ,
  ◌+◌,
  ◌-◌,
  ◌^◌,
  ◌<◌,
  ◌≤◌,
  List,
  [],
  ◌∷◌,
  ◌++◌,
  length,
  take,
  drop,
  Option,
  Some,
  Ok,
  refl,
  ap,
  sym,
  subst,
  ◌∙◌,
  arith,
  append_assoc,
  length-append,
}
use Rattle.std.specs.Prelude.{slice_range}
use Rattle.std.proofs.lemmas.Bool.{le-leb, le-ltb}
use Rattle.std.proofs.lemmas.List.{drop-drop, drop_at, take_at}
use Rattle.byteorder.specs.Endian.{little_bytes, little_number}
use Rattle.byteorder.specs.Numbers.{little_number-reads_back}
use Rattle.values.specs.Limits.{max_metadata_size}
use Rattle.values.specs.Reading.{Reading}
use Rattle.schema_meta.specs.Stage.{Known, Meta, Whole}
use Rattle.schema_meta.specs.Message.{meta_of}
use Rattle.schema_meta.specs.Framing.{framed, message_at, staged, first, end_mark as end_known}
use Rattle.stream_writer.specs.Stream.{message}
use Rattle.stream_writer.specs.FramingLaw.{FirstLaw, LastLaw}
use Rattle.stream_writer.proofs.AboveZero.{some-of}

staged-read : (len n : ℕ) (end : Reading (Option Whole)) (meta : ℕ → Reading Meta) (m : Meta) → 0 < n
    → 8 + n + m.body ≤ len → meta n ≡ Ok m
    → staged len (Ok n) end meta ≡ Ok (Some (record { front = 8 + n; meta = m }))
unfolding staged message_at
staged-read len n end meta m some room e =
    let begun : 8 ≤ len = omega (arith, room) in
    let there : 8 + n ≤ len = omega (arith, room) in
    rw (
      le-ltb len 8 begun,
      some-of n end (message_at len (8 + n) (meta n)) some,
      le-ltb len (8 + n) there,
      e,
      le-ltb len (8 + n + m.body) room,
    ) refl

framed-read : (n : ℕ) → n ≤ max_metadata_size → framed 4294967295 n ≡ Ok n
unfolding framed
framed-read n small = rw (le-leb n max_metadata_size small) refl

-- the parts of a message, by their lengths
size-read : (n : ℕ) (rest : List ℕ) → n < 2 ^ 32 → little_number 4 (little_bytes 4 n ++ rest) ≡ n
size-read n rest small = little_number-reads_back 4 n rest small

metadata-read : (a c metadata rest : List ℕ) → length a ≡ 4 → length c ≡ 4
    → slice_range (a ++ (c ++ (metadata ++ rest))) 8 (8 + length metadata) ≡ metadata
metadata-read a c metadata rest la lc =
    let all = a ++ (c ++ (metadata ++ rest)) in
    let behind : drop 8 all ≡ metadata ++ rest =
    sym (drop-drop 4 4 all) ∙ ap (drop 4) (drop_at a (c ++ (metadata ++ rest)) 4 la)
    ∙ drop_at c (metadata ++ rest) 4 lc in
    let n : 8 + length metadata - 8 ≡ length metadata = omega arith in
    let P : ℕ → Type 0 = λ k. take k (drop 8 all) ≡ metadata in
    subst P (sym n) (ap (take (length metadata)) behind ∙ take_at metadata rest (length metadata) refl)

regrouped : (a c metadata body rest : List ℕ)
    → (a ++ (c ++ (metadata ++ body))) ++ rest ≡ a ++ (c ++ (metadata ++ (body ++ rest)))
regrouped a c metadata body rest = simp append_assoc

abbrev mark : List ℕ
mark = 255 ∷ 255 ∷ 255 ∷ 255 ∷ []

first-whole : (known : Known) (c metadata rest : List ℕ) (m : Meta) → length c ≡ 4
    → little_number 4 (c ++ (metadata ++ rest)) ≡ length metadata
    → 0 < length metadata → length metadata ≤ max_metadata_size → m.body ≤ length rest → meta_of known metadata ≡ Ok m →
    first known (mark ++ (c ++ (metadata ++ rest))) ≡ Ok (Some (record { front = 8 + length metadata; meta = m }))
unfolding first
first-whole known c metadata rest m lc size some small body e =
    let all = mark ++ (c ++ (metadata ++ rest)) in
    let long = length-append c (metadata ++ rest) in
    let longer = length-append metadata rest in
    let n : ℕ = length metadata in
    let read : meta_of known (slice_range all 8 (8 + n)) ≡ Ok m =
    ap (meta_of known) (metadata-read mark c metadata rest refl lc) ∙ e in
    rw (size, framed-read n small)
    (staged-read (length all) n (end_known known) (λ k. meta_of known (slice_range all 8 (8 + k))) m some
    (omega (arith, long, longer, lc, body)) read)

pub first-law : FirstLaw
first-law known metadata body rest m some small e read =
    let c = little_bytes 4 (length metadata) in
    let P : List ℕ
    → Type 0 = λ bytes. first known bytes ≡ Ok (Some (record { front = 8 + length metadata; meta = m })) in
    let more = length-append body rest in
    subst P (sym (regrouped mark c metadata body rest))
    (first-whole known c metadata (body ++ rest) m refl
    (size-read (length metadata) (metadata ++ (body ++ rest)) (omega (arith, small))) some small
    (omega (arith, e, more)) read)

-- what remains after a message
pub message-left : (metadata body rest : List ℕ)
    → drop (8 + length metadata + length body) (message metadata body ++ rest) ≡ rest
message-left metadata body rest =
    let whole = message metadata body in
    let c = little_bytes 4 (length metadata) in
    let long = length-append mark (c ++ (metadata ++ body)) in
    let longer = length-append c (metadata ++ body) in
    let last = length-append metadata body in
    drop_at whole rest (8 + length metadata + length body) (omega (arith, long, longer, last))

-- the body of a message
pub message-body : (metadata body rest : List ℕ)
    → slice_range (message metadata body ++ rest) (8 + length metadata) (8 + length metadata + length body) ≡ body
message-body metadata body rest =
    let c = little_bytes 4 (length metadata) in
    let n : ℕ = 8 + length metadata in
    let front = mark ++ (c ++ metadata) in
    let split : message metadata body ++ rest ≡ front ++ (body ++ rest) = simp append_assoc in
    let long = length-append mark (c ++ metadata) in
    let longer = length-append c metadata in
    let behind : drop n (message metadata body ++ rest) ≡ body ++ rest =
    ap (drop n) split ∙ drop_at front (body ++ rest) n (omega (arith, long, longer)) in
    let count : n + length body - n ≡ length body = omega arith in
    let P : ℕ → Type 0 = λ k. take k (drop n (message metadata body ++ rest)) ≡ body in
    subst P (sym count) (ap (take (length body)) behind ∙ take_at body rest (length body) refl)

pub last-law : LastLaw
unfolding first staged framed
last-law known h = rw h refl
