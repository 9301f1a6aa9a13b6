-- How many bytes an incomplete message needs at least, stage by stage.
use Rattle.std.proofs.Common.{
  ◌≡◌,
  inl,
  inr,
  ℕ,
  ◌+◌,
  ◌-◌,
  ◌<◌,
  ◌≤◌,
  true,
  Option,
  None,
  Ok,
  Err,
  Result,
  List,
  [],
  ◌++◌,
  length,
  take,
  drop,
  refl,
  ap,
  sym,
  subst,
  ◌∙◌,
  arith,
  length-append,
  length-drop,
  append_assoc,
}
use Rattle.std.specs.Prelude.{nat_lt, slice_range, IfOk}
use Rattle.std.proofs.lemmas.Bool.{ne_eqb}
use Rattle.std.proofs.Math.Seq.{take-length}
use Rattle.values.specs.declared.faults.StreamFault.{StreamFault}
use Rattle.values.specs.Reading.{Reading}
use Rattle.schema_meta.specs.Stage.{Known, Meta, Whole}
use Rattle.schema_meta.specs.Message.{meta_of}
use Rattle.schema_meta.specs.Framing.{end_mark, message_at, staged, first}
use Rattle.messages.specs.declared.framing.Progress.{Progress}
use Rattle.messages.specs.declared.framing.Progress.TheVariants as progress
use Rattle.messages.specs.Wanted.{Wants, Awaits, followed, followed_at}
use Rattle.messages.proofs.Stages.{lt_cases, not_lt}
use Rattle.messages.proofs.Messages.{sizes_at, same_sizes, same_range}

is_lt : (a b : ℕ) → a < b → nat_lt a b ≡ true
is_lt a b h = elim (lt_cases a b) [ inl t ↦ t.0 | inr t ↦ absurd (omega arith) ]

-- before the sizes
early : (known : Known) (bytes : List ℕ) → length bytes < 8 → first known bytes ≡ Ok None
unfolding first staged
early known bytes h = rw (is_lt (length bytes) 8 h) refl

pub sizes_wanted :
    (known : Known) (bytes : List ℕ) → length bytes < 8 → Wants (followed known bytes) (8 - length bytes)
sizes_wanted known bytes h =
    record {
      some = omega arith;
      short = λ more l. early known (bytes ++ more) (omega (arith, length-append bytes more));
    }

pub nothing_wanted : (known : Known) → Wants (followed known []) 8
nothing_wanted known = record { some = omega arith; short = λ more l. early known more l }

-- before the end of the metadata
in_metadata : (len front : ℕ) (m : Reading Meta) → len < front → message_at len front m ≡ Ok None
unfolding message_at
in_metadata len front m h = rw (is_lt len front h) refl

pub metadata_wanted :
    (known : Known) (bytes : List ℕ) (front : ℕ) → length bytes < front
    → Wants (followed_at known bytes front) (front - length bytes)
metadata_wanted known bytes front h =
    record {
      some = omega arith;
      short =
          λ more l.
          in_metadata (length (bytes ++ more)) front (meta_of known (slice_range (bytes ++ more) 8 front))
          (omega (arith, length-append bytes more));
    }

-- before the end of the body
in_body : (len front : ℕ) (m : Meta) → len < front + m.body → message_at len front (Ok m) ≡ Ok None
unfolding message_at
in_body len front m h =
    elim (lt_cases len front) [ inl t ↦ rw t.0 refl | inr t ↦ rw (t.0, is_lt len (front + m.body) h) refl ]

pub same_metadata :
    (bytes more : List ℕ) (front : ℕ) → 8 ≤ front → front ≤ length bytes
    → slice_range (bytes ++ more) 8 front ≡ slice_range bytes 8 front
same_metadata bytes more front h l =
    let k : 8 + (front - 8) ≡ front = omega arith in
    let P : ℕ → Type 0 = λ n. slice_range (bytes ++ more) 8 n ≡ slice_range bytes 8 n in
    subst P k (same_range bytes more (front - 8) (omega arith))

pub body_wanted :
    (known : Known) (bytes : List ℕ) (front : ℕ) (m : Meta) → 8 ≤ front → front ≤ length bytes
    → length bytes - front < m.body → meta_of known (slice_range bytes 8 front) ≡ Ok m
    → Wants (followed_at known bytes front) (m.body - (length bytes - front))
body_wanted known bytes front m h l s e =
    record {
      some = omega arith;
      short =
          λ more k.
          let same : meta_of known (slice_range (bytes ++ more) 8 front) ≡ Ok m =
          ap (meta_of known) (same_metadata bytes more front h l) ∙ e in
          rw same (in_body (length (bytes ++ more)) front m (omega (arith, length-append bytes more)));
    }

pub ruleset message_wanting = (metadata_wanted, body_wanted)

-- once the sizes are there
sized_same :
    (len n : ℕ) (size : Reading ℕ) (end : Reading (Option Whole)) (f : ℕ → Reading Meta) → 8 ≤ len → size ≡ Ok n → 1 ≤ n
    → message_at len (8 + n) (f n) ≡ Ok None → staged len size end f ≡ Ok None
unfolding staged
sized_same len n size end f h e z m = rw (not_lt len 8 h, e, ne_eqb n 0 (λ k. absurd (omega (arith, k)))) m

pub message_wants :
    (known : Known) (bytes : List ℕ) (n wanted : ℕ) → 8 ≤ length bytes → sizes_at bytes ≡ Ok n → 1 ≤ n
    → Wants (followed_at known bytes (8 + n)) wanted → Wants (followed known bytes) wanted
unfolding first
message_wants known bytes n wanted h e z w =
    record {
      some = w.some;
      short =
          λ more l.
          sized_same (length (bytes ++ more)) n (sizes_at (bytes ++ more)) (end_mark known)
          (λ k. meta_of known (slice_range (bytes ++ more) 8 (8 + k))) (omega (arith, length-append bytes more))
          (same_sizes bytes more h ∙ e) z (w.short more l);
    }

-- where fewer bytes come than are needed
pub fewer_left :
    (known : Known) (held bytes : List ℕ) (wanted : ℕ) → Wants (followed known held) wanted → length bytes < wanted
    → Wants (followed known (held ++ bytes)) (wanted - length bytes)
fewer_left known held bytes wanted w h =
    record {
      some = omega arith;
      short =
          λ more l.
          ap (first known) (append_assoc held bytes more)
          ∙ w.short (bytes ++ more) (omega (arith, length-append bytes more));
    }

pub fewer_none :
    (known : Known) (held bytes : List ℕ) (wanted : ℕ) → Wants (followed known held) wanted → length bytes < wanted
    → first known (held ++ bytes) ≡ Ok None
fewer_none known held bytes wanted w h = w.short bytes h

-- what holds of the message holds of the bytes
pub message_awaits :
    (known : Known) (bytes : List ℕ) (n : ℕ) (p : Progress) → 8 ≤ length bytes → sizes_at bytes ≡ Ok n → 1 ≤ n
    → Awaits (followed_at known bytes (8 + n)) p → Awaits (followed known bytes) p
message_awaits known bytes n (progress.Partial wanted) h e z w = message_wants known bytes n wanted h e z w
message_awaits known bytes n (progress.Whole found) h e z w = tt

-- the bytes from offset 4 on
pub tail_is : (bytes : List ℕ) → drop 4 bytes ≡ take (length bytes - 4) (drop 4 bytes)
tail_is bytes = sym (ap (λ n. take n (drop 4 bytes)) (sym (length-drop 4 bytes)) ∙ take-length (drop 4 bytes))

pub answer_awaits :
    (known : Known) (bytes : List ℕ) (n : ℕ) (r : Result Progress StreamFault) → 8 ≤ length bytes
    → sizes_at bytes ≡ Ok n → 1 ≤ n
    → IfOk r (λ p. Awaits (followed_at known bytes (8 + n)) p) → IfOk r (λ p. Awaits (followed known bytes) p)
answer_awaits known bytes n (Ok p) h e z w = message_awaits known bytes n p h e z w
answer_awaits known bytes n (Err c) h e z w = tt

pub ruleset first_wanting = (sizes_wanted)

pub ruleset growing = (fewer_left, fewer_none)
