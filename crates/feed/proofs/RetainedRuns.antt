-- What is retained of some bytes, and the messages in them.
use Rattle.std.proofs.Common.{
  ◌≡◌,
  ℕ,
  zero,
  suc,
  Option,
  None,
  Some,
  Ok,
  Err,
  List,
  [],
  ◌++◌,
  length,
  drop,
  refl,
  ap,
  sym,
  subst,
  ◌∙◌,
  append-nil,
  append_assoc,
}
use Rattle.std.specs.Prelude.{flat_map}
use Rattle.values.specs.Reading.{Reading}
use Rattle.dictionaries.specs.Batches.{DictionaryBatch}
use Rattle.schema_meta.specs.Framing.{first}
use Rattle.schema_meta.specs.SchemaLaw.{before}
use Rattle.schema_meta.specs.Sound.{after}
use Rattle.schema_meta.specs.Stage.{Known, Whole, end_of}
use Rattle.messages.specs.Handed.{MessageView}
use Rattle.messages.specs.MessageSequence.{message_sequence, sequence_after}
use Rattle.messages.specs.Stream.{Stream}
use Rattle.feed.specs.Calls.{message_brings}
use Rattle.feed.specs.Retained.{Retained, brought, retained, retained_after, retained_of}
use Rattle.feed.specs.RetainedLaw.{RetainedByMessages}
use Rattle.feed.proofs.CutLemmas.{ok-same}

-- what is retained after these dictionary batches
abbrev retained_from : List DictionaryBatch → List MessageView → Stream → Retained
retained_from ds messages s =
    record { known = s.known; dictionaries = ds ++ flat_map message_brings messages; held = s.held }

here : (known : Known) (ds : List DictionaryBatch) (bytes : List ℕ) (s : Stream)
    → ◌≡◌ {A = Reading Stream} (Ok (record { known = known; held = bytes })) (Ok s)
    → record { known = known; dictionaries = ds; held = bytes } ≡ retained_from ds [] s
here known ds bytes s is =
    let same : record { known = known; held = bytes } ≡ s =
    ok-same (Ok (record { known = known; held = bytes })) (record { known = known; held = bytes }) s refl is in
    subst (λ x. record { known = known; dictionaries = ds; held = bytes } ≡ retained_from ds [] x) same
    (ap (λ es. record { known = known; dictionaries = es; held = bytes }) (sym (append-nil ds)))

retained-run :
    (n : ℕ) (known : Known) (ds : List DictionaryBatch) (bytes : List ℕ) (s : Stream)
    → (message_sequence n known bytes).rest ≡ Ok s
    → retained n known ds bytes ≡ retained_from ds (message_sequence n known bytes).messages s
unfolding retained message_sequence
retained-run zero known ds bytes s is = here known ds bytes s is
retained-run (suc n) known ds bytes s is = by_first (λ k es xs. retained-run n k es xs s) (first known bytes) is where
  by_first : ((k : Known) (es : List DictionaryBatch) (xs : List ℕ) → (message_sequence n k xs).rest ≡ Ok s
      → retained n k es xs ≡ retained_from es (message_sequence n k xs).messages s)
      → (r : Reading (Option Whole)) → (sequence_after (message_sequence n) known bytes r).rest ≡ Ok s
      → retained_after (retained n) known ds bytes r ≡ retained_from ds (sequence_after (message_sequence n) known bytes r).messages s
  by_first later (Ok None) at = here known ds bytes s at
  by_first later (Err fs) at = absurd (cc)
  by_first later (Ok (Some w)) at =
      let now : Known = after known w.meta in
      let rest : List ℕ = drop (end_of w) bytes in
      later now (ds ++ brought now bytes w) rest at
      ∙ ap (λ es. record { known = s.known; dictionaries = es; held = s.held })
      (append_assoc ds (brought now bytes w) (flat_map message_brings (message_sequence n now rest).messages))

pub retained-by-messages : RetainedByMessages
unfolding retained_of
retained-by-messages declared bytes s is = retained-run (length bytes) (before declared) [] bytes s is
