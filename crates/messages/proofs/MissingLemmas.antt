-- How many bytes are missing of a message whose metadata is held.
use Rattle.std.proofs.Common.{◌≡◌, inl, inr, ℕ, ◌+◌, ◌-◌, ◌<◌, ◌≤◌, None, Ok, Option, List, [], length, refl, ap, sym, subst, ◌∙◌, arith, append-nil}
use Rattle.std.specs.Prelude.{slice_range}
use Rattle.flatbuf.specs.Layout.{Table, root_of}
use Rattle.values.specs.Reading.{Reading, FailsWith, ◌>>=◌, must}
use Rattle.values.specs.declared.faults.StreamFault.{StreamFault}
use Rattle.values.specs.declared.faults.StreamFault.TheVariants as fault
use Rattle.values.proofs.Readings.{bind_Ok, mapped_Ok}
use Rattle.schema_meta.specs.declared.header.MessageKind.{MessageKind}
use Rattle.schema_meta.specs.declared.header.MessageKind.TheVariants as kind
use Rattle.schema_meta.specs.Stage.{Known, Meta, Whole}
use Rattle.schema_meta.specs.Message.{
  body_of,
  brings_batch,
  brings_dictionary,
  brings_schema,
  dictionary_batch,
  header_of,
  header_table,
  meta_of,
  new_schema,
  record_batch,
}
use Rattle.schema_meta.specs.Framing.{body_at, first, message_at}
use Rattle.messages.specs.Wanted.{HasMetadata, IsMissing, followed_at}
use Rattle.messages.proofs.Stages.{lt_cases, not_lt}
use Rattle.messages.proofs.Messages.{sizes_at}
use Rattle.messages.proofs.AcrossLemmas.{across_found, across_is}
use Rattle.messages.proofs.Facts.{meta_header}

-- the length of the body is the one that the metadata gives

header-body : (known : Known) (t : Table) (k : MessageKind) (body : ℕ) (m : Meta) → header_of known t k body ≡ Ok m
    → body ≡ m.body
unfolding header_of
header-body known t kind.Schema body m e =
    let p = mapped_Ok (brings_schema body) (header_table t >>= new_schema known) m e in
    subst (λ (x : Meta). body ≡ x.body) p.2 refl
header-body known t kind.Batch body m e =
    let p = mapped_Ok (brings_batch body) (record_batch known body t) m e in
    subst (λ (x : Meta). body ≡ x.body) p.2 refl
header-body known t kind.Dictionary body m e =
    let p = mapped_Ok (brings_dictionary body) (dictionary_batch known body t) m e in
    subst (λ (x : Meta). body ≡ x.body) p.2 refl

meta-body : (known : Known) (bytes : List ℕ) (m : Meta) → meta_of known bytes ≡ Ok m
    → (t : Table) × (must fault.BadTable (root_of bytes) ≡ Ok t) × (body_of t ≡ Ok m.body)
meta-body known bytes m e =
    let p = meta_header known bytes m e in
    (p.0, p.4, subst (λ (n : ℕ). body_of p.0 ≡ Ok n) (header-body known p.0 p.1 p.2 m p.3) p.5)

-- what is read from it alone is that, without a fault

pub body-read : (known : Known) (bytes : List ℕ) (m : Meta) (root : Option Table) (t : Table) (n : ℕ)
    → root ≡ root_of bytes → must fault.BadTable root ≡ Ok t → body_of t ≡ Ok n → meta_of known bytes ≡ Ok m → n ≡ m.body
body-read known bytes m root t n is there body e =
    let p = meta-body known bytes m e in
    let same : must fault.BadTable root ≡ Ok p.0 = ap (must fault.BadTable) is ∙ p.1 in
    let table : t ≡ p.0 = cc in
    let other : body_of t ≡ Ok m.body = ap body_of table ∙ p.2 in
    cc

pub body-faultless : (known : Known) (bytes : List ℕ) (m : Meta) (root : Option Table) (t : Table) (c : StreamFault)
    → root ≡ root_of bytes → must fault.BadTable root ≡ Ok t → FailsWith (body_of t) c → meta_of known bytes ≡ Ok m → ⊥
body-faultless known bytes m root t c is there stands e =
    let p = meta-body known bytes m e in
    let same : must fault.BadTable root ≡ Ok p.0 = ap (must fault.BadTable) is ∙ p.1 in
    let table : t ≡ p.0 = cc in
    let other : body_of t ≡ Ok m.body = ap body_of table ∙ p.2 in
    subst (λ (r : Reading ℕ). FailsWith r c) other stands

-- what is held has no whole body
body-beyond : (len front : ℕ) (m : Meta) → body_at len front m ≡ Ok None → len < front + m.body
body-beyond len front m e =
    elim (lt_cases len (front + m.body)) [ inl t ↦ t.1 | inr t ↦ let k = rw t.0 at e in absurd (cc) ]

meta-there : (len front : ℕ) (a : Reading Meta) → front ≤ len → message_at len front a ≡ Ok None
    → (m : Meta) × (a ≡ Ok m) × (len < front + m.body)
unfolding message_at
meta-there len front a h e =
    let at : (a >>= body_at len front) ≡ Ok None = rw (not_lt len front h) at e in
    let p = bind_Ok a (body_at len front) None at in
    (p.0, p.1, body-beyond len front p.0 p.2)

pub missing-some : (known : Known) (bytes : List ℕ) (n body : ℕ) → first known bytes ≡ Ok None → 1 ≤ n
    → 8 + n ≤ length bytes → sizes_at bytes ≡ Ok n
    → ((m : Meta) → meta_of known (slice_range bytes 8 (8 + n)) ≡ Ok m → body ≡ m.body)
    → IsMissing known bytes (body - (length bytes - (8 + n)))
missing-some known bytes n body partial z h sizes is =
    let front : ℕ = 8 + n in
    let none : followed_at known bytes front [] ≡ Ok None =
    across_is known bytes [] n h z sizes ∙ ap (first known) (append-nil bytes) ∙ partial in
    let at : message_at (length bytes) front (meta_of known (slice_range bytes 8 front)) ≡ Ok None =
    subst (λ (bs : List ℕ). message_at (length bs) front (meta_of known (slice_range bs 8 front)) ≡ Ok None)
    (append-nil bytes) none in
    let p = meta-there (length bytes) front (meta_of known (slice_range bytes 8 front)) h at in
    let m : Meta = p.0 in
    let same : body ≡ m.body = is m p.1 in
    record {
      some = λ has. omega (arith, p.2, same, h);
      ends =
          λ some more long.
          let w : Whole = record { front = front; meta = m } in
          let found = across_found known bytes more front m (omega arith) h p.1 (omega (arith, long, same, h)) in
          (w, sym (across_is known bytes more n h z sizes) ∙ found, omega (arith, p.2, long, same, h));
    }

pub missing-none : (known : Known) (bytes : List ℕ) → (HasMetadata bytes → ⊥) → IsMissing known bytes 0
missing-none known bytes none = record { some = λ has. absurd (none has); ends = λ some. absurd (omega (arith, some)) }
