-- A stream before and after a message.
use Rattle.std.proofs.Common.{
  ◌≡◌,
  ℕ,
  ◌+◌,
  ◌-◌,
  ◌<◌,
  ◌≤◌,
  Option,
  None,
  Some,
  Ok,
  List,
  [],
  ◌++◌,
  length,
  take,
  drop,
  refl,
  ap,
  sym,
  subst,
  ◌∙◌,
  arith,
  length-append,
  length-drop,
}
use Rattle.std.specs.Prelude.{IsSome, IsSomeAnd, slice_range}
use Rattle.std.proofs.lemmas.List.{length-take-le}
use Rattle.values.specs.Rose.{Rose}
use Rattle.schema_meta.specs.Entry.{Entry}
use Rattle.schema_meta.specs.Stage.{Known, Whole, end_of}
use Rattle.messages.specs.State.{IsRead}
use Rattle.schema_meta.specs.FieldLayouts.{slot_layouts_of}
use Rattle.schema_meta.specs.declared.header.Header.{Header}
use Rattle.schema_meta.specs.declared.header.Header.TheVariants as header
use Rattle.schema_meta.specs.Sound.{Fits, FitsValues, IsFitting, schema_after, after}
use Rattle.schema_meta.specs.Framing.{staged, first}
use Rattle.messages.specs.Stream.{IsStream}
use Rattle.messages.proofs.Messages.{first_within, first_beyond}
use Rattle.messages.proofs.WantedLemmas.{nothing_wanted}
use Rattle.messages.proofs.Sounds.{first_sound}

pub nothing_held : (known : Known) → first known [] ≡ Ok None
unfolding first staged
nothing_held known = refl

pub fresh_stream : (known : Known) (held : List ℕ) → held ≡ [] → IsRead known.schema → IsStream known held 8
fresh_stream known held h s =
    let P : List ℕ → Type 0 = λ bs. IsStream known bs 8 in
    subst P (sym h) (record { partial = nothing_held known; small = s; wants = nothing_wanted known })

pub small_after : (a b : Option (List (Rose Entry))) → IsRead a → IsRead b → IsRead (schema_after a b)
small_after a None p q = p
small_after a (Some fields) p q = q

body_length :
    (bytes body : List ℕ) (w : Whole) → end_of w ≤ length bytes → body ≡ slice_range bytes w.front (end_of w)
    → length body ≡ w.meta.body
body_length bytes body w l b =
    let k : end_of w - w.front ≡ w.meta.body = omega arith in
    let t : length (take (end_of w - w.front) (drop w.front bytes)) ≡ end_of w - w.front =
    length-take-le (end_of w - w.front) (drop w.front bytes) (omega (arith, length-drop w.front bytes)) in
    ap (λ bs. length bs) b ∙ (t ∙ k)

pub next_fits :
    (known next : Known) (bytes body : List ℕ) (w : Whole) → IsRead known.schema → first known bytes ≡ Ok (Some w)
    → next ≡ after known w.meta → body ≡ slice_range bytes w.front (end_of w)
    → IsFitting next.schema w.meta.header (length body)
next_fits known next bytes body w read e n b =
    let within = first_within known bytes w e in
    let sound = first_sound known bytes w read e in
    let l : length body ≡ w.meta.body = body_length bytes body w within.1 b in
    let P : Known → Type 0 = λ k. IsFitting k.schema w.meta.header (length body) in
    let Q : ℕ → Type 0 = λ m. IsFitting (schema_after known.schema w.meta.schema) w.meta.header m in
    subst P (sym n) (subst Q (sym l) sound.0)

some_of : {X : Type 0} (o : Option X) (P : X → Type 0) → IsSomeAnd o P → IsSome o
some_of None P h = absurd h
some_of (Some x) P h = refl

-- A message that fits is read where a schema is known.
pub schema_known : (o : Option (List (Rose Entry))) (h : Header) (body : ℕ) → IsFitting o h body → IsSome o
schema_known o header.Schema body fits = fits
schema_known o (header.Dictionary d) body fits = some_of o (λ fields. FitsValues fields body d) fits
schema_known o (header.Batch b) body fits = some_of o (λ fields. Fits (slot_layouts_of fields) body b) fits
schema_known o header.End body fits = fits

pub used_within :
    (known : Known) (old piece : List ℕ) (used : ℕ) (w : Whole) → first known (old ++ piece) ≡ Ok (Some w)
    → used + length old ≡ end_of w → used ≤ length piece
used_within known old piece used w e u =
    let within = first_within known (old ++ piece) w e in
    omega (arith, length-append old piece)

-- a message that becomes whole uses some bytes
pub used_some :
    (known : Known) (old piece : List ℕ) (used : ℕ) (w : Whole) → first known old ≡ Ok None
    → first known (old ++ piece) ≡ Ok (Some w) → used + length old ≡ end_of w → 0 < used
used_some known old piece used w p e u =
    let beyond = first_beyond known old piece w p e in
    omega arith
