-- What holds of the first message of some bytes.
use Rattle.std.proofs.Common.{◌≡◌, inl, inr, ℕ, ◌+◌, Bool, true, false, Some, Ok, Err, List, length, drop, refl, subst}
use Rattle.std.specs.Prelude.{slice_range, is_some, if◌then◌else◌}
use Rattle.byteorder.specs.Endian.{little_number}
use Rattle.values.specs.declared.faults.StreamFault.TheVariants as fault
use Rattle.values.specs.Reading.{Reading, one}
use Rattle.schema_meta.specs.Stage.{Known, Meta, Whole, end_meta}
use Rattle.messages.specs.Counts.{IsCounted}
use Rattle.messages.specs.State.{IsRead}
use Rattle.schema_meta.specs.Sound.{IsFitting, schema_after}
use Rattle.schema_meta.specs.Message.{meta_of}
use Rattle.schema_meta.specs.Framing.{framed, end_mark, first}
use Rattle.messages.proofs.Stages.{staged_from}
use Rattle.messages.proofs.Facts.{meta_sound, meta_read, meta_counted}

-- the message is sound where this is known before it
abbrev pub IsSound : Known → Meta → Type 0
IsSound known m = IsFitting (schema_after known.schema m.schema) m.header m.body × IsRead m.schema
    × IsCounted known.counts m.header

end_sound_by :
    (known : Known) (w : Whole) (b : Bool) → is_some known.schema ≡ b
    → (if b then Ok (Some (record { front = 8; meta = end_meta })) else Err (one fault.NoSchema)) ≡ Ok (Some w)
    → IsSound known w.meta
end_sound_by known w true s e =
    let k : record { front = 8; meta = end_meta } ≡ w = cc in
    subst (λ (v : Whole). IsSound known v.meta) k (s, tt, tt)
end_sound_by known w false s e = absurd (cc)

end_sound : (known : Known) (w : Whole) → end_mark known ≡ Ok (Some w) → IsSound known w.meta
end_sound known w e = end_sound_by known w (is_some known.schema) refl e

pub first_sound : (known : Known) (bytes : List ℕ) (w : Whole) → IsRead known.schema → first known bytes ≡ Ok (Some w)
    → IsSound known w.meta
unfolding first
first_sound known bytes w read e =
    let f : ℕ → Reading Meta = λ n. meta_of known (slice_range bytes 8 (8 + n)) in
    elim
    (staged_from (length bytes) (framed (little_number 4 bytes) (little_number 4 (drop 4 bytes))) (end_mark known) f w
    e) [
      | inl m ↦ end_sound known w m
      | inr r ↦
          let bs : List ℕ = slice_range bytes 8 (8 + r.0) in
          (meta_sound known bs w.meta read r.1, meta_read known bs w.meta r.1, meta_counted known bs w.meta r.1)
    ]
