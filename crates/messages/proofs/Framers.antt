-- A framer with a prepared message, and once it is committed.
use Rattle.std.proofs.Common.{◌≡◌, ℕ, ◌≤◌, Option, Some, Ok, List, ◌++◌, length, take, refl, ap, sym, subst, ◌∙◌, arith}
use Rattle.std.proofs.lemmas.List.{length-take-le}
use Rattle.std.proofs.Math.Seq.{take-length}
use Rattle.messages.specs.declared.pending.Pending.{Pending}
use Rattle.messages.specs.declared.pending.Pending.TheVariants as pending
use Rattle.messages.specs.declared.framing.Found.{Found}
use Rattle.values.specs.Rose.{Rose}
use Rattle.schema_meta.specs.Entry.{Entry}
use Rattle.schema_meta.specs.Stage.{Known}
use Rattle.schema_meta.specs.Framing.{first}
use Rattle.messages.specs.declared.counts.Count.{Count}
use Rattle.messages.specs.Counts.{HasRoom}
use Rattle.messages.specs.State.{IsRead, learnt, whole_seen}
use Rattle.messages.specs.Stream.{IsStream}
use Rattle.messages.specs.Ready.{IsFramer}
use Rattle.messages.proofs.Sounds.{first_sound}
use Rattle.messages.proofs.Streams.{fresh_stream, small_after}

take_twice : (bytes : List ℕ) (len : ℕ) → len ≤ length bytes → take len (take len bytes) ≡ take len bytes
take_twice bytes len l =
    let n : length (take len bytes) ≡ len = length-take-le len bytes l in
    ap (λ m. take m (take len bytes)) (sym n) ∙ take-length (take len bytes)

pub message_ready :
    (known next : Known) (bytes cut new piece : List ℕ) (before room len wanted : ℕ) (p : Pending) (found : Found)
    (count : Option Count)
    → IsFramer known before bytes len wanted p → next ≡ known → HasRoom count room → cut ≡ take len bytes → new ≡ cut
    → first known (cut ++ piece) ≡ Ok (Some (whole_seen found))
    → IsFramer next room new len wanted (pending.Message found.metadata.schema count)
message_ready known next bytes cut new piece before room len wanted p found count i j r k e f =
    let n : length (take len bytes) ≡ len = length-take-le len bytes i.within in
    let a : new ≡ take len bytes = e ∙ k in
    let m : length new ≡ length (take len bytes) = ap (λ bs. length bs) a in
    let t : take len new ≡ take len bytes = ap (λ bs. take len bs) a ∙ take_twice bytes len i.within in
    let P : List ℕ → Type 0 = λ bs. IsStream known bs wanted in
    let sound = first_sound known (cut ++ piece) (whole_seen found) i.stream.small f in
    let Q : Known → Type 0 = λ x. IsFramer x room new len wanted (pending.Message found.metadata.schema count) in
    subst Q (sym j) (record { within = omega (arith, n, m); stream = subst P (sym t) i.stream; ready = (sound.1, r) })

pub message_done :
    (known next : Known) (brought : Option (List (Rose Entry))) (count : Option Count) (room : ℕ) (bytes : List ℕ)
    (p : Pending) → IsRead known.schema → IsRead brought
    → next ≡ learnt known brought count → p ≡ pending.Nothing → IsFramer next room bytes 0 8 p
message_done known next brought count room bytes p s b n q =
    let P : Known → Type 0 = λ k. IsRead k.schema in
    let small : IsRead next.schema = subst P (sym n) (small_after known.schema brought s b) in
    let Q : Pending → Type 0 = λ x. IsFramer next room bytes 0 8 x in
    subst Q (sym q) (record { within = omega arith; stream = fresh_stream next (take 0 bytes) refl small; ready = tt })
