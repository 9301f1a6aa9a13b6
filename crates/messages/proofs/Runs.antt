-- The messages of a stream, and which of them a push returns.
use Rattle.std.proofs.Common.{
  ◌≡◌,
  ℕ,
  suc,
  ◌+◌,
  ◌-◌,
  ◌≤◌,
  Option,
  None,
  Some,
  Ok,
  Err,
  List,
  [],
  ◌++◌,
  length,
  take,
  drop,
  refl,
  ap,
  sym,
  subst,
  ◌∙◌,
  arith,
  append_assoc,
  length-drop,
}
use Rattle.std.specs.Prelude.{slice_range}
use Rattle.std.proofs.lemmas.List.{take-append-le, drop-append-le}
use Rattle.std.proofs.Math.Seq.{drop-append-add, drop-length}
use Rattle.values.specs.declared.faults.StreamFault.{StreamFault}
use Rattle.values.specs.Reading.{FailsWith, Reading}
use Rattle.messages.specs.declared.headers.Framed.{Framed}
use Rattle.messages.specs.Handed.{MessageView}
use Rattle.schema_meta.specs.Stage.{Known, Whole, end_of}
use Rattle.schema_meta.specs.Sound.{after}
use Rattle.schema_meta.specs.Framing.{first}
use Rattle.schema_meta.specs.Story.{fields_of}
use Rattle.messages.specs.Stream.{Stream, Frames, message_of}
use Rattle.messages.specs.MessageSequence.{MessageSequence, led_by, message_sequence, sequence_after, sequence_past}
use Rattle.messages.specs.Laws.{PushKeepsRun, RefusalEndsRun}
use Rattle.messages.proofs.Messages.{first_within, whole_stays, fault_stays}

-- what lies within the first bytes is the same with more after them
slice-append :
    (xs ys : List ℕ) (from end : ℕ) → from ≤ end → end ≤ length xs
    → slice_range (xs ++ ys) from end ≡ slice_range xs from end
slice-append xs ys from end l m =
    ap (λ bs. take (end - from) bs) (drop-append-le from xs ys (omega arith))
    ∙ take-append-le (end - from) (drop from xs) ys (omega (arith, length-drop from xs))

same_message : (known : Known) (w : Whole) (xs ys : List ℕ) → end_of w ≤ length xs
    → message_of known w (xs ++ ys) ≡ message_of known w xs
same_message known w xs ys l =
    ap (λ bs. record { schema = fields_of (after known w.meta); header = w.meta.header; body = bs })
    (slice-append xs ys w.front (end_of w) (omega arith) l)

pub run_step :
    (n : ℕ) (known : Known) (bytes : List ℕ) (r : Reading (Option Whole)) → first known bytes ≡ r
    → message_sequence (suc n) known bytes ≡ sequence_after (message_sequence n) known bytes r
unfolding message_sequence
run_step n known bytes r e = ap (λ m. sequence_after (message_sequence n) known bytes m) e

-- the bytes after the message
rest_after :
    (held piece later : List ℕ) (used end : ℕ) → used + length held ≡ end → end ≤ length (held ++ piece)
    → drop end ((held ++ piece) ++ later) ≡ drop used piece ++ later
rest_after held piece later used end u l =
    let k : end ≡ length held + used = omega arith in
    drop-append-le end (held ++ piece) later l
    ∙ ap (λ ds. ds ++ later) (ap (λ m. drop m (held ++ piece)) k ∙ drop-append-add held piece used)

pub push_whole :
    (n : ℕ) (old new : Stream) (piece later : List ℕ) (f : Framed) (w : Whole)
    → first old.known (old.held ++ piece) ≡ Ok (Some w)
    → f.used + length old.held ≡ end_of w → f.message ≡ Some (message_of old.known w (old.held ++ piece))
    → new ≡ record { known = after old.known w.meta; held = [] }
    → message_sequence (suc n) old.known (old.held ++ (piece ++ later))
    ≡ sequence_past f.message (λ k. message_sequence k new.known (new.held ++ (drop f.used piece ++ later))) n
push_whole n old new piece later f w e u m s =
    let bytes : List ℕ = old.held ++ piece in
    let l = (first_within old.known bytes w e).1 in
    let a : old.held ++ (piece ++ later) ≡ bytes ++ later = sym (append_assoc old.held piece later) in
    let next : Known = after old.known w.meta in
    let one : message_sequence (suc n) old.known (bytes ++ later)
    ≡ led_by (message_of old.known w (bytes ++ later)) (message_sequence n next (drop (end_of w) (bytes ++ later))) =
    run_step n old.known (bytes ++ later) (Ok (Some w)) (whole_stays old.known bytes later w e) in
    let two : led_by (message_of old.known w (bytes ++ later)) (message_sequence n next (drop (end_of w) (bytes ++ later)))
    ≡ led_by (message_of old.known w bytes) (message_sequence n next (drop f.used piece ++ later)) =
    ap (λ v. led_by v (message_sequence n next (drop (end_of w) (bytes ++ later)))) (same_message old.known w bytes later l)
    ∙ ap (λ bs. led_by (message_of old.known w bytes) (message_sequence n next bs))
    (rest_after old.held piece later f.used (end_of w) u l) in
    let P : Option MessageView → Type 0 =
    λ o. message_sequence (suc n) old.known (old.held ++ (piece ++ later))
    ≡ sequence_past o (λ k. message_sequence k new.known (new.held ++ (drop f.used piece ++ later))) n in
    let Q : Stream → Type 0 =
    λ t. message_sequence (suc n) old.known (old.held ++ (piece ++ later))
    ≡ led_by (message_of old.known w bytes) (message_sequence n t.known (t.held ++ (drop f.used piece ++ later))) in
    subst P (sym m) (subst Q (sym s) (ap (λ bs. message_sequence (suc n) old.known bs) a ∙ (one ∙ two)))

pub push_partial :
    (n : ℕ) (old new : Stream) (piece later : List ℕ) (f : Framed) → f.used ≡ length piece → f.message ≡ None
    → new ≡ record { known = old.known; held = old.held ++ piece }
    → message_sequence (suc n) old.known (old.held ++ (piece ++ later))
    ≡ sequence_past f.message (λ k. message_sequence k new.known (new.held ++ (drop f.used piece ++ later))) n
push_partial n old new piece later f u m s =
    let d : drop f.used piece ≡ [] = ap (λ k. drop k piece) u ∙ drop-length piece in
    let a : old.held ++ (piece ++ later) ≡ (old.held ++ piece) ++ (drop f.used piece ++ later) =
    sym (append_assoc old.held piece later) ∙ ap (λ ds. (old.held ++ piece) ++ (ds ++ later)) (sym d) in
    let P : Option MessageView → Type 0 =
    λ o. message_sequence (suc n) old.known (old.held ++ (piece ++ later))
    ≡ sequence_past o (λ k. message_sequence k new.known (new.held ++ (drop f.used piece ++ later))) n in
    let Q : Stream → Type 0 =
    λ t. message_sequence (suc n) old.known (old.held ++ (piece ++ later)) ≡ message_sequence (suc n) t.known
    (t.held ++ (drop f.used piece ++ later)) in
    subst P (sym m) (subst Q (sym s) (ap (λ bs. message_sequence (suc n) old.known bs) a))

push_by :
    (n : ℕ) (old new : Stream) (piece later : List ℕ) (f : Framed) (r : Reading (Option Whole))
    → first old.known (old.held ++ piece) ≡ r → Frames r old piece f new
    → message_sequence (suc n) old.known (old.held ++ (piece ++ later))
    ≡ sequence_past f.message (λ k. message_sequence k new.known (new.held ++ (drop f.used piece ++ later))) n
push_by n old new piece later f (Ok None) e h = push_partial n old new piece later f h.0 h.1 h.2
push_by n old new piece later f (Ok (Some w)) e h = push_whole n old new piece later f w e h.0 h.1 h.2
push_by n old new piece later f (Err fs) e h = absurd h

pub push_law : PushKeepsRun
push_law n old new piece later f h = push_by n old new piece later f (first old.known (old.held ++ piece)) refl h

refusal_by :
    (n : ℕ) (known : Known) (bytes : List ℕ) (c : StreamFault) (r : Reading (Option Whole)) → first known bytes ≡ r
    → FailsWith r c
    → FailsWith (message_sequence (suc n) known bytes).rest c
refusal_by n known bytes c (Ok o) e h = absurd h
refusal_by n known bytes c (Err fs) e h =
    let P : MessageSequence → Type 0 = λ r. FailsWith r.rest c in subst P (sym (run_step n known bytes (Err fs) e)) h

pub refusal_law : RefusalEndsRun
refusal_law n old piece later c h =
    let bytes : List ℕ = old.held ++ piece in
    let P : List ℕ → Type 0 = λ bs. FailsWith (message_sequence (suc n) old.known bs).rest c in
    let s : FailsWith (first old.known (bytes ++ later)) c = fault_stays old.known bytes later c h in
    subst P (append_assoc old.held piece later)
    (refusal_by n old.known (bytes ++ later) c (first old.known (bytes ++ later)) refl s)
