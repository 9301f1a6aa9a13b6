-- Pushing pieces, by the messages of all their bytes.
use Rattle.std.proofs.Common.{
  ◌≡◌,
  inl,
  ℕ,
  zero,
  suc,
  ◌+◌,
  ◌-◌,
  ◌<◌,
  ◌≤◌,
  Option,
  None,
  Some,
  Result,
  Ok,
  Err,
  List,
  [],
  ◌∷◌,
  ◌++◌,
  length,
  drop,
  refl,
  ap,
  sym,
  subst,
  ◌∙◌,
  arith,
  append_assoc,
  append-nil,
  length-append,
  length-drop,
}
use Rattle.std.specs.List.{concat}
use Rattle.std.proofs.Math.Seq.{drop-length}
use Rattle.values.specs.declared.faults.StreamFault.{StreamFault}
use Rattle.values.specs.Reading.{Faults, IsAmong, Yields, Reading, FailsWith, one, several}
use Rattle.messages.specs.declared.headers.Framed.{Framed}
use Rattle.messages.specs.Handed.{MessageView}
use Rattle.schema_meta.specs.Stage.{Known, Whole, end_of}
use Rattle.schema_meta.specs.Sound.{after}
use Rattle.schema_meta.specs.Framing.{first}
use Rattle.messages.specs.Stream.{Stream, Frames, message_of}
use Rattle.messages.specs.MessageSequence.{MessageSequence, led_by, message_sequence, sequence_past, whole_sequence}
use Rattle.messages.specs.Feeding.{End, Feeds, ended, used_up, pushed, refused, handed_on}
use Rattle.messages.specs.Laws.{AgreeIn, CutsAgree, FeedFollowsRun, FeedsEnd, Follows}
use Rattle.messages.proofs.Messages.{first_beyond, first_within, fault_stays}
use Rattle.messages.proofs.Streams.{nothing_held}
use Rattle.messages.proofs.Runs.{push_law, push_partial, push_whole, refusal_law, run_step}

-- There are no more messages than bytes.
enough_by :
    (n : ℕ) (known : Known) (bytes : List ℕ) (r : Reading (Option Whole)) → length bytes ≤ suc n
    → ((next : Known) (rest : List ℕ) → length rest ≤ n → message_sequence (suc n) next rest ≡ message_sequence n next rest)
    → first known bytes ≡ r
    → message_sequence (suc (suc n)) known bytes ≡ message_sequence (suc n) known bytes
enough_by n known bytes (Ok None) l ih e =
    run_step (suc n) known bytes (Ok None) e ∙ sym (run_step n known bytes (Ok None) e)
enough_by n known bytes (Ok (Some w)) l ih e =
    let within = first_within known bytes w e in
    let rest : List ℕ = drop (end_of w) bytes in
    let k : length rest ≤ n = omega (arith, length-drop (end_of w) bytes, within.0, within.1) in
    run_step (suc n) known bytes (Ok (Some w)) e
    ∙ (ap (λ r. led_by (message_of known w bytes) r) (ih (after known w.meta) rest k)
    ∙ sym (run_step n known bytes (Ok (Some w)) e))
enough_by n known bytes (Err fs) l ih e =
    run_step (suc n) known bytes (Err fs) e ∙ sym (run_step n known bytes (Err fs) e)

no_bytes : (known : Known) → message_sequence 1 known [] ≡ message_sequence 0 known []
unfolding message_sequence
no_bytes known = run_step 0 known [] (Ok None) (nothing_held known)

run_enough : (n : ℕ) (known : Known) (bytes : List ℕ) → length bytes ≤ n
    → message_sequence (suc n) known bytes ≡ message_sequence n known bytes
run_enough zero known [] l = no_bytes known
run_enough zero known (b ∷ bytes) l = absurd (omega arith)
run_enough (suc n) known bytes l =
    enough_by n known bytes (first known bytes) l (λ next rest m. run_enough n next rest m) refl

-- no piece remains
ended_follows :
    (n : ℕ) (s : Stream) → first s.known s.held ≡ Ok None → Follows [] (Ok s) (message_sequence (suc n) s.known (s.held ++ []))
ended_follows n s p =
    let P : List ℕ → Type 0 = λ bytes. Follows [] (Ok s) (message_sequence (suc n) s.known bytes) in
    let Q : MessageSequence → Type 0 = λ r. Follows [] (Ok s) r in
    subst P (sym (append-nil s.held))
    (subst Q (sym (run_step n s.known s.held (Ok None) p)) (record { same = refl; left = refl }))

-- a push that waits for more
waits_follow :
    (n : ℕ) (old new : Stream) (piece later : List ℕ) (f : Framed) (messages : List MessageView) (end : End)
    → first old.known (old.held ++ piece) ≡ Ok None → f.used ≡ length piece → f.message ≡ None
    → new ≡ record { known = old.known; held = old.held ++ piece } → length (old.held ++ (piece ++ later)) ≤ n
    → ((m : ℕ) → first new.known new.held ≡ Ok None → length (new.held ++ (drop f.used piece ++ later)) ≤ m
    → Follows messages end (message_sequence (suc m) new.known (new.held ++ (drop f.used piece ++ later))))
    → Follows (handed_on f.message messages) end (message_sequence (suc n) old.known (old.held ++ (piece ++ later)))
waits_follow n old new piece later f messages end e u m s l ih =
    let bytes : List ℕ = old.held ++ (piece ++ later) in
    let rest : List ℕ = new.held ++ (drop f.used piece ++ later) in
    let E : Stream → Type 0 = λ t. first t.known t.held ≡ Ok None in
    let d : length (drop f.used piece) ≡ 0 =
    ap (λ k. length (drop k piece)) u ∙ ap (λ xs. length xs) (drop-length piece) in
    let h : length new.held ≡ length (old.held ++ piece) = ap (λ t. length t.held) s in
    let size : length rest ≤ n =
    omega (
      arith,
      l,
      d,
      h,
      length-append old.held piece,
      length-append old.held (piece ++ later),
      length-append piece later,
      length-append new.held (drop f.used piece ++ later),
      length-append (drop f.used piece) later,
    ) in
    let B : Option MessageView → Type 0 =
    λ o. message_sequence (suc n) old.known bytes ≡ sequence_past o (λ k. message_sequence k new.known rest) n in
    let k : message_sequence (suc n) old.known bytes ≡ message_sequence (suc n) new.known rest =
    subst B m (push_partial n old new piece later f u m s) in
    let P : Option MessageView → Type 0 = λ o. Follows (handed_on o messages) end (message_sequence (suc n) old.known bytes) in
    let Q : MessageSequence → Type 0 = λ r. Follows messages end r in
    subst P (sym m) (subst Q (sym k) (ih n (subst E (sym s) e) size))

follows_led :
    (m : MessageView) (messages : List MessageView) (end : End) (r : MessageSequence) → Follows messages end r
    → Follows (m ∷ messages) end (led_by m r)
follows_led m messages end r h = record { same = ap (λ ms. m ∷ ms) h.same; left = h.left }

-- a push that returns a message
hands_follow :
    (n : ℕ) (old new : Stream) (piece later : List ℕ) (f : Framed) (w : Whole) (messages : List MessageView)
    (end : End) → first old.known (old.held ++ piece) ≡ Ok (Some w)
    → f.used + length old.held ≡ end_of w → f.message ≡ Some (message_of old.known w (old.held ++ piece))
    → new ≡ record { known = after old.known w.meta; held = [] } → length (old.held ++ (piece ++ later)) ≤ suc n
    → ((m : ℕ) → first new.known new.held ≡ Ok None → length (new.held ++ (drop f.used piece ++ later)) ≤ m
    → Follows messages end (message_sequence (suc m) new.known (new.held ++ (drop f.used piece ++ later))))
    → Follows (handed_on f.message messages) end (message_sequence (suc (suc n)) old.known (old.held ++ (piece ++ later)))
hands_follow n old new piece later f w messages end e u m s l ih =
    let bytes : List ℕ = old.held ++ (piece ++ later) in
    let rest : List ℕ = new.held ++ (drop f.used piece ++ later) in
    let message : MessageView = message_of old.known w (old.held ++ piece) in
    let within = first_within old.known (old.held ++ piece) w e in
    let E : Stream → Type 0 = λ t. first t.known t.held ≡ Ok None in
    let h : length new.held ≡ 0 = ap (λ t. length t.held) s in
    let size : length rest ≤ n =
    omega (
      arith,
      l,
      u,
      h,
      within.0,
      within.1,
      length-append old.held piece,
      length-append old.held (piece ++ later),
      length-append piece later,
      length-append new.held (drop f.used piece ++ later),
      length-append (drop f.used piece) later,
      length-drop f.used piece,
    ) in
    let B : Option MessageView → Type 0 =
    λ o. message_sequence (suc (suc n)) old.known bytes ≡ sequence_past o (λ k. message_sequence k new.known rest) (suc n) in
    let k : message_sequence (suc (suc n)) old.known bytes ≡ led_by message (message_sequence (suc n) new.known rest) =
    subst B m (push_whole (suc n) old new piece later f w e u m s) in
    let P : Option MessageView → Type 0 =
    λ o. Follows (handed_on o messages) end (message_sequence (suc (suc n)) old.known bytes) in
    let Q : MessageSequence → Type 0 = λ r. Follows (message ∷ messages) end r in
    let t : Follows messages end (message_sequence (suc n) new.known rest) =
    ih n (subst E (sym s) (nothing_held (after old.known w.meta))) size in
    subst P (sym m) (subst Q (sym k) (follows_led message messages end (message_sequence (suc n) new.known rest) t))

-- a whole message has bytes
some_bytes :
    (known : Known) (held piece later : List ℕ) (w : Whole) → first known (held ++ piece) ≡ Ok (Some w)
    → 0 < length (held ++ (piece ++ later))
some_bytes known held piece later w e =
    let within = first_within known (held ++ piece) w e in
    omega (
      arith,
      within.0,
      within.1,
      length-append held piece,
      length-append held (piece ++ later),
      length-append piece later,
    )

pushed_follows :
    (n : ℕ) (old new : Stream) (piece later : List ℕ) (f : Framed) (messages : List MessageView) (end : End)
    (r : Reading (Option Whole)) → first old.known (old.held ++ piece) ≡ r → Frames r old piece f new
    → length (old.held ++ (piece ++ later)) ≤ n
    → ((m : ℕ) → first new.known new.held ≡ Ok None → length (new.held ++ (drop f.used piece ++ later)) ≤ m
    → Follows messages end (message_sequence (suc m) new.known (new.held ++ (drop f.used piece ++ later))))
    → Follows (handed_on f.message messages) end (message_sequence (suc n) old.known (old.held ++ (piece ++ later)))
pushed_follows n old new piece later f messages end (Ok None) e h l ih =
    waits_follow n old new piece later f messages end e h.0 h.1 h.2 l ih
pushed_follows zero old new piece later f messages end (Ok (Some w)) e h l ih =
    let some = some_bytes old.known old.held piece later w e in absurd (omega arith)
pushed_follows (suc n) old new piece later f messages end (Ok (Some w)) e h l ih =
    hands_follow n old new piece later f w messages end e h.0 h.1 h.2 l ih
pushed_follows n old new piece later f messages end (Err fs) e h l ih = absurd h

-- a push that is refused
refused_by :
    (n : ℕ) (known : Known) (bytes : List ℕ) (c : StreamFault) (r : Reading (Option Whole)) → first known bytes ≡ r
    → FailsWith r c
    → Follows [] (Err c) (message_sequence (suc n) known bytes)
refused_by n known bytes c (Ok o) e h = absurd h
refused_by n known bytes c (Err fs) e h =
    let P : MessageSequence → Type 0 = λ r. Follows [] (Err c) r in
    subst P (sym (run_step n known bytes (Err fs) e)) (record { same = refl; left = h })

refused_follows :
    (n : ℕ) (old : Stream) (piece later : List ℕ) (c : StreamFault) → FailsWith (first old.known (old.held ++ piece)) c
    → Follows [] (Err c) (message_sequence (suc n) old.known (old.held ++ (piece ++ later)))
refused_follows n old piece later c h =
    let bytes : List ℕ = old.held ++ piece in
    let P : List ℕ → Type 0 = λ bs. Follows [] (Err c) (message_sequence (suc n) old.known bs) in
    subst P (append_assoc old.held piece later)
    (refused_by n old.known (bytes ++ later) c (first old.known (bytes ++ later)) refl
    (fault_stays old.known bytes later c h))

feed_follows :
    (old : Stream) (pieces : List (List ℕ)) (messages : List MessageView) (end : End)
    → Feeds old pieces messages end → (n : ℕ) → first old.known old.held ≡ Ok None
    → length (old.held ++ concat pieces) ≤ n
    → Follows messages end (message_sequence (suc n) old.known (old.held ++ concat pieces))
feed_follows old pieces messages end (ended s) n p l = ended_follows n s p
feed_follows old pieces messages end (used_up s rest ms e h) n p l = feed_follows s rest ms e h n p l
feed_follows old pieces messages end (pushed s new piece rest f ms e frames h) n p l =
    pushed_follows n s new piece (concat rest) f ms e (first s.known (s.held ++ piece)) refl frames l
    (λ m q k. feed_follows new (drop f.used piece ∷ rest) ms e h m q k)
feed_follows old pieces messages end (refused s piece rest c h) n p l = refused_follows n s piece (concat rest) c h

pub feed_law : FeedFollowsRun
feed_law old pieces messages end p h =
    let bytes : List ℕ = old.held ++ concat pieces in
    let P : MessageSequence → Type 0 = λ r. Follows messages end r in
    subst P (run_enough (length bytes) old.known bytes (omega arith))
    (feed_follows old pieces messages end h (length bytes) p (omega arith))

pub agree :
    {S : Type 0} (rest : Reading S) (end other : Result S StreamFault) → Yields (λ s. s) end rest
    → Yields (λ s. s) other rest
    → AgreeIn rest end other
agree {S} rest (Ok s) (Ok t) h k = let e : Ok s ≡ Ok t = sym h ∙ k in cc
agree {S} rest (Err c) (Err d) h k = (h, k)
agree {S} rest (Ok s) (Err d) h k = let P : Reading S → Type 0 = λ m. FailsWith m d in absurd (subst P h k)
agree {S} rest (Err c) (Ok t) h k = let P : Reading S → Type 0 = λ m. FailsWith m c in absurd (subst P k h)

pub cuts_law : CutsAgree
cuts_law old pieces others messages theirs end other p same h k =
    let P : List ℕ → Type 0 = λ bs. Follows theirs other (whole_sequence old.known (old.held ++ bs)) in
    let a = feed_law old pieces messages end p h in
    let b : Follows theirs other (whole_sequence old.known (old.held ++ concat pieces)) =
    subst P (sym same) (feed_law old others theirs other p k) in
    (sym a.same ∙ b.same, agree (whole_sequence old.known (old.held ++ concat pieces)).rest end other a.left b.left)

-- pushing comes to an end
abbrev Ends : Stream → List (List ℕ) → Type 0
Ends s pieces = (messages : List MessageView) × (end : End) × Feeds s pieces messages end

pub some_fault : (fs : Faults) → (c : StreamFault) × IsAmong fs c
some_fault (one c) = (c, refl)
some_fault (several fs gs) = let p = some_fault fs in (p.0, inl p.1)

no_piece : (s : Stream) (pieces : List (List ℕ)) → Ends s pieces → Ends s ([] ∷ pieces)
no_piece s pieces h = (h.0, h.1, used_up s pieces h.0 h.1 h.2)

one_piece :
    (old new : Stream) (piece : List ℕ) (pieces : List (List ℕ)) (f : Framed)
    → Frames (first old.known (old.held ++ piece)) old piece f new → Ends new (drop f.used piece ∷ pieces)
    → Ends old (piece ∷ pieces)
one_piece old new piece pieces f frames h =
    (handed_on f.message h.0, h.1, pushed old new piece pieces f h.0 h.1 frames h.2)

waits_ends :
    (old : Stream) (piece : List ℕ) (pieces : List (List ℕ)) → first old.known (old.held ++ piece) ≡ Ok None
    → ((s : Stream) → first s.known s.held ≡ Ok None → Ends s pieces) → Ends old (piece ∷ pieces)
waits_ends old piece pieces e later =
    let new : Stream = record { known = old.known; held = old.held ++ piece } in
    let f : Framed = record { used = length piece; message = None } in
    let P : Reading (Option Whole) → Type 0 = λ r. Frames r old piece f new in
    let Q : List ℕ → Type 0 = λ rest. Ends new (rest ∷ pieces) in
    one_piece old new piece pieces f (subst P (sym e) (refl, refl, refl))
    (subst Q (sym (drop-length piece)) (no_piece new pieces (later new e)))

hands_ends :
    (old : Stream) (piece : List ℕ) (pieces : List (List ℕ)) (n : ℕ) (w : Whole) → length piece ≤ suc n
    → first old.known old.held ≡ Ok None → first old.known (old.held ++ piece) ≡ Ok (Some w)
    → ((s : Stream) (rest : List ℕ) → length rest ≤ n → first s.known s.held ≡ Ok None → Ends s (rest ∷ pieces))
    → Ends old (piece ∷ pieces)
hands_ends old piece pieces n w l p e later =
    let new : Stream = record { known = after old.known w.meta; held = [] } in
    let used : ℕ = end_of w - length old.held in
    let f : Framed = record { used = used; message = Some (message_of old.known w (old.held ++ piece)) } in
    let beyond = first_beyond old.known old.held piece w p e in
    let u : used + length old.held ≡ end_of w = omega (arith, beyond) in
    let k : length (drop used piece) ≤ n = omega (arith, l, beyond, length-drop used piece) in
    let P : Reading (Option Whole) → Type 0 = λ r. Frames r old piece f new in
    one_piece old new piece pieces f (subst P (sym e) (u, refl, refl))
    (later new (drop used piece) k (nothing_held (after old.known w.meta)))

piece_ends_by :
    (n : ℕ) (old : Stream) (piece : List ℕ) (pieces : List (List ℕ)) (r : Reading (Option Whole)) → length piece ≤ suc n
    → first old.known old.held ≡ Ok None → first old.known (old.held ++ piece) ≡ r
    → ((s : Stream) → first s.known s.held ≡ Ok None → Ends s pieces)
    → ((s : Stream) (rest : List ℕ) → length rest ≤ n → first s.known s.held ≡ Ok None → Ends s (rest ∷ pieces))
    → Ends old (piece ∷ pieces)
piece_ends_by n old piece pieces (Ok None) l p e later more = waits_ends old piece pieces e later
piece_ends_by n old piece pieces (Ok (Some w)) l p e later more = hands_ends old piece pieces n w l p e more
piece_ends_by n old piece pieces (Err fs) l p e later more =
    let c = some_fault fs in
    let P : Reading (Option Whole) → Type 0 = λ r. FailsWith r c.0 in
    ([], Err c.0, refused old piece pieces c.0 (subst P (sym e) c.1))

piece_ends :
    (n : ℕ) (pieces : List (List ℕ)) → ((s : Stream) → first s.known s.held ≡ Ok None → Ends s pieces) → (old : Stream)
    (piece : List ℕ) → length piece ≤ n → first old.known old.held ≡ Ok None → Ends old (piece ∷ pieces)
piece_ends zero pieces later old [] l p = no_piece old pieces (later old p)
piece_ends zero pieces later old (b ∷ piece) l p = absurd (omega arith)
piece_ends (suc n) pieces later old piece l p =
    piece_ends_by n old piece pieces (first old.known (old.held ++ piece)) l p refl later
    (λ s rest m q. piece_ends n pieces later s rest m q)

feeds_end : (pieces : List (List ℕ)) (old : Stream) → first old.known old.held ≡ Ok None → Ends old pieces
feeds_end [] old p = ([], Ok old, ended old)
feeds_end (piece ∷ pieces) old p =
    piece_ends (length piece) pieces (λ s q. feeds_end pieces s q) old piece (omega arith) p

pub end_law : FeedsEnd
end_law old pieces p = feeds_end pieces old p

pub ruleset run_laws = (push_law, refusal_law, feed_law, cuts_law, end_law)
