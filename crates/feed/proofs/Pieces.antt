-- Pushing a list of pieces.
use Rattle.std.proofs.Common.{
  ◌≡◌,
  ℕ,
  zero,
  suc,
  ◌-◌,
  ◌<◌,
  ◌≤◌,
  Option,
  None,
  Some,
  Ok,
  Err,
  List,
  [],
  ◌∷◌,
  ◌++◌,
  length,
  drop,
  refl,
  ap,
  sym,
  subst,
  ◌∙◌,
  arith,
  length-drop,
}
use Rattle.std.specs.List.{concat}
use Rattle.values.specs.declared.faults.StreamFault.{StreamFault}
use Rattle.values.specs.Reading.{FailsWith, Reading}
use Rattle.messages.specs.Laws.{FirstMessageLaw}
use Rattle.messages.proofs.Feedings.{agree, some_fault}
use Rattle.feed.specs.Events.{Event, Given}
use Rattle.feed.specs.States.{FeedState, after_push, gives}
use Rattle.feed.specs.Transcript.{Transcript, led_by, transcript}
use Rattle.feed.specs.Pieces.{
  CutsAgree,
  End,
  FeedFollows,
  Feeds,
  FeedsEnd,
  Follows,
  all_pushed,
  pushed,
  refused,
  used_up,
  with_event,
}
use Rattle.feed.proofs.TranscriptLemmas.{nothing-left, push-keeps, refusal-ends, uses-some}

follows-led : (o : Option Event) (events : List Event) (end : End) (t : Transcript) → Follows events end t
    → Follows (with_event o events) end (led_by o t)
follows-led None events end t f = f
follows-led (Some e) events end t f = record { same = ap (λ es. e ∷ es) f.same; left = f.left }

module _ (laws : FirstMessageLaw) where
  refused-follows :
      (s : FeedState) (piece later : List ℕ) (c : StreamFault) (r : Reading Given) → 0 < length piece
      → gives s piece ≡ r → FailsWith r c
      → Follows [] (Err c) (transcript s (piece ++ later))
  refused-follows s piece later c (Ok g) some is stands = absurd stands
  refused-follows s piece later c (Err fs) some is stands =
      subst (Follows [] (Err c)) (sym (refusal-ends laws s piece later fs some is))
      (record { same = refl; left = stands })

  follows : (s : FeedState) (pieces : List (List ℕ)) (events : List Event) (end : End) → Feeds s pieces events end
      → Follows events end (transcript s (concat pieces))
  follows s pieces events end (all_pushed t) =
      subst (Follows [] (Ok t)) (sym (nothing-left t)) (record { same = refl; left = refl })
  follows s pieces events end (used_up t rest es e f) = follows t rest es e f
  follows s pieces events end (pushed t piece rest g es e is f) =
      subst (Follows (with_event g.event es) e) (sym (push-keeps laws t piece (concat rest) g is))
      (follows-led g.event es e (transcript (after_push t piece (Ok g)) (drop g.used piece ++ concat rest))
      (follows (after_push t piece (Ok g)) (drop g.used piece ∷ rest) es e f))
  follows s pieces events end (refused t piece rest c some stands) =
      refused-follows t piece (concat rest) c (gives t piece) some refl stands

  pub feed-follows : FeedFollows
  feed-follows s pieces events end f = follows s pieces events end f

  pub cuts-agree : CutsAgree
  cuts-agree s pieces others events theirs end other same f g =
      let a = follows s pieces events end f in
      let b : Follows theirs other (transcript s (concat pieces)) =
      subst (λ bytes. Follows theirs other (transcript s bytes)) (sym same) (follows s others theirs other g) in
      (sym a.same ∙ b.same, agree (transcript s (concat pieces)).end end other a.left b.left)

  abbrev Ends : FeedState → List (List ℕ) → Type 0
  Ends s pieces = (events : List Event) × (end : End) × Feeds s pieces events end

  piece-ends : (n : ℕ) (pieces : List (List ℕ)) → ((s : FeedState) → Ends s pieces) → (s : FeedState) (piece : List ℕ)
      → length piece ≤ n
      → Ends s (piece ∷ pieces)
  piece-ends n pieces later s [] small = let h = later s in (h.0, h.1, used_up s pieces h.0 h.1 h.2)
  piece-ends zero pieces later s (x ∷ xs) small = absurd (omega (arith, small))
  piece-ends (suc n) pieces later s (x ∷ xs) small =
      by_reading (λ t ys. piece-ends n pieces later t ys) (gives s (x ∷ xs)) refl where
        by_reading : ((t : FeedState) (ys : List ℕ) → length ys ≤ n → Ends t (ys ∷ pieces)) → (r : Reading Given)
            → gives s (x ∷ xs) ≡ r
            → Ends s ((x ∷ xs) ∷ pieces)
        by_reading more (Err fs) is =
            let c = some_fault fs in
            ([], Err c.0, refused s (x ∷ xs) pieces c.0 (omega arith) (subst (λ r. FailsWith r c.0) (sym is) c.1))
        by_reading more (Ok g) is =
            let less = uses-some laws s (x ∷ xs) g.used g.event (omega arith) is in
            let size : length (drop g.used (x ∷ xs)) ≡ length (x ∷ xs) - g.used = length-drop g.used (x ∷ xs) in
            let h = more (after_push s (x ∷ xs) (Ok g)) (drop g.used (x ∷ xs))
            (omega (arith, small, less.0, less.1, size)) in
            (with_event g.event h.0, h.1, pushed s (x ∷ xs) pieces g h.0 h.1 is h.2)

  pub feeds-end : FeedsEnd
  feeds-end s [] = ([], Ok s, all_pushed s)
  feeds-end s (piece ∷ pieces) = piece-ends (length piece) pieces (λ t. feeds-end t pieces) s piece (omega arith)
