-- A stream's transcript, push by push.
use Rattle.std.proofs.Common.{
  ◌≡◌,
  ℕ,
  zero,
  suc,
  ◌+◌,
  ◌-◌,
  ◌<◌,
  ◌≤◌,
  Option,
  None,
  Some,
  Ok,
  Err,
  List,
  [],
  ◌∷◌,
  ◌++◌,
  length,
  take,
  drop,
  refl,
  ap,
  sym,
  ◌∙◌,
  arith,
  append-nil,
  append_assoc,
  length-drop,
}
use Rattle.std.proofs.lemmas.List.{take-append-le, drop-append-le}
use Rattle.std.proofs.Math.Seq.{take-length, drop-length}
use Rattle.values.specs.Reading.{Reading}
use Rattle.messages.specs.Laws.{FirstMessageLaw}
use Rattle.feed.specs.Events.{Event, Given, given}
use Rattle.feed.specs.States.{FeedState, after_push, condition_after, gives}
use Rattle.feed.specs.CutLaw.{shifted}
use Rattle.feed.specs.Transcript.{led_by, transcript, transcript_by, transcript_of}
use Rattle.feed.specs.Pieces.{NothingLeft, PushKeeps, RefusalEnds}
use Rattle.feed.proofs.CutLemmas.{faults-stay, partial-joins, partial-uses, whole-stays, whole-uses}

-- joined lists
drop-joined : (n : ℕ) (p q : List ℕ) → drop (length p + n) (p ++ q) ≡ drop n q
drop-joined n [] q = ap (λ m. drop m q) (omega arith)
drop-joined n (x ∷ p) q =
    let e : length (x ∷ p) + n ≡ suc (length p + n) = omega arith in
    ap (λ m. drop m (x ∷ (p ++ q))) e ∙ drop-joined n p q

take-joined : (n : ℕ) (p q : List ℕ) → take (length p + n) (p ++ q) ≡ p ++ take n q
take-joined n [] q = ap (λ m. take m q) (omega arith)
take-joined n (x ∷ p) q =
    let e : length (x ∷ p) + n ≡ suc (length p + n) = omega arith in
    ap (λ m. take m (x ∷ (p ++ q))) e ∙ ap (λ ys. x ∷ ys) (take-joined n p q)

pub nothing-left : NothingLeft
unfolding transcript transcript_of
nothing-left s = refl

module _ (laws : FirstMessageLaw) where
  -- A push uses some of a piece that isn't empty.
  pub uses-some :
      (s : FeedState) (piece : List ℕ) (used : ℕ) (o : Option Event) → 0 < length piece
      → gives s piece ≡ Ok (given used o)
      → (0 < used) × (used ≤ length piece)
  uses-some s piece used None some is =
      let all : used ≡ length piece = partial-uses laws s piece used is in
      (omega (arith, some, all), omega (arith, all))
  uses-some s piece used (Some e) some is = whole-uses laws s piece used e is

  -- More messages than there are bytes change nothing.
  fuel : (n m : ℕ) (s : FeedState) (bytes : List ℕ) → length bytes ≤ n → length bytes ≤ m
      → transcript_of n s bytes ≡ transcript_of m s bytes
  unfolding transcript_of
  fuel zero zero s bytes a b = refl
  fuel zero (suc m) s [] a b = refl
  fuel zero (suc m) s (x ∷ xs) a b = absurd (omega (arith, a))
  fuel (suc n) zero s [] a b = refl
  fuel (suc n) zero s (x ∷ xs) a b = absurd (omega (arith, b))
  fuel (suc n) (suc m) s [] a b = refl
  fuel (suc n) (suc m) s (x ∷ xs) a b = by_reading (λ t ys. fuel n m t ys) (gives s (x ∷ xs)) refl where
    by_reading : ((t : FeedState) (ys : List ℕ) → length ys ≤ n → length ys ≤ m
        → transcript_of n t ys ≡ transcript_of m t ys)
        → (r : Reading Given) → gives s (x ∷ xs) ≡ r
        → transcript_by (transcript_of n) s (x ∷ xs) r ≡ transcript_by (transcript_of m) s (x ∷ xs) r
    by_reading same (Err fs) is = refl
    by_reading same (Ok g) is =
        let less = uses-some s (x ∷ xs) g.used g.event (omega arith) is in
        let size : length (drop g.used (x ∷ xs)) ≡ length (x ∷ xs) - g.used = length-drop g.used (x ∷ xs) in
        ap (led_by g.event) (same (after_push s (x ∷ xs) (Ok g)) (drop g.used (x ∷ xs))
        (omega (arith, a, less.0, less.1, size)) (omega (arith, b, less.0, less.1, size)))

  -- the transcript of bytes that are there, by what they give
  pub step : (s : FeedState) (x : ℕ) (xs : List ℕ) (r : Reading Given) → gives s (x ∷ xs) ≡ r
      → transcript s (x ∷ xs) ≡ transcript_by transcript s (x ∷ xs) r
  unfolding transcript transcript_of
  step s x xs r is = ap (λ m. transcript_by (transcript_of (length xs)) s (x ∷ xs) m) is ∙ by_reading r is where
    by_reading : (m : Reading Given) → gives s (x ∷ xs) ≡ m
        → transcript_by (transcript_of (length xs)) s (x ∷ xs) m ≡ transcript_by transcript s (x ∷ xs) m
    by_reading (Err fs) at = refl
    by_reading (Ok g) at =
        let less = uses-some s (x ∷ xs) g.used g.event (omega arith) at in
        let rest : List ℕ = drop g.used (x ∷ xs) in
        let size : length rest ≡ length (x ∷ xs) - g.used = length-drop g.used (x ∷ xs) in
        ap (led_by g.event) (fuel (length xs) (length rest) (after_push s (x ∷ xs) (Ok g)) rest
        (omega (arith, less.0, less.1, size)) (omega arith))

  -- two pushes, the first without an event
  twice : (s : FeedState) (p q : List ℕ) (u v : ℕ) (o : Option Event) → u ≡ length p
      → after_push s (p ++ q) (Ok (given (length p + v) o)) ≡ after_push (after_push s p (Ok (given u None))) q
      (Ok (given v o))
  unfolding after_push
  twice s p q u v o all =
      let first : take u p ≡ p = ap (λ n. take n p) all ∙ take-length p in
      let bytes : s.bytes ++ take (length p + v) (p ++ q) ≡ (s.bytes ++ take u p) ++ take v q =
      ap (λ ys. s.bytes ++ ys) (take-joined v p q) ∙ sym (append_assoc s.bytes p (take v q))
      ∙ ap (λ ys. (s.bytes ++ ys) ++ take v q) (sym first) in
      ap (λ bs. record { declared = s.declared; bytes = bs; condition = condition_after s.condition o }) bytes

  -- an empty piece
  stays : (s : FeedState) (u : ℕ) → u ≡ 0 → after_push s [] (Ok (given u None)) ≡ s
  unfolding after_push
  stays s u none =
      ap (λ n. record { declared = s.declared; bytes = s.bytes ++ take n []; condition = s.condition }) none
      ∙ ap (λ bs. record { declared = s.declared; bytes = bs; condition = s.condition }) (append-nil s.bytes)

  -- A piece without an event is read with what comes after it.
  joins : (s : FeedState) (p q : List ℕ) (u : ℕ) → gives s p ≡ Ok (given u None) → u ≡ length p
      → transcript s (p ++ q) ≡ transcript (after_push s p (Ok (given u None))) q
  joins s [] q u is all = ap (λ t. transcript t q) (sym (stays s u all))
  joins s (x ∷ p) [] u is all =
      ap (λ ys. transcript s ys) (append-nil (x ∷ p)) ∙ step s x p (Ok (given u None)) is
      ∙ ap (λ ys. transcript (after_push s (x ∷ p) (Ok (given u None))) ys) (ap (λ n. drop n (x ∷ p)) all
      ∙ drop-length (x ∷ p))
  joins s (x ∷ p) (y ∷ q) u is all = by_reading (gives t (y ∷ q)) refl where
    t : FeedState
    t = after_push s (x ∷ p) (Ok (given u None))

    joined : gives s (x ∷ (p ++ (y ∷ q))) ≡ shifted (length (x ∷ p)) (gives t (y ∷ q))
    joined = partial-joins laws s (x ∷ p) (y ∷ q) (given u None) is refl

    by_reading : (r : Reading Given) → gives t (y ∷ q) ≡ r → transcript s (x ∷ (p ++ (y ∷ q))) ≡ transcript t (y ∷ q)
    by_reading (Err fs) at =
        step s x (p ++ (y ∷ q)) (Err fs) (joined ∙ ap (shifted (length (x ∷ p))) at) ∙ sym (step t y q (Err fs) at)
    by_reading (Ok g) at =
        step s x (p ++ (y ∷ q)) (Ok (given (length (x ∷ p) + g.used) g.event)) (joined
        ∙ ap (shifted (length (x ∷ p))) at)
        ∙ ap (λ z. led_by g.event (transcript z (drop (length (x ∷ p) + g.used) (x ∷ (p ++ (y ∷ q))))))
        (twice s (x ∷ p) (y ∷ q) u g.used g.event all)
        ∙ ap (λ ys. led_by g.event (transcript (after_push t (y ∷ q) (Ok g)) ys)) (drop-joined g.used (x ∷ p) (y ∷ q))
        ∙ sym (step t y q (Ok g) at)

  -- A whole message comes first, and then what comes after it.
  whole-first : (s : FeedState) (p q : List ℕ) (u : ℕ) (e : Event) → gives s p ≡ Ok (given u (Some e))
      → (0 < u) × (u ≤ length p)
      → transcript s (p ++ q) ≡ led_by (Some e) (transcript (after_push s p (Ok (given u (Some e)))) (drop u p ++ q))
  unfolding after_push
  whole-first s [] q u e is less = absurd (omega (arith, less.0, less.1))
  whole-first s (x ∷ p) q u e is less =
      step s x (p ++ q) (Ok (given u (Some e))) (whole-stays laws s (x ∷ p) q u e is)
      ∙ ap (λ bs.
      led_by (Some e)
      (transcript
      (record { declared = s.declared; bytes = s.bytes ++ bs; condition = condition_after s.condition (Some e) })
      (drop u ((x ∷ p) ++ q))))
      (take-append-le u (x ∷ p) q less.1)
      ∙ ap (λ ys. led_by (Some e) (transcript (after_push s (x ∷ p) (Ok (given u (Some e)))) ys))
      (drop-append-le u (x ∷ p) q less.1)

  pub push-keeps : PushKeeps
  push-keeps s p q g = by_event g.used g.event where
    by_event : (u : ℕ) (o : Option Event) → gives s p ≡ Ok (given u o)
        → transcript s (p ++ q) ≡ led_by o (transcript (after_push s p (Ok (given u o))) (drop u p ++ q))
    by_event u None is =
        let all : u ≡ length p = partial-uses laws s p u is in
        let none : drop u p ≡ [] = ap (λ n. drop n p) all ∙ drop-length p in
        joins s p q u is all ∙ ap (λ ys. transcript (after_push s p (Ok (given u None))) (ys ++ q)) (sym none)
    by_event u (Some e) is = whole-first s p q u e is (whole-uses laws s p u e is)

  pub refusal-ends : RefusalEnds
  refusal-ends s [] q fs some is = absurd (omega (arith, some))
  refusal-ends s (x ∷ p) q fs some is = step s x (p ++ q) (Err fs) (faults-stay laws s (x ∷ p) q fs is)
