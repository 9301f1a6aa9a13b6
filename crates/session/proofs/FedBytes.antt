-- What the joined bytes of a feed mean, piece by piece.
use Rattle.std.proofs.Common.{
  ◌≡◌,
  ℕ,
  zero,
  suc,
  ◌<◌,
  ◌≤◌,
  true,
  None,
  Some,
  Ok,
  Err,
  List,
  [],
  ◌∷◌,
  ◌++◌,
  length,
  drop,
  refl,
  ap,
  sym,
  ◌∙◌,
  arith,
  append-nil,
}
use Rattle.std.proofs.lemmas.List.{drop_all}
use Rattle.values.specs.Reading.{Faults, one}
use Rattle.values.specs.declared.faults.StreamFault.TheVariants as fault
use Rattle.feed.specs.declared.condition.Condition.{Condition}
use Rattle.feed.specs.declared.condition.Condition.TheVariants as condition
use Rattle.feed.specs.CutLaw.{PartialUses, WholeUses}
use Rattle.feed.specs.Events.{Event, given}
use Rattle.feed.specs.Pieces.{NothingLeft, PushKeeps, RefusalEnds}
use Rattle.feed.specs.States.{FeedState, after_push, given_when, gives, is_broken, retained_in}
use Rattle.feed.specs.Transcript.{led_by, no_events, transcript}

pub record FeedLaws : Type 0 where
  pub none : NothingLeft
  pub push : PushKeeps
  pub refusal : RefusalEnds
  pub uses : WholeUses
  pub all : PartialUses

drop-front : {X : Type 0} (n : ℕ) (xs ys : List X) → n ≤ length xs → drop n xs ++ ys ≡ drop n (xs ++ ys)
drop-front zero xs ys h = refl
drop-front (suc n) [] ys h = absurd (omega (arith, h))
drop-front (suc n) (x ∷ xs) ys h = drop-front n xs ys (omega (arith, h))

pub record Refuses (s : FeedState) (bytes : List ℕ) : Type 0 where
  pub faults : Faults
  pub gives_them : gives s bytes ≡ Err faults

gives-broken : (s : FeedState) (y : ℕ) (q : List ℕ) (c : Condition) → s.condition ≡ c → is_broken c ≡ true → Refuses s
    (y ∷ q)
unfolding gives
gives-broken s y q condition.Broken at b = record {
  faults = one fault.AfterEnd;
  gives_them = ap
      (λ c. given_when c (retained_in s) (y ∷ q)) at;
}
gives-broken s y q condition.Opened at b = absurd (cc)
gives-broken s y q condition.Ended at b = absurd (cc)
gives-broken s y q condition.Finished at b = absurd (cc)

module _ (laws : FeedLaws) where
  pub tells-none : (s : FeedState) → transcript s [] ≡ no_events (Ok s)
  tells-none s = laws.none s

  -- A piece without an event is read with what comes after it.
  pub tells-partial : (s : FeedState) (x : ℕ) (p q : List ℕ) (u : ℕ) → gives s (x ∷ p) ≡ Ok (given u None)
      → transcript s ((x ∷ p) ++ q) ≡ transcript (after_push s (x ∷ p) (Ok (given u None))) q
  tells-partial s x p q u is =
      let all = laws.all s (x ∷ p) u is in
      let none : drop u (x ∷ p) ≡ [] = drop_all u (x ∷ p) (omega (arith, all)) in
      laws.push s (x ∷ p) q (given u None) is
      ∙ ap (λ ys. transcript (after_push s (x ∷ p) (Ok (given u None))) (ys ++ q)) none

  -- A whole message is read first, and then what comes after it.
  pub tells-whole : (s : FeedState) (x : ℕ) (p q : List ℕ) (u : ℕ) (e : Event) → gives s (x ∷ p) ≡ Ok (given u (Some e))
      → transcript s ((x ∷ p) ++ q) ≡ led_by (Some e)
      (transcript (after_push s (x ∷ p) (Ok (given u (Some e)))) (drop u ((x ∷ p) ++ q)))
  tells-whole s x p q u e is =
      let less = laws.uses s (x ∷ p) u e is in
      laws.push s (x ∷ p) q (given u (Some e)) is
      ∙ ap (λ ys. led_by (Some e) (transcript (after_push s (x ∷ p) (Ok (given u (Some e)))) ys))
      (drop-front u (x ∷ p) q less.1)

  -- After a fault nothing more is read.
  pub tells-fault : (s : FeedState) (x : ℕ) (p q : List ℕ) (fs : Faults) → gives s (x ∷ p) ≡ Err fs
      → transcript s ((x ∷ p) ++ q) ≡ no_events (Err fs)
  tells-fault s x p q fs is =
      let some : 0 < length (x ∷ p) = omega arith in laws.refusal s (x ∷ p) q fs some is

  -- A feed that is broken gives nothing.
  pub tells-broken : (s : FeedState) (q : List ℕ) → is_broken s.condition ≡ true → (transcript s q).events ≡ []
  tells-broken s [] is = ap (λ t. t.events) (laws.none s)
  tells-broken s (y ∷ q) is =
      let f = gives-broken s y q s.condition refl is in
      ap (λ ys. (transcript s ys).events) (sym (append-nil (y ∷ q)))
      ∙ ap (λ t. t.events) (tells-fault s y q [] f.faults f.gives_them)
