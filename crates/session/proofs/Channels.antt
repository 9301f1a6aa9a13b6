-- Feeds in memory and the channels that they represent, index by index.
use Rattle.std.proofs.Common.{
  ◌≡◌,
  ℕ,
  zero,
  suc,
  None,
  Some,
  List,
  [],
  ◌∷◌,
  ◌<◌,
  ◌≤◌,
  length,
  get_or,
  refl,
  sym,
  subst,
  arith,
}
use Rattle.std.specs.Prelude.{slice_get, slice_set}
use Rattle.view_lang.specs.Config.{Table}
use Rattle.session.specs.Steps.{Channel}
use Rattle.session.specs.Shows.{ShowsChannel, ShowsEach}
use Rattle.session.specs.declared.link.Link.{Link}

pub each_none :
    (tables : List Table) (ls : List Link) (cs : List Channel) (k : ℕ) → ShowsEach tables ls cs → length ls ≤ k
    → slice_get cs k ≡ None
each_none tables [] [] k h past = refl
each_none tables [] (c ∷ cs) k h past = absurd h
each_none tables (l ∷ ls) [] k h past = absurd h
each_none tables (l ∷ ls) (c ∷ cs) zero h past = absurd (omega (arith, past))
each_none tables (l ∷ ls) (c ∷ cs) (suc k) h past = each_none tables ls cs k h.1 (omega (arith, past))

-- the channel that a feed represents
pub each_get :
    (tables : List Table) (ls : List Link) (cs : List Channel) (k : ℕ) (l : Link) → ShowsEach tables ls cs → k < length
    ls
    → l ≡ get_or ls k l
    → (c : Channel) × (slice_get cs k ≡ Some c) × ShowsChannel tables l c
each_get tables [] cs k l h below is = absurd (omega (arith, below))
each_get tables (m ∷ ls) [] k l h below is = absurd h
each_get tables (m ∷ ls) (c ∷ cs) zero l h below is = (
  c,
  refl,
  subst (λ (x : Link). ShowsChannel tables x c) (sym is)
      h.0,
)
each_get tables (m ∷ ls) (c ∷ cs) (suc k) l h below is = each_get tables ls cs k l h.1 (omega (arith, below)) is

pub each_set :
    (tables : List Table) (ls : List Link) (cs : List Channel) (k : ℕ) (l : Link) (c : Channel) → ShowsEach tables ls cs
    → ShowsChannel tables l c
    → ShowsEach tables (slice_set ls k l) (slice_set cs k c)
each_set tables [] [] k l c h s = tt
each_set tables [] (d ∷ cs) k l c h s = absurd h
each_set tables (m ∷ ls) [] k l c h s = absurd h
each_set tables (m ∷ ls) (d ∷ cs) zero l c h s = (s, h.1)
each_set tables (m ∷ ls) (d ∷ cs) (suc k) l c h s = (h.0, each_set tables ls cs k l c h.1 s)
