-- Stretches: consecutive numbers whose rows lie one after the other in a chunk.
use Rattle.std.proofs.Common.{◌≡◌, inl, inr, ℕ, suc, ◌+◌, ◌-◌, ◌^◌, ◌<◌, ◌≤◌, List, [], ◌∷◌, get_or, length, refl, ap, sym, subst, ◌∙◌, arith}
use Rattle.std.specs.Prelude.{slice_get}
use Rattle.std.proofs.lemmas.Bool.Decides.{leb_tells}
use Rattle.std.proofs.lemmas.Option.{get_or_from_slice_get}
use Rattle.row_keys.specs.Chunks.{AreChunks, Chunk, IsLong, LiesAt, LiesIn, in_turn, numbers_by, place_in}
use Rattle.row_keys.specs.Stretches.{HasNumber, IsStretch, IsStretchWith, row_at}
use Rattle.row_keys.specs.declared.stretches.Stretch.{Stretch}
use Rattle.row_keys.proofs.Places.{some_same}
use Rattle.row_keys.proofs.RowPlaces.{in_turn_place, turn_none_over}
use Rattle.row_keys.proofs.RunRows.{near_lies, rising_long}

pub no_stretch : (cs : List Chunk) (s : Stretch) → s.index ≡ 0 → s.rows ≡ 0 → IsStretch cs s
no_stretch cs s first none = record {
  lies = λ n has. absurd (let high = has.1 in let low = has.0 in omega (arith, high, low, none));
  small = omega (arith, first, none);
}

-- where no numbers are listed, they are consecutive
pub unlisted_turn : (ms : List ℕ) (first n : ℕ) → length ms ≡ 0 → numbers_by ms first n ≡ in_turn first n
unlisted_turn [] first n none = refl
unlisted_turn (m ∷ ms) first n none = absurd (omega (arith, none))

module _ (len : ℕ) (cs : List Chunk) (n p i : ℕ) (are : AreChunks 0 cs len) (at : LiesAt cs n p i) where
  abbrev here : Chunk
  here = at.lies.chunk

  chunk_here : (c : Chunk) → c ≡ get_or cs p c → c ≡ here
  chunk_here c is = is ∙ get_or_from_slice_get cs p here c at.lies.there

  -- where numbers are consecutive, each has its row
  turn_lies : here.numbers ≡ in_turn here.first (length here.gone) → (m : ℕ) → here.first ≤ m
      → m < here.first + length here.gone → LiesAt cs m p (m - here.first)
  turn_lies turn m low high =
      let long : IsLong here = at.lies.long in
      let each = long.each in
      let fit = rising_long here.first (here.first + here.span) here.numbers long.rise in
      let lies : LiesIn cs m p =
      near_lies 0 len cs p m here are at.lies.there low (omega (arith, high, fit, each)) in
      let same : lies.chunk ≡ here = some_same lies.chunk here (sym lies.there ∙ at.lies.there) in
      record {
        lies = lies;
        place = ap (λ (c : Chunk). place_in c.numbers m) same ∙ ap (λ ns. place_in ns m) turn
            ∙ in_turn_place here.first (length here.gone) m low high;
        within = subst (λ (c : Chunk). m - here.first < length c.gone) (sym same) (omega (arith, low, high));
      }

  turn_has : here.numbers ≡ in_turn here.first (length here.gone) → n < here.first + length here.gone
  turn_has turn = elim (leb_tells (suc n) (here.first + length here.gone)) [
    | inl t ↦ omega (arith, t.1)
    | inr t ↦
        let long : IsLong here = at.lies.long in
        let each = long.each in
        let none = ap (λ ns. place_in ns n) turn
        ∙ turn_none_over here.first (length here.gone) n (omega (arith, t.1)) ∙ ap length (sym turn) in
        let place = at.place in
        let within = at.within in
        absurd (omega (arith, none, place, within, each))
  ]

  pub turn_stretch : (c : Chunk) (s : Stretch) → c ≡ get_or cs p c → c.numbers ≡ in_turn c.first (length c.gone)
      → s.chunk ≡ p → s.first ≡ c.first → s.index ≡ 0 → s.rows ≡ length c.gone → s.rows < 2 ^ 64
      → IsStretchWith cs n s
  turn_stretch c s is turn chunk first index rows small =
      let same : c ≡ here = chunk_here c is in
      let turn_here : here.numbers ≡ in_turn here.first (length here.gone) =
      subst (λ (x : Chunk). x.numbers ≡ in_turn x.first (length x.gone)) same turn in
      let first_here : s.first ≡ here.first = first ∙ ap (λ (x : Chunk). x.first) same in
      let rows_here : s.rows ≡ length here.gone = rows ∙ ap (λ (x : Chunk). length x.gone) same in
      let has = turn_has turn_here in
      let low = at.lies.from in (
        record {
          lies = λ m within.
              let from = within.0 in
              let below = within.1 in
              let at_row : m - here.first ≡ row_at s m = omega (arith, index, first_here) in
              subst (λ q. LiesAt cs m q (row_at s m)) (sym chunk)
              (subst (λ k. LiesAt cs m p k) at_row
              (turn_lies turn_here m (omega (arith, from, first_here)) (omega (arith, below, first_here, rows_here))));
          small = omega (arith, index, small);
        },
        (omega (arith, first_here, low), omega (arith, first_here, rows_here, has)),
      )

  pub one_stretch : (c : Chunk) (s : Stretch) → c ≡ get_or cs p c → length c.gone < 2 ^ 64 → s.chunk ≡ p → s.first ≡ n
      → s.index ≡ i → s.rows ≡ 1 → IsStretchWith cs n s
  one_stretch c s is small chunk first index rows =
      let most : length here.gone < 2 ^ 64 = subst (λ (x : Chunk). length x.gone < 2 ^ 64) (chunk_here c is) small in
      let within = at.within in (
        record {
          lies = λ m has.
              let from = has.0 in
              let below = has.1 in
              let same : n ≡ m = omega (arith, from, below, first, rows) in
              let at_row : i ≡ row_at s m = omega (arith, index, first, same) in
              subst (λ q. LiesAt cs m q (row_at s m)) (sym chunk)
              (subst (λ k. LiesAt cs m p k) at_row (subst (λ x. LiesAt cs x p i) same at));
          small = omega (arith, index, rows, within, most);
        },
        (omega (arith, first), omega (arith, first, rows)),
      )
