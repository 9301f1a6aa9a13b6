-- Rows with their weights.
use Rattle.std.proofs.Common.{
  ◌≡◌,
  ℕ,
  zero,
  suc,
  ◌+◌,
  ◌-◌,
  ◌<◌,
  ◌≤◌,
  List,
  [],
  ◌∷◌,
  length,
  slice_index_or,
  drop,
  refl,
  ap,
  sym,
  ◌∙◌,
  arith,
}
use Rattle.std.specs.Prelude.{nat_le, if◌then◌else◌}
use Rattle.std.proofs.lemmas.Bool.Decides.{nat_tests}
use Rattle.std.proofs.lemmas.List.{drop_more, drop_all, drop-map}
use Rattle.values.specs.Datum.{Datum}
use Rattle.values.specs.Limits.{max_batch_rows, max_batch_weight}
use Rattle.values.specs.Rose.{Roses}
use Rattle.values.specs.declared.layout.Layout.{Layout}
use Rattle.body_writer.specs.Batch.{row_weight}
use Rattle.stream_writer.specs.Stream.{batch_len, beginning}
use Rattle.stream_writer.specs.Weights.{fitting, weights_of}

-- the longest prefix, by weights alone

beginning-fitting : (ls : Roses Layout) (n room : ℕ) (rows : List (List Datum))
    → fitting n room (weights_of ls rows) ≡ beginning ls n room rows
beginning-fitting ls zero room rows = refl
beginning-fitting ls (suc n) room [] = refl
beginning-fitting ls (suc n) room (row ∷ rows) =
    ap (λ k. if nat_le (row_weight ls row) room then 1 + k else 0)
    (beginning-fitting ls n (room - row_weight ls row) rows)

pub weighed-len : (ls : Roses Layout) (rows : List (List Datum)) (ws : List ℕ) (count : ℕ) → ws ≡ weights_of ls rows
    → count ≡ fitting max_batch_rows max_batch_weight ws → count ≡ batch_len ls rows
unfolding batch_len
weighed-len ls rows ws count e is =
    is ∙ ap (fitting max_batch_rows max_batch_weight) e ∙ beginning-fitting ls max_batch_rows max_batch_weight rows

-- weight after weight

fitting-heavy : (n room w : ℕ) (ws : List ℕ) → room < w → fitting n room (w ∷ ws) ≡ 0
fitting-heavy zero room w ws h = refl
fitting-heavy (suc n) room w ws h = grind (arith, nat_tests)

fitting-light : (n room w : ℕ) (ws : List ℕ) → 0 < n → w ≤ room
    → fitting n room (w ∷ ws) ≡ 1 + fitting (n - 1) (room - w) ws
fitting-light zero room w ws some h = absurd (omega (arith, some))
fitting-light (suc n) room w ws some h =
    let same : suc n - 1 ≡ n = omega arith in
    rw same (fits w room (fitting n (room - w) ws) h)
  where
    fits : (w room others : ℕ) → w ≤ room → (if nat_le w room then 1 + others else 0) ≡ 1 + others
    fits w room others h = grind (arith, nat_tests)

here : (ws : List ℕ) (i : ℕ) → i < length ws → drop i ws ≡ slice_index_or ws i 0 ∷ drop (i + 1) ws
here ws i h = drop_more ws i 0 h

pub fitting-stops : (n room : ℕ) (ws : List ℕ) (i : ℕ) → i < length ws → room < slice_index_or ws i 0
    → fitting n room (drop i ws) ≡ 0
fitting-stops n room ws i h heavy =
    ap (fitting n room) (here ws i h) ∙ fitting-heavy n room (slice_index_or ws i 0) (drop (i + 1) ws) heavy

pub fitting-on : (n room : ℕ) (ws : List ℕ) (i : ℕ) → i < length ws → 0 < n → slice_index_or ws i 0 ≤ room
    → fitting n room (drop i ws) ≡ 1 + fitting (n - 1) (room - slice_index_or ws i 0) (drop (i + 1) ws)
fitting-on n room ws i h some light =
    ap (fitting n room) (here ws i h) ∙ fitting-light n room (slice_index_or ws i 0) (drop (i + 1) ws) some light

fitting-none : (n room : ℕ) → fitting n room [] ≡ 0
fitting-none zero room = refl
fitting-none (suc n) room = refl

pub fitting-end : (n room : ℕ) (ws : List ℕ) (i : ℕ) → length ws ≤ i → fitting n room (drop i ws) ≡ 0
fitting-end n room ws i h = ap (fitting n room) (drop_all i ws h) ∙ fitting-none n room

-- the weights of the rows after those that are skipped

pub weights-left : (ls : Roses Layout) (n : ℕ) (rows left : List (List Datum)) (ws : List ℕ) → ws ≡ weights_of ls rows
    → left ≡ drop n rows → drop n ws ≡ weights_of ls left
weights-left ls n rows left ws e is =
    ap (drop n) e ∙ drop-map (row_weight ls) n rows ∙ ap (weights_of ls) (sym is)
