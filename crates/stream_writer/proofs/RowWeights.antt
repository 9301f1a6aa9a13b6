-- Weights of rows, row after row and batch after batch.
use Rattle.std.proofs.Common.{
  ◌≡◌,
  inl,
  inr,
  ℕ,
  suc,
  List,
  [],
  ◌∷◌,
  ◌++◌,
  ◌+◌,
  ◌-◌,
  ◌<◌,
  ◌≤◌,
  All,
  length,
  drop,
  get_or,
  ap,
  refl,
  sym,
  subst,
  ◌∙◌,
  arith,
  append_assoc,
  append-nil,
}
use Rattle.std.specs.Prelude.{IfSome, Option, Some}
use Rattle.std.proofs.lemmas.List.{drop_more, map-append}
use Rattle.std.proofs.lemmas.List.Elements.{All-get_or}
use Rattle.values.specs.Datum.{Datum}
use Rattle.values.specs.Rose.{Roses, more, none}
use Rattle.values.specs.declared.layout.Layout.{Layout}
use Rattle.schema_meta.specs.Rows.{row_at, rows_from}
use Rattle.body_writer.specs.Batch.{row_weight}
use Rattle.body_writer.specs.declared.from_columns.batch.Batch.{Batch}
use Rattle.body_writer.specs.RowRanges.{batch_rows, rows_of}
use Rattle.stream_writer.specs.Weights.{weights_of}
use Rattle.body_writer.specs.Heavy.{AreLightCells, HasHeavyCell, IsHeavy, IsLight, IsLightAs, layouts_in}
use Rattle.stream_writer.specs.Weights.{WeighsAs}

-- a row isn't both

cells-light : (ls : Roses Layout) (row : List Datum) → AreLightCells ls row → HasHeavyCell ls row → ⊥
cells-light none row light heavy = heavy
cells-light (more t ts) [] light heavy = heavy
cells-light (more t ts) (c ∷ cs) light heavy = elim heavy [
  | inl over ↦ let below = light.0 in omega (arith, over, below)
  | inr rest ↦ cells-light ts cs light.1 rest
]

pub light-row : (ls : Roses Layout) (row : List Datum) → IsLight ls row → IsHeavy ls row → ⊥
light-row ls row light heavy = elim heavy [
  | inl cell ↦ cells-light ls row light.cells cell
  | inr over ↦ let below = light.whole in omega (arith, over, below)
]

-- row after row

rows_from-step :
    (columns : List (List Datum)) (i n : ℕ) → i < n
    → rows_from columns i (n - i) ≡ row_at columns i ∷ rows_from columns (i + 1) (n - (i + 1))
unfolding rows_from
rows_from-step columns i n below =
    let more : n - i ≡ suc (n - (i + 1)) = omega (arith, below) in
    ap (rows_from columns i) more

pub weight-is :
    (ls : Roses Layout) (row : List Datum) (o : Option ℕ) (w : ℕ) → o ≡ Some w → IfSome o (IsLightAs ls row)
    → w ≡ row_weight ls row
weight-is ls row o w is says =
    let here : IsLightAs ls row w = subst (λ (x : Option ℕ). IfSome x (IsLightAs ls row)) is says in sym here.exact

pub weights-more :
    (ls : Roses Layout) (columns : List (List Datum)) (i n w : ℕ) (ws next whole : List ℕ) → i < n
    → w ≡ row_weight ls (row_at columns i) → next ≡ ws ++ w ∷ []
    → ws ++ weights_of ls (rows_from columns i (n - i)) ≡ whole
    → next ++ weights_of ls (rows_from columns (i + 1) (n - (i + 1))) ≡ whole
weights-more ls columns i n w ws next whole below is grown all =
    let rest : List ℕ = weights_of ls (rows_from columns (i + 1) (n - (i + 1))) in
    ap (λ xs. xs ++ rest) grown ∙ append_assoc ws (w ∷ []) rest ∙ ap (λ x. ws ++ x ∷ rest) is
    ∙ ap (λ rows. ws ++ weights_of ls rows) (sym (rows_from-step columns i n below)) ∙ all

pub weights-end :
    (ls : Roses Layout) (columns : List (List Datum)) (i n : ℕ) (ws whole : List ℕ) → n ≤ i
    → ws ++ weights_of ls (rows_from columns i (n - i)) ≡ whole → ws ≡ whole
unfolding rows_from
weights-end ls columns i n ws whole all is =
    let none : n - i ≡ 0 = omega (arith, all) in
    let P : ℕ → Type 0 = λ k. ws ++ weights_of ls (rows_from columns i k) ≡ whole in
    sym (append-nil ws) ∙ subst P none is

-- batch after batch

alike : (us ls : Roses Layout) (rows : List (List Datum))
    → ((row : List Datum) → row_weight us row ≡ row_weight ls row) → weights_of us rows ≡ weights_of ls rows
alike us ls [] same = refl
alike us ls (row ∷ rows) same =
    ap (λ w. w ∷ weights_of us rows) (same row) ∙ ap (λ ws. row_weight ls row ∷ ws) (alike us ls rows same)

pub batch-more :
    (ls : Roses Layout) (bs : List Batch) (i : ℕ) (b : Batch) (ws next : List ℕ) → i < length bs → b ≡ get_or bs i b
    → next ≡ ws ++ weights_of (layouts_in b.columns.items) (batch_rows b) → All (WeighsAs ls) bs
    → ws ++ weights_of ls (rows_of (drop i bs)) ≡ weights_of ls (rows_of bs)
    → next ++ weights_of ls (rows_of (drop (i + 1) bs)) ≡ weights_of ls (rows_of bs)
batch-more ls bs i b ws next h e grown all is =
    let behind = rows_of (drop (i + 1) bs) in
    let same : WeighsAs ls b = subst (WeighsAs ls) (sym e) (All-get_or (WeighsAs ls) bs i b h all) in
    let split : rows_of (drop i bs) ≡ batch_rows b ++ behind =
    ap rows_of (drop_more bs i b h) ∙ ap (λ x. batch_rows x ++ behind) (sym e) in
    ap (λ xs. xs ++ weights_of ls behind) (grown
    ∙ ap (λ xs. ws ++ xs) (alike (layouts_in b.columns.items) ls (batch_rows b) same))
    ∙ append_assoc ws (weights_of ls (batch_rows b)) (weights_of ls behind)
    ∙ ap (λ xs. ws ++ xs) (sym (ap (weights_of ls) split ∙ map-append (row_weight ls) (batch_rows b) behind)) ∙ is

-- the weights of a batch's rows after those of others

pub weights-added : (ls : Roses Layout) (b : Batch) (ws next : List ℕ) (rows : List (List Datum)) → WeighsAs ls b
    → next ≡ ws ++ weights_of (layouts_in b.columns.items) (batch_rows b) → ws ≡ weights_of ls rows
    → next ≡ weights_of ls (rows ++ batch_rows b)
weights-added ls b ws next rows same grown e =
    grown ∙ ap (λ xs. ws ++ xs) (alike (layouts_in b.columns.items) ls (batch_rows b) same)
    ∙ ap (λ xs. xs ++ weights_of ls (batch_rows b)) e ∙ sym (map-append (row_weight ls) rows (batch_rows b))

pub ruleset weights = (light-row, weights-more, weights-end)
