-- Accumulated columns stay accumulated where one is added.
use Rattle.std.proofs.Common.{◌≡◌, zero, suc, arith, refl, ap₂, sym, subst, get_or, take, true≢false}
use Rattle.std.proofs.lemmas.Bool.{eq-eqb, eqb-true}
use Rattle.std.specs.Prelude.{All, Result, Ok, Err, OnOk, Bool, true, false, ◌&&◌, ◌==◌, List, [], ◌∷◌, ◌++◌, length, ℕ, ◌+◌, ◌<◌}
use Rattle.std.proofs.lemmas.List.Folds.{list_any_at}
use Rattle.std.proofs.lemmas.List.Elements.{All-append, All-more, All-weaker}
use Rattle.view_lang.specs.Outputs.{GroupOutput}
use Rattle.view_lang.specs.declared.aggregate.Aggregate.{Aggregate}
use Rattle.group_state.specs.AccumulatedColumns.{same_column, same_form}
use Rattle.group_state.specs.Aggregates.{IsAccumulated, is_read, reads}
use Rattle.group_state.specs.declared.accumulated_columns.AccumulatedColumn.{AccumulatedColumn}
use Rattle.group_state.specs.declared.accumulated_columns.AccumulatorForm.{AccumulatorForm}
use Rattle.group_state.specs.declared.accumulated_columns.AccumulatorForm.TheVariants as kept

pub kept-more : (old new : List AccumulatedColumn) (outs : List GroupOutput) (i : ℕ) (o : GroupOutput) → i < length outs
    → o ≡ get_or outs i o → ((a : Aggregate) → IsAccumulated old a → IsAccumulated new a) → IsAccumulated new o.aggregate
    → All (λ x. IsAccumulated old x.aggregate) (take i outs) → All (λ x. IsAccumulated new x.aggregate) (take (i + 1) outs)
kept-more old new outs i o below is still here all =
    let P : GroupOutput → Type 0 = λ x. IsAccumulated new x.aggregate in
    let so_far = All-weaker (λ x. IsAccumulated old x.aggregate) P (λ x k. still x.aggregate k) (take i outs) all in
    All-more P outs i o below so_far (subst P is here)

-- A column that an output at this place reads is read by one of the outputs.
pub read-there : (outs : List GroupOutput) (i : ℕ) (o : GroupOutput) → i < length outs → o ≡ get_or outs i o
    → (k : ℕ) → reads o.aggregate k ≡ true → is_read outs k ≡ true
read-there outs i o below is k h =
    list_any_at (λ (x : GroupOutput). reads x.aggregate k) outs i o below
    (subst (λ (x : GroupOutput). reads x.aggregate k ≡ true) is h)

All-one : {X : Type 0} (P : X → Type 0) (x : X) → P x → All P (x ∷ [])
All-one P x here zero d below = here
All-one P x here (suc i) d below = absurd (omega (arith, below))

pub more-read : (p : ℕ → Bool) (columns : List AccumulatedColumn) (c : AccumulatedColumn) → p c.column ≡ true
    → All (λ k. p k.column ≡ true) columns → All (λ k. p k.column ≡ true) (columns ++ c ∷ [])
more-read p columns c here all =
    let P : AccumulatedColumn → Type 0 = λ k. p k.column ≡ true in
    All-append P columns (c ∷ []) all (All-one P c here)

-- What holds of all columns also holds with one that an output reads, where it holds of all that the output reads.
pub only-read :
    {X E : Type 0} (a : Aggregate) (column : AccumulatedColumn) (old new : List AccumulatedColumn) (r : Result X E)
    → reads a column.column ≡ true
    → OnOk r ((p : ℕ → Bool) → p column.column ≡ true → All (λ k. p k.column ≡ true) old
    → All (λ k. p k.column ≡ true) new)
    → OnOk r ((p : ℕ → Bool) → ((k : ℕ) → reads a k ≡ true → p k ≡ true) → All (λ k. p k.column ≡ true) old
    → All (λ k. p k.column ≡ true) new)
only-read a column old new (Ok x) own only = λ p of_read all. only p (of_read column.column own) all
only-read a column old new (Err e) own only = tt

pub ruleset read_columns = (more-read)

form-itself : (f : AccumulatorForm) → same_form f f ≡ true
form-itself kept.Total = refl
form-itself kept.Values = refl

pub same-itself : (c : AccumulatedColumn) → same_column c c ≡ true
same-itself c = ap₂ (λ a b. a && b) (eq-eqb c.column c.column refl) (form-itself c.form)

pub ruleset same_columns = (same-itself)

form-is : (f g : AccumulatorForm) → same_form f g ≡ true → f ≡ g
form-is kept.Total kept.Total h = refl
form-is kept.Total kept.Values h = absurd (true≢false (sym h))
form-is kept.Values kept.Total h = absurd (true≢false (sym h))
form-is kept.Values kept.Values h = refl

both-first : (a b : Bool) → (a && b) ≡ true → a ≡ true
both-first true b h = refl
both-first false b h = absurd (true≢false (sym h))

both-second : (a b : Bool) → (a && b) ≡ true → b ≡ true
both-second true b h = h
both-second false b h = absurd (true≢false (sym h))

pub column-is : (c k : AccumulatedColumn) → same_column c k ≡ true → c ≡ k
column-is c k h =
    let columns : c.column ≡ k.column =
    eqb-true c.column k.column (both-first (c.column == k.column) (same_form c.form k.form) h) in
    let forms : c.form ≡ k.form =
    form-is c.form k.form (both-second (c.column == k.column) (same_form c.form k.form) h) in
    ap₂ (λ (n : ℕ) (f : AccumulatorForm). record { column = n; form = f }) columns forms
