-- The rows of a change, one by one.
use Rattle.std.proofs.Common.{◌≡◌, ap, sym, ◌∙◌, arith, ℕ, ◌+◌, ◌<◌, ◌≤◌, List, [], ◌∷◌, length, take, drop, get_or, add-one, drop-cons}
use Rattle.std.specs.Prelude.{Some, None, Option, suc}
use Rattle.std.proofs.lemmas.List.Sums.{fold_more}
use Rattle.std.proofs.lemmas.List.{length-take-le}
use Rattle.values.specs.Datum.{Datum}
use Rattle.view_lang.specs.Shifts.{Shift, push_some, with_afters, with_befores}

pub afters-more : (es : List Shift) (i : ℕ) (e : Shift) (rows : List (List Datum)) → i < length es → e ≡ get_or es i e
    → with_afters (take (i + 1) es) rows ≡ push_some e.after (with_afters (take i es) rows)
afters-more es i e rows h q =
    fold_more (λ (rs : List (List Datum)) (x : Shift). push_some x.after rs) rows es i e h
    ∙ ap (λ (x : Shift). push_some x.after (with_afters (take i es) rows)) (sym q)

push-length : (o : Option (List Datum)) (rows : List (List Datum)) → length (push_some o rows) ≤ length rows + 1
push-length None rows = omega arith
push-length (Some r) rows = omega arith

pub afters-length : (es : List Shift) (rows : List (List Datum)) → length (with_afters es rows) ≤ length rows
    + length es
afters-length [] rows = omega arith
afters-length (e ∷ es) rows =
    let a = afters-length es (push_some e.after rows) in
    let b = push-length e.after rows in
    omega (arith, a, b)

pub afters-few : (es : List Shift) (i : ℕ) (rows : List (List Datum)) → i ≤ length es
    → length (with_afters (take i es) rows) ≤ length rows + i
afters-few es i rows h = let a = afters-length (take i es) rows in let b = length-take-le i es h in omega (arith, a, b)

pub befores-more : (es : List Shift) (i : ℕ) (e : Shift) (rows : List (List Datum)) → i < length es → e ≡ get_or es i e
    → with_befores (drop i es) rows ≡ push_some e.before (with_befores (drop (i + 1) es) rows)
befores-more es i e rows h q =
    rw (add-one, drop-cons es i e)
    (ap (λ (x : Shift). push_some x.before (with_befores (drop (suc i) es) rows)) (sym q))
