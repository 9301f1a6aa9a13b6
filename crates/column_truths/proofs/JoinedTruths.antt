-- Truths that are gathered one after the other.
use Rattle.std.proofs.Common.{◌≡◌, ℕ, ◌+◌, List, [], ◌∷◌, ◌++◌, length, get_or, ap, sym, ◌∙◌, arith, Bor}
use Rattle.std.specs.Prelude.{Bool, Option, Some, map, slice_get}
use Rattle.std.specs.Option.{option_copied}
use Rattle.std.proofs.lemmas.Option.{get_or_from_slice_get}
use Rattle.std.specs.List.{range_with_len}
use Rattle.std.proofs.lemmas.List.{length-map, map-append, get_or-map}
use Rattle.std.proofs.lemmas.List.FromFn.{
  length-map-range_with_len,
  map-range_with_len_more,
  fill_by_all,
}
use Rattle.bitmaps.specs.Truths.{Truth, is_true, is_unknown, truths_by}
use Rattle.bitmaps.proofs.TruthLemmas.{seen-as}
use Rattle.values.specs.Datum.{Datum, null}
use Rattle.view_lang.specs.Truth.{compared}
use Rattle.view_lang.specs.declared.filter.Comparison.{Comparison}
use Rattle.column_truths.specs.Compared.{compared_with}

-- the bitmaps of the first i truths
pub record Gathered (F : ℕ → Truth) (known unknown : List Bool) (i : ℕ) : Type 0 where
  pub trues : known ≡ map is_true (map F (range_with_len 0 i))
  pub unknowns : unknown ≡ map is_unknown (map F (range_with_len 0 i))

pub gathered_none : (F : ℕ → Truth) (known unknown : List Bool) → known ≡ [] → unknown ≡ [] → Gathered F known unknown 0
gathered_none F known unknown a b = record { trues = a; unknowns = b }

one_more : (F : ℕ → Truth) (g : Truth → Bool) (made new : List Bool) (i : ℕ) (t : Truth)
    → made ≡ map g (map F (range_with_len 0 i)) → t ≡ F i → new ≡ made ++ g t ∷ []
    → new ≡ map g (map F (range_with_len 0 (i + 1)))
one_more F g made new i t before is next =
    let xs = map F (range_with_len 0 i) in
    next ∙ ap (λ bs. bs ++ g t ∷ []) before ∙ ap (λ u. map g xs ++ g u ∷ []) is ∙ sym (map-append g xs (F i ∷ []))
    ∙ ap (map g) (sym (map-range_with_len_more F 0 i i (omega arith)))

pub gathered_step : (F : ℕ → Truth) (known unknown k u : List Bool) (i : ℕ) (t : Truth) → Gathered F known unknown i
    → t ≡ F i → k ≡ known ++ is_true t ∷ [] → u ≡ unknown ++ is_unknown t ∷ [] → Gathered F k u (i + 1)
gathered_step F known unknown k u i t before is a b = record {
  trues = one_more F is_true known k i t before.trues is a;
  unknowns = one_more F is_unknown unknown u i t before.unknowns is b;
}

pub gathered_known : (F : ℕ → Truth) (known unknown : List Bool) (i : ℕ) → Gathered F known unknown i → length known ≡ i
gathered_known F known unknown i g =
    ap length g.trues ∙ length-map (map F (range_with_len 0 i)) is_true ∙ length-map-range_with_len F 0 i

pub gathered_unknown : (F : ℕ → Truth) (known unknown : List Bool) (i : ℕ) → Gathered F known unknown i
    → length unknown ≡ i
gathered_unknown F known unknown i g =
    ap length g.unknowns ∙ length-map (map F (range_with_len 0 i)) is_unknown ∙ length-map-range_with_len F 0 i

pub gathered_end : (F : ℕ → Truth) (known unknown ks : List Bool) (i n : ℕ) → Gathered F known unknown i → i ≡ n
    → ks ≡ known → truths_by ks unknown ≡ map F (range_with_len 0 n)
gathered_end F known unknown ks i n g all same =
    ap (λ bs. truths_by bs unknown) same
    ∙ seen-as (map F (range_with_len 0 i)) known unknown (record { yes = g.trues; unknown = g.unknowns })
    ∙ ap (λ k. map F (range_with_len 0 k)) all

-- comparisons of the cells of a list
pub each_compared : (c : Comparison) (k : Datum) (ds : List Datum) (n : ℕ) → length ds ≡ n
    → map (λ i. compared c (get_or ds i null) k) (range_with_len 0 n) ≡ compared_with c k ds
each_compared c k ds n all =
    let f : Datum → Truth = λ d. compared c d k in
    sym (fill_by_all (λ i. compared c (get_or ds i null) k) (compared_with c k ds) n (f null)
    (length-map ds f ∙ all) (λ i below. get_or-map f ds i null (f null) (omega (arith, below, all))))

-- a value that a list has at i
pub value_got : (o : Option (Bor Datum)) (v : Bor Datum) (ds : List Datum) (i : ℕ) → option_copied o ≡ slice_get ds i
    → o ≡ Some v → get_or ds i null ≡ v.now
value_got o v ds i found is = get_or_from_slice_get ds i v.now null (sym found ∙ ap option_copied is)
