-- The values after one more batch.
use Rattle.std.proofs.Common.{
  ◌≡◌,
  ℤ,
  Bool,
  true,
  false,
  cond,
  ◌||◌,
  List,
  [],
  ◌∷◌,
  ◌++◌,
  refl,
  ap,
  sym,
  ◌∙◌,
  append-nil,
}
use Rattle.std.specs.Prelude.{not, if◌then◌else◌, filter, flat_map, Some, None, unwrap_or}
use Rattle.std.specs.List.{list_any}
use Rattle.std.specs.Ordering.{int_eq}
use Rattle.std.specs.Cmp.{signed_Decides}
use Rattle.std.proofs.lemmas.List.Concat.{flat_map-append}
use Rattle.std.proofs.lemmas.List.Elements.{filter-append}
use Rattle.values.specs.Datum.{Datum}
use Rattle.dictionaries.specs.Batches.{
  DictionaryBatch,
  is_of,
  is_whole,
  since_last_whole,
  dictionary_after,
  found_after,
}
use Rattle.dictionaries.specs.Table.{found}
use Rattle.dictionaries.specs.Law.{NoneAtFirst, OneMore, TakingIsOneMore, ValuesAfter}

or-true : (t u : Bool) → u ≡ true → (t || u) ≡ true
or-true true u e = refl
or-true false u e = e

none-pass : (t u : Bool) (c : DictionaryBatch) (rest : List DictionaryBatch) → (t || u) ≡ false
    → (u ≡ false → rest ≡ []) → cond t (c ∷ rest) rest ≡ []
none-pass true u c rest e none = absurd (cc)
none-pass false u c rest e none = none e

module _ (p : DictionaryBatch → Bool) where
  any-push-true : (bs : List DictionaryBatch) (b : DictionaryBatch) → p b ≡ true → list_any p (bs ++ b ∷ []) ≡ true
  any-push-true [] b e = rw e refl
  any-push-true (c ∷ bs) b e = or-true (p c) (list_any p (bs ++ b ∷ [])) (any-push-true bs b e)

  any-push-false : (bs : List DictionaryBatch) (b : DictionaryBatch) → p b ≡ false
      → list_any p (bs ++ b ∷ []) ≡ list_any p bs
  any-push-false [] b e = rw e refl
  any-push-false (c ∷ bs) b e = ap (λ t. p c || t) (any-push-false bs b e)

  filter-push-true : (bs : List DictionaryBatch) (b : DictionaryBatch) → p b ≡ true
      → filter p (bs ++ b ∷ []) ≡ filter p bs ++ b ∷ []
  filter-push-true bs b e = filter-append p bs (b ∷ []) ∙ ap (λ t. filter p bs ++ cond t (b ∷ []) []) e

  filter-push-false : (bs : List DictionaryBatch) (b : DictionaryBatch) → p b ≡ false
      → filter p (bs ++ b ∷ []) ≡ filter p bs
  filter-push-false bs b e = filter-append p bs (b ∷ []) ∙ ap (λ t. filter p bs ++ cond t (b ∷ []) []) e
      ∙ append-nil (filter p bs)

  filter-none : (bs : List DictionaryBatch) → list_any p bs ≡ false → filter p bs ≡ []
  filter-none [] e = refl
  filter-none (c ∷ bs) e = none-pass (p c) (list_any p bs) c (filter p bs) e (filter-none bs)

whole-last : (bs : List DictionaryBatch) (b : DictionaryBatch) → b.is_delta ≡ false
    → since_last_whole (bs ++ b ∷ []) ≡ b ∷ []
whole-last [] b e = refl
whole-last (c ∷ bs) b e =
    ap (λ t. if t then since_last_whole (bs ++ b ∷ []) else c ∷ (bs ++ b ∷ [])) (any-push-true is_whole bs b (ap not e))
    ∙ whole-last bs b e

pushed-either : (t : Bool) (b : DictionaryBatch) (xs ys zs : List DictionaryBatch) → xs ≡ ys ++ b ∷ []
    → (if t then xs else zs ++ b ∷ []) ≡ (if t then ys else zs) ++ b ∷ []
pushed-either true b xs ys zs e = e
pushed-either false b xs ys zs e = refl

delta-last : (bs : List DictionaryBatch) (b : DictionaryBatch) → b.is_delta ≡ true
    → since_last_whole (bs ++ b ∷ []) ≡ since_last_whole bs ++ b ∷ []
delta-last [] b e = refl
delta-last (c ∷ bs) b e =
    ap (λ t. if t then since_last_whole (bs ++ b ∷ []) else c ∷ (bs ++ b ∷ []))
    (any-push-false is_whole bs b (ap not e))
    ∙ pushed-either (list_any is_whole bs) b (since_last_whole (bs ++ b ∷ [])) (since_last_whole bs) (c ∷ bs)
    (delta-last bs b e)

abbrev all_values : List DictionaryBatch → List Datum
all_values bs = flat_map (λ b. b.values) bs

-- the values of the batches of one id, after one more of them
last-values : (bs : List DictionaryBatch) (b : DictionaryBatch) (t : Bool) → b.is_delta ≡ t
    → all_values (since_last_whole (bs ++ b ∷ [])) ≡ (if t then all_values (since_last_whole bs) ++ b.values
    else b.values)
last-values bs b true e =
    ap all_values (delta-last bs b e) ∙ flat_map-append (λ c. c.values) (since_last_whole bs) (b ∷ [])
    ∙ ap (λ vs. all_values (since_last_whole bs) ++ vs) (append-nil b.values)
last-values bs b false e = ap all_values (whole-last bs b e) ∙ append-nil b.values

pub found-or-none : (bs : List DictionaryBatch) (id : ℤ) (t : Bool) → list_any (is_of id) bs ≡ t
    → unwrap_or (if t then Some (dictionary_after bs id) else None) [] ≡ dictionary_after bs id
found-or-none bs id true e = refl
found-or-none bs id false e = sym (ap (λ cs. all_values (since_last_whole cs)) (filter-none (is_of id) bs e))

-- what an id has after one more batch, by whether the batch is of the id
of-the-id : (bs : List DictionaryBatch) (b : DictionaryBatch) (id : ℤ) → int_eq b.id id ≡ true
    → found_after (bs ++ b ∷ []) id ≡ Some (if b.is_delta then unwrap_or (found_after bs id) [] ++ b.values
    else b.values)
of-the-id bs b id e =
    ap (λ t. if t then Some (dictionary_after (bs ++ b ∷ []) id) else None) (any-push-true (is_of id) bs b e)
    ∙ ap (λ cs. Some (all_values (since_last_whole cs))) (filter-push-true (is_of id) bs b e)
    ∙ ap Some (last-values (filter (is_of id) bs) b b.is_delta refl)
    ∙ ap (λ vs. Some (if b.is_delta then vs ++ b.values else b.values))
    (sym (found-or-none bs id (list_any (is_of id) bs) refl))

of-another : (bs : List DictionaryBatch) (b : DictionaryBatch) (id : ℤ) → int_eq b.id id ≡ false
    → found_after (bs ++ b ∷ []) id ≡ found_after bs id
of-another bs b id e =
    ap (λ t. if t then Some (dictionary_after (bs ++ b ∷ []) id) else None) (any-push-false (is_of id) bs b e)
    ∙ ap (λ cs. if list_any (is_of id) bs then Some (all_values (since_last_whole cs)) else None)
    (filter-push-false (is_of id) bs b e)

one-more : (bs : List DictionaryBatch) (b : DictionaryBatch) (id : ℤ) (t : Bool) → int_eq b.id id ≡ t
    → found_after (bs ++ b ∷ []) id ≡ (if t
    then Some (if b.is_delta then unwrap_or (found_after bs b.id) [] ++ b.values else b.values)
    else found_after bs id)
one-more bs b id true e =
    of-the-id bs b id e
    ∙ ap (λ k. Some (if b.is_delta then unwrap_or (found_after bs k) [] ++ b.values else b.values))
    (sym ((signed_Decides b.id id).0 e))
one-more bs b id false e = of-another bs b id e

pub step_after : OneMore
step_after bs b id = one-more bs b id (int_eq b.id id) refl

pub none_at_first : NoneAtFirst
none_at_first t e id = rw e refl

pub taking_is_one_more : TakingIsOneMore
taking_is_one_more bs b old new stands takes id =
    takes id
    ∙ ap (λ f. if int_eq b.id id then Some (if b.is_delta then unwrap_or f [] ++ b.values else b.values)
    else found old id) (stands b.id)
    ∙ ap (λ f. if int_eq b.id id
    then Some (if b.is_delta then unwrap_or (found_after bs b.id) [] ++ b.values else b.values) else f) (stands id)
    ∙ sym (one-more bs b id (int_eq b.id id) refl)

pub values_after : ValuesAfter
values_after bs t stands id = ap (λ f. unwrap_or f []) (stands id) ∙ found-or-none bs id (list_any (is_of id) bs) refl
