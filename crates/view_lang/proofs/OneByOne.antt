-- The rows of a view, made of one row after the other.
use Rattle.std.proofs.Common.{◌≡◌, Bool, true, false, cond, List, [], ◌∷◌, Option, None, Some, map, refl, ap, ◌∙◌}
use Rattle.std.specs.List.{cons_option, filter_map}
use Rattle.std.specs.Option.{option_and_then, option_map}
use Rattle.std.specs.Prelude.{filter}
use Rattle.values.specs.Datum.{Datum}
use Rattle.view_lang.specs.Joined.{joined, joined_row}
use Rattle.view_lang.specs.Truth.{passes}
use Rattle.view_lang.specs.ViewLaws.{KeptOneByOne, ShownOneByOne}
use Rattle.view_lang.specs.Views.{passing_row, shown_row, view_input}

module _ (p : List Datum → Bool) where
  kept_by :
      (q : List Datum) (ls ms : List (List Datum)) → ls ≡ ms → (b : Bool)
      → cons_option (cond b (Some q) None) ls ≡ cond b (q ∷ ms) ms
  kept_by q ls ms h true = ap (λ l. q ∷ l) h
  kept_by q ls ms h false = h

  kept_step :
      (o : Option (List Datum)) (ls ms : List (List Datum)) → ls ≡ filter p ms
      → cons_option (option_and_then (λ q. cond (p q) (Some q) None) o) ls ≡ filter p (cons_option o ms)
  kept_step None ls ms h = h
  kept_step (Some q) ls ms h = kept_by q ls (filter p ms) h (p q)

pub kept-one_by_one : KeptOneByOne
unfolding view_input joined
kept-one_by_one v side [] = refl
kept-one_by_one v side (r ∷ rs) =
    kept_step (passes v.filter) (joined_row v.lookup side r) _ (filter_map (joined_row v.lookup side) rs)
    (kept-one_by_one v side rs)

module _ (show : List Datum → List Datum) where
  shown_step :
      (o : Option (List Datum)) (ls ms : List (List Datum)) → ls ≡ map show ms
      → cons_option (option_map show o) ls ≡ map show (cons_option o ms)
  shown_step None ls ms h = h
  shown_step (Some q) ls ms h = ap (λ l. show q ∷ l) h

  shown_each :
      (f : List Datum → Option (List Datum)) (rows : List (List Datum))
      → filter_map (λ row. option_map show (f row)) rows ≡ map show (filter_map f rows)
  shown_each f [] = refl
  shown_each f (r ∷ rs) = shown_step (f r) _ (filter_map f rs) (shown_each f rs)

pub shown-one_by_one : ShownOneByOne
shown-one_by_one v outputs side rows =
    shown_each (shown_row outputs) (passing_row v side) rows ∙ ap (map (shown_row outputs)) (kept-one_by_one v side rows)

pub ruleset one_by_one_laws = (kept-one_by_one, shown-one_by_one)
