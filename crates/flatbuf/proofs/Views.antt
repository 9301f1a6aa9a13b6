-- The tree of a slot by its variant, and of slots by their first.
use Rattle.std.proofs.Common.{
  rules,
  ◌≡◌,
  ℕ,
  ◌+◌,
  ◌<◌,
  List,
  [],
  ◌∷◌,
  ◌++◌,
  length,
  get_or,
  drop,
  refl,
  ap,
  sym,
  ◌∙◌,
  arith,
}
use Rattle.std.proofs.lemmas.List.{drop_more}
use Rattle.std.specs.Prelude.{Vec}
use Rattle.std.specs.declared.alloc.Global.{Global}
use Rattle.flatbuf.specs.Tree.{node, table, references, count}
use Rattle.flatbuf.specs.declared.slot.Slot.{Slot, the_lemmas}
use Rattle.flatbuf.specs.declared.slot.Slot.TheVariants.{Table, References}
use Rattle.flatbuf.specs.Slots.{view, views}
use Rattle.flatbuf.specs.Built.{add}

pub view-Table : (v : Vec Slot Global) → view (Table v) ≡ table (views v.items)
view-Table v = search (rules, the_lemmas)

pub view-References : (v : Vec Slot Global) → view (References v) ≡ references (views v.items)
view-References v = search (rules, the_lemmas)

pub count-views : (xs : List Slot) → count (views xs) ≡ length xs
count-views [] = refl
count-views (x ∷ xs) = let rest = count-views xs in omega (arith, rest)

pub views-at : (xs : List Slot) (i : ℕ) (x : Slot) → i < length xs → x ≡ get_or xs i x
    → views (drop i xs) ≡ node (view x) (views (drop (i + 1) xs))
views-at xs i x h e = ap views (drop_more xs i x h) ∙ ap (λ y. node (view y) (views (drop (i + 1) xs))) (sym e)

pub ruleset slots = (view-Table, view-References, count-views, views-at)

pub views-append : (xs : List Slot) (x : Slot) → views (xs ++ x ∷ []) ≡ add (views xs) (view x)
views-append [] x = refl
views-append (y ∷ ys) x = ap (node (view y)) (views-append ys x)

pub ruleset pushed = (view-Table, views-append)
