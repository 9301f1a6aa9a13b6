-- The first of the rows that are found for items, where each item has one row at most.
use Rattle.std.proofs.Common.{◌≡◌, refl, ap, ap₂, sym, ◌∙◌, arith}
use Rattle.std.specs.Prelude.{ℕ, suc, ◌≤◌, List, [], ◌∷◌, ◌++◌, length, map, take, Option, None, Some}
use Rattle.std.specs.List.{cons_option, filter_map}
use Rattle.std.proofs.lemmas.List.{append-nil, take_all}
use Rattle.std.proofs.Math.Seq.{take-append_seam}

module _ {X Y : Type 0} (find : X → Option Y) where
  joined : (ys : List Y) (o : Option Y) (zs : List Y) → (ys ++ cons_option o []) ++ zs ≡ ys ++ cons_option o zs
  joined [] None zs = refl
  joined [] (Some y) zs = refl
  joined (y ∷ ys) o zs = ap (λ l. y ∷ l) (joined ys o zs)

  one-more : (ys : List Y) (o : Option Y) → length (ys ++ cons_option o []) ≤ suc (length ys)
  one-more [] None = omega arith
  one-more [] (Some y) = omega arith
  one-more (y ∷ ys) o = let h = one-more ys o in omega (arith, h)

  -- the row of one more item was added
  pub found-more : (made next all : List Y) (left rest : List X) (x : X) → left ≡ x ∷ rest
      → made ++ filter_map find left ≡ all → next ≡ made ++ cons_option (find x) []
      → next ++ filter_map find rest ≡ all
  found-more made next all left rest x is whole added =
      ap (λ l. l ++ filter_map find rest) added ∙ joined made (find x) (filter_map find rest)
      ∙ ap (λ l. made ++ filter_map find l) (sym is) ∙ whole

  pub few-more : (made next : List Y) (o : Option Y) (most : ℕ) → length made ≤ most → (length made ≡ most → ⊥)
      → next ≡ made ++ cons_option o [] → length next ≤ most
  few-more made next o most few fewer added =
      let added_length : length next ≡ length (made ++ cons_option o []) = ap length added in
      let one = one-more made o in
      omega (arith, few, fewer, added_length, one)

  pub found-all : (made all : List Y) (left : List X) (most : ℕ) → left ≡ [] → made ++ filter_map find left ≡ all
      → length made ≤ most → made ≡ take most all
  found-all made all left most is whole few =
      sym (take_all most made few)
      ∙ ap (take most) (sym (append-nil made) ∙ ap (λ l. made ++ filter_map find l) (sym is) ∙ whole)

  pub found-most : (made all : List Y) (left : List X) (most : ℕ) → made ++ filter_map find left ≡ all
      → length made ≡ most → made ≡ take most all
  found-most made all left most whole full =
      sym (take-append_seam made (filter_map find left)) ∙ ap₂ (λ n l. take n l) full whole

  -- the rows that are found for what other items stand for
  pub found-mapped : {W : Type 0} (stands : W → X) (ws : List W)
      → filter_map (λ w. find (stands w)) ws ≡ filter_map find (map stands ws)
  found-mapped stands [] = refl
  found-mapped stands (w ∷ ws) = ap (cons_option (find (stands w))) (found-mapped stands ws)
