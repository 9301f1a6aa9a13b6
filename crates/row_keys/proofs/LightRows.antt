-- Rows of which none is too heavy.
use Rattle.std.proofs.Common.{◌≡◌, false, List, [], ◌∷◌, All}
use Rattle.std.proofs.lemmas.List.Elements.{All-cons, All-nil}
use Rattle.values.specs.Datum.{Datum}
use Rattle.view_lang.specs.Causes.{any_heavy, is_heavy, layouts_of}
use Rattle.view_lang.specs.Config.{Table}
use Rattle.row_keys.specs.Stored.{IsLightRow}
use Rattle.row_keys.proofs.KeyFacts.{neither}

pub none_heavy : (t : Table) (rows : List (List Datum)) → any_heavy (layouts_of t) rows ≡ false
    → All (IsLightRow t) rows
unfolding any_heavy
none_heavy t [] h = All-nil (IsLightRow t)
none_heavy t (r ∷ rs) h =
    let a = neither (is_heavy (layouts_of t) r) (any_heavy (layouts_of t) rs) h in
    All-cons (IsLightRow t) r rs a.0 (none_heavy t rs a.1)
