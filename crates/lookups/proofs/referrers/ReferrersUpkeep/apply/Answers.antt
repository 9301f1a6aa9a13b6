use Rattle.lookups.proofs.referrers.ReferrersUpkeep.apply.Goals as goal
use Rattle.lookups.specs.Keeping.{Keeps}
use Rattle.std.proofs.Common.{◌≡◌, ◌<◌, sym, subst, take, length, get_or, add-one}
use Rattle.std.specs.Prelude.{List}
use Rattle.view_lang.specs.Counted.{fits-at, patched-more}
use Rattle.view_lang.specs.Shifts.{NumberedRows, Shift, patched}

pub loop-changed-preserved : goal.loop-changed-preserved
loop-changed-preserved c =
    let i = c.loop-changed.changed-index in
    let e = c.changed-item.result in
    let es = c.args.change.now in
    let R : List Shift → Type 0 = λ xs. i < length xs in
    let h : i < length es = subst R c.rows-changed-items.ensures c.loop-changed-test.true in
    let S : List Shift → Type 0 = λ xs. e ≡ get_or xs i e in
    let q : e ≡ get_or es i e = subst S c.rows-changed-items.ensures c.changed-item.is in
    let P : NumberedRows → Type 0 = λ rs. Keeps c.change_row.new.self rs in
    λ rows f k.
    let fit = fits-at rows es f i e h q in
    let so_far = c.loop-changed.invariant rows f k in
    let kept = c.in_ok-change_row.ensures (patched rows (take i es)) fit.0 fit.1 so_far in
    rw add-one (subst P (sym (patched-more rows es i e h q)) kept)
