use Rattle.std.proofs.Common.{sym, ◌∙◌, true≢false}
use Rattle.group_state.proofs.tests.is_shown.Goals as goal

pub first_rows-requires : goal.first_rows-requires
first_rows-requires c = λ n. true≢false (sym (c.is_bare.ensures.1 n) ∙ c.if-is_bare.false)
