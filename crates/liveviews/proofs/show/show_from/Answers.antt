use Rattle.liveviews.proofs.Shows.{closes-shown, passes-shown, remains-fresh, some-source}
use Rattle.liveviews.proofs.show.show_from.Goals as goal

pub returns-in_default : goal.returns-in_default
returns-in_default g c = some-source _ _ (λ input. tt)

pub take_source-requires-clause-begins : goal.take_source-requires-clause-begins
take_source-requires-clause-begins g c = λ input. remains-fresh _ input c.open.ensures.shown

pub returns-in-Ok-take_source : goal.returns-in-Ok-take_source
returns-in-Ok-take_source g c =
    closes-shown c.account_law.ensures _ c.take_source.new.self.feed _ c.close.result c.in-Ok-take_source.ensures.passed
    c.close.ensures.valid c.close.ensures.fault

pub returns : goal.returns
returns g c =
    passes-shown c.account_law.ensures _ c.take_source.new.self.feed c.in-Err.fault c.in-Err.ensures.passed
