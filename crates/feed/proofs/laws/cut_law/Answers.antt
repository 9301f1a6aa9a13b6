use Rattle.feed.proofs.CutLemmas.{partial-joins, whole-stays, faults-stay, whole-uses, partial-uses}
use Rattle.feed.proofs.laws.cut_law.Goals as goal

pub returns-clause-partial : goal.returns-clause-partial
returns-clause-partial c = partial-joins c.first_message_law.ensures

pub returns-clause-whole : goal.returns-clause-whole
returns-clause-whole c = whole-stays c.first_message_law.ensures

pub returns-clause-faults : goal.returns-clause-faults
returns-clause-faults c = faults-stay c.first_message_law.ensures

pub returns-clause-uses : goal.returns-clause-uses
returns-clause-uses c = whole-uses c.first_message_law.ensures

pub returns-clause-all : goal.returns-clause-all
returns-clause-all c = partial-uses c.first_message_law.ensures
