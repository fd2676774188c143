use Rattle.std.proofs.Common.{rules}
use Rattle.settlement.specs.Positions.{stated_open, confirmed_open}
use Rattle.settlement.proofs.sheet.WholeSheet.position.Goals as goal

pub returns-clause-stated : goal.returns-clause-stated
unfolding stated_open
returns-clause-stated c = search rules

pub returns-clause-confirmed : goal.returns-clause-confirmed
unfolding confirmed_open
returns-clause-confirmed c = search rules

pub returns-clause-bound : goal.returns-clause-bound
returns-clause-bound c = search rules
