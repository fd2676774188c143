use Rattle.std.proofs.Common.{rules}
use Rattle.settlement.specs.Positions.{confirmed_open}
use Rattle.settlement.proofs.confirmed_day.ConfirmedDay.quarter_excess.Goals as goal

pub returns-clause-value : goal.returns-clause-value
unfolding confirmed_open
returns-clause-value c = search rules
