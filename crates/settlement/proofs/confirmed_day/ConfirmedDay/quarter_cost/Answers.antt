use Rattle.std.proofs.Common.{rules}
use Rattle.settlement.proofs.confirmed_day.ConfirmedDay.quarter_cost.Goals as goal

pub returns-clause-value : goal.returns-clause-value
returns-clause-value c = search rules
