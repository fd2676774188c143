use Rattle.settlement.proofs.Laws as laws
use Rattle.settlement.proofs.theorems.laws_stand.Goals as goal

pub returns-clause-balanced : goal.returns-clause-balanced
returns-clause-balanced c = laws.balanced

pub returns-clause-below_both : goal.returns-clause-below_both
returns-clause-below_both c = laws.below_both

pub returns-clause-farther_day : goal.returns-clause-farther_day
returns-clause-farther_day c = laws.farther_day_no_less

pub returns-clause-penalty : goal.returns-clause-penalty
returns-clause-penalty c = laws.penalty_no_less
