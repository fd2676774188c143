use Rattle.stage.proofs.MarkedDays.{marked_day_counts}
use Rattle.stage.proofs.theorems.marked_days.Goals as goal

pub returns : goal.returns
returns c = marked_day_counts
