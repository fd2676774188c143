-- The worked figures of the two rules, by computation.
use Rattle.std.proofs.Common.{refl}
use Rattle.stage.specs.Rules.{days_where, some_day, in_window, rolling, unmarked_after, gap_after, in_run, run_on, run}
use Rattle.stage.specs.WorkedStages.{StageFigures}

pub stage_figures : StageFigures
unfolding days_where some_day in_window rolling unmarked_after gap_after in_run run_on run
stage_figures = (refl, refl, refl, refl)
