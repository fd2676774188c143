use Rattle.settlement.proofs.WorkedAmounts as amounts
use Rattle.stage.proofs.WorkedStages as stages
use Rattle.book.proofs.worked_figures.worked_figures.Goals as goal

pub returns : goal.returns
returns c = record { stages = stages.stage_figures; amounts = amounts.settlement_figures }
