-- The worked figures, by computation.
use Rattle.std.proofs.Common.{refl}
use Rattle.settlement.specs.Sheets.{on_sheet}
use Rattle.settlement.specs.Sums.{sumℤ}
use Rattle.settlement.specs.Positions.{confirmed, confirmed_with}
use Rattle.settlement.specs.Amounts.{day_cost}
use Rattle.settlement.specs.WorkedAmounts.{SettlementFigures}

pub settlement_figures : SettlementFigures
unfolding sumℤ confirmed confirmed_with day_cost on_sheet
settlement_figures = (
  (refl, refl, refl, refl, refl),
  (refl, refl, refl, refl),
  (refl, refl),
  (λ long. refl, λ short. refl, λ short. refl),
)
