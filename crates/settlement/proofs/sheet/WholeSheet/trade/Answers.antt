use Rattle.std.proofs.Common.{rules}
use Rattle.settlement.specs.Positions.{confirmed}
use Rattle.settlement.proofs.sheet.WholeSheet.trade.Goals as goal

pub returns : goal.returns
unfolding confirmed
returns c = search rules
