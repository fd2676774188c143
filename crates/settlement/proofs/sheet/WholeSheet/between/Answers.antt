use Rattle.std.proofs.Common.{rules}
use Rattle.settlement.specs.Positions.{confirmed}
use Rattle.settlement.proofs.sheet.WholeSheet.between.Goals as goal

pub returns-clause-confirmed : goal.returns-clause-confirmed
unfolding confirmed
returns-clause-confirmed c = search rules
