use Rattle.std.proofs.Common.{rules}
use Rattle.settlement.specs.Sheets.{on_sheet}
use Rattle.settlement.proofs.sheet.WholeSheet.value.Goals as goal

pub returns-in_default : goal.returns-in_default
unfolding on_sheet
returns-in_default c = search rules

pub returns : goal.returns
unfolding on_sheet
returns c = search rules
