use Rattle.std.proofs.Common.{◌∙◌, ap}
use Rattle.book.specs.Sheets.{all_powers}
use Rattle.book.proofs.Staying.{zeros_low}
use Rattle.book.proofs.lawful_sheet.LawfulSheet.empty.Goals as goal

pub invariant_of-result : goal.invariant_of-result
invariant_of-result c = ap all_powers c.new.ensures.items ∙ zeros_low 0
