-- What the groups have stated in a whole sheet.
use Rattle.settlement.specs.declared.sheet.WholeSheet.{WholeSheet}
use Rattle.settlement.specs.Sheets.{Statements, on_sheet}

abbrev pub sent_on : WholeSheet → Statements
sent_on s = on_sheet s.groups s.sent.now s.words.now
