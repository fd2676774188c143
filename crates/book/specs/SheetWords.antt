-- The sheet that a call reads, by its words.
use Rattle.std.specs.Prelude.{ℕ, List}
use Rattle.book.specs.declared.sheet_words.SheetWords.{SheetWords}
use Rattle.book.specs.declared.sheet_words.SheetWords.TheVariants.{Lent, Lawful}

abbrev pub words_in : SheetWords → List ℕ
words_in (Lent words) = words.now
words_in (Lawful sheet) = sheet.now
