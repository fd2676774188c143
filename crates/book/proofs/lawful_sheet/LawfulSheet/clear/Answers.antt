use Rattle.std.proofs.Common.{◌≡◌, length, ap, ◌∙◌, arith}
use Rattle.book.specs.Sheets.{all_powers}
use Rattle.book.proofs.Staying.{zeros_low, laid_back}
use Rattle.book.proofs.lawful_sheet.LawfulSheet.clear.Goals as goal

pub invariant_of-self : goal.invariant_of-self
invariant_of-self c =
    let new = c.clear.new.sheet in
    let long : c.self.inside.words.len ≡ length new = omega (arith, c.clear.auto.sheet, c.deref_mut.ensures.len) in
    laid_back _ new _ long (ap all_powers c.clear.ensures ∙ zeros_low (length c.deref_mut.result.now))
