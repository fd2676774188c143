use Rattle.std.proofs.Common.{◌≡◌, true, length, ap, ◌∙◌, arith}
use Rattle.book.specs.Sheets.{all_powers}
use Rattle.book.specs.States.{state_of}
use Rattle.book.proofs.Staying.{submit_keeps, laid_back}
use Rattle.book.proofs.book.Book.submit_on.Goals as goal

pub invariant_of-sheet : goal.invariant_of-sheet
invariant_of-sheet g c =
    let new = c.take.new.sheet in
    let long : c.sheet.inside.words.len ≡ length new = omega (arith, c.take.auto.sheet, c.deref_mut.ensures.len) in
    let before : all_powers c.deref_mut.result.now ≡ true = ap all_powers c.deref_mut.ensures.value ∙ c.sheet.invariant in
    laid_back _ new _ long (ap (λ o. all_powers o.2) c.take.ensures ∙ submit_keeps (state_of c.in_ok-open.open.now.ledger) c.deref_mut.result.now c.in_ok-message.message.message.bytes.now before)
