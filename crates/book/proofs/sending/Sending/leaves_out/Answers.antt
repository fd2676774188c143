use Rattle.std.proofs.Common.{◌∙◌, arith, rules, tests}
use Rattle.std.proofs.lemmas.Iterator.{YieldsList-from_range}
use Rattle.std.proofs.lemmas.Iterator.Search.{any_from_yields_List}
use Rattle.forms.specs.Slots.{slots}
use Rattle.book.specs.Messages.{left_out}
use Rattle.book.specs.States.{State, state_of, size}
use Rattle.book.proofs.Counting.{any_first}
use Rattle.book.proofs.sending.Sending.leaves_out.Goals as goal

pub returns : goal.returns
returns c =
    let x = c.args.self.now in
    let s : State = state_of x.day.ledger.now in
    let test = left_out s x.own x.series.message.bytes.now in
    any_from_yields_List test _ _ _ c.any.ensures.ran (YieldsList-from_range 0 (slots (size s)) (slots (size s)) (search rules) (omega arith)) (λ k b q l. search (rules, tests))
    ∙ any_first test (slots (size s))
