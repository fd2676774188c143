use Rattle.std.proofs.Common.{ap, ◌∙◌, arith}
use Rattle.forms.specs.Calendar.{quarters}
use Rattle.book.specs.States.{state_of, today}
use Rattle.book.proofs.Days.{quarters_fit}
use Rattle.book.proofs.ledger.Ledger.quarters.Goals as goal

pub returns : goal.returns
returns c =
    let e = c.quarters_of.ensures ∙ ap quarters c.day.ensures in
    record { value = e; few = omega (arith, e, quarters_fit (today (state_of c.args.self.now))) }
