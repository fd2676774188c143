use Rattle.std.proofs.Common.{ap, arith}
use Rattle.book.specs.States.{state_of, size, today}
use Rattle.book.specs.declared.ledger.Ledger.{Ledger}
use Rattle.book.proofs.Days.{quarters_fit}
use Rattle.book.proofs.ledger.Ledger.position.Goals as goal

pub position-requires : goal.position-requires
position-requires c =
    let a = c.in_ok-a.ensures in
    let t = c.in_ok-t.ensures in
    (omega (arith, a.1.2, c.on_sheet.ensures.groups, ap (λ (l : Ledger). size (state_of l)) c.in_ok-day.ensures.1.0), omega (arith, t.1.2, quarters_fit (today (state_of c.args.self.now))))
