use Rattle.std.proofs.Common.{◌≡◌, ◌*◌, ◌≤◌, nat_abs}
use Rattle.forms.specs.Bounds.{price_bound}
use Rattle.settlement.specs.Amounts.{most_imbalance}
use Rattle.book.proofs.Costs.{cost_today}
use Rattle.book.specs.States.{state_of}
use Rattle.book.proofs.settled_day.SettledDay.balance.Given as goal

abbrev pub invariant-loop-t : goal.invariant-loop-t
invariant-loop-t l =
    (l.cost ≡ cost_today (state_of l.self.day.ledger.now) l.self.day.sheet.now l.self.form.bytes.now l.a l.t)
    × (nat_abs l.cost ≤ most_imbalance * price_bound * l.t)
