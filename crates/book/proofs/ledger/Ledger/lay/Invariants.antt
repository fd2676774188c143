use Rattle.std.proofs.Common.{◌≡◌, ℕ, get_or}
use Rattle.book.specs.States.{state_of, size, day_quarters}
use Rattle.book.proofs.Laying.{laid_by}
use Rattle.book.proofs.ledger.Ledger.lay.Given as goal

abbrev pub invariant-loop-i : goal.invariant-loop-i
invariant-loop-i l =
    (k : ℕ) → get_or l.sheet k 0 ≡ laid_by (size (state_of l.self)) (day_quarters (state_of l.self)) l.own l.message.bytes.now l.i l.initial.sheet k
