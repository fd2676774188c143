use Rattle.std.proofs.Common.{◌≡◌, ℕ, ◌<◌, false, get_or}
use Rattle.message.specs.Places.{sent_in}
use Rattle.forms.specs.Slots.{slot_at}
use Rattle.book.specs.States.{state_of, size}
use Rattle.book.proofs.sending.Sending.flags_after.Given as goal

abbrev pub invariant-loop-number : goal.invariant-loop-number
invariant-loop-number l = (n : ℕ) → n < l.number → get_or l.flag-items n false ≡ sent_in l.self.series.message.bytes.now (slot_at (size (state_of l.self.day.ledger.now)) n)
