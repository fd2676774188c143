-- What the outcome of a message means.
use Rattle.std.specs.Prelude.{◌≡◌, ℕ, ◌-◌, ◌*◌, ◌<◌, ◌≤◌, cond, List, length, Ok, ◌==◌}
use Rattle.forms.specs.Slots.{Slot, Within, slots}
use Rattle.message.specs.Form.{said}
use Rattle.message.specs.Places.{stated}
use Rattle.book.specs.Messages.{submit_check, submitted}
use Rattle.book.specs.States.{State, size, kept, day_quarters, statements}

-- Once a message is accepted, the sender has stated what the message states and nothing else, and every other group what it had stated before.
abbrev pub MessageStands : Type 0
MessageStands =
    (s : State) (sheet form : List ℕ) (a : ℕ) (slot : Slot) (t : ℕ)
    → size s * slots (size s) ≤ length s.sent → submit_check s sheet form ≡ Ok tt → a < size s → Within (size s) slot → t < day_quarters s
    → statements (submitted s sheet form).1 (submitted s sheet form).2 a slot t
    ≡ cond (a == (said form).group - 1) (stated (day_quarters s) form slot t) (statements s sheet a slot t)

-- A message, accepted or not, moves no mark, no penalty and no total.
abbrev pub MessageFixesNothing : Type 0
MessageFixesNothing =
    (s : State) (sheet form : List ℕ) (a : ℕ)
    → let before = kept s a in
    let after = kept (submitted s sheet form).1 a in
    (after.marks ≡ before.marks) × (after.due ≡ before.due) × (after.penalties ≡ before.penalties) × (after.balance ≡ before.balance)
