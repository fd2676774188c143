-- A day's quarter hours fit the words of a slot, and the flags are enough for all slots.
use Rattle.std.proofs.Common.{ℕ, ◌+◌, ◌*◌, ◌≤◌, arith, lit≤}
use Rattle.std.proofs.lemmas.Nat.{mul-le}
use Rattle.forms.specs.Calendar.{quarters}
use Rattle.forms.specs.Slots.{slots}
use Rattle.settlement.specs.Sheets.{words_per_slot}

pub quarters_fit : (day : ℕ) → quarters day ≤ words_per_slot
unfolding quarters
quarters_fit day = lit≤ tt

pub flags_enough : (g : ℕ) → g ≤ 16 → g * slots g ≤ 560
flags_enough g h = omega (arith, mul-le g (2 * g + 3) 16 35 h (omega arith))
