-- A slot has a number below the number of slots, and a number there names one slot.
use Rattle.std.proofs.Common.{◌≡◌, ℕ, ◌<◌, arith}
use Rattle.std.proofs.lemmas.Bool.Decides.{nat_tests}
use Rattle.forms.specs.Slots.{Slot, out_to, in_from, cons, prod, pump, slots, slot_number, slot_at, Within}

pub number_below : (g : ℕ) (s : Slot) → Within g s → slot_number g s < slots g
number_below g (out_to b) h = omega arith
number_below g (in_from b) h = omega arith
number_below g cons h = omega arith
number_below g prod h = omega arith
number_below g pump h = omega arith

-- the slot of a slot's number
pub slot_again : (g : ℕ) (s : Slot) → Within g s → slot_at g (slot_number g s) ≡ s
slot_again g (out_to b) h = grind (arith, nat_tests)
slot_again g (in_from b) h = grind (arith, nat_tests)
slot_again g cons h = grind (arith, nat_tests)
slot_again g prod h = grind (arith, nat_tests)
slot_again g pump h = grind (arith, nat_tests)

-- and the number of a number's slot
pub number_again : (g n : ℕ) → n < slots g → slot_number g (slot_at g n) ≡ n
number_again g n l = grind (arith, nat_tests)
