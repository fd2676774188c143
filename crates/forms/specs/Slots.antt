-- What a series is about. Groups count from 0 here; in the bytes of a head they count from 1.
use Rattle.std.specs.Prelude.{ℕ, ◌+◌, ◌-◌, ◌*◌, ◌<◌, cond, ◌==◌, nat_lt}
use Rattle.forms.specs.declared.kind.Kind.TheVariants.{Out, In, Cons, Prod, Pump}
use Rattle.forms.specs.declared.slot.Slot as src
use Rattle.forms.specs.declared.slot.Slot.TheVariants as src-slot
use Rattle.forms.specs.Kinds.{number_of}

-- trades out to a group, trades in from a group, and the three forecasts
pub data Slot : Type 0 where
  out_to : ℕ → Slot
  in_from : ℕ → Slot
  cons : Slot
  prod : Slot
  pump : Slot

-- the same as the code holds it
abbrev pub slot_of : src.Slot → Slot
slot_of (src-slot.OutTo b) = out_to b
slot_of (src-slot.InFrom b) = in_from b
slot_of src-slot.Cons = cons
slot_of src-slot.Prod = prod
slot_of src-slot.Pump = pump

-- the kind and the counter by which a head names it
abbrev pub kind_of : Slot → ℕ
kind_of (out_to b) = number_of Out
kind_of (in_from b) = number_of In
kind_of cons = number_of Cons
kind_of prod = number_of Prod
kind_of pump = number_of Pump

abbrev pub counter_of : Slot → ℕ
counter_of (out_to b) = b + 1
counter_of (in_from b) = b + 1
counter_of cons = 0
counter_of prod = 0
counter_of pump = 0

-- the slots of one of g groups: out to each group, in from each group, CONS, PROD, PUMP
abbrev pub slots : ℕ → ℕ
slots g = 2 * g + 3

-- the place of a slot among its group's
abbrev pub slot_number : ℕ → Slot → ℕ
slot_number g (out_to b) = b
slot_number g (in_from b) = g + b
slot_number g cons = 2 * g
slot_number g prod = 2 * g + 1
slot_number g pump = 2 * g + 2

-- the slot of a number, below 2g + 3, among a group's slots
abbrev pub slot_at : ℕ → ℕ → Slot
slot_at g n =
    cond (nat_lt n g) (out_to n)
    (cond (nat_lt n (2 * g)) (in_from (n - g)) (cond (n == 2 * g) cons (cond (n == 2 * g + 1) prod pump)))

-- a slot that is there: the group it names is one of the g
abbrev pub Within : ℕ → Slot → Type 0
Within g (out_to b) = b < g
Within g (in_from b) = b < g
Within g cons = Unit {0}
Within g prod = Unit {0}
Within g pump = Unit {0}
