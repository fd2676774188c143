-- Worked figures of positions, trades, penalties and balance amounts.
use Rattle.std.specs.Prelude.{◌≡◌, ℕ, ◌*◌, Bool, true, false, cond, ◌&&◌, replicate, ℤ, pos, neg_ℤ, ◌==◌, slice_set}
use Rattle.forms.specs.Slots.{out_to, in_from, cons, prod, pump, slots}
use Rattle.forms.specs.Figures.{GroupFigures}
use Rattle.settlement.specs.declared.phase.Phase.TheVariants.{After}
use Rattle.settlement.specs.Sheets.{Statements, sheet_size, slot_place, on_sheet}
use Rattle.settlement.specs.Positions.{confirmed, open_position, excess}
use Rattle.settlement.specs.Amounts.{penalty, balance_amount}

-- production maximum 1,000, pump depth 500, limit 100
abbrev pub plant : GroupFigures
plant = record { metered = true; prod_max = 1000; pump_depth = 500; limits = record { ahead = 300; near = 200; after = 100 } }

abbrev pub PositionFigures : Type 0
PositionFigures =
    (open_position plant (neg_ℤ (pos 1000)) ≡ pos 0)
    × (open_position plant (pos 500) ≡ pos 0)
    × (excess plant After (open_position plant (neg_ℤ (pos 1100))) ≡ 0)
    × (excess plant After (open_position plant (neg_ℤ (pos 1101))) ≡ 1)
    × (excess plant After (open_position plant (pos 601)) ≡ 1)

-- group 0 states trades out to group 1, and group 1 trades in from group 0; nothing else is sent
abbrev pub two_sides : ℕ → ℕ → Statements
two_sides out taken a (out_to b) t = cond (a == 0 && b == 1) out 0
two_sides out taken a (in_from b) t = cond (a == 1 && b == 0) taken 0
two_sides out taken a cons t = 0
two_sides out taken a prod t = 0
two_sides out taken a pump t = 0

-- in a sheet of two groups with 200 in each word, group 0 has sent its trades out to group 1; group 1 may have sent those in from group 0
abbrev pub full_sheet : Bool → Statements
full_sheet answered =
    on_sheet 2 (slice_set (slice_set (replicate (2 * slots 2) false) (slot_place 2 0 (out_to 1)) true) (slot_place 2 1 (in_from 0)) answered) (replicate (sheet_size 2) 200)

-- out 200 against in 150, and against a stated 0; against in 200, and against the same words in a slot that was not sent
abbrev pub TradeFigures : Type 0
TradeFigures =
    (confirmed (two_sides 200 150) 0 0 1 ≡ 150)
    × (confirmed (two_sides 200 0) 0 0 1 ≡ 0)
    × (confirmed (full_sheet true) 0 0 1 ≡ 200)
    × (confirmed (full_sheet false) 0 0 1 ≡ 0)

abbrev pub PenaltyFigures : Type 0
PenaltyFigures = (penalty (record { fee = 50000; rate = 8000 }) 14400 ≡ 78800) × (penalty (record { fee = 0; rate = 3999 }) 1 ≡ 0)

-- the balance amount of one quarter hour without trades: the feed-in is the imbalance
abbrev pub amount : ℤ → ℤ → ℤ → ℤ
amount imbalance long short = balance_amount (two_sides 0 0) 2 0 (λ _. imbalance) (λ _. long) (λ _. short) 1

-- short at 12,345; long at 3; long at a price below zero
abbrev pub BalanceFigures : Type 0
BalanceFigures =
    ((long : ℤ) → amount (neg_ℤ (pos 4000)) long (pos 12345) ≡ pos 12345)
    × ((short : ℤ) → amount (pos 2000) (pos 3) short ≡ neg_ℤ (pos 2))
    × ((short : ℤ) → amount (pos 4000) (neg_ℤ (pos 500)) short ≡ pos 500)

abbrev pub SettlementFigures : Type 0
SettlementFigures = PositionFigures × TradeFigures × PenaltyFigures × BalanceFigures
