-- What holds of every account of trades, positions and amounts.
use Rattle.std.specs.Prelude.{◌≡◌, ℕ, ◌<◌, ◌≤◌, true, List, ℤ, pos, ◌-ℤ◌, ◌*ℤ◌, unsigned_abs}
use Rattle.forms.specs.Slots.{out_to, in_from}
use Rattle.forms.specs.Figures.{GroupFigures, RateFigures}
use Rattle.forms.specs.Lawful.{NeverFalls}
use Rattle.settlement.specs.declared.phase.Phase.{Phase}
use Rattle.settlement.specs.Sheets.{Statements}
use Rattle.settlement.specs.Sums.{sumℤ}
use Rattle.settlement.specs.Positions.{confirmed, net_purchases, confirmed_open, excess, no_farther, day_excess}
use Rattle.settlement.specs.Amounts.{row_for, penalty, to_cents}

-- the confirmed net purchases of all groups add to zero
abbrev pub Balanced : Type 0
Balanced = (S : Statements) (g t : ℕ) → sumℤ (net_purchases S g t) g ≡ pos 0

-- no confirmed trade is above what either side has stated
abbrev pub BelowBoth : Type 0
BelowBoth = (S : Statements) (t a b : ℕ) → (confirmed S t a b ≤ S a (out_to b) t) × (confirmed S t a b ≤ S b (in_from a) t)

-- an open position that is at least as far out has no lower excess
abbrev pub FartherCostsNoLess : Type 0
FartherCostsNoLess = (f : GroupFigures) (phase : Phase) (o p : ℤ) → no_farther o p ≡ true → excess f phase o ≤ excess f phase p

-- two days of a group, the second at least as far out in each of the q quarter hours
abbrev pub FartherOut : GroupFigures → ℕ → ℕ → ℕ → Statements → Statements → Type 0
FartherOut f g a q S S' = (t : ℕ) → t < q → no_farther (confirmed_open S f g t a) (confirmed_open S' f g t a) ≡ true

-- a day that is at least as far out has no lower sum of excesses
abbrev pub FartherDayNoLess : Type 0
FartherDayNoLess = (S S' : Statements) (f : GroupFigures) (g a q : ℕ) → FartherOut f g a q S S' → day_excess S f g a q ≤ day_excess S' f g a q

-- under a tariff that never falls, a higher stage and a higher sum of excesses never cost less
abbrev pub PenaltyNoLess : Type 0
PenaltyNoLess = (tariff : List RateFigures) (s s' E E' : ℕ) → NeverFalls tariff → s ≤ s' → E ≤ E'
    → penalty (row_for tariff s) E ≤ penalty (row_for tariff s') E'

-- an amount in cents is within half a cent of the sum's 4000th
abbrev pub Nearest : Type 0
Nearest = (z : ℤ) → unsigned_abs (z -ℤ pos 4000 *ℤ to_cents z) ≤ 2000

-- and where it is half a cent off, it is the one farther from zero
abbrev pub Away : Type 0
Away = (z : ℤ) → unsigned_abs (z -ℤ pos 4000 *ℤ to_cents z) ≡ 2000 → unsigned_abs z ≤ unsigned_abs (pos 4000 *ℤ to_cents z)
