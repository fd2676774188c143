-- Which check values lie beyond a limit.
use Rattle.std.specs.Prelude.{◌≡◌, ◌^◌, ◌≤◌, Bool, ◌||◌, ℤ, int_lt, unsigned_abs}
use Rattle.forms.specs.Figures.{GroupFigures}
use Rattle.settlement.specs.declared.band.Band.{Band}
use Rattle.settlement.specs.declared.phase.Phase.{Phase}
use Rattle.settlement.specs.Positions.{open_position, is_beyond}

abbrev pub is_outside : Band → ℤ → Bool
is_outside band check = int_lt band.high check || int_lt check band.low

-- outside of the band of a group in a phase are exactly the check values whose open position is beyond its limit
abbrev pub IsBandOf : GroupFigures → Phase → Band → Type 0
IsBandOf f p band = (check : ℤ) → unsigned_abs check ≤ 2 ^ 30 → is_outside band check ≡ is_beyond f p (open_position f check)
