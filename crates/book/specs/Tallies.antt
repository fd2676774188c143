-- Numbers that pass a test, counted.
use Rattle.std.specs.Prelude.{ℕ, ◌+◌, Bool, cond, Option}
use Rattle.std.specs.Option.{option_map}
use Rattle.message.specs.Places.{first_of}
use Rattle.settlement.specs.declared.band.Band.{Band}
use Rattle.settlement.specs.declared.day.DayTrades.{DayTrades}
use Rattle.settlement.specs.Bands.{is_outside}
use Rattle.settlement.specs.Days.{day_net}
use Rattle.settlement.specs.Sums.{sumℕ}

-- how many of the numbers below n pass a test
unfoldable pub count_where : (ℕ → Bool) → ℕ → ℕ
count_where p n = sumℕ (λ k. cond (p k) 1 0) n

-- how many do, and the first of them, told from 1
abbrev pub tally : (ℕ → Bool) → ℕ → ℕ × Option ℕ
tally p n = (count_where p n, option_map (λ k. k + 1) (first_of p n))

-- in quarter hour t the check value of a day's sums is outside of a band
abbrev pub is_outside_at : Band → DayTrades → ℕ → Bool
is_outside_at band day t = is_outside band (day_net day.taken day.given t)
