-- A day's costs, one quarter hour after another.
use Rattle.std.proofs.Common.{◌≡◌, ℕ, ◌+◌, List, ℤ, pos, ◌+ℤ◌}
use Rattle.forms.specs.Closings.{feed_in, long_price, short_price}
use Rattle.settlement.specs.Amounts.{day_cost}
use Rattle.settlement.proofs.Excesses.{day_cost_none, day_cost_more}
use Rattle.book.specs.Closes.{quarter_today}
use Rattle.book.specs.States.{State, size, day_quarters, statements}

-- what a group's imbalances of the first n quarter hours of the current day cost
unfoldable pub cost_today : State → List ℕ → List ℕ → ℕ → ℕ → ℤ
cost_today s sheet form a n =
    day_cost (statements s sheet) (size s) a (feed_in (day_quarters s) form a)
    (long_price (size s) (day_quarters s) form) (short_price (size s) (day_quarters s) form) n

module _ (s : State) (sheet form : List ℕ) (a : ℕ) where
  pub cost_none : cost_today s sheet form a 0 ≡ pos 0
  unfolding cost_today
  cost_none = day_cost_none _ _ _ _ _ _

  pub cost_more : (n : ℕ) → cost_today s sheet form a (n + 1) ≡ cost_today s sheet form a n +ℤ quarter_today s sheet form a n
  unfolding cost_today quarter_today
  cost_more n = day_cost_more _ _ _ _ _ _ n
