-- What is known of a closing form whose checks have passed.
use Rattle.std.proofs.Common.{◌≡◌, ℕ, ◌+◌, ◌<◌, ◌≤◌, List, nat_abs, Ok, arith}
use Rattle.std.specs.Result.{result_and}
use Rattle.std.proofs.lemmas.Bool.{ltb-false}
use Rattle.std.proofs.lemmas.Bool.Decides.{nat_tests}
use Rattle.forms.specs.Bounds.{power_bound, price_bound}
use Rattle.forms.specs.Checks.{each_of}
use Rattle.forms.specs.Closings.{closing_series, closing_value, feed_in, long_price, short_price, value_bound, value_check, closing_series_check, closing_check}
use Rattle.forms.proofs.Firsts.{each_passed, each_two, unrefused}

-- the feed-ins of all groups, then the long prices, then the short ones
pub closing_parts : (g q : ℕ) (s : List ℕ)
    → closing_check g q s ≡ result_and (each_of (closing_series_check g q s) g) (result_and (closing_series_check g q s g) (closing_series_check g q s (g + 1)))
closing_parts g q s = each_two (closing_series_check g q s) g

module _ (g q : ℕ) (s : List ℕ) (passed : closing_check g q s ≡ Ok tt) where
  pub value_within : (i t : ℕ) → i < closing_series g → t < q → nat_abs (closing_value q s i t) ≤ value_bound g i
  value_within i t h l =
      let series = each_passed (closing_series_check g q s) (closing_series g) i passed h in
      ltb-false _ _ (unrefused _ _ (each_passed (value_check g q s i) q t series l))

  pub feed_in_within : (a t : ℕ) → a < g → t < q → nat_abs (feed_in q s a t) ≤ power_bound
  feed_in_within a t h l = let w = value_within a t (omega arith) l in grind (arith, nat_tests)

  pub long_price_within : (t : ℕ) → t < q → nat_abs (long_price g q s t) ≤ price_bound
  long_price_within t l = let w = value_within g t (omega arith) l in grind (arith, nat_tests)

  pub short_price_within : (t : ℕ) → t < q → nat_abs (short_price g q s t) ≤ price_bound
  short_price_within t l = let w = value_within (g + 1) t (omega arith) l in grind (arith, nat_tests)
