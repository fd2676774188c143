-- The closing form of a day with g groups and q quarter hours: a byte g, a byte q, then g + 2 series of q signed numbers,
-- namely the feed-ins of each group, the long prices and the short prices. Series and quarter hours count from 0 here.
use Rattle.std.specs.Prelude.{◌≡◌, ℕ, ◌+◌, ◌*◌, cond, not, ◌&&◌, List, length, ℤ, ◌==◌, nat_lt, unsigned_abs}
use Rattle.std.specs.Result.{result_and}
use Rattle.forms.specs.declared.fault.Fault.TheVariants.{ShortForm, WrongSize, WrongLength, OutOfRange}
use Rattle.forms.specs.Bounds.{power_bound, price_bound}
use Rattle.forms.specs.Bytes.{byte, value_bytes, signed32}
use Rattle.forms.specs.Checks.{Verdict, refuse_if, each_of}

-- the bytes of the header
abbrev pub closing_header : ℕ
closing_header = 2

-- the series of feed-ins and the two of prices
abbrev pub closing_series : ℕ → ℕ
closing_series g = g + 2

abbrev pub closing_length : ℕ → ℕ → ℕ
closing_length g q = closing_header + value_bytes * (q * closing_series g)

-- the header is there, its sizes are those of the book and the day, and the length is what they give
abbrev pub closing_sizes : ℕ → ℕ → List ℕ → Verdict
closing_sizes g q s =
    result_and (refuse_if (nat_lt (length s) closing_header) ShortForm)
    (result_and (refuse_if (not (byte s 0 == g && byte s 1 == q)) WrongSize)
    (refuse_if (not (length s == closing_length g q)) WrongLength))

-- what a form with lawful sizes has
pub record ClosingFormed (g q : ℕ) (s : List ℕ) : Type 0 where
  pub long : length s ≡ closing_length g q

-- the number of series i at quarter hour t
unfoldable pub closing_value : ℕ → List ℕ → ℕ → ℕ → ℤ
closing_value q s i t = signed32 s (closing_header + value_bytes * (i * q + t))

-- what group a fed in
abbrev pub feed_in : ℕ → List ℕ → ℕ → ℕ → ℤ
feed_in q s a t = closing_value q s a t

abbrev pub long_price : ℕ → ℕ → List ℕ → ℕ → ℤ
long_price g q s t = closing_value q s g t

abbrev pub short_price : ℕ → ℕ → List ℕ → ℕ → ℤ
short_price g q s t = closing_value q s (g + 1) t

-- how far from zero the numbers of series i may be
abbrev pub value_bound : ℕ → ℕ → ℕ
value_bound g i = cond (nat_lt i g) power_bound price_bound

-- in a fault series and quarter hours count from 1
abbrev pub value_check : ℕ → ℕ → List ℕ → ℕ → ℕ → Verdict
value_check g q s i t = refuse_if (nat_lt (value_bound g i) (unsigned_abs (closing_value q s i t))) (OutOfRange (i + 1) (t + 1))

abbrev pub closing_series_check : ℕ → ℕ → List ℕ → ℕ → Verdict
closing_series_check g q s i = each_of (value_check g q s i) q

-- series by series, and in each quarter hour by quarter hour
abbrev pub closing_check : ℕ → ℕ → List ℕ → Verdict
closing_check g q s = each_of (closing_series_check g q s) (closing_series g)
