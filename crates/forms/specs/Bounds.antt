-- What the sizes and the figures of a form may come to.
use Rattle.std.specs.Prelude.{ℕ}

-- the groups of a book
abbrev pub least_groups : ℕ
least_groups = 2

abbrev pub most_groups : ℕ
most_groups = 16

-- the rows of a tariff
abbrev pub least_rows : ℕ
least_rows = 1

abbrev pub most_rows : ℕ
most_rows = 10

-- a power, in kW
abbrev pub power_bound : ℕ
power_bound = 10000000

-- a fee of a tariff row, in cents
abbrev pub fee_bound : ℕ
fee_bound = 100000000

-- a rate of a tariff row, in cents per MWh
abbrev pub rate_bound : ℕ
rate_bound = 1000000

-- a price, above zero or below it, in cents per MWh
abbrev pub price_bound : ℕ
price_bound = 1000000
