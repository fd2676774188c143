-- Marks, penalties and balance amounts. Money is whole cents; prices and rates are cents per MWh, a quarter hour's kW is 1 / 4000 MWh.
use Rattle.std.specs.Prelude.{ℕ, suc, ◌+◌, ◌-◌, ◌*◌, ◌/◌, min, Bool, cond, List, length, ℤ, pos, negsuc, ◌+ℤ◌, ◌*ℤ◌, neg_ℤ, int_lt, nat_lt, slice_index_or}
use Rattle.forms.specs.Closings.{feed_in, long_price, short_price}
use Rattle.forms.specs.Figures.{RateFigures}
use Rattle.settlement.specs.Sheets.{Statements}
use Rattle.settlement.specs.Positions.{net_purchases}
use Rattle.settlement.specs.Sums.{sumℤ}

-- no imbalance is farther from zero: 16 words of 32 bits and a feed-in, rounded up
abbrev pub most_imbalance : ℕ
most_imbalance = 68730000000

-- a day is marked where the sum of its excesses is above 0
abbrev pub is_marked : ℕ → Bool
is_marked E = nat_lt 0 E

-- where there is no row
abbrev pub no_rates : RateFigures
no_rates = record { fee = 0; rate = 0 }

-- the tariff row of a stage: rows count from 0, and a higher stage uses the last row
abbrev pub row_for : List RateFigures → ℕ → RateFigures
row_for tariff stage = slice_index_or tariff (min stage (length tariff - 1)) no_rates

-- a marked day costs the fee and the rate on the energy, rounded down; an unmarked day costs nothing
abbrev pub penalty : RateFigures → ℕ → ℕ
penalty row E = cond (is_marked E) (row.fee + row.rate * E / 4000) 0

-- the price of an imbalance: short below zero, long above
abbrev pub price_for : ℤ → ℤ → ℤ → ℤ
price_for imbalance long short = cond (int_lt imbalance (pos 0)) short long

-- a 4000th to the nearest whole, halves away from zero
abbrev pub to_cents : ℤ → ℤ
to_cents (pos n) = pos ((n + 2000) / 4000)
to_cents (negsuc n) = neg_ℤ (pos ((suc n + 2000) / 4000))

-- what an imbalance costs at its price, in 4000ths of a cent; below zero it is a credit
abbrev pub imbalance_cost : ℤ → ℤ → ℤ → ℤ
imbalance_cost imbalance long short = neg_ℤ (imbalance *ℤ price_for imbalance long short)

-- what group a's imbalance of quarter hour t costs
abbrev pub quarter_cost : Statements → ℕ → ℕ → (ℕ → ℤ) → (ℕ → ℤ) → (ℕ → ℤ) → ℕ → ℤ
quarter_cost S g a feed long short t = imbalance_cost (net_purchases S g t a +ℤ feed t) (long t) (short t)

-- group a's imbalance costs of the first q quarter hours, by its feed-ins and the prices
unfoldable pub day_cost : Statements → ℕ → ℕ → (ℕ → ℤ) → (ℕ → ℤ) → (ℕ → ℤ) → ℕ → ℤ
day_cost S g a feed long short q = sumℤ (quarter_cost S g a feed long short) q

-- the day's balance amount: added first, divided once
abbrev pub balance_amount : Statements → ℕ → ℕ → (ℕ → ℤ) → (ℕ → ℤ) → (ℕ → ℤ) → ℕ → ℤ
balance_amount S g a feed long short q = to_cents (day_cost S g a feed long short q)

-- the same by a closing form
abbrev pub balance_by : Statements → ℕ → List ℕ → ℕ → ℕ → ℤ
balance_by S g form a q = balance_amount S g a (feed_in q form a) (long_price g q form) (short_price g q form) q
