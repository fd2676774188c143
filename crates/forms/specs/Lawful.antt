-- The terms of a book as values: which are lawful, and what those of a lawful form keep.
use Rattle.std.specs.Prelude.{◌≡◌, ℕ, ◌<◌, ◌≤◌, Bool, true, ◌&&◌, ◌||◌, List, map, length, ◌==◌, nat_le, slice_index_or}
use Rattle.std.specs.Int.{is_in_range}
use Rattle.forms.specs.declared.group.Group.{Group}
use Rattle.forms.specs.declared.group.TariffRow.{TariffRow}
use Rattle.forms.specs.Bounds.{least_groups, most_groups, least_rows, most_rows, power_bound, fee_bound, rate_bound}
use Rattle.forms.specs.Figures.{GroupFigures, RateFigures, Terms, group_count, figures_of, rates_of}

-- the terms as the code holds them
abbrev pub terms_from : List Group → List TariffRow → Terms
terms_from groups tariff = record { groups = map figures_of groups; tariff = map rates_of tariff }

-- how many groups and how many tariff rows there may be
abbrev pub groups_may_be : ℕ → Bool
groups_may_be g = is_in_range least_groups most_groups g

abbrev pub rows_may_be : ℕ → Bool
rows_may_be k = is_in_range least_rows most_rows k

-- no power is above the bound
abbrev pub powers_within : GroupFigures → Bool
powers_within f =
    nat_le f.prod_max power_bound && (nat_le f.pump_depth power_bound
    && (nat_le f.limits.ahead power_bound && (nat_le f.limits.near power_bound && nat_le f.limits.after power_bound)))

-- without metering points there is neither production nor a pump
abbrev pub plants_metered : GroupFigures → Bool
plants_metered f = f.metered || (f.prod_max == 0 && f.pump_depth == 0)

-- neither figure is above its bound
abbrev pub rates_within : RateFigures → Bool
rates_within f = nat_le f.fee fee_bound && nat_le f.rate rate_bound

-- neither figure falls from the first row to the second
abbrev pub no_fall : RateFigures → RateFigures → Bool
no_fall before f = nat_le before.fee f.fee && nat_le before.rate f.rate

-- no row of a tariff falls behind an earlier one
abbrev pub NeverFalls : List RateFigures → Type 0
NeverFalls tariff = (i j : ℕ) (d : RateFigures) → i ≤ j → j < length tariff → no_fall (slice_index_or tariff i d) (slice_index_or tariff j d) ≡ true

-- what the terms of a lawful form keep: sizes and figures within their bounds, and a tariff that never falls
pub record LawfulTerms (t : Terms) : Type 0 where
  pub groups_least : least_groups ≤ group_count t
  pub groups_most : group_count t ≤ most_groups
  pub rows_least : least_rows ≤ length t.tariff
  pub rows_most : length t.tariff ≤ most_rows
  pub powers : (a : ℕ) (d : GroupFigures) → a < group_count t → powers_within (slice_index_or t.groups a d) ≡ true
  pub plants : (a : ℕ) (d : GroupFigures) → a < group_count t → plants_metered (slice_index_or t.groups a d) ≡ true
  pub rates : (r : ℕ) (d : RateFigures) → r < length t.tariff → rates_within (slice_index_or t.tariff r d) ≡ true
  pub rises : NeverFalls t.tariff
