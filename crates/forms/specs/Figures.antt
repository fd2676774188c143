-- What an opening form says, as values. Powers are in kW, fees in cents, rates in cents per MWh.
use Rattle.std.specs.Prelude.{ℕ, Bool, false, List, length, slice_index_or}
use Rattle.forms.specs.declared.group.Limits.{Limits}
use Rattle.forms.specs.declared.group.Group.{Group}
use Rattle.forms.specs.declared.group.TariffRow.{TariffRow}

-- the limit on the open position in each phase of a day
pub record LimitFigures : Type 0 where
  pub ahead : ℕ
  pub near : ℕ
  pub after : ℕ

pub record GroupFigures : Type 0 where
  pub metered : Bool
  pub prod_max : ℕ
  pub pump_depth : ℕ
  pub limits : LimitFigures

pub record RateFigures : Type 0 where
  pub fee : ℕ
  pub rate : ℕ

-- the terms under which a book is opened
pub record Terms : Type 0 where
  pub groups : List GroupFigures
  pub tariff : List RateFigures

-- how many groups there are
abbrev pub group_count : Terms → ℕ
group_count terms = length terms.groups

-- where there is no group
abbrev pub no_figures : GroupFigures
no_figures = record { metered = false; prod_max = 0; pump_depth = 0; limits = record { ahead = 0; near = 0; after = 0 } }

-- what is said of group a
abbrev pub figures_at : Terms → ℕ → GroupFigures
figures_at terms a = slice_index_or terms.groups a no_figures

-- the same figures as the code holds them
abbrev limits_of : Limits → LimitFigures
limits_of l = record { ahead = l.ahead; near = l.near; after = l.after }

abbrev pub figures_of : Group → GroupFigures
figures_of g = record { metered = g.metered; prod_max = g.prod_max; pump_depth = g.pump_depth; limits = limits_of g.limits }

abbrev pub rates_of : TariffRow → RateFigures
rates_of r = record { fee = r.fee; rate = r.rate }
