-- A series as read: a part of the message, either a trade or a forecast, with its place from 1.
use Rattle.std.specs.Prelude.{◌≡◌, ℕ, ◌+◌, ◌-◌, ◌≤◌, Bool, cond, List, Some, None, Option, ◌==◌}
use Rattle.std.specs.Int.{is_in_range}
use Rattle.forms.specs.declared.kind.Kind.TheVariants as kinds
use Rattle.forms.specs.Kinds.{number_of}
use Rattle.forms.specs.Slots.{Slot, out_to, in_from, cons, prod, pump}
use Rattle.message.specs.declared.series.Direction.{Direction}
use Rattle.message.specs.declared.series.Direction.TheVariants.{Out, In}
use Rattle.message.specs.declared.series.ForecastKind.{ForecastKind}
use Rattle.message.specs.declared.series.ForecastKind.TheVariants.{Cons, Prod, Pump}
use Rattle.message.specs.declared.series.Series as src
use Rattle.message.specs.declared.series.Series.TheVariants as src-series
use Rattle.message.specs.Form.{kind_at, counter_at, values_at}

-- the kinds of trades, and those of forecasts
abbrev pub is_trade : ℕ → Bool
is_trade kind = is_in_range (number_of kinds.Out) (number_of kinds.In) kind

abbrev pub is_forecast : ℕ → Bool
is_forecast kind = is_in_range (number_of kinds.Cons) (number_of kinds.Pump) kind

-- what a series says: a trade has a place, a kind, a counter and the bytes of its values; a forecast has no counter
pub data SeriesRead : Type 0 where
  trade : ℕ → ℕ → ℕ → List ℕ → SeriesRead
  forecast : ℕ → ℕ → List ℕ → SeriesRead

abbrev pub bytes_of : SeriesRead → List ℕ
bytes_of (trade place kind counter bytes) = bytes
bytes_of (forecast place kind bytes) = bytes

-- the counter of a trade names a group, from 1
abbrev pub Names : SeriesRead → Type 0
Names (trade place kind counter bytes) = 1 ≤ counter
Names (forecast place kind bytes) = Unit {0}

-- what a head of this kind, one of the five, and counter is about
abbrev pub slot_under : ℕ → ℕ → Slot
slot_under kind counter =
    cond (kind == number_of kinds.Out) (out_to (counter - 1))
    (cond (kind == number_of kinds.In) (in_from (counter - 1))
    (cond (kind == number_of kinds.Cons) cons (cond (kind == number_of kinds.Prod) prod pump)))

-- what a series as read is about
abbrev pub slot_read : SeriesRead → Slot
slot_read (trade place kind counter bytes) = slot_under kind counter
slot_read (forecast place kind bytes) = slot_under kind 0

-- series i of a message, or none where its kind is no kind
abbrev pub series_of : ℕ → List ℕ → ℕ → Option SeriesRead
series_of q s i =
    cond (is_trade (kind_at s i)) (Some (trade (i + 1) (kind_at s i) (counter_at s i) (values_at q s i)))
    (cond (is_forecast (kind_at s i)) (Some (forecast (i + 1) (kind_at s i) (values_at q s i))) None)

-- the same as the code holds it
abbrev direction_kind : Direction → ℕ
direction_kind Out = number_of kinds.Out
direction_kind In = number_of kinds.In

abbrev forecast_kind : ForecastKind → ℕ
forecast_kind Cons = number_of kinds.Cons
forecast_kind Prod = number_of kinds.Prod
forecast_kind Pump = number_of kinds.Pump

abbrev pub as_read : src.Series → SeriesRead
as_read (src-series.Trade place direction counter values) = trade place (direction_kind direction) counter values.now
as_read (src-series.Forecast place kind values) = forecast place (forecast_kind kind) values.now

abbrev pub Shows : Option src.Series → ℕ → List ℕ → ℕ → Type 0
Shows None q s i = series_of q s i ≡ None
Shows (Some x) q s i = series_of q s i ≡ Some (as_read x)
