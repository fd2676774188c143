-- Which values a message may have. Values are powers in kW.
use Rattle.std.specs.Prelude.{◌≡◌, ℕ, ◌+◌, ◌<◌, ◌≤◌, Bool, false, not, ◌&&◌, List, ◌==◌, nat_lt}
use Rattle.std.specs.Result.{result_and}
use Rattle.forms.specs.Bounds.{power_bound}
use Rattle.forms.specs.declared.kind.Kind.TheVariants.{Out, In}
use Rattle.forms.specs.Kinds.{number_of}
use Rattle.forms.specs.Slots.{Slot, out_to, in_from}
use Rattle.forms.specs.Checks.{Verdict, refuse_if, each_of}
use Rattle.forms.specs.declared.fault.Fault.TheVariants.{OutOfRange, UnmeteredForecast, OpposedTrades}
use Rattle.message.specs.Form.{series_count, kind_at, counter_at, value_at}
use Rattle.message.specs.Read.{is_forecast}
use Rattle.message.specs.Places.{value_under, stated}

-- a check of series and quarter hours, over the quarter hours of series i
abbrev pub in_series : ℕ → (ℕ → ℕ → Verdict) → ℕ → Verdict
in_series q check i = each_of (check i) q

-- and over the whole message, series by series
abbrev pub in_message : ℕ → List ℕ → (ℕ → ℕ → Verdict) → Verdict
in_message q s check = each_of (in_series q check) (series_count s)

-- No value is above the bound.
abbrev pub range_check : ℕ → List ℕ → ℕ → ℕ → Verdict
range_check q s i t = refuse_if (nat_lt power_bound (value_at q s i t)) (OutOfRange (i + 1) (t + 1))

-- A group without metering points forecasts nothing above 0.
abbrev pub forecast_check : ℕ → Bool → List ℕ → ℕ → ℕ → Verdict
forecast_check q metered s i t =
    refuse_if (not metered && (is_forecast (kind_at s i) && nat_lt 0 (value_at q s i t))) (UnmeteredForecast (i + 1) (t + 1))

-- Trades out to a group and in from it are not both above 0: the out series is refused if the in series with its
-- counter has a value too.
abbrev pub opposed_check : ℕ → List ℕ → ℕ → ℕ → Verdict
opposed_check q s i t =
    refuse_if (kind_at s i == number_of Out && (nat_lt 0 (value_at q s i t) && nat_lt 0 (value_under q s (number_of In) (counter_at s i) t))) (OpposedTrades (i + 1) (t + 1))

-- nothing that the message states for this slot is above b
abbrev pub StatesAtMost : ℕ → List ℕ → Slot → ℕ → Type 0
StatesAtMost q s slot b = (t : ℕ) → t < q → stated q s slot t ≤ b

-- the trades out to group b and in from it are never above 0 at once
abbrev pub Unopposed : ℕ → List ℕ → ℕ → Type 0
Unopposed q s b = (t : ℕ) → t < q → (nat_lt 0 (stated q s (out_to b) t) && nat_lt 0 (stated q s (in_from b) t)) ≡ false

-- these three, each over the whole message
abbrev pub values_check : ℕ → Bool → List ℕ → Verdict
values_check q metered s =
    result_and (in_message q s (range_check q s))
    (result_and (in_message q s (forecast_check q metered s)) (in_message q s (opposed_check q s)))
