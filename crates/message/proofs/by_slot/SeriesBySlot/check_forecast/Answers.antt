use Rattle.std.proofs.Common.{◌≡◌, ◌+◌, true, false, rules, tests}
use Rattle.forms.proofs.Firsts.{each_in_order}
use Rattle.message.specs.Form.{kind_at}
use Rattle.message.specs.Read.{is_forecast}
use Rattle.message.specs.Values.{forecast_check}
use Rattle.message.proofs.SeriesLaws.{forecast_told}
use Rattle.message.proofs.by_slot.SeriesBySlot.check_forecast.Goals as goal

pub returns : goal.returns
returns c =
    let form = c.args.self.now.message in
    let shown = rw c.in-Some-Forecast.field-0-is at c.in-Some-Forecast.ensures in
    let told = forecast_told form.quarters form.bytes.now c.args.i _ _ _ shown in
    let place : c.in-Some-Forecast.series ≡ c.args.i + 1 = told.0 in
    let forecast : is_forecast (kind_at form.bytes.now c.args.i) ≡ true = told.1 in
    each_in_order (forecast_check form.quarters false form.bytes.now c.args.i) form.quarters c.in_order.ensures (λ t v l p. search (rules, tests))
