use Rattle.std.proofs.Common.{map, ap}
use Rattle.forms.specs.Figures.{rates_of}
use Rattle.forms.specs.Openings.{terms_in}
use Rattle.forms.proofs.OpeningLaws.{fee_within, rate_within}
use Rattle.forms.proofs.terms.Opening.tariff.Goals as goal

pub returns-clause-told : goal.returns-clause-told
unfolding terms_in
returns-clause-told c = ap (map rates_of) c.as_slice.ensures

pub returns-clause-fees : goal.returns-clause-fees
returns-clause-fees c = rw c.as_slice.ensures (fee_within _ _ c.args.self.now.lawful)

pub returns-clause-rates : goal.returns-clause-rates
returns-clause-rates c = rw c.as_slice.ensures (rate_within _ _ c.args.self.now.lawful)
