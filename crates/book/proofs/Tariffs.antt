-- The rows of a book's tariff.
use Rattle.std.proofs.Common.{◌≡◌, ℕ, ◌-◌, ◌<◌, ◌≤◌, min, List, map, length, get_or, sym, ap, ◌∙◌, inl, inr, arith}
use Rattle.std.proofs.lemmas.List.{get_or_past, length-map}
use Rattle.std.proofs.lemmas.Bool.{cases_lt}
use Rattle.std.proofs.lemmas.Bool.Decides.{nat_tests}
use Rattle.forms.specs.declared.group.TariffRow.{TariffRow}
use Rattle.forms.specs.declared.terms.Opening.{Opening}
use Rattle.forms.specs.Bounds.{rate_bound}
use Rattle.forms.specs.Figures.{RateFigures, rates_of}
use Rattle.forms.specs.Openings.{terms_in}
use Rattle.forms.proofs.OpeningLaws.{lawful_in}
use Rattle.settlement.specs.Amounts.{row_for}

pub rate_within : (o : Opening) (i : ℕ) → (get_or (terms_in o).tariff i (record { fee = 0; rate = 0 })).rate ≤ rate_bound
rate_within o i =
    elim (cases_lt i (length (terms_in o).tariff)) [
      | inl l ↦ let e = (lawful_in o).rates i (record { fee = 0; rate = 0 }) l in grind (arith, nat_tests)
      | inr l ↦ omega (arith, ap (λ (f : RateFigures). f.rate) (get_or_past (terms_in o).tariff i (record { fee = 0; rate = 0 }) l))
    ]

-- the row of a stage has a rate within the bound
pub row_within : (o : Opening) (stage : ℕ) → (row_for (terms_in o).tariff stage).rate ≤ rate_bound
row_within o stage = rate_within o (min stage (length (terms_in o).tariff - 1))

pub rows_there : (o : Opening) (rows : List TariffRow) → map rates_of rows ≡ (terms_in o).tariff → 0 < length rows
rows_there o rows e = omega (arith, sym (length-map rows rates_of) ∙ ap length e, (lawful_in o).rows_least)
