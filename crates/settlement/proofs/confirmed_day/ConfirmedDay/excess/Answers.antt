use Rattle.std.proofs.Common.{ℕ, ◌^◌, ◌≤◌, length, min, refl, ◌∙◌, arith, rules}
use Rattle.std.proofs.lemmas.Iterator.{YieldsList-from_range, YieldsList-from_map}
use Rattle.std.proofs.lemmas.Iterator.Consumers.{sum_from_yields_List}
use Rattle.std.proofs.lemmas.Iterator.Adapters.{fits_from_length, at_most_from_yields_List}
use Rattle.std.proofs.lemmas.List.FromFn.{length-range_with_len}
use Rattle.std.specs.List.{range_with_len}
use Rattle.forms.specs.Figures.{figures_of}
use Rattle.settlement.specs.declared.phase.Phase.TheVariants.{After}
use Rattle.settlement.specs.Positions.{confirmed_open, excess}
use Rattle.settlement.specs.Statements.{sent_on}
use Rattle.settlement.proofs.Excesses.{day_excess_sum, sum_low}
use Rattle.settlement.proofs.confirmed_day.ConfirmedDay.excess.Goals as goal

pub sum-requires-clause-fits : goal.sum-requires-clause-fits
sum-requires-clause-fits c =
    let few : length (range_with_len 0 c.args.q) ≤ 96 = omega (arith, length-range_with_len 0 c.args.q) in
    fits_from_length _ _ 96 _ (at_most_from_yields_List (YieldsList-from_range 0 c.args.q c.args.q c.map.ensures.source (omega arith)) few) c.map.ensures.closure (omega arith) (λ x r q k. search rules)

-- what the code adds for a quarter hour
abbrev over : goal.After-sum → ℕ → ℕ
over c t =
    let f = figures_of c.args.figures.now in
    let sheet = c.args.self.now.sheet in
    excess f After (confirmed_open (sent_on sheet) f sheet.groups t c.args.a)

pub returns-clause-value : goal.returns-clause-value
returns-clause-value c =
    let sheet = c.args.self.now.sheet in
    sum_from_yields_List _ _ c.sum.ensures.ran
    (YieldsList-from_map _ (over c) (YieldsList-from_range 0 c.args.q c.args.q c.map.ensures.source (omega arith)) c.map.ensures.closure (λ x r q k. search rules))
    ∙ day_excess_sum (sent_on sheet) (figures_of c.args.figures.now) sheet.groups c.args.a (over c) c.args.q (λ t l. refl)

pub returns-clause-bound : goal.returns-clause-bound
returns-clause-bound c =
    let low : ℕ → ℕ = λ t. min (over c t) (2 ^ 37) in
    omega (
      arith,
      sum_from_yields_List _ _ c.sum.ensures.ran
          (YieldsList-from_map _ low (YieldsList-from_range 0 c.args.q c.args.q c.map.ensures.source (omega arith)) c.map.ensures.closure (λ x r q k. search rules)),
      sum_low low (2 ^ 37) c.args.q (λ t. omega arith),
    )
