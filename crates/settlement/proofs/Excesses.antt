-- A day's excesses and costs: none, and one quarter hour more.
use Rattle.std.proofs.Common.{◌≡◌, ℕ, zero, suc, ◌+◌, ◌*◌, ◌<◌, ◌≤◌, map, sum, ℤ, pos, ◌+ℤ◌, sym, ap, ◌∙◌, add-one, arith}
use Rattle.std.proofs.lemmas.List.FromFn.{sum_by-map-range_with_len_more}
use Rattle.std.specs.List.{range_with_len}
use Rattle.forms.specs.Figures.{GroupFigures}
use Rattle.settlement.specs.declared.phase.Phase.TheVariants.{After}
use Rattle.settlement.specs.Sheets.{Statements}
use Rattle.settlement.specs.Positions.{net_purchases, confirmed_open, excess, day_excess}
use Rattle.settlement.specs.Amounts.{imbalance_cost, day_cost}
use Rattle.settlement.proofs.Sums.{sumℕ-none, sumℕ-more, sumℤ-none, sumℤ-more}

module _ (S : Statements) (f : GroupFigures) (g a : ℕ) where
  pub day_excess_none : day_excess S f g a 0 ≡ 0
  unfolding day_excess
  day_excess_none = sumℕ-none _

  pub day_excess_more : (t : ℕ) → day_excess S f g a (t + 1) ≡ day_excess S f g a t + excess f After (confirmed_open S f g t a)
  unfolding day_excess
  day_excess_more t = sumℕ-more (λ u. excess f After (confirmed_open S f g u a)) t

  -- a sum over a range of what each quarter hour's excess is
  pub day_excess_sum : (h : ℕ → ℕ) (q : ℕ) → ((t : ℕ) → t < q → h t ≡ excess f After (confirmed_open S f g t a)) → sum (map h (range_with_len 0 q)) ≡ day_excess S f g a q
  day_excess_sum h zero same = sym day_excess_none
  day_excess_sum h (suc q) same =
      ap (λ n. sum (map h (range_with_len 0 n))) (sym (add-one q))
      ∙ omega (arith, sum_by-map-range_with_len_more (λ x. x) h 0 q q (omega arith), day_excess_sum h q (λ t l. same t (omega arith)), same q (omega arith), day_excess_more q)
      ∙ ap (day_excess S f g a) (add-one q)

-- a sum over a range of numbers that are at most m
pub sum_low : (h : ℕ → ℕ) (m q : ℕ) → ((t : ℕ) → h t ≤ m) → sum (map h (range_with_len 0 q)) ≤ m * q
sum_low h m zero low = omega arith
sum_low h m (suc q) low =
    omega (arith, ap (λ n. sum (map h (range_with_len 0 n))) (add-one q), sum_by-map-range_with_len_more (λ x. x) h 0 q q (omega arith), sum_low h m q low, low q)

module _ (S : Statements) (g a : ℕ) (feed long short : ℕ → ℤ) where
  pub day_cost_none : day_cost S g a feed long short 0 ≡ pos 0
  unfolding day_cost
  day_cost_none = sumℤ-none _

  pub day_cost_more : (t : ℕ) → day_cost S g a feed long short (t + 1) ≡ day_cost S g a feed long short t +ℤ imbalance_cost (net_purchases S g t a +ℤ feed t) (long t) (short t)
  unfolding day_cost
  day_cost_more t = sumℤ-more (λ u. imbalance_cost (net_purchases S g u a +ℤ feed u) (long u) (short u)) t
