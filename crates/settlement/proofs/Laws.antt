-- The laws of trades, positions and amounts.
use Rattle.std.proofs.Common.{◌≡◌, ℕ, ◌-◌, ◌≤◌, min, true, cond, eqb, List, [], ◌∷◌, length, pos, ◌-ℤ◌, nat_abs, refl, ◌∙◌, inl, inr, arith}
use Rattle.std.proofs.lemmas.Nat.{mul-le}
use Rattle.std.proofs.lemmas.Int.{ints}
use Rattle.std.proofs.lemmas.Bool.{leb-true, eqb-true, lt-ltb, le-ltb, cases_Bool, cases_lt}
use Rattle.std.proofs.lemmas.Bool.Decides.{nat_tests}
use Rattle.forms.specs.Figures.{RateFigures}
use Rattle.forms.specs.Lawful.{no_fall, NeverFalls}
use Rattle.settlement.specs.declared.phase.Phase.TheVariants.{Ahead, Near, After}
use Rattle.settlement.specs.Sums.{sumℤ}
use Rattle.settlement.specs.Positions.{confirmed, confirmed_with, net_purchases, confirmed_open, excess, day_excess}
use Rattle.settlement.specs.Amounts.{no_rates, row_for, penalty}
use Rattle.settlement.specs.Laws.{Balanced, BelowBoth, FartherCostsNoLess, FartherDayNoLess, PenaltyNoLess}
use Rattle.settlement.proofs.Sums.{sumℕ-le, sumℤ-same, sumℤ-sub, sumℤ-swap}

-- Trades

less_itself : (n : ℕ) → pos 0 ≡ pos n -ℤ pos n
less_itself n = omega (arith, ints)

-- what is left out of a group's trades is nothing
no_own : (h : ℕ → ℕ → ℕ) (a b : ℕ) → cond (eqb b a) (pos 0) (pos (h b a) -ℤ pos (h a b)) ≡ pos (h b a) -ℤ pos (h a b)
no_own h a b = elim (cases_Bool (eqb b a)) [ inl e ↦ rw (e, eqb-true b a e) (less_itself (h a a)) | inr e ↦ rw e refl ]

pub balanced : Balanced
unfolding confirmed_with
balanced S g t =
    let h : ℕ → ℕ → ℕ = confirmed S t in
    sumℤ-same (net_purchases S g t) (λ a. sumℤ (λ b. pos (h b a)) g -ℤ sumℤ (λ b. pos (h a b)) g) g
    (λ a l.
    sumℤ-same (λ b. cond (eqb b a) (pos 0) (pos (h b a) -ℤ pos (h a b))) (λ b. pos (h b a) -ℤ pos (h a b)) g (λ b k. no_own h a b)
    ∙ sumℤ-sub (λ b. pos (h b a)) (λ b. pos (h a b)) g)
    ∙ sumℤ-sub (λ a. sumℤ (λ b. pos (h b a)) g) (λ a. sumℤ (λ b. pos (h a b)) g) g
    ∙ (let e = sumℤ-swap (λ a b. pos (h b a)) g g in omega (arith, ints, e))

pub below_both : BelowBoth
unfolding confirmed
below_both S t a b = (omega arith, omega arith)

-- Positions

farther_costs_no_less : FartherCostsNoLess
farther_costs_no_less f Ahead o p h = omega (arith, leb-true (nat_abs o) (nat_abs p) h)
farther_costs_no_less f Near o p h = omega (arith, leb-true (nat_abs o) (nat_abs p) h)
farther_costs_no_less f After o p h = omega (arith, leb-true (nat_abs o) (nat_abs p) h)

pub farther_day_no_less : FartherDayNoLess
unfolding day_excess
farther_day_no_less S S' f g a q h =
    sumℕ-le (λ t. excess f After (confirmed_open S f g t a)) (λ t. excess f After (confirmed_open S' f g t a)) q
    (λ t l. farther_costs_no_less f After (confirmed_open S f g t a) (confirmed_open S' f g t a) (h t l))

-- Penalties

-- no lower fee and no lower rate
abbrev Under : RateFigures → RateFigures → Type 0
Under r s = (r.fee ≤ s.fee) × (r.rate ≤ s.rate)

not_under : (r s : RateFigures) → no_fall r s ≡ true → Under r s
not_under r s e = (grind (arith, nat_tests), grind (arith, nat_tests))

-- the row of a higher stage does not fall behind
rows_under : (tariff : List RateFigures) (s s' : ℕ) → NeverFalls tariff → s ≤ s' → Under (row_for tariff s) (row_for tariff s')
rows_under [] s s' h l = (omega arith, omega arith)
rows_under (r ∷ rest) s s' h l =
    not_under (row_for (r ∷ rest) s) (row_for (r ∷ rest) s') (h (min s (length (r ∷ rest) - 1)) (min s' (length (r ∷ rest) - 1)) no_rates (omega arith) (omega arith))

penalty_under : (r s : RateFigures) (E E' : ℕ) → Under r s → E ≤ E' → penalty r E ≤ penalty s E'
penalty_under r s E E' u l =
    elim (cases_lt 0 E) [
      | inl k ↦ rw (lt-ltb 0 E k, lt-ltb 0 E' (omega arith)) (omega (arith, mul-le r.rate E s.rate E' u.1 l))
      | inr k ↦ rw (le-ltb 0 E k) (omega arith)
    ]

pub penalty_no_less : PenaltyNoLess
penalty_no_less tariff s s' E E' h l k = penalty_under (row_for tariff s) (row_for tariff s') E E' (rows_under tariff s s' h l) k
