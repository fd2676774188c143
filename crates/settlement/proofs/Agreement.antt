-- Where two days' statements agree, so do their trades, positions and amounts.
use Rattle.std.proofs.Common.{◌≡◌, ℕ, ◌<◌, cond, eqb, ℤ, pos, ◌+ℤ◌, ◌-ℤ◌, refl, ap}
use Rattle.forms.specs.Figures.{GroupFigures}
use Rattle.forms.specs.Slots.{Slot, out_to, in_from, cons, Within}
use Rattle.settlement.specs.declared.phase.Phase.TheVariants.{After}
use Rattle.settlement.specs.Sheets.{Statements}
use Rattle.settlement.specs.Positions.{confirmed, confirmed_with, stated_with, net_purchases, stated_open, confirmed_open, excess, day_excess}
use Rattle.settlement.specs.Amounts.{imbalance_cost, day_cost}
use Rattle.settlement.proofs.Sums.{sumℕ-same, sumℤ-same}

-- the same statements of the g groups at quarter hour t
abbrev pub Agree : ℕ → Statements → Statements → ℕ → Type 0
Agree g S S' t = (a : ℕ) (s : Slot) → a < g → Within g s → S a s t ≡ S' a s t

module _ (g : ℕ) (S S' : Statements) where
  pub confirmed_same : (t a b : ℕ) → Agree g S S' t → a < g → b < g → confirmed S t a b ≡ confirmed S' t a b
  unfolding confirmed
  confirmed_same t a b h l k = let p = h a (out_to b) l k in let q = h b (in_from a) k l in cc

  pub net_purchases_same : (t a : ℕ) → Agree g S S' t → a < g → net_purchases S g t a ≡ net_purchases S' g t a
  unfolding confirmed_with
  net_purchases_same t a h l =
      sumℤ-same (λ b. cond (eqb b a) (pos 0) (pos (confirmed S t b a) -ℤ pos (confirmed S t a b)))
      (λ b. cond (eqb b a) (pos 0) (pos (confirmed S' t b a) -ℤ pos (confirmed S' t a b)))
      g
      (λ b k. rw (confirmed_same t b a h k l, confirmed_same t a b h l k) refl)

  pub stated_with_same : (t a : ℕ) → Agree g S S' t → a < g → stated_with S t a g ≡ stated_with S' t a g
  unfolding stated_with
  stated_with_same t a h l =
      sumℤ-same (λ b. cond (eqb b a) (pos 0) (pos (S a (in_from b) t) -ℤ pos (S a (out_to b) t)))
      (λ b. cond (eqb b a) (pos 0) (pos (S' a (in_from b) t) -ℤ pos (S' a (out_to b) t)))
      g
      (λ b k. rw (h a (in_from b) l k, h a (out_to b) l k) refl)

  pub stated_open_same : (f : GroupFigures) (t a : ℕ) → Agree g S S' t → a < g → stated_open S f g t a ≡ stated_open S' f g t a
  unfolding stated_open
  stated_open_same f t a h l = rw (stated_with_same t a h l, h a cons l tt) refl

  pub confirmed_open_same : (f : GroupFigures) (t a : ℕ) → Agree g S S' t → a < g → confirmed_open S f g t a ≡ confirmed_open S' f g t a
  unfolding confirmed_open
  confirmed_open_same f t a h l = rw (net_purchases_same t a h l, h a cons l tt) refl

  pub day_excess_same : (f : GroupFigures) (a q : ℕ) → ((t : ℕ) → t < q → Agree g S S' t) → a < g → day_excess S f g a q ≡ day_excess S' f g a q
  unfolding day_excess
  day_excess_same f a q h l =
      sumℕ-same (λ t. excess f After (confirmed_open S f g t a)) (λ t. excess f After (confirmed_open S' f g t a)) q
      (λ t k. ap (excess f After) (confirmed_open_same f t a (h t k) l))

  pub day_cost_same : (a : ℕ) (feed long short : ℕ → ℤ) (q : ℕ) → ((t : ℕ) → t < q → Agree g S S' t) → a < g → day_cost S g a feed long short q ≡ day_cost S' g a feed long short q
  unfolding day_cost
  day_cost_same a feed long short q h l =
      sumℤ-same (λ t. imbalance_cost (net_purchases S g t a +ℤ feed t) (long t) (short t))
      (λ t. imbalance_cost (net_purchases S' g t a +ℤ feed t) (long t) (short t))
      q
      (λ t k. ap (λ z. imbalance_cost (z +ℤ feed t) (long t) (short t)) (net_purchases_same t a (h t k) l))
