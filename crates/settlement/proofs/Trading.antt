-- A group's trades with the first n groups: none, one more, and the group itself left out.
use Rattle.std.proofs.Common.{◌≡◌, ℕ, ◌+◌, cond, eqb, ℤ, pos, ◌+ℤ◌, ◌-ℤ◌, refl, ◌∙◌, arith}
use Rattle.std.proofs.lemmas.Int.{ints}
use Rattle.std.proofs.lemmas.Bool.{eq-eqb, ne_eqb}
use Rattle.std.proofs.lemmas.Bool.Decides.{nat_tests}
use Rattle.forms.specs.Slots.{out_to, in_from}
use Rattle.settlement.specs.Sheets.{Statements}
use Rattle.settlement.specs.Sums.{sumℕ, with_others}
use Rattle.settlement.specs.Positions.{confirmed, given_to, confirmed_with, stated_with, net_purchases}
use Rattle.settlement.proofs.Sums.{sumℤ-none, sumℤ-more, sumℤ-differences}

-- a sum that leaves one term out
pub others_none : (f : ℕ → ℤ) (a : ℕ) → with_others f a 0 ≡ pos 0
others_none f a = sumℤ-none _

pub others_more : (f : ℕ → ℤ) (a n : ℕ) → (n ≡ a → ⊥) → with_others f a (n + 1) ≡ with_others f a n +ℤ f n
others_more f a n h = sumℤ-more (λ b. cond (eqb b a) (pos 0) (f b)) n ∙ rw (ne_eqb n a h) refl

pub others_skip : (f : ℕ → ℤ) (a n : ℕ) → n ≡ a → with_others f a (n + 1) ≡ with_others f a n
others_skip f a n h = sumℤ-more (λ b. cond (eqb b a) (pos 0) (f b)) n ∙ rw (eq-eqb n a h) (omega (arith, ints))

module _ (S : Statements) (t a : ℕ) where
  pub stated_none : stated_with S t a 0 ≡ pos 0
  unfolding stated_with
  stated_none = sumℤ-none _

  pub stated_more : (n : ℕ) → (n ≡ a → ⊥) → stated_with S t a (n + 1) ≡ stated_with S t a n +ℤ (pos (S a (in_from n) t) -ℤ pos (S a (out_to n) t))
  unfolding stated_with
  stated_more n h = others_more (λ b. pos (S a (in_from b) t) -ℤ pos (S a (out_to b) t)) a n h

  pub stated_skip : (n : ℕ) → n ≡ a → stated_with S t a (n + 1) ≡ stated_with S t a n
  unfolding stated_with
  stated_skip n h = others_skip (λ b. pos (S a (in_from b) t) -ℤ pos (S a (out_to b) t)) a n h

  pub confirmed_none : confirmed_with S t a 0 ≡ pos 0
  unfolding confirmed_with
  confirmed_none = sumℤ-none _

  pub confirmed_more : (n : ℕ) → (n ≡ a → ⊥) → confirmed_with S t a (n + 1) ≡ confirmed_with S t a n +ℤ (pos (confirmed S t n a) -ℤ pos (confirmed S t a n))
  unfolding confirmed_with
  confirmed_more n h = others_more (λ b. pos (confirmed S t b a) -ℤ pos (confirmed S t a b)) a n h

  pub confirmed_skip : (n : ℕ) → n ≡ a → confirmed_with S t a (n + 1) ≡ confirmed_with S t a n
  unfolding confirmed_with
  confirmed_skip n h = others_skip (λ b. pos (confirmed S t b a) -ℤ pos (confirmed S t a b)) a n h

-- what is given to a group: to another, and to the group itself
module _ (S : Statements) (t a b : ℕ) where
  pub given_to-other : (b ≡ a → ⊥) → given_to S t a b ≡ confirmed S t a b
  unfolding given_to
  given_to-other h = grind (arith, nat_tests)

  pub given_to-itself : b ≡ a → given_to S t a b ≡ 0
  unfolding given_to
  given_to-itself h = grind (arith, nat_tests)

-- what is given between two groups, in less out
between : (S : Statements) (t a b : ℕ) → pos (given_to S t b a) -ℤ pos (given_to S t a b) ≡ cond (eqb b a) (pos 0) (pos (confirmed S t b a) -ℤ pos (confirmed S t a b))
unfolding given_to
between S t a b = grind (arith, ints, nat_tests)

-- net purchases are what is given to a group less what it gives
pub net_by_given : (S : Statements) (g t a : ℕ) → pos (sumℕ (λ b. given_to S t b a) g) -ℤ pos (sumℕ (given_to S t a) g) ≡ net_purchases S g t a
unfolding confirmed_with
net_by_given S g t a =
    sumℤ-differences (λ b. given_to S t b a) (given_to S t a) (λ b. cond (eqb b a) (pos 0) (pos (confirmed S t b a) -ℤ pos (confirmed S t a b))) g (between S t a)
