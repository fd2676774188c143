-- Sums over the numbers below n.
use Rattle.std.specs.Prelude.{ℕ, zero, suc, ◌+◌, cond, ℤ, pos, ◌+ℤ◌, ◌==◌}

-- f 0 + f 1 + .. + f (n - 1)
unfoldable pub sumℕ : (ℕ → ℕ) → ℕ → ℕ
sumℕ f zero = 0
sumℕ f (suc n) = sumℕ f n + f n

unfoldable pub sumℤ : (ℕ → ℤ) → ℕ → ℤ
sumℤ f zero = pos 0
sumℤ f (suc n) = sumℤ f n +ℤ f n

-- f of the first n numbers but a, added
abbrev pub with_others : (ℕ → ℤ) → ℕ → ℕ → ℤ
with_others f a n = sumℤ (λ b. cond (b == a) (pos 0) (f b)) n
