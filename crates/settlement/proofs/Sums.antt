-- Sums: none, one more, and term by term.
use Rattle.std.proofs.Common.{◌≡◌, ℕ, zero, suc, ◌+◌, ◌<◌, ◌≤◌, ℤ, pos, ◌+ℤ◌, ◌-ℤ◌, sym, refl, add-one, arith}
use Rattle.std.proofs.lemmas.Int.{ints}
use Rattle.settlement.specs.Sums.{sumℕ, sumℤ}

pub sumℕ-none : (f : ℕ → ℕ) → sumℕ f 0 ≡ 0
unfolding sumℕ
sumℕ-none f = refl

pub sumℕ-more : (f : ℕ → ℕ) (n : ℕ) → sumℕ f (n + 1) ≡ sumℕ f n + f n
unfolding sumℕ
sumℕ-more f n = rw (add-one n) refl

pub sumℕ-le : (f g : ℕ → ℕ) (n : ℕ) → ((k : ℕ) → k < n → f k ≤ g k) → sumℕ f n ≤ sumℕ g n
unfolding sumℕ
sumℕ-le f g zero h = omega arith
sumℕ-le f g (suc n) h = omega (arith, sumℕ-le f g n (λ k l. h k (omega arith)), h n (omega arith))

pub sumℕ-same : (f g : ℕ → ℕ) (n : ℕ) → ((k : ℕ) → k < n → f k ≡ g k) → sumℕ f n ≡ sumℕ g n
unfolding sumℕ
sumℕ-same f g zero h = refl
sumℕ-same f g (suc n) h = omega (arith, sumℕ-same f g n (λ k l. h k (omega arith)), h n (omega arith))

pub sumℤ-none : (f : ℕ → ℤ) → sumℤ f 0 ≡ pos 0
unfolding sumℤ
sumℤ-none f = refl

pub sumℤ-more : (f : ℕ → ℤ) (n : ℕ) → sumℤ f (n + 1) ≡ sumℤ f n +ℤ f n
unfolding sumℤ
sumℤ-more f n = rw (add-one n) refl

pub sumℤ-same : (f g : ℕ → ℤ) (n : ℕ) → ((k : ℕ) → k < n → f k ≡ g k) → sumℤ f n ≡ sumℤ g n
unfolding sumℤ
sumℤ-same f g zero h = refl
sumℤ-same f g (suc n) h =
    let e = sumℤ-same f g n (λ k l. h k (omega arith)) in
    let p : f n ≡ g n = h n (omega arith) in
    rw (e, p) refl

pub sumℤ-add : (f g : ℕ → ℤ) (n : ℕ) → sumℤ (λ k. f k +ℤ g k) n ≡ sumℤ f n +ℤ sumℤ g n
unfolding sumℤ
sumℤ-add f g zero = refl
sumℤ-add f g (suc n) = rw (sumℤ-add f g n) (omega (arith, ints))

pub sumℤ-sub : (f g : ℕ → ℤ) (n : ℕ) → sumℤ (λ k. f k -ℤ g k) n ≡ sumℤ f n -ℤ sumℤ g n
unfolding sumℤ
sumℤ-sub f g zero = refl
sumℤ-sub f g (suc n) = rw (sumℤ-sub f g n) (omega (arith, ints))

-- a sum of differences of numbers
pub sumℤ-differences : (f h : ℕ → ℕ) (d : ℕ → ℤ) (n : ℕ) → ((k : ℕ) → pos (f k) -ℤ pos (h k) ≡ d k) → pos (sumℕ f n) -ℤ pos (sumℕ h n) ≡ sumℤ d n
unfolding sumℕ sumℤ
sumℤ-differences f h d zero each = refl
sumℤ-differences f h d (suc n) each = omega (arith, ints, sumℤ-differences f h d n each, each n)

sumℤ-zero : (n : ℕ) → sumℤ (λ _. pos 0) n ≡ pos 0
unfolding sumℤ
sumℤ-zero zero = refl
sumℤ-zero (suc n) = rw (sumℤ-zero n) refl

-- a double sum, by rows or by columns
pub sumℤ-swap : (h : ℕ → ℕ → ℤ) (n m : ℕ) → sumℤ (λ a. sumℤ (λ b. h a b) m) n ≡ sumℤ (λ b. sumℤ (λ a. h a b) n) m
unfolding sumℤ
sumℤ-swap h zero m = sym (sumℤ-zero m)
sumℤ-swap h (suc n) m = rw (sumℤ-swap h n m) (sym (sumℤ-add (λ b. sumℤ (λ a. h a b) n) (λ b. h n b) m))
