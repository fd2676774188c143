-- Days that pass a test: how many there are, and whether there is one. And the days of two lists of marks.
use Rattle.std.specs.Prelude.{◌≡◌, ℕ, zero, suc, ◌+◌, ◌≤◌, Bool, true, false, cond, List, [], ◌∷◌, refl}
use Rattle.std.proofs.Common.{sym, ap, ◌∙◌, inl, inr, add-one, arith}
use Rattle.std.proofs.lemmas.Bool.{cases_Bool, cases_eq, or_cases, or_left, or_right}
use Rattle.stage.specs.Marked.{on_day, Under}
use Rattle.stage.specs.Rules.{days_where, some_day}

abbrev pub one_if : Bool → ℕ
one_if b = cond b 1 0

pub days_none : (p : ℕ → Bool) → days_where p 0 ≡ 0
unfolding days_where
days_none p = refl

pub days_more : (p : ℕ → Bool) (n : ℕ) → days_where p (n + 1) ≡ days_where p n + one_if (p (n + 1))
unfolding days_where
days_more p n = rw (add-one n) refl

one_under : (x y : Bool) → (x ≡ true → y ≡ true) → one_if x ≤ one_if y
one_under true y h = omega (arith, ap one_if (h refl))
one_under false y h = omega arith

pub one_le : (x : Bool) → one_if x ≤ 1
one_le true = omega arith
one_le false = omega arith

pub days_le : (p : ℕ → Bool) (n : ℕ) → days_where p n ≤ n
unfolding days_where
days_le p zero = omega arith
days_le p (suc n) = omega (arith, days_le p n, one_le (p (suc n)))

-- a test that passes wherever another does counts no fewer days
pub days_under : (p q : ℕ → Bool) (n : ℕ) → ((d : ℕ) → p d ≡ true → q d ≡ true) → days_where p n ≤ days_where q n
unfolding days_where
days_under p q zero h = omega arith
days_under p q (suc n) h = omega (arith, days_under p q n h, one_under (p (suc n)) (q (suc n)) (h (suc n)))

pub days_same : (p q : ℕ → Bool) (n : ℕ) → ((d : ℕ) → p d ≡ q d) → days_where p n ≡ days_where q n
unfolding days_where
days_same p q zero h = refl
days_same p q (suc n) h = omega (arith, days_same p q n h, ap one_if (h (suc n)))

pub days_without : (p : ℕ → Bool) (n : ℕ) → ((d : ℕ) → 1 ≤ d → d ≤ n → p d ≡ false) → days_where p n ≡ 0
unfolding days_where
days_without p zero h = refl
days_without p (suc n) h =
    omega (arith, days_without p n (λ d low high. h d low (omega arith)), ap one_if (h (suc n) (omega arith) (omega arith)))

pub some_from : (p : ℕ → Bool) (n d : ℕ) → 1 ≤ d → d ≤ n → p d ≡ true → some_day p n ≡ true
unfolding some_day
some_from p zero d low high e = absurd (omega arith)
some_from p (suc n) d low high e =
    elim (cases_eq d (suc n)) [
      | inl f ↦ or_left (p (suc n)) (some_day p n) (ap p (sym f) ∙ e)
      | inr f ↦ or_right (p (suc n)) (some_day p n) (some_from p n d low (omega arith) e)
    ]

pub some_found : (p : ℕ → Bool) (n : ℕ) → some_day p n ≡ true → (d : ℕ) × (1 ≤ d) × (d ≤ n) × (p d ≡ true)
unfolding some_day
some_found p zero e = absurd (let z : ◌≡◌ {A = ℕ} 0 1 = cc in omega arith)
some_found p (suc n) e =
    elim (or_cases (p (suc n)) (some_day p n) e) [
      | inl f ↦ (suc n, omega arith, omega arith, f)
      | inr f ↦ let q = some_found p n f in (q.0, q.1, omega arith, q.3)
    ]

pub none_from : (p : ℕ → Bool) (n : ℕ) → ((d : ℕ) → 1 ≤ d → d ≤ n → p d ≡ false) → some_day p n ≡ false
none_from p n h =
    elim (cases_Bool (some_day p n)) [
      | inl e ↦ let q = some_found p n e in absurd (let z : ◌≡◌ {A = ℕ} 0 1 = cc (h q.0 q.1 q.2, q.3) in omega arith)
      | inr e ↦ e
    ]

pub none_at : (p : ℕ → Bool) (n d : ℕ) → some_day p n ≡ false → 1 ≤ d → d ≤ n → p d ≡ false
none_at p n d e low high =
    elim (cases_Bool (p d)) [
      | inl f ↦ absurd (let z : ◌≡◌ {A = ℕ} 0 1 = cc (some_from p n d low high f, e) in omega arith)
      | inr f ↦ f
    ]

-- a day that the first marks, the second marks too
pub on_day_under : (xs ys : List Bool) (d : ℕ) → Under xs ys → on_day xs d ≡ true → on_day ys d ≡ true
on_day_under xs ys zero h e = e
on_day_under [] [] (suc i) h e = e
on_day_under [] (y ∷ ys) (suc i) h e = absurd h
on_day_under (x ∷ xs) [] (suc i) h e = absurd h
on_day_under (x ∷ xs) (y ∷ ys) (suc zero) h e = h.0 e
on_day_under (x ∷ xs) (y ∷ ys) (suc (suc i)) h e = on_day_under xs ys (suc i) h.1 e
