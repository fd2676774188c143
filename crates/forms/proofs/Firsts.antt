-- Checks one after another: a loop's start, step and exit, and the theorem that the earliest fault answers.
use Rattle.std.proofs.Common.{◌≡◌, ℕ, zero, suc, ◌+◌, ◌<◌, Bool, true, false, not, Ok, Err, sym, refl, subst, inl, inr, add-one, arith, MatchResult}
use Rattle.std.specs.Result.{result_and}
use Rattle.std.proofs.lemmas.Bool.{cases_order, not-false}
use Rattle.forms.specs.declared.fault.Fault.{Fault}
use Rattle.forms.specs.Checks.{Verdict, refuse_if, each_of, Answers, InOrder, Earliest, EarliestAnswers}

pub each_none : (f : ℕ → Verdict) → each_of f 0 ≡ Ok tt
unfolding each_of
each_none f = refl

pub each_more : (f : ℕ → Verdict) (i : ℕ) → each_of f i ≡ Ok tt → f i ≡ Ok tt → each_of f (i + 1) ≡ Ok tt
unfolding each_of
each_more f i h e = rw (add-one i) (rw h e)

-- all pass where each does
pub each_all : (f : ℕ → Verdict) (n : ℕ) → ((k : ℕ) → k < n → f k ≡ Ok tt) → each_of f n ≡ Ok tt
each_all f zero h = each_none f
each_all f (suc n) h = rw (← add-one n) (each_more f n (each_all f n (λ k l. h k (omega arith))) (h n (omega arith)))

result_and_assoc : (r q p : Verdict) → result_and (result_and r q) p ≡ result_and r (result_and q p)
result_and_assoc (Ok _) q p = refl
result_and_assoc (Err e) q p = refl

-- two more
pub each_two : (f : ℕ → Verdict) (n : ℕ) → each_of f (n + 2) ≡ result_and (each_of f n) (result_and (f n) (f (n + 1)))
unfolding each_of
each_two f n = let e : n + 2 ≡ suc (suc n) = omega arith in rw (e, add-one n) (result_and_assoc (each_of f n) (f n) (f (suc n)))

pub each_err : (f : ℕ → Verdict) (n i : ℕ) (e : Fault) → i < n → each_of f i ≡ Ok tt → f i ≡ Err e → each_of f n ≡ Err e
unfolding each_of
each_err f zero i e l h b = absurd (omega arith)
each_err f (suc n) i e l h b =
    elim (cases_order i n) [
      | inl q ↦ rw (← q) (rw h b)
      | inr q ↦ elim q [
        | inl m ↦ rw (each_err f n i e m h b) refl
        | inr m ↦ absurd (omega arith)
      ]
    ]

-- the exit: what the check of i refused is what all answer
pub each_exit : (f : ℕ → Verdict) (n i : ℕ) (e : Fault) → i < n → each_of f i ≡ Ok tt → Err e ≡ f i → Err e ≡ each_of f n
each_exit f n i e l h b = sym (each_err f n i e l h (sym b))

answers_each : (f : ℕ → Verdict) (n : ℕ) (P : ℕ → Verdict → Type 0) (r : Verdict) → Answers P n r
    → ((i : ℕ) (v : Verdict) → i < n → P i v → v ≡ f i) → r ≡ each_of f n
answers_each f n P (Ok _) p h = sym (each_all f n (λ k l. sym (h k (Ok tt) l (p k l))))
answers_each f n P (Err e) (i, l, b, p) h =
    each_exit f n i e l (each_all f i (λ k m. sym (h k (Ok tt) (omega arith) (p k m)))) (h i (Err e) l b)

-- what checks in order answer, where each may answer nothing but what f says
pub each_in_order : (f : ℕ → Verdict) (n : ℕ) {P : ℕ → Verdict → Type 0} {r : Verdict} → InOrder P n r
    → ((i : ℕ) (v : Verdict) → i < n → P i v → v ≡ f i) → r ≡ each_of f n
each_in_order f n {P} {r} p h = answers_each f n P r p.answers h

abbrev NoneOf : (ℕ → Verdict) → ℕ → Type 0
NoneOf f n = (k : ℕ) → k < n → f k ≡ Ok tt

abbrev FirstOf : (ℕ → Verdict) → ℕ → Fault → Type 0
FirstOf f n e = (i : ℕ) × (i < n) × (f i ≡ Err e) × NoneOf f i

abbrev IsFirst : (ℕ → Verdict) → ℕ → Verdict → Type 0
IsFirst f n r = MatchResult r (λ _. NoneOf f n) (FirstOf f n)

one_more : (f : ℕ → Verdict) (n : ℕ) (r q : Verdict) → f n ≡ q → IsFirst f n r → IsFirst f (suc n) (result_and r q)
one_more f n (Ok _) (Ok _) e h = λ k l. elim (cases_order k n)
    [ inl p ↦ rw p e | inr p ↦ elim p [ inl m ↦ h k m | inr m ↦ absurd (omega arith) ] ]
one_more f n (Ok _) (Err x) e h = (n, omega arith, e, h)
one_more f n (Err x) q e (i, l, b, h) = (i, omega arith, b, h)

is_first : (f : ℕ → Verdict) (n : ℕ) → IsFirst f n (each_of f n)
unfolding each_of
is_first f zero = λ k l. absurd (omega arith)
is_first f (suc n) = one_more f n (each_of f n) (f n) refl (is_first f n)

none_at : (f : ℕ → Verdict) (m : ℕ) (r : Verdict) → r ≡ Ok tt → IsFirst f m r → NoneOf f m
none_at f m r e h = let P : Verdict → Type 0 = IsFirst f m in subst P e h

first_at : (f : ℕ → Verdict) (m : ℕ) (r : Verdict) (x : Fault) → r ≡ Err x → IsFirst f m r → FirstOf f m x
first_at f m r x e h = let P : Verdict → Type 0 = IsFirst f m in subst P e h

nested : (check : ℕ → ℕ → Verdict) (n q : ℕ) (r : Verdict) → IsFirst (λ i. each_of (check i) q) n r → Earliest check n q r
nested check n q (Ok _) h = λ i l. none_at (check i) q (each_of (check i) q) (h i l) (is_first (check i) q)
nested check n q (Err x) (i, l, b, h) =
    let p = first_at (check i) q (each_of (check i) q) x b (is_first (check i) q) in
    (i, l, (p.0, p.1, p.2, p.3), λ j k. none_at (check j) q (each_of (check j) q) (h j k) (is_first (check j) q))

pub earliest_answers : EarliestAnswers
earliest_answers check n q = nested check n q (each_of (λ i. each_of (check i) q) n) (is_first (λ i. each_of (check i) q) n)

-- each check has passed where all have
pub each_passed : (f : ℕ → Verdict) (n k : ℕ) → each_of f n ≡ Ok tt → k < n → f k ≡ Ok tt
each_passed f n k e l = none_at f n (each_of f n) e (is_first f n) k l

pub passed_left : (r q : Verdict) → result_and r q ≡ Ok tt → r ≡ Ok tt
passed_left (Ok _) q e = refl
passed_left (Err x) q e = e

pub passed_right : (r q : Verdict) → result_and r q ≡ Ok tt → q ≡ Ok tt
passed_right (Ok _) q e = e
passed_right (Err x) q e = cc

-- a check that passed had its test unmet
pub unrefused : (b : Bool) (e : Fault) → refuse_if b e ≡ Ok tt → b ≡ false
unrefused true e h = cc
unrefused false e h = refl

pub allowed : (b : Bool) (e : Fault) → refuse_if (not b) e ≡ Ok tt → b ≡ true
allowed b e h = not-false b (unrefused (not b) e h)
