-- Checks one after another: the first fault answers.
use Rattle.std.specs.Prelude.{◌≡◌, ℕ, zero, suc, ◌<◌, Bool, cond, Ok, Err, Result, MatchResult}
use Rattle.std.specs.Result.{result_and}
use Rattle.forms.specs.declared.fault.Fault.{Fault}

-- nothing to object to, or a fault
abbrev pub Verdict : Type 0
Verdict = Result (Unit {0}) Fault

-- whether an answer is a fault, and which
abbrev pub verdict : {T : Type 0} → Result T Fault → Verdict
verdict r = result_and r (Ok tt)

-- the fault where the test is met
abbrev pub refuse_if : Bool → Fault → Verdict
refuse_if b e = cond b (Err e) (Ok tt)

-- the answer where the checks have passed, else their fault
abbrev pub answer_if : {A : Type 0} → Verdict → A → Result A Fault
answer_if check x = result_and check (Ok x)

-- what stands after checks that passed, or what stood before
abbrev pub if_passed : {A B : Type 0} → Result A Fault → B → B → B
if_passed (Ok _) after before = after
if_passed (Err e) after before = before

-- what a test that finds something answers: what it found, of which P holds, or its fault
abbrev pub Finds : {A : Type 0} → Result A Fault → Verdict → (A → Type 0) → Type 0
Finds r check P = MatchResult r (λ x. (check ≡ Ok tt) × P x) (λ e. check ≡ Err e)

-- the checks of 0, 1, .., n - 1 in this order
unfoldable pub each_of : (ℕ → Verdict) → ℕ → Verdict
each_of f zero = Ok tt
each_of f (suc n) = result_and (each_of f n) (f n)

-- r is what checks of 0, 1, .., n - 1 answer in this order, where P says what the check of each may answer.
abbrev pub Answers : (ℕ → Verdict → Type 0) → ℕ → Verdict → Type 0
Answers P n (Ok _) = (k : ℕ) → k < n → P k (Ok tt)
Answers P n (Err e) = (i : ℕ) × (i < n) × P i (Err e) × ((k : ℕ) → k < i → P k (Ok tt))

pub record InOrder (P : ℕ → Verdict → Type 0) (n : ℕ) (r : Verdict) : Type 0 where
  pub answers : Answers P n r

-- What answers over series i and quarter hours t is the earliest series, and in it the earliest quarter hour.
abbrev pub Earliest : (ℕ → ℕ → Verdict) → ℕ → ℕ → Verdict → Type 0
Earliest check n q (Ok _) = (i : ℕ) → i < n → (t : ℕ) → t < q → check i t ≡ Ok tt
Earliest check n q (Err e) = (i : ℕ) × (i < n) × ((t : ℕ) × (t < q) × (check i t ≡ Err e) × ((u : ℕ) → u < t → check i u ≡ Ok tt))
    × ((j : ℕ) → j < i → (u : ℕ) → u < q → check j u ≡ Ok tt)

abbrev pub EarliestAnswers : Type 0
EarliestAnswers = (check : ℕ → ℕ → Verdict) (n q : ℕ) → Earliest check n q (each_of (λ i. each_of (check i) q) n)
