-- Gaps of unmarked days: what a run counts from day to day, and the rule's laws.
use Rattle.std.specs.Prelude.{◌≡◌, ℕ, ◌+◌, ◌-◌, ◌<◌, ◌≤◌, Bool, true, false, cond, not, ◌&&◌, List, length, nat_le, refl}
use Rattle.std.proofs.Common.{sym, ap, subst, ◌∙◌, inl, inr, arith}
use Rattle.std.proofs.lemmas.List.Elements.{length_all_zip}
use Rattle.std.proofs.lemmas.Bool.{cases_Bool, cases_eq, cases_lt, and_from, and_parts, and_left, and_right, not-true, not_from_true, not_from_false, leb-true, le-leb, lt-leb}
use Rattle.stage.specs.Marked.{on_day, Under}
use Rattle.stage.specs.Rules.{days_where, some_day, unmarked_after, gap_after, in_run, run_on, run}
use Rattle.stage.specs.LawProofs.Counts.{one_if, one_le, days_none, days_more, days_le, days_under, days_same, days_without, some_from, some_found, none_from, none_at, on_day_under}

-- the w days that follow day s are unmarked
abbrev Unmarked : ℕ → List Bool → ℕ → Type 0
Unmarked w xs s = (k : ℕ) → 1 ≤ k → k ≤ w → on_day xs (s + k) ≡ false

-- a gap after day d, up to and including day n
abbrev Gap : ℕ → List Bool → ℕ → ℕ → Type 0
Gap w xs n d = (s : ℕ) × (1 ≤ s) × (d ≤ s) × (s + w ≤ n) × Unmarked w xs s

idle_true : (w : ℕ) (xs : List Bool) (n s : ℕ) → s + w ≤ n → Unmarked w xs s → unmarked_after w xs n s ≡ true
unfolding unmarked_after
idle_true w xs n s h u =
    let marked : ℕ → Bool = λ k. on_day xs (s + k) in
    and_from (nat_le (s + w) n) (not (some_day marked w)) (le-leb (s + w) n h) (not_from_false (some_day marked w) (none_from marked w u))

idle_tells : (w : ℕ) (xs : List Bool) (n s : ℕ) → unmarked_after w xs n s ≡ true → (s + w ≤ n) × Unmarked w xs s
unfolding unmarked_after
idle_tells w xs n s e =
    let marked : ℕ → Bool = λ k. on_day xs (s + k) in
    let p = and_parts (nat_le (s + w) n) (not (some_day marked w)) e in
    (leb-true (s + w) n p.0, λ k low high. none_at marked w k (not-true (some_day marked w) p.1) low high)

pub gap_true : (w : ℕ) (xs : List Bool) (n d : ℕ) → Gap w xs n d → gap_after w xs n d ≡ true
unfolding gap_after
gap_true w xs n d (s, low, after, high, u) =
    some_from (λ k. nat_le d k && unmarked_after w xs n k) n s low (omega arith)
    (and_from (nat_le d s) (unmarked_after w xs n s) (le-leb d s after) (idle_true w xs n s high u))

pub gap_tells : (w : ℕ) (xs : List Bool) (n d : ℕ) → gap_after w xs n d ≡ true → Gap w xs n d
unfolding gap_after
gap_tells w xs n d e =
    let q = some_found (λ k. nat_le d k && unmarked_after w xs n k) n e in
    let s = q.0 in
    let p = and_parts (nat_le d s) (unmarked_after w xs n s) q.3 in
    let r = idle_tells w xs n s p.1 in
    (s, q.1, leb-true d s p.0, r.0, r.1)

-- two tests that tell the same are one
same_test : (x y : Bool) → (x ≡ true → y ≡ true) → (y ≡ true → x ≡ true) → x ≡ y
same_test true y f g = sym (f refl)
same_test false true f g = g refl
same_test false false f g = refl

contrary : (x y : Bool) → (y ≡ true → x ≡ true) → not x ≡ true → not y ≡ true
contrary x true h e = absurd (let z : ◌≡◌ {A = ℕ} 0 1 = cc (not_from_true x (h refl), e) in omega arith)
contrary x false h e = refl

-- the z days up to day n are unmarked, and the day before them, if there is one, is marked
pub record Idle (xs : List Bool) (n z : ℕ) : Type 0 where
  pub within : z ≤ n
  pub unmarked : (d : ℕ) → n < d + z → d ≤ n → on_day xs d ≡ false
  pub before : z < n → on_day xs (n - z) ≡ true

pub idle_none : (xs : List Bool) → Idle xs 0 0
idle_none xs = record { within = omega arith; unmarked = λ d low high. absurd (omega arith); before = λ h. absurd (omega arith) }

idle_marked : (xs : List Bool) (n : ℕ) → on_day xs n ≡ true → Idle xs n 0
idle_marked xs n e =
    record {
      within = omega arith;
      unmarked = λ d low high. absurd (omega arith);
      before = λ h. ap (on_day xs) (let f : n - 0 ≡ n = omega arith in f) ∙ e;
    }

idle_more : (xs : List Bool) (i z : ℕ) → on_day xs (i + 1) ≡ false → Idle xs i z → Idle xs (i + 1) (z + 1)
idle_more xs i z e h =
    record {
      within = omega (arith, h.within);
      unmarked = λ d a b. elim (cases_eq d (i + 1)) [
        | inl f ↦ ap (on_day xs) f ∙ e
        | inr f ↦ h.unmarked d (omega arith) (omega arith)
      ];
      before = λ l. ap (on_day xs) (let f : i + 1 - (z + 1) ≡ i - z = omega arith in f) ∙ h.before (omega arith);
    }

-- while the idle days are fewer than w, one day more closes no gap
no_new_gap : (w : ℕ) (xs : List Bool) (i z d : ℕ) → Idle xs (i + 1) z → z < w → gap_after w xs (i + 1) d ≡ gap_after w xs i d
no_new_gap w xs i z d h few =
    same_test (gap_after w xs (i + 1) d) (gap_after w xs i d)
    (λ e. let g = gap_tells w xs (i + 1) d e in
    elim (cases_eq (g.0 + w) (i + 1)) [
      | inl f ↦
          let k : ℕ = i + 1 - z - g.0 in
          let there : g.0 + k ≡ i + 1 - z = omega arith in
          let un = g.4 k (omega arith) (omega arith) in
          absurd (let z : ◌≡◌ {A = ℕ} 0 1 = cc (ap (on_day xs) there, un, h.before (omega arith)) in omega arith)
      | inr f ↦ gap_true w xs i d (g.0, g.1, g.2, omega arith, g.4)
    ])
    (λ e. let g = gap_tells w xs i d e in gap_true w xs (i + 1) d (g.0, g.1, g.2, omega arith, g.4))

-- no gap lies after the last day
no_gap_at_end : (w : ℕ) (xs : List Bool) (n : ℕ) → 0 < w → gap_after w xs n n ≡ false
no_gap_at_end w xs n few =
    elim (cases_Bool (gap_after w xs n n)) [
      | inl e ↦ let g = gap_tells w xs n n e in absurd (omega arith)
      | inr e ↦ e
    ]

and_not_false : (x y : Bool) → y ≡ false → (x && not y) ≡ x
and_not_false true y e = not_from_false y e
and_not_false false y e = refl

pub run_at_end : (w : ℕ) (xs : List Bool) (n : ℕ) → 0 < w → in_run w xs n n ≡ on_day xs n
unfolding in_run
run_at_end w xs n few = and_not_false (on_day xs n) (gap_after w xs n n) (no_gap_at_end w xs n few)

run_kept : (w : ℕ) (xs : List Bool) (i z d : ℕ) → Idle xs (i + 1) z → z < w → in_run w xs (i + 1) d ≡ in_run w xs i d
unfolding in_run
run_kept w xs i z d h few = ap (λ b. on_day xs d && not b) (no_new_gap w xs i z d h few)

pub run_none : (w : ℕ) (xs : List Bool) → run_on w xs 0 ≡ 0
unfolding run_on
run_none w xs = days_none (in_run w xs 0)

-- one day more, with fewer than w idle days: it counts if it is marked
run_more : (w : ℕ) (xs : List Bool) (i z : ℕ) → Idle xs (i + 1) z → z < w → run_on w xs (i + 1) ≡ run_on w xs i + one_if (on_day xs (i + 1))
unfolding run_on
run_more w xs i z h few =
    days_more (in_run w xs (i + 1)) i
    ∙ ap (λ b. days_where (in_run w xs (i + 1)) i + one_if b) (run_at_end w xs (i + 1) (omega arith))
    ∙ ap (λ m. m + one_if (on_day xs (i + 1))) (days_same (in_run w xs (i + 1)) (in_run w xs i) i (λ d. run_kept w xs i z d h few))

marked_early : (w : ℕ) (xs : List Bool) (n z d : ℕ) → Idle xs n z → w ≤ z → 1 ≤ d → d ≤ n → on_day xs d ≡ true → gap_after w xs n d ≡ true
marked_early w xs n z d h many low high e =
    elim (cases_lt n (d + z)) [
      | inl l ↦ absurd (let z : ◌≡◌ {A = ℕ} 0 1 = cc (h.unmarked d l high, e) in omega arith)
      | inr l ↦
          gap_true w xs n d
          (n - w, omega arith, omega arith, omega arith, λ k a b. h.unmarked (n - w + k) (omega arith) (omega arith))
    ]

-- with w idle days no day counts
run_ended : (w : ℕ) (xs : List Bool) (n z : ℕ) → Idle xs n z → w ≤ z → run_on w xs n ≡ 0
unfolding run_on in_run
run_ended w xs n z h many =
    days_without (in_run w xs n) n
    (λ d low high. elim (cases_Bool (on_day xs d)) [
      | inl e ↦ and_right (on_day xs d) (not (gap_after w xs n d)) (not_from_true (gap_after w xs n d) (marked_early w xs n z d h many low high e))
      | inr e ↦ and_left (on_day xs d) (not (gap_after w xs n d)) e
    ])

-- one day more: n days count and the last z are idle, and n' and z' are so after it
pub run_turn : (w : ℕ) (xs : List Bool) (i j z z' n n' : ℕ) → j ≡ i + 1 → Idle xs i z → n ≡ run_on w xs i → z' ≡ cond (on_day xs j) 0 (z + 1)
    → n' ≡ cond (nat_le w z') 0 (n + one_if (on_day xs j)) → (n' ≤ n + 1) × (n' ≡ run_on w xs j) × Idle xs j z'
run_turn w xs i j z z' n n' next h e f g =
    let idle : Idle xs (i + 1) z' =
    elim (cases_Bool (on_day xs j)) [
      | inl m ↦ subst (Idle xs (i + 1)) (sym (rw m at f)) (idle_marked xs (i + 1) (ap (on_day xs) (sym next) ∙ m))
      | inr m ↦ subst (Idle xs (i + 1)) (sym (rw m at f)) (idle_more xs i z (ap (on_day xs) (sym next) ∙ m) h)
    ] in
    let count : n' ≡ run_on w xs (i + 1) =
    elim (cases_lt z' w) [
      | inl l ↦ omega (arith, rw (lt-leb w z' l) at g, run_more w xs i z' idle l, ap (λ d. one_if (on_day xs d)) next)
      | inr l ↦ (rw (le-leb w z' l) at g) ∙ sym (run_ended w xs (i + 1) z' idle l)
    ] in
    let few : n' ≤ n + 1 =
    elim (cases_lt z' w) [
      | inl l ↦ omega (arith, rw (lt-leb w z' l) at g, one_le (on_day xs j))
      | inr l ↦ omega (arith, rw (le-leb w z' l) at g)
    ] in
    (few, count ∙ ap (run_on w xs) (sym next), subst (λ d. Idle xs d z') (sym next) idle)

pub run_le : (w : ℕ) (xs : List Bool) → run w xs ≤ length xs
unfolding run run_on
run_le w xs = days_le (in_run w xs (length xs)) (length xs)

not_marked : (xs ys : List Bool) (d : ℕ) → Under xs ys → on_day ys d ≡ false → on_day xs d ≡ false
not_marked xs ys d h e =
    elim (cases_Bool (on_day xs d)) [
      | inl f ↦ absurd (let z : ◌≡◌ {A = ℕ} 0 1 = cc (on_day_under xs ys d h f, e) in omega arith)
      | inr f ↦ f
    ]

gap_under : (w : ℕ) (xs ys : List Bool) (n d : ℕ) → Under xs ys → gap_after w ys n d ≡ true → gap_after w xs n d ≡ true
gap_under w xs ys n d h e =
    let g = gap_tells w ys n d e in
    gap_true w xs n d (g.0, g.1, g.2, g.3, λ k low high. not_marked xs ys (g.0 + k) h (g.4 k low high))

in_run_under : (w : ℕ) (xs ys : List Bool) (n d : ℕ) → Under xs ys → in_run w xs n d ≡ true → in_run w ys n d ≡ true
unfolding in_run
in_run_under w xs ys n d h e =
    let p = and_parts (on_day xs d) (not (gap_after w xs n d)) e in
    and_from (on_day ys d) (not (gap_after w ys n d)) (on_day_under xs ys d h p.0)
    (contrary (gap_after w xs n d) (gap_after w ys n d) (gap_under w xs ys n d h) p.1)

pub run_under : (w : ℕ) (xs ys : List Bool) → Under xs ys → run w xs ≤ run w ys
unfolding run run_on
run_under w xs ys h =
    subst (λ n. run w xs ≤ days_where (in_run w ys n) n) (length_all_zip _ xs ys h)
    (days_under (in_run w xs (length xs)) (in_run w ys (length xs)) (length xs) (λ d. in_run_under w xs ys (length xs) d h))
