-- The window of days that a rolling count looks at: a loop over it, and the rule's laws.
use Rattle.std.specs.Prelude.{◌≡◌, ℕ, zero, suc, ◌+◌, ◌-◌, ◌<◌, ◌≤◌, Bool, true, false, ◌&&◌, List, length, filter, count_by, nat_lt, refl}
use Rattle.std.specs.List.{range_with_len}
use Rattle.std.proofs.Common.{sym, ap, subst, ◌∙◌, add-zero, arith}
use Rattle.std.proofs.lemmas.List.Elements.{length_all_zip}
use Rattle.std.proofs.lemmas.List.Sums.{sum_by-cons, length-filter}
use Rattle.std.proofs.lemmas.Bool.{and_from, and_parts, and_right, lt-ltb, le-ltb}
use Rattle.stage.specs.Marked.{on_day, Under}
use Rattle.stage.specs.Rules.{days_where, in_window, rolling}
use Rattle.stage.specs.LawProofs.Counts.{one_if, days_le, days_more, days_under, days_without, on_day_under}

outside : (w : ℕ) (xs : List Bool) (n d : ℕ) → d + w ≤ n → in_window w xs n d ≡ false
unfolding in_window
outside w xs n d h = and_right (on_day xs d) (nat_lt n (d + w)) (le-ltb n (d + w) h)

and_true : (x y : Bool) → y ≡ true → (x && y) ≡ x
and_true true y e = e
and_true false y e = refl

inside : (w : ℕ) (xs : List Bool) (n d : ℕ) → n < d + w → in_window w xs n d ≡ on_day xs d
unfolding in_window
inside w xs n d h = and_true (on_day xs d) (nat_lt n (d + w)) (lt-ltb n (d + w) h)

-- before the window no day counts
window_none : (w : ℕ) (xs : List Bool) (n i : ℕ) → i ≤ n - w → days_where (in_window w xs n) i ≡ 0
window_none w xs n i h = days_without (in_window w xs n) i (λ d low high. outside w xs n d (omega arith))

-- in the window a day counts if it is marked
window_more : (w : ℕ) (xs : List Bool) (n i : ℕ) → n < i + 1 + w
    → days_where (in_window w xs n) (i + 1) ≡ days_where (in_window w xs n) i + one_if (on_day xs (i + 1))
window_more w xs n i h =
    days_more (in_window w xs n) i
    ∙ ap (λ b. days_where (in_window w xs n) i + one_if b) (inside w xs n (i + 1) h)

window_counts : (w : ℕ) (xs : List Bool) (n i k : ℕ) → n ≤ i + w
    → days_where (in_window w xs n) (i + k) ≡ days_where (in_window w xs n) i + count_by (on_day xs) (range_with_len (i + 1) k)
window_counts w xs n i zero h = omega (arith, ap (days_where (in_window w xs n)) (add-zero i))
window_counts w xs n i (suc k) h =
    let on : i + suc k ≡ i + 1 + k = omega arith in
    let first = sum_by-cons (λ d. one_if (on_day xs d)) (i + 1) (range_with_len (i + 1 + 1) k) in
    omega (arith, ap (days_where (in_window w xs n)) on, window_counts w xs n (i + 1) k (omega arith), window_more w xs n i (omega arith))

-- what a rolling count is: the marked days of the window
pub rolling_counts : (w : ℕ) (xs : List Bool) (n : ℕ) → n ≡ length xs → rolling w xs ≡ length (filter (on_day xs) (range_with_len (n - w + 1) (n - (n - w))))
unfolding rolling
rolling_counts w xs n e =
    let i : ℕ = length xs - w in
    let to_end : i + (length xs - i) ≡ length xs = omega arith in
    rw e (sym (ap (days_where (in_window w xs (length xs))) to_end) ∙ window_counts w xs (length xs) i (length xs - i) (omega arith)
    ∙ omega (arith, window_none w xs (length xs) i (omega arith), length-filter (on_day xs) (range_with_len (i + 1) (length xs - i))))

pub rolling_le : (w : ℕ) (xs : List Bool) → rolling w xs ≤ length xs
unfolding rolling
rolling_le w xs = days_le (in_window w xs (length xs)) (length xs)

window_under : (w : ℕ) (xs ys : List Bool) (n d : ℕ) → Under xs ys → in_window w xs n d ≡ true → in_window w ys n d ≡ true
unfolding in_window
window_under w xs ys n d h e =
    let p = and_parts (on_day xs d) (nat_lt n (d + w)) e in
    and_from (on_day ys d) (nat_lt n (d + w)) (on_day_under xs ys d h p.0) p.1

pub rolling_under : (w : ℕ) (xs ys : List Bool) → Under xs ys → rolling w xs ≤ rolling w ys
unfolding rolling
rolling_under w xs ys h =
    subst (λ n. rolling w xs ≤ days_where (in_window w ys n) n) (length_all_zip _ xs ys h)
    (days_under (in_window w xs (length xs)) (in_window w ys (length xs)) (length xs) (λ d. window_under w xs ys (length xs) d h))
