-- Counts and first places, one step on.
use Rattle.std.proofs.Common.{◌≡◌, ℕ, zero, suc, ◌+◌, ◌<◌, ◌≤◌, ◌⊎◌, inl, inr, Bool, true, false, cond, Some, None, Option, is_some, [], ◌∷◌, ◌++◌, ◌||◌, refl, sym, ap, ◌∙◌, add-one, arith}
use mir.Val.{bool_byte}
use Rattle.std.specs.List.{range_with_len, list_any}
use Rattle.std.proofs.lemmas.List.Folds.{list_any-append}
use Rattle.std.proofs.lemmas.Bool.{cases_Bool, cases_order}
use Rattle.std.specs.Option.{option_or}
use Rattle.message.proofs.Search.{range_more}
use Rattle.message.specs.Places.{first_of}
use Rattle.settlement.specs.Sums.{sumℕ}
use Rattle.book.specs.Tallies.{count_where}

pub count_none : (p : ℕ → Bool) → count_where p 0 ≡ 0
unfolding count_where sumℕ
count_none p = refl

-- one more, by the number of its test
told : (b : Bool) → bool_byte b ≡ cond b 1 0
told true = refl
told false = refl

pub at_most_one : (b : Bool) → bool_byte b ≤ 1
at_most_one true = omega arith
at_most_one false = omega arith

pub count_next : (p : ℕ → Bool) (n : ℕ) → count_where p n + bool_byte (p n) ≡ count_where p (n + 1)
unfolding count_where sumℕ
count_next p n = rw (add-one n) (ap (λ k. count_where p n + k) (told (p n)))

-- whether some number below n meets a test, and whether there is a first
or_there : (o : Option ℕ) (b : Bool) (n : ℕ) → (is_some o || (b || false)) ≡ is_some (option_or o (cond b (Some n) None))
or_there (Some i) b n = refl
or_there None true n = refl
or_there None false n = refl

pub any_first : (p : ℕ → Bool) (n : ℕ) → list_any p (range_with_len 0 n) ≡ is_some (first_of p n)
unfolding first_of
any_first p zero = refl
any_first p (suc n) =
    let last : 0 + n ≡ n = omega arith in
    ap (list_any p) (range_more 0 n ∙ ap (λ k. range_with_len 0 n ++ k ∷ []) last) ∙ list_any-append p (range_with_len 0 n) (n ∷ []) ∙ ap (λ b. b || (p n || false)) (any_first p n) ∙ or_there (first_of p n) (p n) n

-- where none is counted none meets the test
pub uncounted : (p : ℕ → Bool) (n : ℕ) → count_where p n ≡ 0 → (k : ℕ) → k < n → p k ≡ false
unfolding count_where sumℕ
uncounted p zero e k l = absurd (omega arith)
uncounted p (suc n) e k l =
    elim (cases_Bool (p k)) [
      | inr other ↦ other
      | inl there ↦
          elim (cases_order k n) [
            | inl same ↦ let o : ◌≡◌ {A = ℕ} (cond (p n) 1 0) 1 = ap (λ b. cond b 1 0) (ap p (sym same) ∙ there) in absurd (omega (arith, e, o))
            | inr apart ↦ uncounted p n (omega (arith, e)) k (below k n l apart)
          ]
    ]
  where
    below : (k n : ℕ) → k < suc n → (k < n) ⊎ (n < k) → k < n
    below k n l (inl less) = less
    below k n l (inr more) = absurd (omega arith)

-- and there is no first
pub none_first : (p : ℕ → Bool) (n : ℕ) → ((k : ℕ) → k < n → p k ≡ false) → first_of p n ≡ None
unfolding first_of
none_first p zero h = refl
none_first p (suc n) h = rw (none_first p n (λ k l. h k (omega arith)), h n (omega arith)) refl
