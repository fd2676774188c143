-- A search for the first that meets a test, and what it finds.
use Rattle.std.proofs.Common.{◌≡◌, ℕ, zero, suc, ◌+◌, ◌<◌, Bool, true, false, cond, [], ◌∷◌, ◌++◌, is_some, Some, None, Option, refl, sym, subst, ap, ◌∙◌, inl, inr, add-zero, add-one, arith}
use Rattle.std.specs.List.{range_with_len}
use Rattle.std.specs.Option.{option_or}
use Rattle.std.proofs.lemmas.Bool.{cases_order}
use Rattle.message.specs.Places.{first_of, IsFirst}

-- the numbers 0, 1, .., n
pub range_more : (a n : ℕ) → range_with_len a (suc n) ≡ range_with_len a n ++ (a + n) ∷ []
range_more a zero = ap (λ k. k ∷ []) (sym (add-zero a))
range_more a (suc n) = ap (λ l. a ∷ l) (range_more (a + 1) n ∙ ap (λ k. range_with_len (a + 1) n ++ k ∷ []) (omega arith))

pub none_from : (o : Option ℕ) → is_some o ≡ false → o ≡ None
none_from None h = refl
none_from (Some i) h = cc

pub first_none : (test : ℕ → Bool) → first_of test 0 ≡ None
unfolding first_of
first_none test = refl

pub first_found : (test : ℕ → Bool) (n i : ℕ) → i < n → first_of test i ≡ None → test i ≡ true → first_of test n ≡ Some i
unfolding first_of
first_found test zero i l h e = absurd (omega arith)
first_found test (suc n) i l h e =
    elim (cases_order i n) [
      | inl p ↦ rw (← p) (rw (h, e) refl)
      | inr p ↦ elim p [
        | inl m ↦ rw (first_found test n i m h e) refl
        | inr m ↦ absurd (omega arith)
      ]
    ]

one_more : (test : ℕ → Bool) (n : ℕ) (r : Option ℕ) (b : Bool) → test n ≡ b → IsFirst test n r → IsFirst test (suc n) (option_or r (cond b (Some n) None))
one_more test n (Some i) b e (l, met, before) = (omega arith, met, before)
one_more test n None true e h = (omega arith, e, h)
one_more test n None false e h = λ k l. elim (cases_order k n)
    [ inl p ↦ rw p e | inr p ↦ elim p [ inl m ↦ h k m | inr m ↦ absurd (omega arith) ] ]

-- what is found is the first
pub first_is_first : (test : ℕ → Bool) (n : ℕ) → IsFirst test n (first_of test n)
unfolding first_of
first_is_first test zero = λ k l. absurd (omega arith)
first_is_first test (suc n) = one_more test n (first_of test n) (test n) refl (first_is_first test n)

-- the same of any answer that is equal to it
pub first_at : (test : ℕ → Bool) (n : ℕ) (r : Option ℕ) → first_of test n ≡ r → IsFirst test n r
first_at test n r e = let P : Option ℕ → Type 0 = IsFirst test n in subst P e (first_is_first test n)

-- one more that does not meet it
or_no : (o : Option ℕ) → option_or o None ≡ o
or_no (Some k) = refl
or_no None = refl

pub first_no : (p : ℕ → Bool) (n : ℕ) → p n ≡ false → first_of p (n + 1) ≡ first_of p n
unfolding first_of
first_no p n e = rw (add-one n) (rw e (or_no (first_of p n)))
