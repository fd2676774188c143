-- What a day's sums come to when something is added to them.
use Rattle.std.proofs.Common.{◌≡◌, ℕ, zero, suc, ◌+◌, ◌<◌, List, [], length, get_or, set, replicate, ℤ, pos, ◌+ℤ◌, ◌-ℤ◌, sym, refl, subst, inl, inr, arith}
use Rattle.std.proofs.lemmas.Bool.{cases_eq}
use Rattle.std.proofs.lemmas.Int.{ints}
use Rattle.std.proofs.lemmas.List.{get_or-set_same, get_or-set_other, get_or-replicate}
use Rattle.forms.specs.Bounds.{most_groups}
use Rattle.settlement.specs.Days.{day_net, sums_of}
use Rattle.settlement.specs.Sheets.{words_per_slot}

-- what is taken less what is given: nothing yet, and one addition to each more
pub blank : (n t : ℕ) → ◌≡◌ {A = ℕ} (get_or (replicate n 0) t 0) 0
blank zero t = refl
blank (suc n) zero = refl
blank (suc n) (suc t) = blank n t

pub net_none : (n t : ℕ) → day_net (replicate n 0) (replicate n 0) t ≡ pos 0
net_none n t = rw (blank n t) refl

pub net_more : (xs ys xs' ys' : List ℕ) (t i o : ℕ) (z : ℤ) → get_or xs' t 0 ≡ get_or xs t 0 + i → get_or ys' t 0 ≡ get_or ys t 0 + o
    → day_net xs ys t ≡ z → day_net xs' ys' t ≡ z +ℤ (pos i -ℤ pos o)
net_more xs ys xs' ys' t i o z p q e = omega (arith, ints, p, q, e)

-- what holds of the new list where one of several is replaced, and of each other list, holds of each
pub each_set : (P : ℕ → List ℕ → Type 0) (lists lists' : List (List ℕ)) (b : ℕ) (xs : List ℕ) → lists' ≡ set lists b xs → b < length lists
    → P b xs → ((k : ℕ) → (k ≡ b → ⊥) → P k (sums_of lists k)) → (k : ℕ) → P k (sums_of lists' k)
each_set P lists lists' b xs is within here others k =
    subst (λ l. P k (sums_of l k)) (sym is) (elim (cases_eq k b) [
      | inl e ↦ subst (λ j. P j (sums_of (set lists b xs) j)) (sym e) (subst (P b) (sym (get_or-set_same lists b xs [] within)) here)
      | inr n ↦ subst (P k) (sym (get_or-set_other lists b k xs [] n)) (others k n)
    ])

-- of lists of sums that are all blank, each is
pub blank_sums : (k : ℕ) → k < most_groups → sums_of (replicate most_groups (replicate words_per_slot 0)) k ≡ replicate words_per_slot 0
blank_sums k l = get_or-replicate most_groups k (replicate words_per_slot 0) [] l
