-- The numbers of a range that has its last number with it, as a list.
use Rattle.std.proofs.Common.{◌≡◌, ℕ, suc, ◌+◌, ◌-◌, Bool, true, false, List, ◌∷◌, refl, sym, ap, subst, ◌∙◌, arith}
use Rattle.std.proofs.iter.runs.Sources.{nat_range_inclusive_steps}
use Rattle.std.proofs.lemmas.Iterator.{YieldsList}
use Rattle.std.proofs.lemmas.Iterator.Consumers.{YieldsList-from_shown}
use Rattle.std.proofs.lemmas.List.FromFn.{length-range_with_len}
use Rattle.std.specs.List.{range_with_len}
use Rattle.std.specs.Range.{range_inclusive_len, range_inclusive_start, range_inclusive_end, range_inclusive_exhausted}
use Rattle.std.specs.declared.ops.RangeInclusive.{RangeInclusive}

-- how many numbers are left
abbrev left : RangeInclusive ℕ → ℕ
left s = range_inclusive_len (λ x y. y - x) (range_inclusive_start s) (range_inclusive_end s) (range_inclusive_exhausted s)

next : (a n : ℕ) (s : RangeInclusive ℕ) (e : Bool) → range_inclusive_exhausted s ≡ e → (e ≡ false → range_inclusive_start s ≡ a + 1)
    → n ≡ suc (left s) → range_with_len a n ≡ a ∷ range_with_len (range_inclusive_start s) (left s)
next a n s true e on m =
    let none : left s ≡ 0 = ap (range_inclusive_len (λ x y. y - x) (range_inclusive_start s) (range_inclusive_end s)) e in
    ap (range_with_len a) m ∙ ap (λ k. a ∷ range_with_len (a + 1) k) none ∙ sym (ap (λ k. a ∷ range_with_len (range_inclusive_start s) k) none)
next a n s false e on m = ap (range_with_len a) m ∙ ap (λ b. a ∷ range_with_len b (left s)) (sym (on refl))

pub YieldsList-from_inclusive : {s : RangeInclusive ℕ} (a n : ℕ) → range_inclusive_start s ≡ a → range_inclusive_exhausted s ≡ false → range_inclusive_end s + 1 - a ≡ n
    → YieldsList nat_range_inclusive_steps (λ x. x) s (range_with_len a n)
YieldsList-from_inclusive {s} a n e f g =
    let whole : left s ≡ n = omega (arith, ap (range_inclusive_len (λ x y. y - x) (range_inclusive_start s) (range_inclusive_end s)) f) in
    let shown : RangeInclusive ℕ → List ℕ = λ r. range_with_len (range_inclusive_start r) (left r) in
    subst (YieldsList nat_range_inclusive_steps (λ x. x) s) (ap (λ b. range_with_len b (left s)) e ∙ ap (range_with_len a) whole)
    (YieldsList-from_shown nat_range_inclusive_steps (λ x. x) shown
    (λ r t h. omega (arith, h.1.0, length-range_with_len (range_inclusive_start r) (left r)))
    (λ r x t h. next (range_inclusive_start r) (left r) t (range_inclusive_exhausted t) refl h.1.2 (omega (arith, h.1.1)) ∙ ap (λ y. y ∷ range_with_len (range_inclusive_start t) (left t)) (sym h.1.0))
    s)
