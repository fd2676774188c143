-- Counts over a journal, and parts of it, when an entry is added.
use Rattle.std.proofs.Common.{◌≡◌, ℕ, ◌+◌, ◌-◌, ◌<◌, Bool, true, false, cond, ◌&&◌, eqb, ◌∷◌, count_by, ap, ◌∙◌, arith}
use Rattle.std.proofs.lemmas.List.Sums.{sum_by-cons}
use Rattle.std.proofs.lemmas.Bool.{eq-eqb, ne_eqb, and_from, and_right, cond-true, cond-false}
use Rattle.journal.specs.Journals.{Entry, Journal, before, closed_here, closes, closing_form, form_in}

module _ (p : Entry → Bool) (e : Entry) (j : Journal) where
  pub one_more : p e ≡ true → count_by p (e ∷ j) ≡ count_by p j + 1
  one_more h = sum_by-cons (λ x. cond (p x) 1 0) e j ∙ ap (λ b. cond b 1 0 + count_by p j) h ∙ omega arith

  pub no_more : p e ≡ false → count_by p (e ∷ j) ≡ count_by p j
  no_more h = sum_by-cons (λ x. cond (p x) 1 0) e j ∙ ap (λ b. cond b 1 0 + count_by p j) h ∙ omega arith

  -- what came before an entry that is passed already stays, and before the newest comes the rest
  pub before_kept : (n : ℕ) → n < count_by p j → before p n (e ∷ j) ≡ before p n j
  unfolding before
  before_kept n l = cond-false (p e && eqb (count_by p j) n) j (before p n j) (and_right (p e) (eqb (count_by p j) n) (ne_eqb (count_by p j) n (λ h. omega arith)))

  pub before_now : (n : ℕ) → p e ≡ true → count_by p j ≡ n → before p n (e ∷ j) ≡ j
  unfolding before
  before_now n h k = cond-true (p e && eqb (count_by p j) n) j (before p n j) (and_from (p e) (eqb (count_by p j) n) h (eq-eqb (count_by p j) n k))

pub form_kept : (e : Entry) (j : Journal) (day : ℕ) → day - 1 < closes j → closing_form day (e ∷ j) ≡ closing_form day j
unfolding closing_form
form_kept e j day l =
    cond-false (closed_here e && eqb (closes j) (day - 1)) (form_in e) (closing_form day j)
    (and_right (closed_here e) (eqb (closes j) (day - 1)) (ne_eqb (closes j) (day - 1) (λ h. omega arith)))

pub form_now : (e : Entry) (j : Journal) (day : ℕ) → closed_here e ≡ true → closes j ≡ day - 1 → closing_form day (e ∷ j) ≡ form_in e
unfolding closing_form
form_now e j day h k =
    cond-true (closed_here e && eqb (closes j) (day - 1)) (form_in e) (closing_form day j)
    (and_from (closed_here e) (eqb (closes j) (day - 1)) h (eq-eqb (closes j) (day - 1) k))
