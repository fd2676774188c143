-- What is reckoned of earlier days stays when an entry is added.
use Rattle.std.proofs.Common.{◌≡◌, ℕ, ◌+◌, ◌-◌, ◌*◌, ◌<◌, ◌≤◌, ◌∷◌, map, length, ap, ◌∙◌, arith}
use Rattle.std.specs.List.{range_with_len}
use Rattle.std.proofs.lemmas.List.FromFn.{length-map-range_with_len, get_or-map-range_with_len, fill_by_all}
use Rattle.forms.specs.Calendar.{quarters}
use Rattle.forms.specs.Closings.{feed_in, long_price, short_price}
use Rattle.forms.specs.Figures.{Terms, group_count, figures_at}
use Rattle.settlement.specs.Amounts.{is_marked, row_for, penalty, balance_amount}
use Rattle.settlement.specs.Positions.{day_excess}
use Rattle.journal.specs.Journals.{Entry, Journal, advanced_here, closed_here, closes, cut_offs, says}
use Rattle.journal.specs.Reckoned.{excess_on, mark, marks_to, penalty_on, balance_on}
use Rattle.stage.specs.Rules.{Meaning}
use Rattle.journal.proofs.Counting.{before_kept, form_kept}

-- the same of every place, the same list
pub mapped_same : {A : Type 0} (f h : ℕ → A) (n : ℕ) → ((k : ℕ) → k < n → f k ≡ h k) → map f (range_with_len 0 n) ≡ map h (range_with_len 0 n)
mapped_same f h n same =
    fill_by_all h (map f (range_with_len 0 n)) n (f 0) (length-map-range_with_len f 0 n)
    (λ k l. get_or-map-range_with_len f 0 n k k (f 0) l (omega arith) ∙ same k l)

pub marks_same : (terms : Terms) (j k : Journal) (a day : ℕ) → ((d : ℕ) → 1 ≤ d → d ≤ day → mark terms j a d ≡ mark terms k a d) → marks_to terms j a day ≡ marks_to terms k a day
unfolding marks_to
marks_same terms j k a day h = mapped_same (λ i. mark terms j a (i + 1)) (λ i. mark terms k a (i + 1)) day (λ i l. h (i + 1) (omega arith) (omega arith))

pub length_marks_to : (terms : Terms) (j : Journal) (a day : ℕ) → length (marks_to terms j a day) ≡ day
unfolding marks_to
length_marks_to terms j a day = length-map-range_with_len (λ k. mark terms j a (k + 1)) 0 day

module _ (terms : Terms) (e : Entry) (j : Journal) (a : ℕ) where
  pub excess_kept : (day : ℕ) → 1 ≤ day → day ≤ cut_offs j → excess_on terms (e ∷ j) a day ≡ excess_on terms j a day
  unfolding excess_on
  excess_kept day l h =
      ap (λ part. day_excess (says part) (figures_at terms a) (group_count terms) a (quarters day))
      (before_kept advanced_here e j (2 * day - 1) (omega arith))

  pub marks_kept : (day : ℕ) → day ≤ cut_offs j → marks_to terms (e ∷ j) a day ≡ marks_to terms j a day
  marks_kept day h = marks_same terms (e ∷ j) j a day (λ d l k. ap is_marked (excess_kept d l (omega arith)))

  pub penalty_kept : (m : Meaning) (day : ℕ) → 1 ≤ day → day ≤ cut_offs j → penalty_on m terms (e ∷ j) a day ≡ penalty_on m terms j a day
  unfolding penalty_on
  penalty_kept m day l h =
      let xs = marks_kept day h in
      let E = excess_kept day l h in
      λ i. penalty (row_for terms.tariff (m (xs i))) (E i)

  pub balance_kept : (day : ℕ) → 1 ≤ day → day ≤ closes j → balance_on terms (e ∷ j) a day ≡ balance_on terms j a day
  unfolding balance_on
  balance_kept day l h =
      let part = before_kept closed_here e j (day - 1) (omega arith) in
      let form = form_kept e j day (omega arith) in
      let q = quarters day in
      let g = group_count terms in
      λ i. balance_amount (says (part i)) g a (feed_in q (form i) a) (long_price g q (form i)) (short_price g q (form i)) q
