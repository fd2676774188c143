-- The parts of the theorem that follow from the reckoning alone.
use Rattle.std.proofs.Common.{◌≡◌, ℕ, ◌+◌, ◌-◌, ◌<◌, ◌≤◌, true, false, sym, ap, ◌∙◌, arith}
use Rattle.std.proofs.lemmas.List.FromFn.{get_or-map-range_with_len}
use Rattle.std.proofs.lemmas.Bool.{ltb-true, lt-ltb}
use Rattle.forms.specs.Calendar.{quarters}
use Rattle.forms.specs.Figures.{Terms, group_count, figures_at}
use Rattle.stage.specs.Marked.{Under, on_day}
use Rattle.stage.proofs.MarkLists.{on_day_next, under_from_days}
use Rattle.settlement.specs.Amounts.{is_marked}
use Rattle.forms.specs.Lawful.{NeverFalls}
use Rattle.settlement.specs.Positions.{no_farther}
use Rattle.settlement.specs.Sums.{sumℕ}
use Rattle.settlement.proofs.Laws.{farther_day_no_less, penalty_no_less}
use Rattle.settlement.proofs.Sums.{sumℕ-le}
use Rattle.journal.specs.Journals.{Journal, cut_offs, at_cut_off, says}
use Rattle.journal.specs.Reckoned.{open_at, excess_on, mark, marks_to, stage, penalty_on, penalties}
use Rattle.stage.specs.Rules.{Meaning}
use Rattle.journal.specs.Theorem.{Lawful, OneRule}
use Rattle.journal.proofs.Earlier.{marks_same, length_marks_to}

-- a stage depends on the marked days alone
pub stage_same : (terms : Terms) (m n : Meaning) (j k : Journal) → OneRule m n → (a day : ℕ) → 1 ≤ day → day ≤ 366
    → ((d : ℕ) → 1 ≤ d → d ≤ day → mark terms j a d ≡ mark terms k a d) → stage m terms j a day ≡ stage n terms k a day
stage_same terms m n j k one a day l h same =
    let long = length_marks_to terms j a day in
    one (marks_to terms j a day) (omega (arith, long)) (omega (arith, long)) ∙ ap n (marks_same terms j k a day same)

-- the mark of a day in the list of marks
pub on_day_mark : (terms : Terms) (j : Journal) (a day d : ℕ) → 1 ≤ d → d ≤ day → on_day (marks_to terms j a day) d ≡ mark terms j a d
unfolding marks_to
on_day_mark terms j a day d l h =
    let xs = marks_to terms j a day in
    let back : d - 1 + 1 ≡ d = omega arith in
    ap (on_day xs) (sym back) ∙ on_day_next xs (d - 1)
    ∙ get_or-map-range_with_len (λ k. mark terms j a (k + 1)) 0 day (d - 1) (d - 1) false (omega arith) (omega arith)
    ∙ ap (mark terms j a) back

-- a sum of excesses that is no lower marks the day too
marked_too : (E F : ℕ) → E ≤ F → is_marked E ≡ true → is_marked F ≡ true
marked_too E F l h = lt-ltb 0 F (omega (arith, ltb-true 0 E h))

-- standing farther out never costs less
module _ (terms : Terms) (m n : Meaning) (j k : Journal) (lawful : Lawful m) (one : OneRule m n) (rises : NeverFalls terms.tariff) (a last : ℕ) (year : last ≤ 366)
    (far : (day t : ℕ) → 1 ≤ day → day ≤ last → t < quarters day → no_farther (open_at terms j a day t) (open_at terms k a day t) ≡ true) where
  excess_no_less : (day : ℕ) → 1 ≤ day → day ≤ last → excess_on terms j a day ≤ excess_on terms k a day
  unfolding excess_on
  excess_no_less day l h =
      farther_day_no_less (says (at_cut_off day j)) (says (at_cut_off day k)) (figures_at terms a) (group_count terms) a (quarters day) (λ t b. far day t l h b)

  marks_under : (day : ℕ) → day ≤ last → Under (marks_to terms j a day) (marks_to terms k a day)
  marks_under day h =
      let long = length_marks_to terms j a day in
      under_from_days (marks_to terms j a day) (marks_to terms k a day) (long ∙ sym (length_marks_to terms k a day))
      (λ d l b marked.
      let there : d ≤ day = omega (arith, long) in
      on_day_mark terms k a day d l there
      ∙ marked_too (excess_on terms j a d) (excess_on terms k a d) (excess_no_less d l (omega arith)) (sym (on_day_mark terms j a day d l there) ∙ marked))

  pub stage_no_less : (day : ℕ) → 1 ≤ day → day ≤ last → stage m terms j a day ≤ stage n terms k a day
  stage_no_less day l h =
      let long = length_marks_to terms j a day in
      let more = length_marks_to terms k a day in
      omega (
        arith,
        lawful.monotone (marks_to terms j a day) (marks_to terms k a day) (omega (arith, long)) (marks_under day h),
        one (marks_to terms k a day) (omega (arith, more)) (omega (arith, more)),
      )

  penalty_no_lower : (day : ℕ) → 1 ≤ day → day ≤ last → penalty_on m terms j a day ≤ penalty_on n terms k a day
  unfolding penalty_on
  penalty_no_lower day l h =
      penalty_no_less terms.tariff (stage m terms j a day) (stage n terms k a day) (excess_on terms j a day) (excess_on terms k a day) rises (stage_no_less day l h) (excess_no_less day l h)

  pub penalties_no_less : cut_offs j ≡ last → cut_offs k ≡ last → penalties m terms j a ≤ penalties n terms k a
  unfolding penalties
  penalties_no_less e f =
      let less = sumℕ-le (λ i. penalty_on m terms j a (i + 1)) (λ i. penalty_on n terms k a (i + 1)) last (λ i l. penalty_no_lower (i + 1) (omega arith) (omega arith)) in
      omega (arith, less, ap (sumℕ (λ i. penalty_on m terms j a (i + 1))) e, ap (sumℕ (λ i. penalty_on n terms k a (i + 1))) f)
