-- A book that has just been opened.
use Rattle.std.proofs.Common.{◌≡◌, ℕ, ◌+◌, ◌/◌, ◌<◌, Bool, false, not, eqb, List, [], length, replicate, pos, Some, None, Ok, Option, sym, refl, ap, ◌∙◌, arith}
use Rattle.std.proofs.lemmas.List.{get_or-replicate, length-replicate}
use Rattle.std.proofs.lemmas.Bool.{eqb-true, and_parts}
use Rattle.forms.specs.declared.fault.Fault.TheVariants.{WrongBuffer}
use Rattle.forms.specs.Checks.{refuse_if, if_passed}
use Rattle.forms.specs.Openings.{sizes_check, groups_told, terms_of, LawfulTerms}
use Rattle.forms.specs.Slots.{Slot}
use Rattle.forms.proofs.Firsts.{passed_left, passed_right, allowed}
use Rattle.forms.proofs.TermLaws.{length_groups, lawful_terms}
use Rattle.forms.specs.Lawful.{NeverFalls}
use Rattle.settlement.specs.Sheets.{slot_place, sheet_size}
use Rattle.settlement.specs.Sums.{sumℕ, sumℤ}
use Rattle.settlement.proofs.Places.{on_sheet_unsent}
use Rattle.settlement.proofs.Sums.{sumℕ-none, sumℤ-none}
use Rattle.book.specs.Opens.{new_book, open_check, opened_by}
use Rattle.book.specs.Sheets.{sheet_fits, all_powers}
use Rattle.book.specs.States.{State, nothing_kept, kept, statements}
use Rattle.book.specs.Sheets.{all_flags}
use Rattle.book.proofs.Days.{flags_enough}
use Rattle.journal.specs.Journals.{advances, closes, cut_offs, says, last_message}
use Rattle.journal.specs.Reckoned.{marks_to, penalty_on, penalties, balance_on, balance}
use Rattle.stage.specs.Rules.{Meaning}
use Rattle.journal.proofs.Advancing.{ahead_not_after}
use Rattle.journal.proofs.Closing.{unset}
use Rattle.journal.proofs.Keeping.{Keeps}

abbrev state_in : State → Option (Meaning × State) → State
state_in d (Some p) = p.1
state_in d None = d

module _ (m : Meaning) (place : Option (Meaning × State)) (form given : List ℕ) (s : State) (w : List ℕ) (h : opened_by place m form given ≡ (Ok tt, Some (m, s), w)) where
  pub checked : open_check form given ≡ Ok tt
  checked = ap (λ o. o.0) h

  pub state_new : new_book (terms_of form) ≡ s
  state_new =
      let new = new_book (terms_of form) in
      ap (state_in new) (sym (ap (λ v. if_passed v (Some (m, new)) place) checked) ∙ ap (λ o. o.1) h)

  pub sheet_new : replicate (length given) 0 ≡ w
  sheet_new = sym (ap (λ v. if_passed v (replicate (length given) 0) given) checked) ∙ ap (λ o. o.2) h

  pub sized : sizes_check form ≡ Ok tt
  sized = passed_left (sizes_check form) _ checked

  pub lawful : LawfulTerms (terms_of form)
  lawful = lawful_terms form sized (passed_right (refuse_if (not (sheet_fits (groups_told form) given)) WrongBuffer) _ (passed_right (sizes_check form) _ checked))

  pub never_falls : NeverFalls (terms_of form).tariff
  never_falls = lawful.rises

  pub fitted : length given ≡ sheet_size (groups_told form)
  fitted =
      eqb-true (length given) (sheet_size (groups_told form))
      (and_parts (eqb (length given) (sheet_size (groups_told form))) (all_powers given)
      (allowed (sheet_fits (groups_told form) given) WrongBuffer (passed_left (refuse_if (not (sheet_fits (groups_told form) given)) WrongBuffer) _ (passed_right (sizes_check form) _ checked)))
      ).0

  kept_new : (a : ℕ) → a < length (terms_of form).groups → kept (new_book (terms_of form)) a ≡ nothing_kept
  unfolding new_book
  kept_new a l = get_or-replicate (length (terms_of form).groups) a nothing_kept nothing_kept l

  unstated : (a : ℕ) (slot : Slot) (t : ℕ) → statements (new_book (terms_of form)) (replicate (length given) 0) a slot t ≡ 0
  unfolding new_book
  unstated a slot t = on_sheet_unsent (length (terms_of form).groups) (replicate all_flags false) (replicate (length given) 0) a slot t (unset all_flags (slot_place (length (terms_of form).groups) a slot))

  unsaid : (a : ℕ) (slot : Slot) (t : ℕ) → says [] a slot t ≡ 0
  unfolding says last_message
  unsaid a slot t = refl

  no_advances : advances [] ≡ 0
  no_advances = refl

  no_closes : closes [] ≡ 0
  no_closes = refl

  no_marks : (a : ℕ) → marks_to (terms_of form) [] a 0 ≡ []
  unfolding marks_to
  no_marks a = refl

  no_penalties : (a : ℕ) → penalties m (terms_of form) [] a ≡ 0
  unfolding penalties
  no_penalties a = ap (λ n. sumℕ (λ k. penalty_on m (terms_of form) [] a (k + 1)) (n / 2)) no_advances ∙ sumℕ-none (λ k. penalty_on m (terms_of form) [] a (k + 1))

  no_balance : (a : ℕ) → balance (terms_of form) [] a ≡ pos 0
  unfolding balance
  no_balance a = ap (sumℤ (λ k. balance_on (terms_of form) [] a (k + 1))) no_closes ∙ sumℤ-none (λ k. balance_on (terms_of form) [] a (k + 1))

  pub keeps_new : Keeps m [] (new_book (terms_of form)) (replicate (length given) 0)
  unfolding new_book
  keeps_new =
      let g = length (terms_of form).groups in
      let enough = flags_enough g lawful.groups_most in
      let none : cut_offs [] ≡ 0 = ap (λ n. n / 2) no_advances in
      record {
        closed = sym no_closes;
        advanced = omega (arith, no_advances, no_closes);
        year = omega (arith, none);
        room = length-replicate {A = ℕ} (length given) 0 ∙ fitted ∙ ap sheet_size (sym (length_groups form));
        few = enough;
        flags = omega (arith, enough, length-replicate {A = Bool} all_flags false);
        agree = λ t l a slot b d. unstated a slot t ∙ sym (unsaid a slot t);
        marks = λ a l. ap (λ x. x.marks) (kept_new a l) ∙ sym (ap (marks_to (terms_of form) [] a) none ∙ no_marks a);
        due = λ a l q. absurd (ahead_not_after q);
        owed = λ a l. ap (λ x. x.penalties) (kept_new a l) ∙ sym (no_penalties a);
        settled = λ a l. ap (λ x. x.balance) (kept_new a l) ∙ sym (no_balance a);
      }
