-- The whole journal, entry by entry.
use Rattle.std.proofs.Common.{◌≡◌, ℕ, ◌-◌, ◌<◌, true, false, not, List, [], ◌∷◌, length, replicate, ℤ, Ok, Err, sym, refl, ap, ◌∙◌, subst, arith}
use Rattle.std.proofs.lemmas.List.{length-replicate}
use Rattle.forms.specs.declared.fault.Fault.TheVariants.{WrongPhase}
use Rattle.forms.specs.Checks.{refuse_if, if_passed}
use Rattle.forms.specs.Closings.{closing_sizes}
use Rattle.forms.specs.Figures.{Terms}
use Rattle.forms.specs.Openings.{terms_of}
use Rattle.message.specs.Form.{said}
use Rattle.forms.proofs.Firsts.{passed_left, passed_right, unrefused, allowed}
use Rattle.settlement.specs.declared.phase.Phase.{Phase}
use Rattle.settlement.specs.declared.phase.Phase.TheVariants.{Ahead, Near, After}
use Rattle.book.specs.Closes.{Lent, close_check, balance_today, day_closed, day_rows}
use Rattle.book.specs.Cuts.{advance_check, advanced, next_phase, cut_off}
use Rattle.book.specs.Messages.{submit_check, submitted, state_with, beyond_count}
use Rattle.book.specs.Opens.{new_book}
use Rattle.book.specs.Queries.{group_check, position_check, position_answer, trade_check, trade_answer, standing_check}
use Rattle.book.specs.States.{State, size, day_quarters, is_after}
use Rattle.journal.specs.Books.{Stepped, Brings}
use Rattle.journal.specs.Journals.{Entry, submit, advance, close, position_asked, trade, standing, total, Journal}
use Rattle.stage.specs.Rules.{Meaning}
use Rattle.journal.specs.Theorem.{Right, AllRight}
use Rattle.journal.proofs.Advancing.{keeps_nearer, keeps_cut_off, day_left}
use Rattle.journal.proofs.Answering.{position_right, trade_right, standing_right, total_right, count_right, rows_right}
use Rattle.journal.proofs.Closing.{keeps_close}
use Rattle.journal.proofs.Keeping.{Keeps}
use Rattle.journal.proofs.Opening.{state_new, sheet_new, keeps_new}
use Rattle.journal.proofs.Outcomes.{passed_by, value_by, refused_by}
use Rattle.journal.proofs.Quiet.{Quiet, keeps_quiet}
use Rattle.journal.proofs.Sending.{outcome, keeps_message}

-- a book that keeps its journal, the terms unchanged
pub record Holds (m : Meaning) (terms : Terms) (j : Journal) (s : State) (w : List ℕ) : Type 0 where
  pub keeps : Keeps m j s w
  pub terms_same : s.terms ≡ terms

holds_at : (m : Meaning) (terms : Terms) (j : Journal) (s s' : State) (w w' : List ℕ) → s' ≡ s → w' ≡ w → Holds m terms j s w → Holds m terms j s' w'
holds_at m terms j s s' w w' p q h = subst (λ v. Holds m terms j s' v) (sym q) (subst (λ z. Holds m terms j z w) (sym p) h)

cut_off_terms : (m : Meaning) (s : State) (w : List ℕ) → (cut_off m s w).terms ≡ s.terms
unfolding cut_off
cut_off_terms m s w = refl

closed_terms : (s : State) (amounts : ℕ → ℤ) → (day_closed s amounts).terms ≡ s.terms
unfolding day_closed
closed_terms s amounts = refl

new_terms : (terms : Terms) → (new_book terms).terms ≡ terms
unfolding new_book
new_terms terms = refl

after_only : (p : Phase) → is_after p ≡ true → p ≡ After
after_only Ahead h = absurd (let z : ◌≡◌ {A = ℕ} 0 1 = cc in omega arith)
after_only Near h = absurd (let z : ◌≡◌ {A = ℕ} 0 1 = cc in omega arith)
after_only After h = refl

module _ (m : Meaning) (terms : Terms) (j : Journal) (s : State) (w : List ℕ) (h : Holds m terms j s w) where
  still : (e : Entry) (after : State) (left : List ℕ) → Quiet e → after ≡ s → left ≡ w → Holds m terms (e ∷ j) after left
  still e after left quiet p q = holds_at m terms (e ∷ j) s after w left p q (record { keeps = keeps_quiet m s w e j quiet h.keeps; terms_same = h.terms_same })

  -- an advance, by the phase it meets
  by_phase : (given : List ℕ) (p : Phase) → s.phase ≡ p → is_after p ≡ false → s.closed < 366 → Holds m terms (advance given (Ok tt) ∷ j) (next_phase m s w p) w
  by_phase given Ahead e n l = record { keeps = keeps_nearer m s w j given h.keeps e; terms_same = h.terms_same }
  by_phase given Near e n l = record { keeps = keeps_cut_off m s w j given h.keeps e l; terms_same = cut_off_terms m s w ∙ h.terms_same }
  by_phase given After e n l = absurd (let z : ◌≡◌ {A = ℕ} 0 1 = cc in omega arith)

  -- a close that passed its tests came in phase after
  came_after : (rows : ℕ) (form : List ℕ) → close_check s w rows form ≡ Ok tt → s.phase ≡ After
  came_after rows form passed =
      after_only s.phase
      (allowed (is_after s.phase) WrongPhase
      (passed_left (refuse_if (not (is_after s.phase)) WrongPhase) _ (passed_right (closing_sizes (size s) (day_quarters s) form) _ passed)))

  step : (e : Entry) (after : State) (left : List ℕ) → Stepped m e s w after left → Holds m terms (e ∷ j) after left
  step (submit form given (Ok x)) after left st =
      let passed = passed_by (submit_check s w form) x (beyond_count s ((said form).group - 1) form) (st.1 ∙ ap (λ g. (submitted s g form).0) st.0) in
      let o = outcome m s w form j given x h.keeps passed in
      holds_at m terms _ _ after _ left
      (st.2 ∙ ap (λ g. (submitted s g form).1) st.0 ∙ ap (λ r. r.1) o)
      (st.3 ∙ ap (λ g. (submitted s g form).2) st.0 ∙ ap (λ r. r.2) o)
      (record { keeps = keeps_message m s w form j given x h.keeps passed; terms_same = h.terms_same })
  step (submit form given (Err x)) after left st =
      let refused = refused_by (submit_check s given form) x (beyond_count s ((said form).group - 1) form) st.1 in
      still (submit form given (Err x)) after left (record { no_advance = refl; no_close = refl; no_message = λ a. refl })
      (st.2 ∙ ap (λ v. if_passed v (state_with s ((said form).group - 1) (said form).version form) s) refused) st.3
  step (advance given (Ok x)) after left st =
      let passed : advance_check s w ≡ Ok tt = sym (st.1 ∙ ap (λ g. advance_check s g) st.0) in
      let phase-open = unrefused (is_after s.phase) WrongPhase (passed_left (refuse_if (is_after s.phase) WrongPhase) _ passed) in
      let lasts = day_left s w (passed_right (refuse_if (is_after s.phase) WrongPhase) _ passed) in
      holds_at m terms _ _ after _ left
      (st.2 ∙ ap (λ g. (advanced m s g).1) st.0 ∙ ap (λ v. if_passed v (next_phase m s w s.phase) s) passed)
      st.3
      (by_phase given s.phase refl phase-open lasts)
  step (advance given (Err x)) after left st =
      still (advance given (Err x)) after left (record { no_advance = refl; no_close = refl; no_message = λ a. refl })
      (st.2 ∙ ap (λ v. if_passed v (next_phase m s given s.phase) s) (sym st.1)) st.3
  step (close form given count (Ok x)) after left st =
      let lent = st.0 in
      let own = st.1.0 in
      let passed : close_check s given (length lent) form ≡ Ok tt = passed_by (close_check s given (length lent) form) x _ st.1.2 in
      let p = came_after (length lent) form (sym (ap (λ g. close_check s g (length lent) form) own) ∙ passed) in
      holds_at m terms _ _ after _ left
      (st.1.3 ∙ ap (λ v. if_passed v (day_closed s (balance_today s given form)) s) passed ∙ ap (λ g. day_closed s (balance_today s g form)) own)
      (st.1.4 ∙ ap (λ v. (if_passed {B = Lent} v (record { sheet = replicate (length given) 0; rows = day_rows m s given form }) (record { sheet = given; rows = lent })).sheet) passed)
      (record { keeps = keeps_close m s w form j given count x h.keeps p (replicate (length given) 0) (length-replicate {A = ℕ} (length given) 0 ∙ ap length own); terms_same = closed_terms s (balance_today s w form) ∙ h.terms_same })
  step (close form given count (Err x)) after left st =
      let lent = st.0 in
      let refused : close_check s given (length lent) form ≡ Err x = refused_by (close_check s given (length lent) form) x _ st.1.2 in
      still (close form given count (Err x)) after left (record { no_advance = refl; no_close = refl; no_message = λ a. refl })
      (st.1.3 ∙ ap (λ v. if_passed v (day_closed s (balance_today s given form)) s) refused) st.1.4
  step (position_asked given group quarter answer) after left st =
      still (position_asked given group quarter answer) after left (record { no_advance = refl; no_close = refl; no_message = λ a. refl }) st.2.book st.2.sheet
  step (trade given from to quarter answer) after left st =
      still (trade given from to quarter answer) after left (record { no_advance = refl; no_close = refl; no_message = λ a. refl }) st.2.book st.2.sheet
  step (standing group day answer) after left st =
      still (standing group day answer) after left (record { no_advance = refl; no_close = refl; no_message = λ a. refl }) st.1.book st.1.sheet
  step (total group answer) after left st =
      still (total group answer) after left (record { no_advance = refl; no_close = refl; no_message = λ a. refl }) st.1.book st.1.sheet

  right_own : (e : Entry) (after : State) (left : List ℕ) → Stepped m e s w after left → Right m s.terms e j
  right_own (submit form given (Ok x)) after left st =
      let counted = beyond_count s ((said form).group - 1) form in
      let told = st.1 ∙ ap (λ g. (submitted s g form).0) st.0 in
      let passed = passed_by (submit_check s w form) x counted told in
      value_by (submit_check s w form) x counted told ∙ count_right m s w j h.keeps form given x passed
  right_own (submit form given (Err x)) after left st = tt
  right_own (advance given answer) after left st = tt
  right_own (close form given count (Ok x)) after left st =
      let lent = st.0 in
      let own = st.1.0 in
      let check = close_check s given (length lent) form in
      let passed : check ≡ Ok tt = passed_by check x _ st.1.2 in
      let p = came_after (length lent) form (sym (ap (λ g. close_check s g (length lent) form) own) ∙ passed) in
      value_by check x _ st.1.2
      ∙ ap (λ v. (if_passed {B = Lent} v (record { sheet = replicate (length given) 0; rows = day_rows m s given form }) (record { sheet = given; rows = lent })).rows) passed
      ∙ ap (λ g. day_rows m s g form) own ∙ rows_right m s w j h.keeps form given count x p
  right_own (close form given count (Err x)) after left st = tt
  right_own (position_asked given group quarter (Ok x)) after left st =
      let told = st.1 ∙ ap (λ g. position_answer s g group quarter) st.0 in
      value_by (position_check s w group quarter) x _ told ∙ position_right m s w j h.keeps group quarter (passed_by (position_check s w group quarter) x _ told)
  right_own (position_asked given group quarter (Err x)) after left st = tt
  right_own (trade given from to quarter (Ok x)) after left st =
      let told = st.1 ∙ ap (λ g. trade_answer s g from to quarter) st.0 in
      value_by (trade_check s w from to quarter) x _ told ∙ trade_right m s w j h.keeps from to quarter (passed_by (trade_check s w from to quarter) x _ told)
  right_own (trade given from to quarter (Err x)) after left st = tt
  right_own (standing group day (Ok x)) after left st =
      value_by (standing_check s group day) x _ st.0 ∙ standing_right m s w j h.keeps group day (passed_by (standing_check s group day) x _ st.0)
  right_own (standing group day (Err x)) after left st = tt
  right_own (total group (Ok x)) after left st =
      value_by (group_check s group) x _ st.0 ∙ total_right m s w j h.keeps group (passed_by (group_check s group) x _ st.0)
  right_own (total group (Err x)) after left st = tt

  right : (e : Entry) (after : State) (left : List ℕ) → Stepped m e s w after left → Right m terms e j
  right e after left st = subst (λ z. Right m z e j) h.terms_same (right_own e after left st)

pub holds : (m : Meaning) (form : List ℕ) (j : Journal) (s : State) (w : List ℕ) → Brings m form j s w → Holds m (terms_of form) j s w
holds m form [] s w (place, given, h) =
    holds_at m (terms_of form) [] (new_book (terms_of form)) s (replicate (length given) 0) w (sym (state_new m place form given s w h)) (sym (sheet_new m place form given s w h))
    (record { keeps = keeps_new m place form given s w h; terms_same = new_terms (terms_of form) })
holds m form (e ∷ j) s w (before, sheet, b, st) = step m (terms_of form) j before sheet (holds m form j before sheet b) e s w st

pub all_right : (m : Meaning) (form : List ℕ) (j : Journal) (s : State) (w : List ℕ) → Brings m form j s w → AllRight m (terms_of form) j
all_right m form [] s w b = tt
all_right m form (e ∷ j) s w (before, sheet, b, st) = (right m (terms_of form) j before sheet (holds m form j before sheet b) e s w st, all_right m form j before sheet b)
