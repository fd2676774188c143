-- What a book holds is what is reckoned from its journal.
use Rattle.std.proofs.Common.{◌≡◌, ℕ, ◌+◌, ◌*◌, ◌<◌, ◌≤◌, List, [], ◌∷◌, ◌++◌, length, ◌+ℤ◌, sym, ap, ◌∙◌, arith}
use Rattle.std.proofs.lemmas.List.FromFn.{map-range_with_len_more}
use Rattle.forms.specs.Calendar.{quarters}
use Rattle.forms.specs.Figures.{Terms}
use Rattle.settlement.specs.declared.phase.Phase.{Phase}
use Rattle.settlement.specs.declared.phase.Phase.TheVariants.{Ahead, Near, After}
use Rattle.forms.specs.Slots.{slots}
use Rattle.settlement.specs.Sheets.{sheet_size}
use Rattle.settlement.specs.Sums.{sumℕ, sumℤ}
use Rattle.settlement.proofs.Agreement.{Agree}
use Rattle.settlement.proofs.Sums.{sumℕ-same, sumℕ-more, sumℤ-same, sumℤ-more}
use Rattle.book.specs.States.{State, size, kept, statements}
use Rattle.book.specs.Sheets.{all_flags}
use Rattle.journal.specs.Journals.{Entry, Journal, advances, closes, cut_offs, today, says}
use Rattle.journal.specs.Reckoned.{mark, marks_to, penalty_on, penalties, balance_on, balance}
use Rattle.stage.specs.Rules.{Meaning}
use Rattle.journal.proofs.Earlier.{marks_kept, penalty_kept, balance_kept}

-- the advances of a day so far
abbrev pub advances_in : Phase → ℕ
advances_in Ahead = 0
advances_in Near = 1
advances_in After = 2

pub record Keeps (m : Meaning) (j : Journal) (s : State) (w : List ℕ) : Type 0 where
  pub closed : s.closed ≡ closes j
  pub advanced : advances j ≡ 2 * closes j + advances_in s.phase
  pub year : cut_offs j ≤ 366
  pub room : length w ≡ sheet_size (size s)
  pub few : size s * slots (size s) ≤ all_flags
  pub flags : size s * slots (size s) ≤ length s.sent
  pub agree : (t : ℕ) → t < quarters (today j) → Agree (size s) (statements s w) (says j) t
  pub marks : (a : ℕ) → a < size s → (kept s a).marks ≡ marks_to s.terms j a (cut_offs j)
  pub due : (a : ℕ) → a < size s → s.phase ≡ After → (kept s a).due ≡ penalty_on m s.terms j a (today j)
  pub owed : (a : ℕ) → a < size s → (kept s a).penalties ≡ penalties m s.terms j a
  pub settled : (a : ℕ) → a < size s → (kept s a).balance ≡ balance s.terms j a

-- an entry that is no cut-off leaves marks and penalties, and one that is no close the balance
module _ (terms : Terms) (e : Entry) (j : Journal) (a : ℕ) where
  pub marks_still : cut_offs (e ∷ j) ≡ cut_offs j → marks_to terms j a (cut_offs j) ≡ marks_to terms (e ∷ j) a (cut_offs (e ∷ j))
  marks_still h = sym (ap (marks_to terms (e ∷ j) a) h ∙ marks_kept terms e j a (cut_offs j) (omega arith))

  pub penalties_still : (m : Meaning) → cut_offs (e ∷ j) ≡ cut_offs j → penalties m terms j a ≡ penalties m terms (e ∷ j) a
  unfolding penalties
  penalties_still m h =
      sym (ap (sumℕ (λ k. penalty_on m terms (e ∷ j) a (k + 1))) h
      ∙ sumℕ-same (λ k. penalty_on m terms (e ∷ j) a (k + 1)) (λ k. penalty_on m terms j a (k + 1)) (cut_offs j)
      (λ k l. penalty_kept terms e j a m (k + 1) (omega arith) (omega arith)))

  pub balance_still : closes (e ∷ j) ≡ closes j → balance terms j a ≡ balance terms (e ∷ j) a
  unfolding balance
  balance_still h =
      sym (ap (sumℤ (λ k. balance_on terms (e ∷ j) a (k + 1))) h
      ∙ sumℤ-same (λ k. balance_on terms (e ∷ j) a (k + 1)) (λ k. balance_on terms j a (k + 1)) (closes j)
      (λ k l. balance_kept terms e j a (k + 1) (omega arith) (omega arith)))

  -- one mark, one penalty, one balance amount more
  pub marks_more : (day : ℕ) → day ≤ cut_offs j → marks_to terms (e ∷ j) a (day + 1) ≡ marks_to terms j a day ++ mark terms (e ∷ j) a (day + 1) ∷ []
  unfolding marks_to
  marks_more day h =
      map-range_with_len_more (λ k. mark terms (e ∷ j) a (k + 1)) 0 day day (omega arith)
      ∙ ap (λ xs. xs ++ mark terms (e ∷ j) a (day + 1) ∷ []) (marks_kept terms e j a day h)

  pub penalties_more : (m : Meaning) → cut_offs (e ∷ j) ≡ cut_offs j + 1 → penalties m terms (e ∷ j) a ≡ penalties m terms j a + penalty_on m terms (e ∷ j) a (cut_offs j + 1)
  unfolding penalties
  penalties_more m h =
      ap (sumℕ (λ k. penalty_on m terms (e ∷ j) a (k + 1))) h
      ∙ sumℕ-more (λ k. penalty_on m terms (e ∷ j) a (k + 1)) (cut_offs j)
      ∙ ap (λ n. n + penalty_on m terms (e ∷ j) a (cut_offs j + 1))
      (sumℕ-same (λ k. penalty_on m terms (e ∷ j) a (k + 1)) (λ k. penalty_on m terms j a (k + 1)) (cut_offs j)
      (λ k l. penalty_kept terms e j a m (k + 1) (omega arith) (omega arith)))

  pub balance_more : closes (e ∷ j) ≡ closes j + 1 → balance terms (e ∷ j) a ≡ balance terms j a +ℤ balance_on terms (e ∷ j) a (closes j + 1)
  unfolding balance
  balance_more h =
      ap (sumℤ (λ k. balance_on terms (e ∷ j) a (k + 1))) h
      ∙ sumℤ-more (λ k. balance_on terms (e ∷ j) a (k + 1)) (closes j)
      ∙ ap (λ n. n +ℤ balance_on terms (e ∷ j) a (closes j + 1))
      (sumℤ-same (λ k. balance_on terms (e ∷ j) a (k + 1)) (λ k. balance_on terms j a (k + 1)) (closes j)
      (λ k l. balance_kept terms e j a (k + 1) (omega arith) (omega arith)))
