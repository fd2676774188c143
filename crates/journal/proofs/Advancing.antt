-- An accepted advance.
use Rattle.std.proofs.Common.{◌≡◌, ℕ, ◌+◌, ◌-◌, ◌*◌, ◌<◌, List, [], ◌∷◌, ◌++◌, Ok, sym, refl, ap, ◌∙◌, arith}
use Rattle.std.proofs.lemmas.List.FromFn.{get_or-map-range_with_len}
use Rattle.std.proofs.lemmas.Bool.{leb-false}
use Rattle.forms.specs.Calendar.{quarters, year_days}
use Rattle.forms.specs.Checks.{refuse_if}
use Rattle.forms.specs.declared.fault.Fault.TheVariants.{WrongPhase}
use Rattle.forms.proofs.Firsts.{passed_left, unrefused}
use Rattle.settlement.specs.declared.phase.Phase.TheVariants.{Ahead, Near, After}
use Rattle.settlement.specs.Amounts.{is_marked, row_for, penalty}
use Rattle.settlement.specs.Positions.{day_excess}
use Rattle.settlement.proofs.Agreement.{day_excess_same}
use Rattle.book.specs.Cuts.{excess_today, past_cut_off, cut_off, in_phase}
use Rattle.book.specs.Queries.{day_check}
use Rattle.book.specs.States.{State, nothing_kept, size, figures, kept, day_quarters, year_over, statements}
use Rattle.journal.specs.Journals.{Entry, advance, Journal, advanced_here, closed_here, advances, closes, cut_offs, today, says}
use Rattle.journal.specs.Reckoned.{excess_on, mark, marks_to, penalty_on, penalties}
use Rattle.stage.specs.Rules.{Meaning}
use Rattle.journal.proofs.Counting.{one_more, no_more, before_now}
use Rattle.journal.proofs.Keeping.{Keeps, advances_in, marks_still, penalties_still, balance_still, marks_more, penalties_more}
use Rattle.journal.proofs.Quiet.{says_still}

pub near_not_after : Near ≡ After → ⊥
near_not_after h = let z : ◌≡◌ {A = ℕ} 1 2 = ap advances_in h in omega arith

pub ahead_not_after : Ahead ≡ After → ⊥
ahead_not_after h = let z : ◌≡◌ {A = ℕ} 0 2 = ap advances_in h in omega arith

-- the year is not over where the day's check has passed
pub day_left : (s : State) (sheet : List ℕ) → day_check s sheet ≡ Ok tt → s.closed < 366
day_left s sheet h =
    omega (arith, leb-false year_days s.closed (unrefused (year_over s) WrongPhase (passed_left (refuse_if (year_over s) WrongPhase) _ h)))

module _ (m : Meaning) (s : State) (w : List ℕ) (j : Journal) (given : List ℕ) (k : Keeps m j s w) where
  abbrev e : Entry
  e = advance given (Ok tt)

  same_closes : closes (e ∷ j) ≡ closes j
  same_closes = no_more closed_here e j refl

  one_advance : advances (e ∷ j) ≡ advances j + 1
  one_advance = one_more advanced_here e j refl

  agree_still : (t : ℕ) → t < quarters (today (e ∷ j)) → t < quarters (today j)
  agree_still t l = omega (arith, ap (λ n. quarters (n + 1)) same_closes)

  -- the first advance of a day
  pub keeps_nearer : s.phase ≡ Ahead → Keeps m (e ∷ j) (in_phase s Near) w
  keeps_nearer p =
      let c = same_closes in
      let v = one_advance in
      let f = ap advances_in p in
      let o : cut_offs (e ∷ j) ≡ cut_offs j = omega (arith, v, f, k.advanced) in
      record {
        closed = k.closed ∙ sym c;
        advanced = omega (arith, c, v, f, k.advanced);
        year = omega (arith, o, k.year);
        room = k.room;
        few = k.few;
        flags = k.flags;
        agree = λ t l a slot b d. k.agree t (agree_still t l) a slot b d ∙ says_still e j a slot t refl refl;
        marks = λ a l. k.marks a l ∙ marks_still s.terms e j a o;
        due = λ a l q. absurd (near_not_after q);
        owed = λ a l. k.owed a l ∙ penalties_still s.terms e j a m o;
        settled = λ a l. k.settled a l ∙ balance_still s.terms e j a c;
      }

  -- the cut-off
  module _ (p : s.phase ≡ Near) (lasts : s.closed < 366) where
    counted : advances j ≡ 2 * closes j + 1
    counted = omega (arith, k.advanced, ap advances_in p)

    passed_before : cut_offs j ≡ closes j
    passed_before = omega (arith, counted)

    passed_after : cut_offs (e ∷ j) ≡ cut_offs j + 1
    passed_after = omega (arith, one_advance, counted)

    -- E as the book finds it is E as it is reckoned
    excess_found : (a : ℕ) → a < size s → excess_today s w a ≡ excess_on s.terms (e ∷ j) a (closes j + 1)
    unfolding excess_on
    excess_found a l =
        let q : day_quarters s ≡ quarters (today j) = ap (λ n. quarters (n + 1)) k.closed in
        day_excess_same (size s) (statements s w) (says j) (figures s a) a (day_quarters s) (λ t b. k.agree t (omega (arith, q))) l
        ∙ ap (day_excess (says j) (figures s a) (size s) a) q
        ∙ ap (λ part. day_excess (says part) (figures s a) (size s) a (quarters (closes j + 1))) (sym (before_now advanced_here e j (2 * (closes j + 1) - 1) refl (omega (arith, counted))))

    group_after : (a : ℕ) → a < size s → kept (cut_off m s w) a ≡ past_cut_off m s w a
    unfolding cut_off
    group_after a l = get_or-map-range_with_len (past_cut_off m s w) 0 (size s) a a nothing_kept l (omega arith)

    marks_after : (a : ℕ) → a < size s → (kept s a).marks ++ is_marked (excess_today s w a) ∷ [] ≡ marks_to s.terms (e ∷ j) a (closes j + 1)
    marks_after a l =
        let E = excess_found a l in
        (λ i. k.marks a l i ++ is_marked (E i) ∷ [])
        ∙ ap (λ n. marks_to s.terms j a n ++ mark s.terms (e ∷ j) a (closes j + 1) ∷ []) passed_before
        ∙ sym (marks_more s.terms e j a (closes j) (omega (arith, passed_before)))

    due_after : (a : ℕ) → a < size s → (past_cut_off m s w a).due ≡ penalty_on m s.terms (e ∷ j) a (closes j + 1)
    unfolding past_cut_off penalty_on
    due_after a l =
        let E = excess_found a l in
        let xs = marks_after a l in
        λ i. penalty (row_for s.terms.tariff (m (xs i))) (E i)

    owed_after : (a : ℕ) → a < size s → (past_cut_off m s w a).penalties ≡ penalties m s.terms (e ∷ j) a
    unfolding past_cut_off
    owed_after a l =
        let due = due_after a l in
        let before = k.owed a l in
        (λ i. before i + due i)
        ∙ ap (λ n. penalties m s.terms j a + penalty_on m s.terms (e ∷ j) a (n + 1)) (sym passed_before)
        ∙ sym (penalties_more s.terms e j a m passed_after)

    marks_there : (a : ℕ) → a < size s → (past_cut_off m s w a).marks ≡ marks_to s.terms (e ∷ j) a (cut_offs (e ∷ j))
    unfolding past_cut_off
    marks_there a l = marks_after a l ∙ ap (marks_to s.terms (e ∷ j) a) (omega (arith, passed_before, passed_after))

    balance_there : (a : ℕ) → a < size s → (past_cut_off m s w a).balance ≡ (kept s a).balance
    unfolding past_cut_off
    balance_there a l = refl

    pub keeps_cut_off : Keeps m (e ∷ j) (cut_off m s w) w
    unfolding cut_off
    keeps_cut_off =
        let c = same_closes in
        let v = one_advance in
        record {
          closed = k.closed ∙ sym c;
          advanced = omega (arith, c, v, counted);
          year = omega (arith, passed_before, passed_after, k.closed);
          room = k.room;
          few = k.few;
          flags = k.flags;
          agree = λ t l a slot b d. k.agree t (agree_still t l) a slot b d ∙ says_still e j a slot t refl refl;
          marks = λ a l. ap (λ x. x.marks) (group_after a l) ∙ marks_there a l;
          due = λ a l q. ap (λ x. x.due) (group_after a l) ∙ due_after a l ∙ ap (λ n. penalty_on m s.terms (e ∷ j) a (n + 1)) (sym c);
          owed = λ a l. ap (λ x. x.penalties) (group_after a l) ∙ owed_after a l;
          settled = λ a l. ap (λ x. x.balance) (group_after a l) ∙ balance_there a l ∙ k.settled a l ∙ balance_still s.terms e j a c;
        }
