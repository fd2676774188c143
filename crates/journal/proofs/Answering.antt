-- Each answer that is no refusal is the number reckoned from the journal.
use Rattle.std.proofs.Common.{◌≡◌, ℕ, ◌+◌, ◌-◌, ◌*◌, ◌<◌, ◌≤◌, Bool, true, not, ◌&&◌, eqb, ltb, leb, List, ◌∷◌, map, take, ℤ, Ok, Option, sym, refl, ap, ◌∙◌, arith}
use Rattle.std.specs.List.{range_with_len}
use Rattle.std.proofs.lemmas.List.FromFn.{take-map-range_with_len}
use Rattle.std.proofs.lemmas.Bool.{leb-true, and_parts}
use Rattle.std.proofs.lemmas.Bool.Decides.{nat_tests}
use Rattle.std.specs.Result.{result_and}
use Rattle.forms.specs.declared.fault.Fault.TheVariants.{WrongGroup, WrongDay, OutOfRange}
use Rattle.forms.specs.Calendar.{quarters}
use Rattle.forms.specs.Checks.{refuse_if, answer_if}
use Rattle.forms.proofs.Firsts.{passed_left, passed_right, allowed}
use Rattle.message.specs.Form.{said}
use Rattle.message.specs.Places.{stated}
use Rattle.stage.specs.Marked.{on_day}
use Rattle.settlement.specs.declared.phase.Phase.{Phase}
use Rattle.settlement.specs.declared.phase.Phase.TheVariants.{Ahead, Near, After}
use Rattle.settlement.specs.Positions.{stated_open, confirmed_open, net_purchases, confirmed, excess}
use Rattle.settlement.proofs.Agreement.{confirmed_same, net_purchases_same, stated_open_same, confirmed_open_same}
use Rattle.book.specs.Closes.{day_row, day_rows}
use Rattle.book.specs.Kept as state-kept
use Rattle.book.specs.Messages.{submit_check, by_message, beyond_at, beyond_count}
use Rattle.std.specs.Int.{is_in_range}
use Rattle.book.specs.Queries.{day_check, group_check, quarter_check, position_check, position_of, trade_check, standing_check, standing_answer, total_answer}
use Rattle.book.specs.Rows.{Row}
use Rattle.book.specs.States.{State, size, figures, kept, day_quarters, statements}
use Rattle.book.specs.Tallies.{tally}
use Rattle.book.proofs.Accepted.{stated_open_own, tally_same}
use Rattle.book.proofs.ByMessage.{by_sender}
use Rattle.book.proofs.Meaning.{sender_named}
use Rattle.journal.specs.Journals as journals
use Rattle.journal.specs.Journals.{Entry, submit, close, Journal, advances, closes, cut_offs, phase_of, phase, says}
use Rattle.journal.specs.Reckoned.{mark, marks_to, stage, penalties, balance, row, beyond, count_beyond}
use Rattle.stage.specs.Rules.{Meaning}
use Rattle.journal.proofs.Closing.{balance_found}
use Rattle.journal.proofs.Earlier.{mapped_same, marks_kept, penalty_kept}
use Rattle.journal.proofs.Keeping.{Keeps, advances_in}
use Rattle.journal.proofs.Parts.{on_day_mark}
use Rattle.journal.proofs.Sending.{says_sender, same_closes, same_advances}

-- a number from 1 to n
one_below : (n x : ℕ) → is_in_range 1 n x ≡ true → (1 ≤ x) × (x - 1 < n)
one_below n x h =
    let p = and_parts (leb 1 x) (leb x n) h in
    let l = leb-true 1 x p.0 in
    let k = leb-true x n p.1 in
    (l, omega arith)

-- the phase by its advances
phase_again : (p : Phase) → phase_of (advances_in p) ≡ p
phase_again Ahead = refl
phase_again Near = refl
phase_again After = refl

module _ (m : Meaning) (s : State) (w : List ℕ) (j : Journal) (k : Keeps m j s w) where
  group_there : (group : ℕ) → group_check s group ≡ Ok tt → group - 1 < size s
  group_there group h = (one_below (size s) group (allowed (is_in_range 1 (size s) group) WrongGroup h)).1

  quarter_there : (quarter : ℕ) → quarter_check s quarter ≡ Ok tt → quarter - 1 < quarters (journals.today j)
  quarter_there quarter h =
      omega (arith, (one_below (day_quarters s) quarter (allowed (is_in_range 1 (day_quarters s) quarter) (OutOfRange 0 0) h)).1, ap (λ n. quarters (n + 1)) k.closed)

  pub position_right : (group quarter : ℕ) → position_check s w group quarter ≡ Ok tt
      → position_of s w (group - 1) (quarter - 1)
      ≡ (stated_open (says j) (figures s (group - 1)) (size s) (quarter - 1) (group - 1), confirmed_open (says j) (figures s (group - 1)) (size s) (quarter - 1) (group - 1), net_purchases (says j) (size s) (quarter - 1) (group - 1))
  position_right group quarter h =
      let a = group - 1 in
      let t = quarter - 1 in
      let g = size s in
      let rest = passed_right (day_check s w) _ h in
      let there = group_there group (passed_left (group_check s group) _ rest) in
      let same = k.agree t (quarter_there quarter (passed_right (group_check s group) _ rest)) in
      let x = stated_open_same g (statements s w) (says j) (figures s a) t a same there in
      let y = confirmed_open_same g (statements s w) (says j) (figures s a) t a same there in
      let z = net_purchases_same g (statements s w) (says j) t a same there in
      λ i. (x i, y i, z i)

  pub trade_right : (from to quarter : ℕ) → trade_check s w from to quarter ≡ Ok tt
      → confirmed (statements s w) (quarter - 1) (from - 1) (to - 1) ≡ confirmed (says j) (quarter - 1) (from - 1) (to - 1)
  trade_right from to quarter h =
      let g = size s in
      let rest = passed_right (day_check s w) _ h in
      let groups = refuse_if (not (is_in_range 1 g from && is_in_range 1 g to && not (eqb from to))) WrongGroup in
      let named = (and_parts (is_in_range 1 g from && is_in_range 1 g to) (not (eqb from to)) (allowed (is_in_range 1 g from && is_in_range 1 g to && not (eqb from to)) WrongGroup (passed_left groups _ rest))).0 in
      let both = and_parts (is_in_range 1 g from) (is_in_range 1 g to) named in
      confirmed_same g (statements s w) (says j) (quarter - 1) (from - 1) (to - 1)
      (k.agree (quarter - 1) (quarter_there quarter (passed_right groups _ rest)))
      (one_below g from both.0).1 (one_below g to both.1).1

  -- the cut-offs by the state are those of the journal
  passed : state-kept.cut_offs s.closed s.phase ≡ cut_offs j
  passed = by_phase s.phase k.advanced
    where
      by_phase : (p : Phase) → advances j ≡ 2 * closes j + advances_in p → state-kept.cut_offs s.closed p ≡ cut_offs j
      by_phase Ahead e = omega (arith, k.closed, e)
      by_phase Near e = omega (arith, k.closed, e)
      by_phase After e = omega (arith, k.closed, e)

  marks_first : (a day : ℕ) → day ≤ cut_offs j → take day (marks_to s.terms j a (cut_offs j)) ≡ marks_to s.terms j a day
  unfolding marks_to
  marks_first a day l = take-map-range_with_len (λ i. mark s.terms j a (i + 1)) 0 (cut_offs j) day l

  pub standing_right : (group day : ℕ) → standing_check s group day ≡ Ok tt
      → ◌≡◌ {A = Bool × ℕ} (on_day (kept s (group - 1)).marks day, m (take day (kept s (group - 1)).marks)) (mark s.terms j (group - 1) day, stage m s.terms j (group - 1) day)
  standing_right group day h =
      let a = group - 1 in
      let there = group_there group (passed_left (group_check s group) _ h) in
      let c = state-kept.cut_offs s.closed s.phase in
      let d = one_below c day (allowed (is_in_range 1 c day) WrongDay (passed_right (group_check s group) _ h)) in
      let below : day ≤ cut_offs j = omega (arith, passed, d.0, d.1) in
      let xs = k.marks a there in
      let x = ap (λ ys. on_day ys day) xs ∙ on_day_mark s.terms j a (cut_offs j) day d.0 below in
      let y = ap (λ ys. m (take day ys)) xs ∙ ap m (marks_first a day below) in
      λ i. (x i, y i)

  pub total_right : (group : ℕ) → group_check s group ≡ Ok tt
      → ◌≡◌ {A = ℕ × ℤ} ((kept s (group - 1)).penalties, (kept s (group - 1)).balance) (penalties m s.terms j (group - 1), balance s.terms j (group - 1))
  total_right group h =
      let there = group_there group h in
      let x = k.owed (group - 1) there in
      let y = k.settled (group - 1) there in
      λ i. (x i, y i)

  -- what standing and total answer next
  pub standing_next : (a day : ℕ) → a < size s → 1 ≤ day → day ≤ cut_offs j → standing_answer m s (a + 1) day ≡ Ok (mark s.terms j a day, stage m s.terms j a day)
  standing_next a day there low high =
      let known : is_in_range 1 (size s) (a + 1) ≡ true = grind (arith, nat_tests) in
      let cut : is_in_range 1 (state-kept.cut_offs s.closed s.phase) day ≡ true = grind (arith, nat_tests, passed) in
      let named : standing_check s (a + 1) day ≡ Ok tt = λ i. result_and (refuse_if (not (known i)) WrongGroup) (refuse_if (not (cut i)) WrongDay) in
      let back : a + 1 - 1 ≡ a = omega arith in
      ap (λ v. answer_if v (on_day (kept s (a + 1 - 1)).marks day, m (take day (kept s (a + 1 - 1)).marks))) named
      ∙ ap Ok (standing_right (a + 1) day named ∙ ap (λ c. (mark s.terms j c day, stage m s.terms j c day)) back)

  pub total_next : (a : ℕ) → a < size s → total_answer s (a + 1) ≡ Ok (penalties m s.terms j a, balance s.terms j a)
  total_next a there =
      let known : is_in_range 1 (size s) (a + 1) ≡ true = grind (arith, nat_tests) in
      let named : group_check s (a + 1) ≡ Ok tt = λ i. refuse_if (not (known i)) WrongGroup in
      let back : a + 1 - 1 ≡ a = omega arith in
      ap (λ v. answer_if v ((kept s (a + 1 - 1)).penalties, (kept s (a + 1 - 1)).balance)) named
      ∙ ap Ok (total_right (a + 1) named ∙ ap (λ c. (penalties m s.terms j c, balance s.terms j c)) back)

  -- the count of a message
  module _ (form given : List ℕ) (x : ℕ × Option ℕ) (accepted : submit_check s w form ≡ Ok tt) where
    abbrev e : Entry
    e = submit form given (Ok x)

    abbrev own : ℕ
    own = (said form).group - 1

    phase_there : s.phase ≡ phase (e ∷ j)
    phase_there =
        let c = same_closes m s w form j given x k accepted in
        let v = same_advances m s w form j given x k accepted in
        sym (ap phase_of (let d : advances (e ∷ j) - 2 * closes (e ∷ j) ≡ advances_in s.phase = omega (arith, c, v, k.advanced) in d) ∙ phase_again s.phase)

    beyond_right : (t : ℕ) → beyond_at s own form t ≡ beyond s.terms (e ∷ j) own t
    beyond_right t =
        let q : day_quarters s ≡ quarters (journals.today j) = ap (λ n. quarters (n + 1)) k.closed in
        let said-one : (said form).group ≡ own + 1 = omega (arith, sender_named s w form accepted) in
        let o = stated_open_own (by_message own (day_quarters s) form) (says (e ∷ j)) (figures s own) (size s) t own
        (λ slot d. by_sender own (day_quarters s) form slot t ∙ ap (λ n. stated n form slot t) q ∙ sym (says_sender m s w form j given x k accepted own slot t said-one)) in
        let p = phase_there in
        λ i. ltb 0 (excess (figures s own) (p i) (o i))

    pub count_right : beyond_count s own form ≡ count_beyond s.terms (e ∷ j) own
    unfolding count_beyond
    count_right =
        let q : day_quarters s ≡ quarters (journals.today (e ∷ j)) = ap (λ n. quarters (n + 1)) (k.closed ∙ sym (same_closes m s w form j given x k accepted)) in
        tally_same (beyond_at s own form) (beyond s.terms (e ∷ j) own) (day_quarters s) (λ t l. beyond_right t) ∙ ap (tally (beyond s.terms (e ∷ j) own)) q

  -- the rows of a close
  module _ (form given : List ℕ) (count : ℕ) (rows : List Row) (p : s.phase ≡ After) where
    abbrev ending : Entry
    ending = close form given count (Ok rows)

    passed_today : cut_offs j ≡ journals.today j
    passed_today = omega (arith, k.advanced, ap advances_in p)

    row_right : (a : ℕ) → a < size s → day_row m s w form a ≡ row m s.terms (ending ∷ j) (journals.today j) a
    unfolding day_row row
    row_right a l =
        let day = ap (λ n. n + 1) k.closed in
        let xs = k.marks a l ∙ ap (marks_to s.terms j a) passed_today ∙ sym (marks_kept s.terms ending j a (journals.today j) (omega (arith, passed_today))) in
        let b = (λ i. on_day (xs i) (day i)) ∙ on_day_mark s.terms (ending ∷ j) a (journals.today j) (journals.today j) (omega arith) (omega arith) in
        let n = ap m xs in
        let due = k.due a l p ∙ sym (penalty_kept s.terms ending j a m (journals.today j) (omega arith) (omega (arith, passed_today))) in
        let amount = balance_found m s w form j given count rows k p a l in
        λ i. record { day = day i; group = a + 1; mark = b i; stage = n i; penalty = due i; balance = amount i }

    pub rows_right : day_rows m s w form ≡ map (row m s.terms (ending ∷ j) (journals.today j)) (range_with_len 0 (size s))
    unfolding day_rows
    rows_right = mapped_same (day_row m s w form) (row m s.terms (ending ∷ j) (journals.today j)) (size s) row_right
