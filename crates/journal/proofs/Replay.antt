-- A list of calls on the book's own sheet, call by call.
use Rattle.std.proofs.Common.{◌≡◌, ℕ, List, [], ◌∷◌, map, length, replicate, Some, None, Ok, Err, Result, OnOk, sym, refl, ap, ◌∙◌}
use Rattle.std.proofs.lemmas.List.{length-replicate}
use Rattle.forms.specs.declared.fault.Fault.{Fault}
use Rattle.forms.specs.Checks.{Verdict, if_passed, answer_if}
use Rattle.forms.specs.Openings.{terms_of}
use Rattle.book.specs.Closes.{Lent, close_check, balance_today, day_closed, day_rows, closed_by}
use Rattle.book.specs.Cuts.{advanced}
use Rattle.book.specs.Messages.{submitted}
use Rattle.book.specs.Opens.{new_book, open_check, opened_by}
use Rattle.book.specs.Queries.{position_answer, trade_answer, standing_answer, total_answer}
use Rattle.book.specs.Rows.{Row, no_row}
use Rattle.book.specs.States.{State}
use Rattle.journal.specs.Books.{Stepped, Brings}
use Rattle.journal.specs.Exists.{Call, call_of, Handed, OwnSheet, OneJournal}
use Rattle.journal.specs.Journals.{Entry, Journal}
use Rattle.stage.specs.Rules.{Meaning}
use Rattle.journal.proofs.Opening.{state_new, sheet_new, fitted}

pub own_itself : {A : Type 0} (answer : Result A Fault) (w : List ℕ) → OnOk answer (w ≡ w)
own_itself (Ok x) w = refl
own_itself (Err e) w = tt

-- what was lent has no part in what close answers and leaves
rows_told : (v : Verdict) (after before : Lent) → answer_if v (if_passed v after before).rows ≡ answer_if v after.rows
rows_told (Ok x) after before = refl
rows_told (Err e) after before = refl

sheet_left : (v : Verdict) (rows : List Row) (after before : Lent) (w : List ℕ) → if_passed (answer_if v rows) (if_passed v after before).sheet w ≡ if_passed (answer_if v rows) after.sheet w
sheet_left (Ok x) rows after before w = refl
sheet_left (Err e) rows after before w = refl

-- the entry of a call on the own sheet, with book and sheet after it
abbrev Reached : Type 0
Reached = Entry × State × List ℕ

module _ (m : Meaning) (s : State) (w : List ℕ) where
  abbrev close_told : List ℕ → ℕ → Result (List Row) Fault
  close_told form rows = answer_if (close_check s w rows form) (day_rows m s w form)

  abbrev next : Call → Reached
  next (Call.submit form) = (Entry.submit form w (submitted s w form).0, (submitted s w form).1, if_passed (submitted s w form).0 (submitted s w form).2 w)
  next Call.advance = (Entry.advance w (advanced m s w).0, (advanced m s w).1, w)
  next (Call.close form rows) =
      (Entry.close form w rows (close_told form rows), if_passed (close_check s w rows form) (day_closed s (balance_today s w form)) s, if_passed (close_told form rows) (replicate (length w) 0) w)
  next (Call.position_asked group quarter) = (Entry.position_asked w group quarter (position_answer s w group quarter), s, w)
  next (Call.trade from to quarter) = (Entry.trade w from to quarter (trade_answer s w from to quarter), s, w)
  next (Call.standing group day) = (Entry.standing group day (standing_answer m s group day), s, w)
  next (Call.total group) = (Entry.total group (total_answer s group), s, w)

  handed : (c : Call) → Handed (next c).0 w
  handed (Call.submit form) = refl
  handed Call.advance = refl
  handed (Call.close form rows) = refl
  handed (Call.position_asked group quarter) = refl
  handed (Call.trade from to quarter) = refl
  handed (Call.standing group day) = tt
  handed (Call.total group) = tt

  called : (c : Call) → call_of (next c).0 ≡ c
  called (Call.submit form) = refl
  called Call.advance = refl
  called (Call.close form rows) = refl
  called (Call.position_asked group quarter) = refl
  called (Call.trade from to quarter) = refl
  called (Call.standing group day) = refl
  called (Call.total group) = refl

  -- whatever is lent, if it is so many rows
  module _ (form : List ℕ) (rows : ℕ) (lent : List Row) (long : length lent ≡ rows) where
    abbrev laid : Lent
    laid = record { sheet = replicate (length w) 0; rows = day_rows m s w form }

    abbrev o : Verdict × State × Lent
    o = closed_by m s (record { sheet = w; rows = lent }) form

    close_answer : close_told form rows ≡ answer_if o.0 o.2.rows
    close_answer = ap (close_told form) (sym long) ∙ sym (rows_told (close_check s w (length lent) form) laid (record { sheet = w; rows = lent }))

    close_state : if_passed (close_check s w rows form) (day_closed s (balance_today s w form)) s ≡ o.1
    close_state = ap (λ n. if_passed (close_check s w n form) (day_closed s (balance_today s w form)) s) (sym long)

    close_sheet : if_passed (close_told form rows) (replicate (length w) 0) w ≡ if_passed (close_told form rows) o.2.sheet w
    close_sheet =
        ap (λ n. if_passed (close_told form n) (replicate (length w) 0) w) (sym long)
        ∙ sym (sheet_left (close_check s w (length lent) form) (day_rows m s w form) laid (record { sheet = w; rows = lent }) w)
        ∙ ap (λ n. if_passed (close_told form n) o.2.sheet w) long

  steps : (c : Call) → Stepped m (next c).0 s w (next c).1 (next c).2
  steps (Call.submit form) = (own_itself (submitted s w form).0 w, refl, refl, refl)
  steps Call.advance = (own_itself (advanced m s w).0 w, refl, refl, refl)
  steps (Call.close form rows) =
      let lent = replicate rows no_row in
      let long = length-replicate rows no_row in
      (lent, (own_itself (close_told form rows) w, long, close_answer form rows lent long, close_state form rows lent long, close_sheet form rows lent long))
  steps (Call.position_asked group quarter) = (own_itself (position_answer s w group quarter) w, refl, record { book = refl; sheet = refl })
  steps (Call.trade from to quarter) = (own_itself (trade_answer s w from to quarter) w, refl, record { book = refl; sheet = refl })
  steps (Call.standing group day) = (refl, record { book = refl; sheet = refl })
  steps (Call.total group) = (refl, record { book = refl; sheet = refl })

  only_step : (e : Entry) (after : State) (left : List ℕ) → Stepped m e s w after left → Handed e w → ◌≡◌ {A = Reached} (e, after, left) (next (call_of e))
  only_step (Entry.submit form given answer) after left (own, p, q, r) h = cc
  only_step (Entry.advance given answer) after left (own, p, q, r) h = cc
  only_step (Entry.close form given rows answer) after left (lent, (own, long, p, q, r)) h =
      let x = close_answer form rows lent long in
      let y = close_state form rows lent long in
      let z = close_sheet form rows lent long in
      cc
  only_step (Entry.position_asked given group quarter answer) after left (own, p, q) h = cc
  only_step (Entry.trade given from to quarter answer) after left (own, p, q) h = cc
  only_step (Entry.standing group day answer) after left (p, q) h = cc
  only_step (Entry.total group answer) after left (p, q) h = cc

-- the whole list, newest call first
module _ (m : Meaning) (form given : List ℕ) (accepted : open_check form given ≡ Ok tt) where
  abbrev run : List Call → Journal × State × List ℕ
  run [] = ([], new_book (terms_of form), replicate (length given) 0)
  run (c ∷ cs) =
      let before = run cs in
      let o = next m before.1 before.2 c in
      (o.0 ∷ before.0, o.1, o.2)

  pub opens : opened_by None m form given ≡ (Ok tt, Some (m, new_book (terms_of form)), replicate (length given) 0)
  opens = ap (λ v. (v, if_passed v (Some (m, new_book (terms_of form))) None, if_passed v (replicate (length given) 0) given)) accepted

  brings : (cs : List Call) → Brings m form (run cs).0 (run cs).1 (run cs).2
  brings [] = (None, given, opens)
  brings (c ∷ cs) = ((run cs).1, (run cs).2, brings cs, steps m (run cs).1 (run cs).2 c)

  own_sheet : (cs : List Call) → OwnSheet m form (run cs).0 (run cs).1 (run cs).2 (brings cs)
  unfolding brings
  own_sheet [] = tt
  own_sheet (c ∷ cs) = (handed m (run cs).1 (run cs).2 c, own_sheet cs)

  all_called : (cs : List Call) → map call_of (run cs).0 ≡ cs
  all_called [] = refl
  all_called (c ∷ cs) = λ i. called m (run cs).1 (run cs).2 c i ∷ all_called cs i

  only_open : (s : State) (w : List ℕ) → Brings m form [] s w → ◌≡◌ {A = Journal × State × List ℕ} ([], s, w) (run [])
  only_open s w (place, sheet, h) =
      let long = fitted m place form sheet s w h in
      let here = fitted m None form given (run []).1 (run []).2 opens in
      let new = state_new m place form sheet s w h in
      let zeros = sheet_new m place form sheet s w h in
      cc

  only_run : (j : Journal) (s : State) (w : List ℕ) (b : Brings m form j s w) → OwnSheet m form j s w b → ◌≡◌ {A = Journal × State × List ℕ} (j, s, w) (run (map call_of j))
  only_run [] s w b own = only_open s w b
  only_run (e ∷ j) s w (before, sheet, b, st) own =
      let earlier = only_run j before sheet b own.1 in
      let now = only_step m before sheet e s w st own.0 in
      (λ i. ((now i).0 ∷ j, (now i).1, (now i).2)) ∙ ap (λ r. let o = next m r.1 r.2 (call_of e) in (o.0 ∷ r.0, o.1, o.2)) earlier

pub one_journal : OneJournal
one_journal form given accepted m calls = record {
  journal = (run m form given accepted calls).0;
  asked = record {
    as_called = all_called m form given accepted calls;
    book = (run m form given accepted calls).1;
    sheet = (run m form given accepted calls).2;
    brings = brings m form given accepted calls;
    own = own_sheet m form given accepted calls;
  };
  only = λ other a.
      ap (λ r. r.0) (only_run m form given accepted other a.book a.sheet a.brings a.own) ∙ ap (λ cs. (run m form given accepted cs).0) a.as_called;
}
