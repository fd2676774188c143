-- A session's frames, one by one.
use Rattle.std.proofs.Common.{◌≡◌, ◌≢◌, ℕ, ◌≤◌, min, Bool, true, false, cond, not, ◌&&◌, ◌||◌, List, [], ◌∷◌, length, replicate, is_some, Some, None, Ok, Err, Option, Result, ◌==◌, nat_le, nat_lt, sym, refl, ap, subst, ◌∙◌, arith}
use Rattle.std.proofs.Math.Nat.{mul-le-mul_left}
use Rattle.std.proofs.lemmas.List.{length-replicate}
use Rattle.std.proofs.lemmas.List.FromFn.{length-map-range_with_len}
use Rattle.std.specs.Result.{result_unwrap_or}
use Rattle.forms.specs.Bounds.{most_groups}
use Rattle.forms.specs.Bytes.{byte}
use Rattle.forms.proofs.TermLaws.{opening_formed, length_groups}
use Rattle.forms.specs.declared.fault.Fault.{Fault}
use Rattle.forms.specs.Checks.{Verdict, verdict, if_passed, answer_if}
use Rattle.forms.specs.Figures.{group_count}
use Rattle.forms.specs.Openings.{groups_told, terms_of}
use Rattle.stage.specs.Asked.{rule_asked}
use Rattle.stage.specs.Rules.{Meaning}
use Rattle.settlement.specs.Sheets.{sheet_size}
use Rattle.book.specs.Calls.{Place, submits, advances, closes, asks_position, asks_trade, asks_standing, asks_total}
use Rattle.book.specs.Closes.{Lent, closed_by, day_row, day_rows}
use Rattle.book.specs.Cuts.{advanced}
use Rattle.book.specs.Messages.{submitted, submit_check}
use Rattle.book.specs.Opens.{new_book, open_check, opened_by}
use Rattle.book.specs.Rows.{Row, no_row}
use Rattle.book.specs.States.{State, size}
use Rattle.session.specs.declared.letter.Letter.TheVariants as letters
use Rattle.session.specs.Letters.{code_of}
use Rattle.session.specs.Replies.{Told, stop, refused, done, taken, closed, plainly, message_told, close_told}
use Rattle.session.specs.Steps.{groups_served, rule_made, if_opened, by_rule, message_sent, phase_moved, day_ended}
use Rattle.session.specs.Stops.{stops, too_many}
use Rattle.session.specs.Views.{SessionState}
use Rattle.journal.specs.Books.{Stepped, Brings, Unchanged}
use Rattle.journal.specs.Exists.{Call, Handed, OwnSheet}
use Rattle.journal.specs.Journals.{Entry, Journal}
use Rattle.journal.specs.Sessions.{rows_given, exchange_at, exchange_of, Holds, OpeningBegins, FramesGoOn, StopsChangeNothing, QuestionsGoOn}
use Rattle.session.specs.Runs.{Frame, told_at, state_after}
use Rattle.journal.proofs.Opening.{sized, fitted}
use Rattle.journal.proofs.Replay.{own_itself}
use Rattle.journal.proofs.Running.{holds}

-- what is told as a number, to tell replies apart
abbrev pub number : Told → ℕ
number stop = 0
number (refused fault) = 1
number done = 2
number (taken count first) = 3
number closed = 4

abbrev pub Outcome : Type 0
Outcome = Told × SessionState

-- of both branches, so of the one that is taken
pub either : (P : Outcome → Type 0) (b : Bool) (o p : Outcome) → P o → P p → P (cond b o p)
either P true o p h k = h
either P false o p h k = k

-- a step by what its frame is, read off its letter, and by whether its body is long
abbrev pub by_letter : SessionState → Bool → Bool → Bool → Bool → Bool → Bool → ℕ → List ℕ → Outcome
by_letter x rule opening message advance closing long most body =
    cond (cond rule (is_some x.rule)
    (cond opening (not (is_some x.rule) || (is_some x.place || too_many most body))
    (cond (message || closing) (not (is_some x.place)) (cond advance (not (is_some x.place) || long) true)))) (stop, x)
    (cond rule (rule_made x (rule_asked body))
    (cond opening (by_rule most x.rule x body)
    (cond message (message_sent x body)
    (cond advance (phase_moved x) (day_ended x body)))))

-- the calls' answers never stop a session
message_speaks : (r : Result (ℕ × Option ℕ) Fault) → message_told r ≡ stop → ⊥
message_speaks (Ok y) h = let z : ◌≡◌ {A = ℕ} 3 0 = ap number h in omega arith
message_speaks (Err e) h = let z : ◌≡◌ {A = ℕ} 1 0 = ap number h in omega arith

plain_speaks : (r : Verdict) → plainly r ≡ stop → ⊥
plain_speaks (Ok y) h = let z : ◌≡◌ {A = ℕ} 2 0 = ap number h in omega arith
plain_speaks (Err e) h = let z : ◌≡◌ {A = ℕ} 1 0 = ap number h in omega arith

close_speaks : (r : Verdict) → close_told r ≡ stop → ⊥
close_speaks (Ok y) h = let z : ◌≡◌ {A = ℕ} 4 0 = ap number h in omega arith
close_speaks (Err e) h = let z : ◌≡◌ {A = ℕ} 1 0 = ap number h in omega arith

-- a stop changes nothing
module _ (x : SessionState) where
  abbrev Still : Outcome → Type 0
  Still o = o.0 ≡ stop → o.1 ≡ x

  still_rule : (r : Result Meaning Fault) → Still (rule_made x r)
  still_rule (Ok m) h = absurd (let z : ◌≡◌ {A = ℕ} 2 0 = ap number h in omega arith)
  still_rule (Err e) h = refl

  still_opened : (most : ℕ) (body : List ℕ) (v : Verdict) (place : Place Meaning) (sheet : List ℕ) → Still (if_opened most x body (v, place, sheet))
  still_opened most body (Ok u) place sheet h = absurd (let z : ◌≡◌ {A = ℕ} 2 0 = ap number h in omega arith)
  still_opened most body (Err e) place sheet h = refl

  still_open : (most : ℕ) (body : List ℕ) (r : Option Meaning) → Still (by_rule most r x body)
  still_open most body (Some m) h =
      let o = opened_by x.place m body (replicate (sheet_size (groups_served most body)) 0) in
      still_opened most body o.0 o.1 o.2 h
  still_open most body None h = refl

  abbrev stops_at : ℕ → Frame → Bool
  stops_at most f = stops most (is_some x.rule) (is_some x.place) f.letter f.body

pub stops_change_nothing : (most : ℕ) → StopsChangeNothing most
stops_change_nothing most x f =
    either (Still x) (stops_at x most f) (stop, x) _ (λ h. refl)
    (either (Still x) (f.letter == code_of letters.Rule) _ _ (still_rule x (rule_asked f.body))
    (either (Still x) (f.letter == code_of letters.Opening) _ _ (still_open x most f.body x.rule)
    (either (Still x) (f.letter == code_of letters.Message) _ _ (λ h. absurd (message_speaks (submits x.place x.sheet f.body).0 h))
    (either (Still x) (f.letter == code_of letters.Advance) _ _ (λ h. absurd (plain_speaks (advances (λ m. m) x.place x.sheet).0 h))
    (λ h. absurd (close_speaks (closes (λ m. m) x.place (record { sheet = x.sheet; rows = x.rows }) f.body).0 h))))))

-- what passes at a call, by its answer
left_over : {A B : Type 0} (v : Verdict) (x : A) (after before : B) → if_passed v after before ≡ if_passed (answer_if v x) (if_passed v after before) before
left_over (Ok u) x after before = refl
left_over (Err e) x after before = refl

no_rows_sent : (r : Result (ℕ × Option ℕ) Fault) (rows : List Row) → [] ≡ rows_given (message_told r) rows
no_rows_sent (Ok y) rows = refl
no_rows_sent (Err e) rows = refl

no_rows_moved : (r : Verdict) (rows : List Row) → [] ≡ rows_given (plainly r) rows
no_rows_moved (Ok y) rows = refl
no_rows_moved (Err e) rows = refl

close_as_told : (v : Verdict) (rows : List Row) → close_told (verdict (answer_if v rows)) ≡ close_told v
close_as_told (Ok u) rows = refl
close_as_told (Err e) rows = refl

rows_as_given : (v : Verdict) (rows : List Row) → result_unwrap_or (answer_if v rows) [] ≡ rows_given (close_told v) rows
rows_as_given (Ok u) rows = refl
rows_as_given (Err e) rows = refl

sheet_left_over : (v : Verdict) (rows : List Row) (after before : Lent) → (if_passed v after before).sheet ≡ if_passed (answer_if v rows) (if_passed v after before).sheet before.sheet
sheet_left_over (Ok u) rows after before = refl
sheet_left_over (Err e) rows after before = refl

-- a frame of a session that holds a book
module _ (m : Meaning) (form : List ℕ) (j : Journal) (s : State) (w : List ℕ) (rows : List Row) (brings : Brings m form j s w) (own : OwnSheet m form j s w brings) (fit : length rows ≡ group_count (terms_of form)) where
  abbrev x : SessionState
  x = record { rule = Some m; place = Some (m, s); sheet = w; rows = rows }

  abbrev Next : Option Call → Outcome → Type 0
  Next call o = (e : Entry) × (exchange_of e ≡ record { call = call; told = o.0; rows = rows_given o.0 o.1.rows }) × Holds m form (e ∷ j) o.1

  next_sent : (body : List ℕ) → Next (Some (Call.submit body)) (message_sent x body)
  next_sent body =
      let o = submitted s w body in (
        Entry.submit body w o.0,
        λ i. record { call = Some (Call.submit body); told = message_told o.0; rows = no_rows_sent o.0 rows i },
        record {
          book = o.1;
          rule = refl;
          place = refl;
          brings = (s, w, brings, (own_itself o.0 w, refl, refl, left_over (submit_check s w body) _ _ w));
          own = (refl, own);
          rows = fit;
        },
      )

  next_moved : Next (Some Call.advance) (phase_moved x)
  next_moved =
      let o = advanced m s w in (
        Entry.advance w o.0,
        λ i. record { call = Some Call.advance; told = plainly o.0; rows = no_rows_moved o.0 rows i },
        record {
          book = o.1;
          rule = refl;
          place = refl;
          brings = (s, w, brings, (own_itself o.0 w, refl, refl, refl));
          own = (refl, own);
          rows = fit;
        },
      )

  rows_fit : (body : List ℕ) (v : Verdict) (sheet : List ℕ) → length (if_passed {B = Lent} v (record { sheet = sheet; rows = day_rows m s w body }) (record { sheet = w; rows = rows })).rows ≡ group_count (terms_of form)
  unfolding day_rows
  rows_fit body (Ok u) sheet = length-map-range_with_len (day_row m s w body) 0 (size s) ∙ ap group_count (holds m form j s w brings).terms_same
  rows_fit body (Err e) sheet = fit

  next_ended : (body : List ℕ) → Next (Some (Call.close body (length rows))) (day_ended x body)
  next_ended body =
      let lent : Lent = record { sheet = w; rows = rows } in
      let o = closed_by m s lent body in
      let answer = answer_if o.0 o.2.rows in (
        Entry.close body w (length rows) answer,
        λ i. record { call = Some (Call.close body (length rows)); told = close_as_told o.0 o.2.rows i; rows = rows_as_given o.0 o.2.rows i },
        record {
          book = o.1;
          rule = refl;
          place = refl;
          brings = (s, w, brings, (rows, (own_itself answer w, refl, refl, refl, sheet_left_over o.0 o.2.rows _ lent)));
          own = (refl, own);
          rows = rows_fit body o.0 (replicate (length w) 0);
        },
      )

  -- by the frame's letter: a rule form or an opening form stops a session that has its book, as does a letter that no frame has
  abbrev call_if : Bool → Bool → Bool → List ℕ → Option Call
  call_if message advance closing body = cond message (Some (Call.submit body)) (cond advance (Some Call.advance) (cond closing (Some (Call.close body (length rows))) None))

  goes_on : (rule opening message advance closing long : Bool) (most : ℕ) (body : List ℕ) → (by_letter x rule opening message advance closing long most body).0 ≢ stop
      → Next (call_if message advance closing body) (by_letter x rule opening message advance closing long most body)
  goes_on true opening message advance closing long most body h = absurd (h refl)
  goes_on false true message advance closing long most body h = absurd (h refl)
  goes_on false false true advance closing long most body h = next_sent body
  goes_on false false false true true long most body h = next_moved
  goes_on false false false true false true most body h = absurd (h refl)
  goes_on false false false true false false most body h = next_moved
  goes_on false false false false true long most body h = next_ended body
  goes_on false false false false false long most body h = absurd (h refl)

  frame_goes_on : (most : ℕ) (f : Frame) → told_at most x f ≢ stop → (e : Entry) × (exchange_of e ≡ exchange_at most x f) × Holds m form (e ∷ j) (state_after most x f)
  frame_goes_on most f h =
      goes_on (f.letter == code_of letters.Rule) (f.letter == code_of letters.Opening) (f.letter == code_of letters.Message)
      (f.letter == code_of letters.Advance) (f.letter == code_of letters.Closing) (nat_lt 0 (length f.body)) most f.body h

pub frames_go_on : (most : ℕ) → FramesGoOn most
frames_go_on most m form j y f h =
    let own : SessionState = record { rule = Some m; place = Some (m, h.book); sheet = y.sheet; rows = y.rows } in
    let same : own ≡ y = λ i. record { rule = sym h.rule i; place = sym h.place i; sheet = y.sheet; rows = y.rows } in
    subst (λ z. told_at most z f ≢ stop → (e : Entry) × (exchange_of e ≡ exchange_at most z f) × Holds m form (e ∷ j) (state_after most z f)) same
    (frame_goes_on m form j h.book y.sheet y.rows h.brings h.own h.rows most f)

-- the questions
asked_too : (m : Meaning) (form : List ℕ) (j : Journal) (x : SessionState) (h : Holds m form j x) (e : Entry) → Stepped m e h.book x.sheet h.book x.sheet → Handed e x.sheet → Holds m form (e ∷ j) x
asked_too m form j x h e step handed = record {
  book = h.book;
  rule = h.rule;
  place = h.place;
  brings = (h.book, x.sheet, h.brings, step);
  own = (handed, h.own);
  rows = h.rows;
}

pub questions_go_on : QuestionsGoOn
questions_go_on m form j x h =
    let same : Unchanged h.book x.sheet h.book x.sheet = record { book = refl; sheet = refl } in (
      λ group quarter.
          let answer = asks_position x.place x.sheet group quarter in
          asked_too m form j x h (Entry.position_asked x.sheet group quarter answer) (own_itself answer x.sheet, ap (λ p. asks_position p x.sheet group quarter) h.place, same) refl,
      λ from to quarter.
          let answer = asks_trade x.place x.sheet from to quarter in
          asked_too m form j x h (Entry.trade x.sheet from to quarter answer) (own_itself answer x.sheet, ap (λ p. asks_trade p x.sheet from to quarter) h.place, same) refl,
      λ group day. asked_too m form j x h (Entry.standing group day (asks_standing (λ r. r) x.place group day)) (ap (λ p. asks_standing (λ r. r) p group day) h.place, same) tt,
      λ group. asked_too m form j x h (Entry.total group (asks_total x.place group)) (ap (λ p. asks_total p group) h.place, same) tt,
    )

-- an opening form that is accepted
module _ (most : ℕ) (x : SessionState) (form : List ℕ) where
  abbrev sheet_made : List ℕ
  sheet_made = replicate (sheet_size (groups_served most form)) 0

  abbrev begun : Meaning → Verdict → Outcome
  begun m v = if_opened most x form (v, if_passed v (Some (m, new_book (terms_of form))) x.place, if_passed v (replicate (length sheet_made) 0) sheet_made)

  passed_if_done : (m : Meaning) (v : Verdict) → (begun m v).0 ≡ done → v ≡ Ok tt
  passed_if_done m (Ok u) h = refl
  passed_if_done m (Err e) h = absurd (let z : ◌≡◌ {A = ℕ} 1 2 = ap number h in omega arith)

  -- the session serves as many groups as the form names, for which its sheet is made
  served_all : (b : Bool) (n : ℕ) → 1 ≤ n → sheet_size (cond b n 0) ≡ sheet_size n → cond b n 0 ≡ n
  served_all true n l h = refl
  served_all false n l h = absurd (omega (arith, h, mul-le-mul_left n l))

  rows_made : (m : Meaning) → opened_by None m form sheet_made ≡ (Ok tt, Some (m, new_book (terms_of form)), replicate (length sheet_made) 0)
      → length (replicate (groups_served most form) no_row) ≡ group_count (terms_of form)
  rows_made m h =
      let some = (opening_formed form (sized m None form sheet_made (new_book (terms_of form)) (replicate (length sheet_made) 0) h)).groups_least in
      let fits = sym (length-replicate {A = ℕ} (sheet_size (groups_served most form)) 0) ∙ fitted m None form sheet_made (new_book (terms_of form)) (replicate (length sheet_made) 0) h in
      length-replicate {A = Row} (groups_served most form) no_row
      ∙ served_all (nat_lt 0 (length form) && nat_le (byte form 0) (min most most_groups)) (groups_told form) (omega (arith, some)) fits
      ∙ sym (length_groups form)

  begins : (m : Meaning) → x.rule ≡ Some m → (begun m (open_check form sheet_made)).0 ≡ done → Holds m form [] (begun m (open_check form sheet_made)).1
  begins m ruled h =
      let passed = passed_if_done m (open_check form sheet_made) h in
      let opens : opened_by None m form sheet_made ≡ (Ok tt, Some (m, new_book (terms_of form)), replicate (length sheet_made) 0) =
      ap (λ v. (v, if_passed v (Some (m, new_book (terms_of form))) None, if_passed v (replicate (length sheet_made) 0) sheet_made)) passed in
      let there : Holds m form [] (begun m (Ok tt)).1 = record {
        book = new_book (terms_of form);
        rule = ruled;
        place = refl;
        brings = (None, sheet_made, opens);
        own = tt;
        rows = rows_made m opens;
      } in
      subst (λ v. Holds m form [] (begun m v).1) (sym passed) there

  begins_if : (b : Bool) (r : Option Meaning) → x.rule ≡ r → (cond (not (is_some r) || b) (stop, x) (by_rule most r x form)).0 ≡ done
      → (m : Meaning) × (x.rule ≡ Some m) × Holds m form [] (cond (not (is_some r) || b) (stop, x) (by_rule most r x form)).1
  begins_if b None ruled h = absurd (let z : ◌≡◌ {A = ℕ} 0 2 = ap number h in omega arith)
  begins_if true (Some m) ruled h = absurd (let z : ◌≡◌ {A = ℕ} 0 2 = ap number h in omega arith)
  begins_if false (Some m) ruled h = (m, ruled, begins m ruled h)

pub opening_begins : (most : ℕ) → OpeningBegins most
opening_begins most x form h = begins_if most x form (is_some x.place || too_many most form) x.rule refl h
