-- A session's frames from its first on.
use Rattle.std.proofs.Common.{◌≡◌, ◌≢◌, ℕ, Bool, true, false, cond, not, ◌||◌, List, [], ◌∷◌, ◌++◌, map, length, replicate, is_some, Some, None, Ok, Err, Option, Result, ◌==◌, nat_lt, sym, refl, ap, subst, ◌∙◌, inl, inr, ◌⊎◌, arith}
use Rattle.std.specs.Result.{result_map_both}
use Rattle.std.proofs.lemmas.Bool.{eqb-true}
use Rattle.forms.specs.declared.fault.Fault.{Fault}
use Rattle.forms.specs.declared.rule_form.RuleForm.{RuleForm}
use Rattle.forms.specs.declared.rule_form.RuleForm.TheVariants.{Rolling, Run}
use Rattle.forms.specs.Checks.{Verdict}
use Rattle.forms.specs.RuleForms.{rule_of}
use Rattle.stage.specs.Asked.{asked, rule_asked}
use Rattle.stage.specs.LawProofs.Gaps.{run_le, run_under}
use Rattle.stage.specs.LawProofs.Windows.{rolling_le, rolling_under}
use Rattle.stage.specs.Rules.{Meaning}
use Rattle.settlement.specs.Sheets.{sheet_size}
use Rattle.book.specs.Calls.{Place}
use Rattle.book.specs.Opens.{opened_by}
use Rattle.book.specs.Rows.{Row}
use Rattle.session.specs.declared.letter.Letter.TheVariants as letters
use Rattle.session.specs.Letters.{code_of}
use Rattle.session.specs.Replies.{Told, stop, refused, done, taken, closed}
use Rattle.session.specs.Steps.{groups_served, rule_made, if_opened, by_rule, message_sent, phase_moved, day_ended}
use Rattle.session.specs.Stops.{too_many}
use Rattle.session.specs.Views.{SessionState}
use Rattle.journal.specs.Journals.{Journal}
use Rattle.journal.specs.Sessions.{rule_frame, opening_frame, is_stop, exchange_at, exchange_of, Holds, exchanges_from, Accepted, RunsAreJournals, SessionsAreJournals}
use Rattle.session.specs.Runs.{Frame, told_at, state_after, session_from, session_after}
use Rattle.journal.specs.Theorem.{Lawful}
use Rattle.journal.proofs.Stepping.{number, Outcome, either, by_letter, stops_change_nothing, frames_go_on, questions_go_on, opening_begins}

-- a rule that a form asks for is lawful
meaning_or : Meaning → Result Meaning Fault → Meaning
meaning_or d (Ok m) = m
meaning_or d (Err e) = d

lawful_asked : (r : Result RuleForm Fault) (m : Meaning) → result_map_both asked (λ e. e) r ≡ Ok m → Lawful m
unfolding meaning_or
lawful_asked (Ok (Rolling w)) m h =
    subst Lawful (ap (meaning_or (asked (Rolling w))) h) (record { bounded = λ xs l. omega (arith, rolling_le w xs); monotone = λ xs ys _ u. rolling_under w xs ys u })
lawful_asked (Ok (Run w)) m h =
    subst Lawful (ap (meaning_or (asked (Run w))) h) (record { bounded = λ xs l. omega (arith, run_le w xs); monotone = λ xs ys _ u. run_under w xs ys u })
lawful_asked (Err e) m h = absurd (let z : ◌≡◌ {A = ℕ} 0 1 = cc in omega arith)

-- the frames after an opening
halts : (t : Told) → (t ≡ stop) ⊎ ((t ≢ stop) × (is_stop t ≡ false))
halts stop = inl refl
halts (refused e) = inr (λ h. let z : ◌≡◌ {A = ℕ} 1 0 = ap number h in omega arith, refl)
halts done = inr (λ h. let z : ◌≡◌ {A = ℕ} 2 0 = ap number h in omega arith, refl)
halts (taken count first) = inr (λ h. let z : ◌≡◌ {A = ℕ} 3 0 = ap number h in omega arith, refl)
halts closed = inr (λ h. let z : ◌≡◌ {A = ℕ} 4 0 = ap number h in omega arith, refl)

module _ (most : ℕ) (m : Meaning) (form : List ℕ) (x : SessionState) (opened : Holds m form [] x) where
  abbrev Followed : List Frame → Type 0
  Followed fs = (j : Journal) × Holds m form j (session_from most x fs) × (map exchange_of j ≡ exchanges_from most x fs)

  follow_one : (f : Frame) (fs : List Frame) → Followed fs → Followed (f ∷ fs)
  follow_one f fs (j, h, p) =
      let y = session_from most x fs in
      let passed = λ (b : Bool). cond b (exchanges_from most x fs) (exchange_at most y f ∷ exchanges_from most x fs) in
      elim (halts (told_at most y f)) [
        | inl ended ↦ (j, subst (Holds m form j) (sym (stops_change_nothing most y f ended)) h, p ∙ sym (ap (λ t. passed (is_stop t)) ended))
        | inr (goes, on) ↦
            let next = frames_go_on most m form j y f h goes in
            (next.0 ∷ j, next.2, (λ i. next.1 i ∷ p i) ∙ sym (ap passed on))
      ]

  follow : (fs : List Frame) → Followed fs
  follow [] = ([], opened, refl)
  follow (f ∷ fs) = follow_one f fs (follow fs)

nothing_is : {A : Type 0} → false ≡ true → A
nothing_is h = absurd (let z : ◌≡◌ {A = ℕ} 0 1 = ap (λ b. cond b 1 0) h in omega arith)

-- only an opening form opens a book
module _ (most : ℕ) (r : Option Meaning) (w : List ℕ) (rows : List Row) where
  abbrev unopened : SessionState
  unopened = record { rule = r; place = None; sheet = w; rows = rows }

  abbrev ByOpening : Bool → Outcome → Type 0
  ByOpening opening o = is_some o.1.place ≡ true → (opening ≡ true) × (o.0 ≡ done)

  rule_opens_none : (opening : Bool) (v : Result Meaning Fault) → ByOpening opening (rule_made unopened v)
  rule_opens_none opening (Ok m) h = nothing_is h
  rule_opens_none opening (Err e) h = nothing_is h

  opens_if : (body : List ℕ) (v : Verdict) (place : Place Meaning) (sheet : List ℕ) → ByOpening true (if_opened most unopened body (v, place, sheet))
  opens_if body (Ok u) place sheet h = (refl, refl)
  opens_if body (Err e) place sheet h = nothing_is h

  form_opens : (body : List ℕ) (q : Option Meaning) → ByOpening true (by_rule most q unopened body)
  form_opens body (Some m) h =
      let o = opened_by unopened.place m body (replicate (sheet_size (groups_served most body)) 0) in
      opens_if body o.0 o.1 o.2 h
  form_opens body None h = nothing_is h

  by_opening : (rule opening message advance closing long : Bool) (body : List ℕ) → ByOpening opening (by_letter unopened rule opening message advance closing long most body)
  by_opening true opening message advance closing long body h =
      either (ByOpening opening) (is_some r) (stop, unopened) (rule_made unopened (rule_asked body)) nothing_is (rule_opens_none opening (rule_asked body)) h
  by_opening false true message advance closing long body h =
      either (ByOpening true) (not (is_some r) || (false || too_many most body)) (stop, unopened) (by_rule most r unopened body) nothing_is (form_opens body r) h
  by_opening false false true advance closing long body h = nothing_is h
  by_opening false false false advance true long body h = nothing_is h
  by_opening false false false true false long body h = nothing_is h
  by_opening false false false false false long body h = nothing_is h

-- only a rule form makes a rule
nothing_ruled : {A : Type 0} (m : Meaning) → None ≡ Some m → A
nothing_ruled m h = nothing_is (ap is_some h)

meaning_in : Meaning → Option Meaning → Meaning
meaning_in d (Some m) = m
meaning_in d None = d

same_rule : (k m : Meaning) → Some k ≡ Some m → k ≡ m
unfolding meaning_in
same_rule k m h = ap (meaning_in k) h

module _ (most : ℕ) (place : Place Meaning) (w : List ℕ) (rows : List Row) (m : Meaning) where
  abbrev unruled : SessionState
  unruled = record { rule = None; place = place; sheet = w; rows = rows }

  abbrev ByRule : Bool → List ℕ → Outcome → Type 0
  ByRule rule body o = o.1.rule ≡ Some m → (rule ≡ true) × (o.0 ≡ done) × (rule_asked body ≡ Ok m)

  rules_if : (v : Result Meaning Fault) → (rule_made unruled v).1.rule ≡ Some m → ((rule_made unruled v).0 ≡ done) × (v ≡ Ok m)
  rules_if (Ok k) h = (refl, ap Ok (same_rule k m h))
  rules_if (Err e) h = nothing_ruled m h

  by_ruling : (rule opening message advance closing long : Bool) (body : List ℕ) → ByRule rule body (by_letter unruled rule opening message advance closing long most body)
  by_ruling true opening message advance closing long body h = let o = rules_if (rule_asked body) h in (refl, o.0, o.1)
  by_ruling false true message advance closing long body h = nothing_ruled m h
  by_ruling false false true advance closing long body h =
      either (ByRule false body) (not (is_some place)) (stop, unruled) (message_sent unruled body) (nothing_ruled m) (nothing_ruled m) h
  by_ruling false false false advance true long body h =
      either (ByRule false body) (not (is_some place)) (stop, unruled) (cond advance (phase_moved unruled) (day_ended unruled body)) (nothing_ruled m)
      (either (ByRule false body) advance (phase_moved unruled) (day_ended unruled body) (nothing_ruled m) (nothing_ruled m)) h
  by_ruling false false false true false long body h =
      either (ByRule false body) (not (is_some place) || long) (stop, unruled) (phase_moved unruled) (nothing_ruled m) (nothing_ruled m) h
  by_ruling false false false false false long body h = nothing_ruled m h

-- and it stays
module _ (most : ℕ) (place : Place Meaning) (w : List ℕ) (rows : List Row) (m : Meaning) where
  abbrev ruled : SessionState
  ruled = record { rule = Some m; place = place; sheet = w; rows = rows }

  abbrev Stays : Outcome → Type 0
  Stays o = o.1.rule ≡ Some m

  stays_open : (body : List ℕ) (v : Verdict) (place : Place Meaning) (sheet : List ℕ) → Stays (if_opened most ruled body (v, place, sheet))
  stays_open body (Ok u) place sheet = refl
  stays_open body (Err e) place sheet = refl

  stays : (rule opening message advance closing long : Bool) (body : List ℕ) → Stays (by_letter ruled rule opening message advance closing long most body)
  stays true opening message advance closing long body = refl
  stays false true message advance closing long body =
      let o = opened_by place m body (replicate (sheet_size (groups_served most body)) 0) in
      either Stays (is_some place || too_many most body) (stop, ruled) (by_rule most (Some m) ruled body) refl (stays_open body o.0 o.1 o.2)
  stays false false true advance closing long body = either Stays (not (is_some place)) (stop, ruled) (message_sent ruled body) refl refl
  stays false false false advance true long body =
      either Stays (not (is_some place)) (stop, ruled) (cond advance (phase_moved ruled) (day_ended ruled body)) refl (either Stays advance (phase_moved ruled) (day_ended ruled body) refl refl)
  stays false false false true false long body = either Stays (not (is_some place) || long) (stop, ruled) (phase_moved ruled) refl refl
  stays false false false false false long body = refl

abbrev RuledBy : ℕ → List Frame → Meaning → Type 0
RuledBy most frames m = (a : Accepted most rule_frame frames) × (rule_asked a.form ≡ Ok m)

-- the same of a frame
module _ (most : ℕ) (f : Frame) where
  opened_now : (y : SessionState) → y.place ≡ None → is_some (state_after most y f).place ≡ true → (f ≡ opening_frame f.body) × (told_at most y f ≡ done)
  opened_now y none =
      let same : unopened most y.rule y.sheet y.rows ≡ y = λ i. record { rule = y.rule; place = sym none i; sheet = y.sheet; rows = y.rows } in
      subst (λ z. is_some (state_after most z f).place ≡ true → (f ≡ opening_frame f.body) × (told_at most z f ≡ done)) same
      (λ h.
      let o = by_opening most y.rule y.sheet y.rows (f.letter == code_of letters.Rule) (f.letter == code_of letters.Opening) (f.letter == code_of letters.Message)
      (f.letter == code_of letters.Advance) (f.letter == code_of letters.Closing) (nat_lt 0 (length f.body)) f.body h in
      let letter = eqb-true f.letter (code_of letters.Opening) o.0 in
      (λ i. record { letter = letter i; body = f.body }, o.1))

  ruled_now : (y : SessionState) (m : Meaning) → y.rule ≡ None → (state_after most y f).rule ≡ Some m → (f ≡ rule_frame f.body) × (told_at most y f ≡ done) × (rule_asked f.body ≡ Ok m)
  ruled_now y m none =
      let same : unruled most y.place y.sheet y.rows m ≡ y = λ i. record { rule = sym none i; place = y.place; sheet = y.sheet; rows = y.rows } in
      subst (λ z. (state_after most z f).rule ≡ Some m → (f ≡ rule_frame f.body) × (told_at most z f ≡ done) × (rule_asked f.body ≡ Ok m)) same
      (λ h.
      let o = by_ruling most y.place y.sheet y.rows m (f.letter == code_of letters.Rule) (f.letter == code_of letters.Opening) (f.letter == code_of letters.Message)
      (f.letter == code_of letters.Advance) (f.letter == code_of letters.Closing) (nat_lt 0 (length f.body)) f.body h in
      let letter = eqb-true f.letter (code_of letters.Rule) o.0 in
      (λ i. record { letter = letter i; body = f.body }, o.1, o.2))

  ruled_still : (y : SessionState) (m : Meaning) → y.rule ≡ Some m → (state_after most y f).rule ≡ Some m
  ruled_still y m some =
      let same : ruled most y.place y.sheet y.rows m ≡ y = λ i. record { rule = sym some i; place = y.place; sheet = y.sheet; rows = y.rows } in
      subst (λ z. (state_after most z f).rule ≡ Some m) same
      (stays most y.place y.sheet y.rows m (f.letter == code_of letters.Rule) (f.letter == code_of letters.Opening) (f.letter == code_of letters.Message)
      (f.letter == code_of letters.Advance) (f.letter == code_of letters.Closing) (nat_lt 0 (length f.body)) f.body)

  -- one frame more
  abbrev still_accepted : (such : List ℕ → Frame) (fs : List Frame) → Accepted most such fs → Accepted most such (f ∷ fs)
  still_accepted such fs a = record { later = f ∷ a.later; form = a.form; earlier = a.earlier; in_order = ap (λ gs. f ∷ gs) a.in_order; told = a.told }

  abbrev just_accepted : (such : List ℕ → Frame) (fs : List Frame) → f ≡ such f.body → told_at most (session_after most fs) f ≡ done → Accepted most such (f ∷ fs)
  just_accepted such fs e h = record { later = []; form = f.body; earlier = fs; in_order = ap (λ g. g ∷ fs) e; told = ap (told_at most (session_after most fs)) (sym e) ∙ h }

  -- the rule that a session has was asked for by one of its frames
  ruled_by : (fs : List Frame) (m : Meaning) (r : Option Meaning) → (session_after most fs).rule ≡ r
      → ((k : Meaning) → (session_after most fs).rule ≡ Some k → RuledBy most fs k)
      → (session_after most (f ∷ fs)).rule ≡ Some m → RuledBy most (f ∷ fs) m
  ruled_by fs m (Some k) there earlier h =
      let e = same_rule k m (sym (ruled_still (session_after most fs) k there) ∙ h) in
      let q = earlier m (there ∙ ap Some e) in
      (still_accepted rule_frame fs q.0, q.1)
  ruled_by fs m None there earlier h =
      let o = ruled_now (session_after most fs) m there h in
      (just_accepted rule_frame fs o.0 o.1, o.2)

  -- and a book that is open was opened by one
  opened_by_one : (fs : List Frame) (place : Place Meaning) → (session_after most fs).place ≡ place
      → (is_some (session_after most fs).place ≡ true → Accepted most opening_frame fs)
      → is_some (session_after most (f ∷ fs)).place ≡ true → Accepted most opening_frame (f ∷ fs)
  opened_by_one fs (Some p) there earlier h = still_accepted opening_frame fs (earlier (ap is_some there))
  opened_by_one fs None there earlier h =
      let o = opened_now (session_after most fs) there h in
      just_accepted opening_frame fs o.0 o.1

rule_found : (most : ℕ) (frames : List Frame) (m : Meaning) → (session_after most frames).rule ≡ Some m → RuledBy most frames m
rule_found most [] m h = nothing_ruled m h
rule_found most (f ∷ fs) m h = ruled_by most f fs m (session_after most fs).rule refl (rule_found most fs) h

opening_found : (most : ℕ) (frames : List Frame) → is_some (session_after most frames).place ≡ true → Accepted most opening_frame frames
opening_found most [] h = nothing_is h
opening_found most (f ∷ fs) h = opened_by_one most f fs (session_after most fs).place refl (opening_found most fs) h

one_after_another : (most : ℕ) (x : SessionState) (later earlier : List Frame) → session_from most x (later ++ earlier) ≡ session_from most (session_from most x earlier) later
one_after_another most x [] earlier = refl
one_after_another most x (f ∷ later) earlier = ap (λ y. state_after most y f) (one_after_another most x later earlier)

runs_are_journals : (most : ℕ) → RunsAreJournals most
runs_are_journals most frames h =
    let o = opening_found most frames h in
    let before = session_after most o.earlier in
    let begun = opening_begins most before o.form o.told in
    let ruled = rule_found most o.earlier begun.0 begun.1 in
    let followed = follow most begun.0 o.form (state_after most before (opening_frame o.form)) begun.2 o.later in
    let same = ap (session_after most) o.in_order ∙ one_after_another most (session_after most []) o.later (opening_frame o.form ∷ o.earlier) in
    record {
      opening = o;
      ruling = ruled.0;
      rule = begun.0;
      asked = ruled.1;
      lawful = lawful_asked (rule_of ruled.0.form) begun.0 ruled.1;
      journal = followed.0;
      holds = subst (Holds begun.0 o.form followed.0) (sym same) followed.1;
      as_passed = followed.2;
    }

pub sessions_are_journals : SessionsAreJournals
sessions_are_journals most = (opening_begins most, frames_go_on most, stops_change_nothing most, questions_go_on, runs_are_journals most)
