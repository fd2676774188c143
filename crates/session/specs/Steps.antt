-- What a frame does to a session.
use Rattle.std.specs.Prelude.{ℕ, min, cond, ◌&&◌, List, length, replicate, is_some, Some, None, Ok, Err, Option, Result, ◌==◌, nat_le, nat_lt}
use Rattle.forms.specs.declared.fault.Fault.{Fault}
use Rattle.forms.specs.Bounds.{most_groups}
use Rattle.forms.specs.Bytes.{byte}
use Rattle.forms.specs.Checks.{Verdict}
use Rattle.stage.specs.Asked.{rule_asked}
use Rattle.settlement.specs.Sheets.{sheet_size}
use Rattle.book.specs.Calls.{Place, submits, advances, closes}
use Rattle.book.specs.Opens.{opened_by}
use Rattle.book.specs.Rows.{no_row}
use Rattle.session.specs.Replies.{Told, stop, refused, done, plainly, message_told, close_told}
use Rattle.session.specs.declared.letter.Letter.TheVariants.{Rule, Opening, Message, Advance}
use Rattle.session.specs.Letters.{code_of}
use Rattle.session.specs.Stops.{stops}
use Rattle.session.specs.Views.{SessionState}
use Rattle.stage.specs.Rules.{Meaning}

-- R: a rule
abbrev pub rule_made : SessionState → Result Meaning Fault → Told × SessionState
rule_made s (Ok m) = (done, record { rule = Some m; place = s.place; sheet = s.sheet; rows = s.rows })
rule_made s (Err e) = (refused e, s)

-- O: a book under the rule, on a sheet and rows for the groups that the form names, as far as they are served: at most so
-- many, and never more than a book can have
abbrev pub groups_served : ℕ → List ℕ → ℕ
groups_served most body = cond (nat_lt 0 (length body) && nat_le (byte body 0) (min most most_groups)) (byte body 0) 0

abbrev pub if_opened : ℕ → SessionState → List ℕ → Verdict × Place Meaning × List ℕ → Told × SessionState
if_opened most s body (Ok _, place, sheet) =
    (done, record { rule = s.rule; place = place; sheet = sheet; rows = replicate (groups_served most body) no_row })
if_opened most s body (Err e, place, sheet) = (refused e, s)

abbrev pub book_opened : ℕ → Meaning → SessionState → List ℕ → Told × SessionState
book_opened most m s body = if_opened most s body (opened_by s.place m body (replicate (sheet_size (groups_served most body)) 0))

-- S: a message
abbrev pub message_sent : SessionState → List ℕ → Told × SessionState
message_sent s body =
    let o = submits s.place s.sheet body in
    (message_told o.0, record { rule = s.rule; place = o.1; sheet = o.2; rows = s.rows })

-- A: an advance
abbrev pub phase_moved : SessionState → Told × SessionState
phase_moved s =
    let o = advances (λ m. m) s.place s.sheet in
    (plainly o.0, record { rule = s.rule; place = o.1; sheet = s.sheet; rows = s.rows })

-- C: a close
abbrev pub day_ended : SessionState → List ℕ → Told × SessionState
day_ended s body =
    let o = closes (λ m. m) s.place (record { sheet = s.sheet; rows = s.rows }) body in
    (close_told o.0, record { rule = s.rule; place = o.1; sheet = o.2.sheet; rows = o.2.rows })

abbrev pub by_rule : ℕ → Option Meaning → SessionState → List ℕ → Told × SessionState
by_rule most (Some m) s body = book_opened most m s body
by_rule most None s body = (stop, s)

-- the letters are R, O, S, A and C
abbrev pub letter_taken : ℕ → SessionState → ℕ → List ℕ → Told × SessionState
letter_taken most s letter body =
    cond (letter == code_of Rule) (rule_made s (rule_asked body))
    (cond (letter == code_of Opening) (by_rule most s.rule s body)
    (cond (letter == code_of Message) (message_sent s body)
    (cond (letter == code_of Advance) (phase_moved s) (day_ended s body))))

-- what is told, and the session afterwards; where it stops, nothing changes
abbrev pub stepped : ℕ → SessionState → ℕ → List ℕ → Told × SessionState
stepped most s letter body = cond (stops most (is_some s.rule) (is_some s.place) letter body) (stop, s) (letter_taken most s letter body)
