-- What a frame is answered, and the line of each reply: its fields with one blank between.
use Rattle.std.specs.Prelude.{ℕ, List, [], ◌++◌, Ok, Err, codes, decimal, Option, Result}
use Rattle.std.specs.Option.{unwrap_or}
use Rattle.forms.specs.declared.fault.Fault.{Fault}
use Rattle.forms.specs.Faults.{notice_of, shown_of}
use Rattle.session.specs.declared.reply.Reply.{Reply}
use Rattle.session.specs.declared.reply.Reply.TheVariants.{Stop, Refused, Done, Taken, Closed}

-- the session ends; a fault; accepted; an accepted message with its count and first quarter hour; an accepted close, whose rows follow
pub data Told : Type 0 where
  stop : Told
  refused : Fault → Told
  done : Told
  taken : ℕ → Option ℕ → Told
  closed : Told

-- the same as the code holds it
abbrev pub told_by : Reply → Told
told_by Stop = stop
told_by (Refused fault) = refused fault
told_by Done = done
told_by (Taken answer) = taken answer.beyond answer.first
told_by Closed = closed

-- a reply or the fault in its place
abbrev pub told_in : Result Reply Fault → Told
told_in (Ok reply) = told_by reply
told_in (Err e) = refused e

-- the line of a refusal
abbrev pub refusal : Fault → List ℕ
refusal fault = codes "REFUSED " ++ shown_of (notice_of fault)

-- the line; a close has none of its own
abbrev pub line : Told → List ℕ
line stop = codes "STOP"
line (refused fault) = refusal fault
line done = codes "OK"
line (taken count first) = codes "OK " ++ (decimal count ++ (codes " " ++ decimal (unwrap_or first 0)))
line closed = []

-- a plain answer, and that of a message and of a close
abbrev pub plainly : Result (Unit {0}) Fault → Told
plainly (Ok _) = done
plainly (Err e) = refused e

abbrev pub message_told : Result (ℕ × Option ℕ) Fault → Told
message_told (Ok x) = taken x.0 x.1
message_told (Err e) = refused e

abbrev pub close_told : Result (Unit {0}) Fault → Told
close_told (Ok _) = closed
close_told (Err e) = refused e
