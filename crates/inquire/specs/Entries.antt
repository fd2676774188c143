-- The lines of the table: a question with its answer, and its text.
use Rattle.std.specs.Prelude.{ℕ, Bool, cond, List, ◌++◌, map, ℤ, Ok, Err, vec_items, codes, decimal, Option, Some, Result, Vec}
use Rattle.std.specs.declared.alloc.Global.{Global}
use Rattle.std.specs.Fmt.{signed_decimal}
use Rattle.forms.specs.declared.fault.Fault.{Fault}
use Rattle.book.specs.Queries.{standing_of, total_of}
use Rattle.session.specs.Replies.{refusal}
use Rattle.inquire.specs.declared.line.Line.{Line}
use Rattle.inquire.specs.declared.line.Line.TheVariants.{Position, Trade, Standing, Total}

-- Quarter hour and group: the stated and the confirmed open position and the net purchases. Quarter hour, seller and buyer: the trade.
-- Day and group: mark and stage. Group: penalties and balance.
pub data TableEntry : Type 0 where
  position_asked : ℕ → ℕ → Result (ℤ × ℤ × ℤ) Fault → TableEntry
  trade : ℕ → ℕ → ℕ → Result ℕ Fault → TableEntry
  standing : ℕ → ℕ → Result (Bool × ℕ) Fault → TableEntry
  total : ℕ → Result (ℕ × ℤ) Fault → TableEntry

-- the same as the code holds it
abbrev pub entry_of : Line → TableEntry
entry_of (Position quarter group answer) = position_asked quarter group answer
entry_of (Trade quarter from to answer) = trade quarter from to answer
entry_of (Standing day group answer) = standing day group (standing_of answer)
entry_of (Total group answer) = total group (total_of answer)

abbrev pub entries_in : Vec Line Global → List TableEntry
entries_in lines = map entry_of (vec_items lines)

-- the numbers of an answer, or its refusal
abbrev told : {A : Type 0} → (A → List ℕ) → Result A Fault → List ℕ
told numbers (Ok x) = numbers x
told numbers (Err e) = refusal e

-- the same where the numbers' text need not be stated
abbrev pub answer_told : {A : Type 0} → (A → Option (List ℕ)) → Result A Fault → Option (List ℕ)
answer_told output (Ok x) = output x
answer_told output (Err e) = Some (refusal e)

abbrev pub positions_told : ℤ × ℤ × ℤ → List ℕ
positions_told p = signed_decimal p.0 ++ (codes " " ++ (signed_decimal p.1 ++ (codes " " ++ signed_decimal p.2)))

abbrev pub standing_told : Bool × ℕ → List ℕ
standing_told p = decimal (cond p.0 1 0) ++ (codes " " ++ decimal p.1)

abbrev pub total_told : ℕ × ℤ → List ℕ
total_told p = decimal p.0 ++ (codes " " ++ signed_decimal p.1)

-- the fields with one blank between, a mark as 1 or 0
abbrev pub text : TableEntry → List ℕ
text (position_asked quarter group answer) =
    codes "POSITION " ++ (decimal quarter ++ (codes " " ++ (decimal group ++ (codes " " ++ told positions_told answer))))
text (trade quarter from to answer) =
    codes "TRADE " ++ (decimal quarter ++ (codes " " ++ (decimal from ++ (codes " " ++ (decimal to ++ (codes " " ++ told decimal answer))))))
text (standing day group answer) =
    codes "STANDING " ++ (decimal day ++ (codes " " ++ (decimal group ++ (codes " " ++ told standing_told answer))))
text (total group answer) = codes "TOTAL " ++ (decimal group ++ (codes " " ++ told total_told answer))
