use Rattle.std.proofs.Common.{sym, ap, ◌∙◌, arith}
use Rattle.stage.specs.Marked.{marks_of, on_day}
use Rattle.stage.proofs.MarkLists.{length_marks, on_day_bit, on_day_past}
use Rattle.stage.proofs.Flags.{bit_tested}
use Rattle.stage.proofs.marks.Marks.marked.Goals as goal
use Rattle.stage.proofs.marks.Marks.marked.Goals.{then-day-eq0-via-then-day-eq0, then-day-eq0-via-else-day-eq0+then-day-self}

pub returns-then-day-eq0 : goal.returns-then-day-eq0
returns-then-day-eq0 c =
    let m = c.args.self.now in
    elim c.then-day-eq0.branch [
      | then-day-eq0-via-then-day-eq0 w ↦ sym (ap (on_day (marks_of m)) w.if-day-eq0.true)
      | then-day-eq0-via-else-day-eq0+then-day-self w ↦ sym (on_day_past (marks_of m) c.args.day (omega (arith, length_marks m, w.if-day-self.true)))
    ]

pub returns : goal.returns
returns c =
    let m = c.args.self.now in
    rw (c.place-word.ensures.word, c.place-word.ensures.bit)
    (bit_tested _ _ ∙ sym (on_day_bit m c.args.day c.if-day-eq0.false (omega arith)))
