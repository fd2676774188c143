use Rattle.std.proofs.Common.{◌≡◌, ◌+◌, ◌-◌, length, cond, nat_le, sym, ap, ◌∙◌, arith}
use Rattle.std.proofs.Math.Nat.{add-sub_cancel}
use Rattle.std.proofs.lemmas.Bool.Decides.{nat_tests}
use Rattle.stage.specs.Marked.{marks_of, on_day}
use Rattle.stage.specs.Rules.{run, run_on}
use Rattle.stage.specs.LawProofs.Counts.{one_if}
use Rattle.stage.specs.LawProofs.Gaps.{idle_none, run_none, run_turn}
use Rattle.stage.proofs.run.RunStageRule.stage.Goals as goal

pub loop-day-init : goal.loop-day-init
loop-day-init c =
    let xs = marks_of c.args.marks.now in
    record { within = omega arith; few = omega arith; counted = sym (run_none c.args.self.now.gap xs); idle = idle_none xs }

pub loop-day-preserved : goal.loop-day-preserved
loop-day-preserved c =
    let w = c.args.self.now.gap in
    let xs = marks_of c.args.marks.now in
    let day = c.loop-day.day in
    let inv = c.loop-day.invariant in
    let idle : c.if-marked.idle ≡ cond (on_day xs day) 0 (c.loop-day.idle + 1) = grind (arith, nat_tests) in
    let count : c.if-idle-self.count ≡ cond (nat_le w c.if-marked.idle) 0 (c.loop-day.count + one_if (on_day xs day)) = grind (arith, nat_tests) in
    let turn = run_turn w xs (day - 1) day c.loop-day.idle c.if-marked.idle c.loop-day.count c.if-idle-self.count (omega arith) inv.idle inv.counted idle count in
    rw (add-sub_cancel day 1) (record { within = omega arith; few = omega (arith, turn.0); counted = turn.1; idle = turn.2 })

pub returns : goal.returns
unfolding run
returns c =
    let xs = marks_of c.args.marks.now in
    let ends : c.loop-day.day - 1 ≡ length xs = omega arith in
    c.loop-day.invariant.counted ∙ ap (run_on c.args.self.now.gap xs) ends

pub returns-after-idle-self : goal.returns-after-idle-self
unfolding run
returns-after-idle-self c =
    let w = c.args.self.now.gap in
    let xs = marks_of c.args.marks.now in
    let day = c.loop-day.day in
    let inv = c.loop-day.invariant in
    let idle : c.if-marked.idle ≡ cond (on_day xs day) 0 (c.loop-day.idle + 1) = grind (arith, nat_tests) in
    let count : c.if-idle-self.count ≡ cond (nat_le w c.if-marked.idle) 0 (c.loop-day.count + one_if (on_day xs day)) = grind (arith, nat_tests) in
    let turn = run_turn w xs (day - 1) day c.loop-day.idle c.if-marked.idle c.loop-day.count c.if-idle-self.count (omega arith) inv.idle inv.counted idle count in
    let ends : day ≡ length xs = omega arith in
    turn.1 ∙ ap (run_on w xs) ends
