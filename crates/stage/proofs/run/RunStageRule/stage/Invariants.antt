use Rattle.std.proofs.Common.{◌≡◌, ◌-◌, ◌<◌, ◌≤◌}
use Rattle.stage.specs.Marked.{marks_of}
use Rattle.stage.specs.Rules.{run_on}
use Rattle.stage.specs.LawProofs.Gaps.{Idle}
use Rattle.stage.proofs.run.RunStageRule.stage.Given as goal

abbrev pub invariant-loop-day : goal.invariant-loop-day
invariant-loop-day l = record {
  within : l.day - 1 ≤ l.day-end;
  few : l.count < l.day;
  counted : l.count ≡ run_on l.self.gap (marks_of l.marks) (l.day - 1);
  idle : Idle (marks_of l.marks) (l.day - 1) l.idle;
}
