use Rattle.std.proofs.Common.{arith}
use Rattle.stage.specs.Marked.{marks_of}
use Rattle.stage.proofs.MarkLists.{first_marks}
use Rattle.stage.proofs.marks.Marks.first.Goals as goal

pub returns : goal.returns
unfolding marks_of
returns c = first_marks c.args.self.now c.min.result c.args.day (omega arith)
