use Rattle.std.proofs.Common.{sym}
use Rattle.stage.proofs.MarkLists.{length_marks}
use Rattle.stage.proofs.marks.Marks.days.Goals as goal

pub returns-clause-count : goal.returns-clause-count
returns-clause-count c = sym (length_marks c.args.self.now)
