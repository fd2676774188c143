use Rattle.std.proofs.Common.{refl}
use Rattle.stage.specs.Marked.{marks_of}
use Rattle.stage.proofs.marks.Marks.none.Goals as goal

pub returns : goal.returns
unfolding marks_of
returns c = refl
