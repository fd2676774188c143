use Rattle.message.proofs.Numbering.{Listed}
use Rattle.message.proofs.Message.places.Given as goal

abbrev pub invariant-loop-i : goal.invariant-loop-i
invariant-loop-i l = Listed l.groups l.self.bytes.now l.i l.places
