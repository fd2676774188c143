use Rattle.std.proofs.Common.{◌≡◌, is_ok}
use Rattle.forms.specs.Checks.{each_of}
use Rattle.message.specs.Values.{range_check}
use Rattle.message.proofs.Message.is_within.Given as goal

abbrev pub invariant-loop-word : goal.invariant-loop-word
invariant-loop-word l = l.within ≡ is_ok (each_of (range_check l.self.quarters l.self.bytes.now l.i) l.word-index)
