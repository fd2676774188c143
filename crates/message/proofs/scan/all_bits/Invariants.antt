use Rattle.std.proofs.Common.{ℕ, ◌<◌, [], get_or}
use Rattle.message.proofs.AllBits.{BytesWithin}
use Rattle.message.proofs.scan.all_bits.Given as goal

abbrev pub invariant-loop-word : goal.invariant-loop-word
invariant-loop-word l = (k : ℕ) → k < l.word-index → BytesWithin (get_or l.words k []) l.bits
