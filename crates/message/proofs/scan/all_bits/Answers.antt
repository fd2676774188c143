use Rattle.std.proofs.Common.{[], get_or, ap, ◌∙◌, below_more, arith}
use Rattle.message.proofs.AllBits.{turned, word_within, within_more, within_taken}
use Rattle.message.proofs.scan.all_bits.Goals as goal

pub loop-word-preserved : goal.loop-word-preserved
loop-word-preserved c =
    let bits = c.loop-word.bits in
    below_more _ _
    (λ k l. within_more (get_or c.args.words.now k []) bits c.low_first-bits.result (c.loop-word.invariant k l))
    (within_taken (get_or c.args.words.now c.loop-word.word-index []) bits c.low_first-bits.result c.low_first-bits.ensures)

pub returns : goal.returns
returns c = λ k l.
    omega (arith, word_within (get_or c.args.words.now k []) c.loop-word.bits (c.loop-word.invariant k (omega arith)), c.from_be_bytes.ensures ∙ ap turned c.to_le_bytes.ensures)
