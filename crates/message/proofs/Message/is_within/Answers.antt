use Rattle.std.proofs.Common.{◌∙◌, arith}
use Rattle.message.proofs.Passes.{ok_none, ok_more, range_ok}
use Rattle.message.proofs.Message.is_within.Goals as goal

pub loop-word-init : goal.loop-word-init
loop-word-init c = ok_none _

pub loop-word-preserved : goal.loop-word-preserved
loop-word-preserved c =
    let form = c.args.self.now in
    let t = c.loop-word.word-index in
    let value = c.from_be_bytes.ensures ∙ c.words-word-items.ensures.each t (omega arith) in
    ok_more _ t _ _ c.loop-word.invariant (range_ok form.quarters form.bytes.now c.args.i t _ value)
