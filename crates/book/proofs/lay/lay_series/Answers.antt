use Rattle.std.proofs.Common.{◌∙◌, arith}
use Rattle.book.proofs.Laying.{laid_none, laid_more}
use Rattle.book.proofs.lay.lay_series.Goals as goal

pub loop-t-init : goal.loop-t-init
loop-t-init c = laid_none _ _ _

pub loop-t-preserved : goal.loop-t-preserved
loop-t-preserved c =
    let value = c.from_be_bytes.ensures ∙ c.words-word-items.ensures.each c.loop-t.t (omega arith) in
    laid_more _ _ _ c.loop-t.sheet c.loop-t.t c.from_be_bytes.result (omega arith) value c.loop-t.invariant
