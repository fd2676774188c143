use Rattle.std.proofs.Common.{arith}
use Rattle.std.proofs.lemmas.Grind.{get_or-set_at}
use Rattle.std.proofs.lemmas.List.{get_or-set_other}
use Rattle.settlement.proofs.words.add_words.Goals as goal

pub loop-t-preserved : goal.loop-t-preserved
loop-t-preserved g c =
    let inv = c.loop-t.invariant in
    let before = inv.kept c.loop-t.t (omega arith) in record {
      kept = λ k l. grind (arith, get_or-set_at, get_or-set_other, inv.kept k);
      low = λ k. let w = c.requires.low c.loop-t.t c.word.result (omega arith) c.word.ensures in grind (arith, get_or-set_at, get_or-set_other, inv.low k, before, w);
      value = λ words gives k l.
          let here = gives c.loop-t.t c.word.result (omega arith) c.word.ensures in
          grind (arith, get_or-set_at, get_or-set_other, inv.value words gives k, before, here);
    }

pub returns-clause-value : goal.returns-clause-value
returns-clause-value g c = λ words gives t l. c.loop-t.invariant.value words gives t (omega arith)
