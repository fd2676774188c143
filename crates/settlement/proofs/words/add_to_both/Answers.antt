use Rattle.std.proofs.Common.{ℕ, ◌<◌, length, arith}
use Rattle.std.proofs.lemmas.Grind.{get_or-set_at}
use Rattle.std.proofs.lemmas.List.{get_or-set_other}
use Rattle.settlement.proofs.words.add_to_both.Goals as goal

pub loop-t-preserved : goal.loop-t-preserved
loop-t-preserved g c =
    let inv = c.loop-t.invariant in
    let given = inv.given-kept c.loop-t.t (omega arith) in
    let taken = inv.taken-kept c.loop-t.t (omega arith) in record {
      given-kept = λ k l. grind (arith, get_or-set_at, get_or-set_other, inv.given-kept k);
      taken-kept = λ k l. grind (arith, get_or-set_at, get_or-set_other, inv.taken-kept k);
      given-low = λ k. let w = c.requires.low c.loop-t.t c.word-added.result (omega arith) c.word-added.ensures in grind (arith, get_or-set_at, get_or-set_other, inv.given-low k, given, w);
      taken-low = λ k. let w = c.requires.low c.loop-t.t c.word-added.result (omega arith) c.word-added.ensures in grind (arith, get_or-set_at, get_or-set_other, inv.taken-low k, taken, w);
      value = λ words gives k l.
          let here = gives c.loop-t.t c.word-added.result (omega arith) c.word-added.ensures in (
            grind (arith, get_or-set_at, get_or-set_other, inv.value words gives k, given, here),
            grind (arith, get_or-set_at, get_or-set_other, inv.value words gives k, taken, here),
          );
    }

pub returns-clause-value : goal.returns-clause-value
returns-clause-value g c = λ words gives.
    let value = λ (t : ℕ) (l : t < length c.args.given.now). c.loop-t.invariant.value words gives t (omega arith) in
    (λ t l. (value t l).0, λ t l. (value t l).1)
