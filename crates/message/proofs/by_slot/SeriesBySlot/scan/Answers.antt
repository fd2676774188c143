use Rattle.std.proofs.Common.{below_more, arith}
use lib.Bits.{bit_or}
use Rattle.std.proofs.lemmas.Bool.{OnTrue_at, and_parts}
use Rattle.std.proofs.lemmas.Nat.{le_or_l, le_or_r}
use Rattle.message.proofs.by_slot.SeriesBySlot.scan.Goals as goal

pub loop-b-preserved : goal.loop-b-preserved
loop-b-preserved c =
    let inv = c.loop-b.invariant in
    let more = c.scan_trades-scan in record {
      outs = below_more _ _ (λ b l t m. omega (arith, inv.outs b l t m, le_or_l c.loop-b.trades more.result.bits)) (λ t m. omega (arith, more.ensures.outs t m, le_or_r c.loop-b.trades more.result.bits));
      intos = below_more _ _ (λ b l t m. omega (arith, inv.intos b l t m, le_or_l c.loop-b.trades more.result.bits)) (λ t m. omega (arith, more.ensures.intos t m, le_or_r c.loop-b.trades more.result.bits));
      apart = λ both.
          let parts = and_parts c.loop-b.apart more.result.apart both in
          below_more _ _ (inv.apart parts.0) (OnTrue_at parts.1 more.ensures.apart);
    }

pub invariant_of-result : goal.invariant_of-result
invariant_of-result c =
    let inv = c.loop-b.invariant in
    let consumed = c.slot_bits.result in
    let produced = c.slot_bits-2.result in
    let pumped = c.slot_bits-3.result in
    let both = le_or_l (bit_or consumed produced) pumped in record {
      outs = λ b l. inv.outs b (omega arith);
      intos = λ b l. inv.intos b (omega arith);
      of_cons = λ t l. omega (arith, c.slot_bits.ensures t l, le_or_l consumed produced, both);
      of_prod = λ t l. omega (arith, c.slot_bits-2.ensures t l, le_or_r consumed produced, both);
      of_pump = λ t l. omega (arith, c.slot_bits-3.ensures t l, le_or_r (bit_or consumed produced) pumped);
      unopposed = λ none b l. inv.apart none b (omega arith);
    }
