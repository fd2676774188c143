use Rattle.std.proofs.Common.{◌≡◌, ℕ, ◌<◌, false, ◌&&◌, ltb, [], length, get_or, inl, inr, sym, ap, ◌∙◌, below_more, eqb-true, arith}
use lib.Bits.{bit_or}
use Rattle.std.proofs.lemmas.Bool.{OnTrue_from}
use Rattle.std.proofs.lemmas.Nat.{le_or_l}
use Rattle.forms.specs.Bytes.{be32}
use Rattle.message.proofs.AllBits.{turned, word_within, within_more, within_either, never_both}
use Rattle.message.proofs.scan.scan_both.Goals as goal

pub loop-t-preserved : goal.loop-t-preserved
loop-t-preserved c =
    let inv = c.loop-t.invariant in
    let outs = c.args.outs.now in
    let intos = c.args.intos.now in
    let t = c.loop-t.t in
    let bits = c.loop-t.bits in
    let out = c.low_first-out.result in
    let into = c.low_first-into.result in record {
      outs = below_more _ _ (λ k l. within_more (get_or outs k []) bits (bit_or out into) (inv.outs k l)) (within_either (get_or outs t []) bits out into (inl c.low_first-out.ensures));
      intos = below_more _ _ (λ k l. within_more (get_or intos k []) bits (bit_or out into) (inv.intos k l)) (within_either (get_or intos t []) bits out into (inr c.low_first-into.ensures));
      apart = λ none. below_more _ _ (inv.apart (omega (arith, le_or_l c.loop-t.lower c.min-lower.result, none)))
          (never_both (get_or outs t []) (get_or intos t []) c.loop-t.lower out into c.low_first-out.ensures c.low_first-into.ensures (ap (bit_or c.loop-t.lower) (sym c.min-lower.ensures) ∙ none));
    }

pub returns : goal.returns
returns c =
    let inv = c.loop-t.invariant in
    let bits = c.from_be_bytes.ensures ∙ ap turned c.to_le_bytes.ensures in
    let apart : c.loop-t.lower ≡ 0 → (k : ℕ) → k < length c.args.outs.now → (ltb 0 (be32 (get_or c.args.outs.now k []) 0) && ltb 0 (be32 (get_or c.args.intos.now k []) 0)) ≡ false =
    λ none k l. inv.apart none k (omega arith) in
    record {
      outs = λ k l. omega (arith, word_within (get_or c.args.outs.now k []) c.loop-t.bits (inv.outs k (omega arith)), bits);
      intos = λ k l. omega (arith, word_within (get_or c.args.intos.now k []) c.loop-t.bits (inv.intos k (omega arith)), bits);
      apart = OnTrue_from _ _ (λ none. apart (eqb-true _ _ none));
    }
