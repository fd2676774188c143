use Rattle.std.proofs.Common.{ℕ, length, get_or, pos, ◌-ℤ◌, refl, sym, ap, ◌∙◌, arith, rules}
use Rattle.settlement.specs.Days.{day_net}
use Rattle.settlement.proofs.Adding.{blank, net_none, net_more}
use Rattle.settlement.proofs.Trading.{others_none, others_more, others_skip}
use Rattle.settlement.proofs.day.DayTrades.with_others.Goals as goal
use Rattle.settlement.proofs.day.DayTrades.with_others.Goals.{then-b-own, else-b-own}

pub loop-b-init : goal.loop-b-init
loop-b-init g c = record {
  taken-long = refl;
  given-long = refl;
  taken-low = λ t. omega (arith, blank 96 t);
  given-low = λ t. omega (arith, blank 96 t);
  net = λ q i o adds t l. net_none 96 t ∙ sym (others_none (λ b. pos (i b t) -ℤ pos (o b t)) c.args.own);
}

pub loop-b-preserved : goal.loop-b-preserved
loop-b-preserved g c =
    let inv = c.loop-b.invariant in
    let b = c.loop-b.b in
    elim c.if-b-own.branch [
      | then-b-own w ↦
          let low = c.requires.low _ _ _ _ _ (omega arith) w.add.ensures in
          let taken = λ (t : ℕ). ap (λ xs. get_or xs t 0) w.taken-is in
          let given = λ (t : ℕ). ap (λ xs. get_or xs t 0) w.given-is in record {
            taken-long = ap length w.taken-is ∙ low.0.0 ∙ inv.taken-long;
            given-long = ap length w.given-is ∙ low.1.0 ∙ inv.given-long;
            taken-low = λ t. omega (arith, inv.taken-low t, low.0.1 t, taken t);
            given-low = λ t. omega (arith, inv.given-low t, low.1.1 t, given t);
            net = λ q i o adds t l.
                let a = adds _ _ _ _ _ (omega arith) w.add.ensures in
                net_more _ _ _ _ t _ _ _ (taken t ∙ a.0 t l) (given t ∙ a.1 t l) (inv.net q i o adds t l)
                ∙ sym (others_more (λ b. pos (i b t) -ℤ pos (o b t)) c.args.own b w.if-b-own.true);
          }
      | else-b-own w ↦ record {
        taken-long = ap length w.taken-is ∙ inv.taken-long;
        given-long = ap length w.given-is ∙ inv.given-long;
        taken-low = λ t. omega (arith, inv.taken-low t, ap (λ xs. get_or xs t 0) w.taken-is);
        given-low = λ t. omega (arith, inv.given-low t, ap (λ xs. get_or xs t 0) w.given-is);
        net = λ q i o adds t l.
            (λ j. day_net (w.taken-is j) (w.given-is j) t) ∙ inv.net q i o adds t l
            ∙ sym (others_skip (λ b. pos (i b t) -ℤ pos (o b t)) c.args.own b (search rules));
      }
    ]
