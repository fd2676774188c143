use Rattle.std.proofs.Common.{◌≡◌, ℕ, ◌+◌, ◌<◌, ◌≤◌, length, get_or, sym, refl, ap, ◌∙◌, arith, rules}
use Rattle.std.proofs.lemmas.List.{length-set}
use Rattle.settlement.specs.Days.{GrowsAtMostAWord, Adds, sums_of}
use Rattle.settlement.specs.Positions.{given_to}
use Rattle.settlement.specs.Sheets.{words_per_slot}
use Rattle.settlement.specs.Statements.{sent_on}
use Rattle.settlement.proofs.Adding.{blank, each_set}
use Rattle.settlement.proofs.Sums.{sumℕ-none, sumℕ-more}
use Rattle.settlement.proofs.Trading.{given_to-other, given_to-itself}
use Rattle.settlement.proofs.sheet.WholeSheet.add_trades.Goals as goal
use Rattle.settlement.proofs.sheet.WholeSheet.add_trades.Goals.{then-b-a, else-b-a}

pub loop-b-init : goal.loop-b-init
loop-b-init c =
    let none = λ (t : ℕ). ap (λ xs. get_or xs t 0) c.requires.blank ∙ blank 96 t in record {
      given-long = ap length c.requires.blank;
      given-low = λ t. omega (arith, none t);
      given = λ t l. none t ∙ sym (sumℕ-none _);
      lists = omega arith;
      bound = λ k. (refl, λ t. omega arith);
      kept = λ k l. refl;
      taken = λ k l. absurd (omega arith);
    }

pub add_trade-requires-clause-room : goal.add_trade-requires-clause-room
add_trade-requires-clause-room c =
    let inv = c.loop-b.invariant in
    let b = c.loop-b.b in
    let room = c.requires.room b (omega arith) in
    let same = inv.kept b (omega arith) in (
      (inv.given-long, λ t. omega (arith, inv.given-low t)),
      (ap length same ∙ room.0, λ t. omega (arith, ap (λ xs. get_or xs t 0) same, room.1 t)),
    )

pub loop-b-preserved : goal.loop-b-preserved
loop-b-preserved c =
    let inv = c.loop-b.invariant in
    let S = sent_on c.args.self.now in
    let a = c.args.a in
    let b = c.loop-b.b in
    let before = c.args.taken.now in
    elim c.if-b-a.branch [
      | then-b-a w ↦
          let trade = w.add_trade.ensures in
          let same = inv.kept b (omega arith) in
          let within : b < length c.loop-b.taken = omega arith in
          let here = λ (t : ℕ). ap (λ xs. get_or xs t 0) w.given-is in record {
            given-long = ap length w.given-is ∙ trade.bound.0.0 ∙ inv.given-long;
            given-low = λ t. omega (arith, here t, inv.given-low t, trade.bound.0.1 t);
            given = λ t l. omega (arith, here t, inv.given t l, trade.value.0 t l, sumℕ-more (given_to S t a) b, given_to-other S t a b w.if-b-a.true);
            lists = ap length w.taken-is ∙ length-set _ _ _ ∙ inv.lists;
            bound =
                each_set (λ k xs. GrowsAtMostAWord (sums_of before k) xs) _ _ b _ w.taken-is within
                (trade.bound.1.0 ∙ ap length same, λ t. omega (arith, trade.bound.1.1 t, ap (λ xs. get_or xs t 0) same))
                (λ k n. inv.bound k);
            kept = each_set (λ k xs. b + 1 ≤ k → xs ≡ sums_of before k) _ _ b _ w.taken-is within (λ l. absurd (omega arith)) (λ k n l. inv.kept k (omega arith));
            taken =
                each_set (λ k xs. k < b + 1 → Adds words_per_slot (λ t. given_to S t a k) (sums_of before k) xs) _ _ b _ w.taken-is within
                (λ k t l. omega (arith, trade.value.1 t l, ap (λ xs. get_or xs t 0) same, given_to-other S t a b w.if-b-a.true))
                (λ k n l. inv.taken k (omega arith));
          }
      | else-b-a w ↦
          let itself = λ (t : ℕ). given_to-itself S t a b (search rules) in
          let same = inv.kept b (omega arith) in
          let here = λ (t : ℕ). ap (λ xs. get_or xs t 0) w.given-is in
          let there = λ (k : ℕ). ap (λ lists. sums_of lists k) w.taken-is in record {
            given-long = ap length w.given-is ∙ inv.given-long;
            given-low = λ t. omega (arith, here t, inv.given-low t);
            given = λ t l. omega (arith, here t, inv.given t l, sumℕ-more (given_to S t a) b, itself t);
            lists = ap length w.taken-is ∙ inv.lists;
            bound = λ k. (ap length (there k) ∙ (inv.bound k).0, λ t. omega (arith, ap (λ xs. get_or xs t 0) (there k), (inv.bound k).1 t));
            kept = λ k l. there k ∙ inv.kept k (omega arith);
            taken = λ k l t q. grind (arith, itself t, same, there k, inv.taken k);
          }
    ]
