use Rattle.std.proofs.Common.{◌≡◌, ℕ, ◌+◌, ◌<◌, ◌≤◌, length, get_or, replicate, sym, refl, pos, ◌-ℤ◌, ap, ◌∙◌, arith}
use Rattle.std.proofs.lemmas.List.{length-set}
use Rattle.forms.specs.Bounds.{most_groups}
use Rattle.settlement.specs.Days.{sums_of}
use Rattle.settlement.specs.Positions.{given_to}
use Rattle.settlement.specs.Sheets.{words_per_slot}
use Rattle.settlement.specs.Statements.{sent_on}
use Rattle.settlement.specs.Sums.{sumℕ}
use Rattle.settlement.proofs.Adding.{blank, blank_sums, each_set}
use Rattle.settlement.proofs.Sums.{sumℕ-none, sumℕ-more}
use Rattle.settlement.proofs.Trading.{net_by_given}
use Rattle.settlement.proofs.sheet.WholeSheet.add_confirmed.Goals as goal

pub loop-a-init : goal.loop-a-init
loop-a-init c =
    let givers = c.requires.given in
    let takers = λ (k : ℕ) (h : k < most_groups). ap (λ lists. sums_of lists k) c.requires.taken ∙ blank_sums k h in record {
      givers = ap length givers;
      blank = λ k l h. ap (λ lists. sums_of lists k) givers ∙ blank_sums k h;
      given = λ k t l h. absurd (omega arith);
      long = λ k h. ap length (takers k h);
      low = λ k t h. omega (arith, ap (λ xs. get_or xs t 0) (takers k h), blank 96 t);
      taken = λ k t l h. ap (λ xs. get_or xs t 0) (takers k (omega arith)) ∙ blank 96 t ∙ sym (sumℕ-none _);
    }

pub loop-a-preserved : goal.loop-a-preserved
loop-a-preserved c =
    let inv = c.loop-a.invariant in
    let S = sent_on c.args.self.now in
    let g = c.args.self.now.groups in
    let a = c.loop-a.a in
    let trades = c.add_trades.ensures in
    let within : a < length c.loop-a.given = omega arith in record {
      givers = length-set _ _ _ ∙ inv.givers;
      blank = each_set (λ k xs. a + 1 ≤ k → k < most_groups → xs ≡ replicate words_per_slot 0) _ _ a _ refl within (λ l. absurd (omega arith)) (λ k n l. inv.blank k (omega arith));
      given = λ k t l q.
          each_set (λ k xs. k < a + 1 → get_or xs t 0 ≡ sumℕ (given_to S t k) g) _ _ a _ refl within (λ l. trades.given t q) (λ k n l. inv.given k t (omega arith) q) k l;
      long = λ k l. (trades.bound k).0 ∙ inv.long k l;
      low = λ k t l. omega (arith, (trades.bound k).1 t, inv.low k t l);
      taken = λ k t l q. omega (arith, trades.taken k l t q, inv.taken k t l q, sumℕ-more (λ b. given_to S t b k) a);
    }

pub returns : goal.returns
returns c =
    let inv = c.loop-a.invariant in
    let S = sent_on c.args.self.now in
    let g = c.args.self.now.groups in
    let all : c.loop-a.a ≡ g = omega arith in
    λ a t l q.
    (λ j. pos (inv.taken a t l q j) -ℤ pos (inv.given a t (omega arith) q j))
    ∙ ap (λ n. pos (sumℕ (λ b. given_to S t b a) n) -ℤ pos (sumℕ (given_to S t a) g)) all
    ∙ net_by_given S g t a
