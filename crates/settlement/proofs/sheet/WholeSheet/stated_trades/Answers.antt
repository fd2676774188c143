use Rattle.std.proofs.Common.{rules}
use Rattle.forms.specs.Slots.{out_to, in_from}
use Rattle.settlement.specs.Positions.{stated_with}
use Rattle.settlement.specs.Sheets.{words_per_slot}
use Rattle.settlement.specs.Statements.{sent_on}
use Rattle.settlement.proofs.sheet.WholeSheet.stated_trades.Goals as goal

pub returns-clause-value : goal.returns-clause-value
unfolding stated_with
returns-clause-value c =
    let S = sent_on c.args.self.now c.args.a in
    c.with_others.ensures.value words_per_slot (λ b t. S (in_from b) t) (λ b t. S (out_to b) t) (λ b x y u v h p. search rules)
