use Rattle.std.proofs.Common.{◌+◌, ◌∙◌, arith, w32, SFits, rules}
use Rattle.std.proofs.lemmas.Nat.{mul-add-lt}
use Rattle.std.proofs.lemmas.Int.{to_z-of_z}
use Rattle.forms.specs.Closings.{closing_value}
use Rattle.forms.proofs.closing_form.ClosingForm.value.Goals as goal

pub signed32_at-requires : goal.signed32_at-requires
signed32_at-requires c =
    let r = c.args.self.now in
    omega (arith, mul-add-lt c.args.i r.quarters c.args.t (r.groups + 2) (omega arith) (omega arith))

pub returns : goal.returns
unfolding closing_value
returns c =
    let fits : SFits w32 c.signed32_at.result = search rules in
    to_z-of_z w32 c.signed32_at.result fits ∙ c.signed32_at.ensures
