-- What the rules of a rule form mean.
use Rattle.std.specs.Prelude.{ℕ, Bool, List, Result}
use Rattle.std.specs.Result.{result_map_both}
use Rattle.forms.specs.declared.fault.Fault.{Fault}
use Rattle.forms.specs.declared.rule_form.RuleForm as form
use Rattle.forms.specs.declared.rule_form.RuleForm.TheVariants as asks
use Rattle.forms.specs.RuleForms.{rule_of}
use Rattle.stage.specs.declared.any_rule.AnyRule.{AnyRule}
use Rattle.stage.specs.declared.any_rule.AnyRule.TheVariants.{Rolling, Run}
use Rattle.stage.specs.Rules.{rolling, run}

-- what a rule that the code holds means
abbrev pub meaning_of : AnyRule → List Bool → ℕ
meaning_of (Rolling r) = rolling r.window
meaning_of (Run r) = run r.gap

-- what a lawful rule form asks for: the kind with the form's number
abbrev pub asked : form.RuleForm → List Bool → ℕ
asked (asks.Rolling number) = rolling number
asked (asks.Run number) = run number

-- what the bytes of a rule form ask for, or the fault by which they are refused
abbrev pub rule_asked : List ℕ → Result (List Bool → ℕ) Fault
rule_asked s = result_map_both asked (λ e. e) (rule_of s)

-- what a rule that was made means, or the fault
abbrev pub meaning_made : Result AnyRule Fault → Result (List Bool → ℕ) Fault
meaning_made r = result_map_both meaning_of (λ e. e) r
