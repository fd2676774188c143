-- The rule form: a kind, rolling or run, and a number of days, from 1 to as many as a year has.
use Rattle.std.specs.Prelude.{ℕ, Bool, cond, ◌&&◌, List, length, Ok, Err, Result, ◌==◌, nat_lt}
use Rattle.std.specs.Int.{is_in_range}
use Rattle.forms.specs.declared.fault.Fault.{Fault}
use Rattle.forms.specs.declared.fault.Fault.TheVariants.{ShortForm, WrongLength, UnlawfulTariff}
use Rattle.forms.specs.declared.rule_form.RuleForm.{RuleForm}
use Rattle.forms.specs.declared.rule_form.RuleForm.TheVariants.{Rolling, Run}
use Rattle.forms.specs.Bytes.{byte, be16}
use Rattle.forms.specs.Calendar.{year_days}

-- the kinds
abbrev rolling_kind : ℕ
rolling_kind = 1

abbrev run_kind : ℕ
run_kind = 2

-- the bytes of a rule form
abbrev rule_length : ℕ
rule_length = 3

-- a number of days, from 1 to as many as a book keeps
abbrev within_year : ℕ → Bool
within_year number = is_in_range 1 year_days number

abbrev lawful_rule : ℕ → ℕ → Result RuleForm Fault
lawful_rule kind number =
    cond (kind == rolling_kind && within_year number) (Ok (Rolling number))
    (cond (kind == run_kind && within_year number) (Ok (Run number)) (Err (UnlawfulTariff 0)))

-- what a rule form says, or the fault by which it is refused
abbrev pub rule_of : List ℕ → Result RuleForm Fault
rule_of s =
    cond (nat_lt (length s) rule_length) (Err ShortForm)
    (cond (length s == rule_length) (lawful_rule (byte s 0) (be16 s 1)) (Err WrongLength))
