use Rattle.std.proofs.Common.{sym, ◌∙◌, subst, arith, rules}
use Rattle.forms.specs.Lawful.{LawfulTerms}
use Rattle.forms.specs.Openings.{terms_in}
use Rattle.forms.proofs.OpeningLaws.{terms_read}
use Rattle.forms.proofs.TermLaws.{formed_terms}
use Rattle.forms.proofs.opening_form.OpeningForm.opening.Goals as goal

pub invariant_of-result : goal.invariant_of-result
invariant_of-result c =
    let form = c.args.self.now in
    let read = terms_read form.bytes.now c.fill.result c.fill-2.result c.default.result c.default-2.result
    (c.fill.ensures.count ∙ c.groups.ensures)
    (λ a l. let p = c.fill.ensures.items a (omega arith) in search rules)
    (c.fill-2.ensures.count ∙ c.rows.ensures)
    (λ r l. let p = c.fill-2.ensures.items r (omega arith) in search rules)
    in
    record { lawful = subst LawfulTerms (sym read) (formed_terms form.bytes.now form.formed c.requires) }

pub returns : goal.returns
unfolding terms_in
returns c =
    terms_read c.args.self.now.bytes.now c.fill.result c.fill-2.result c.default.result c.default-2.result
    (c.fill.ensures.count ∙ c.groups.ensures)
    (λ a l. let p = c.fill.ensures.items a (omega arith) in search rules)
    (c.fill-2.ensures.count ∙ c.rows.ensures)
    (λ r l. let p = c.fill-2.ensures.items r (omega arith) in search rules)
