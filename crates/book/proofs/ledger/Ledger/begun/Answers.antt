use Rattle.std.proofs.Common.{length, take, ap, ◌∙◌, arith}
use Rattle.std.proofs.lemmas.List.{take-replicate}
use Rattle.forms.specs.Openings.{terms_in}
use Rattle.forms.proofs.OpeningLaws.{lawful_in}
use Rattle.settlement.specs.declared.phase.Phase.TheVariants.{Ahead}
use Rattle.book.specs.Opens.{new_book}
use Rattle.book.specs.States.{own_accounts, nothing_kept}
use Rattle.book.proofs.ledger.Ledger.begun.Goals as goal

pub returns : goal.returns
unfolding new_book own_accounts
returns c =
    let terms = terms_in c.args.opening in
    let g = length terms.groups in
    let none = ap (take g) c.nothing_kept-accounts.ensures.states ∙ take-replicate g 16 nothing_kept (omega (arith, (lawful_in c.args.opening).groups_most)) in
    λ j. record { terms = terms; closed = 0; phase = Ahead; sent = c.nothing_sent-sent.ensures j; groups = none j }
