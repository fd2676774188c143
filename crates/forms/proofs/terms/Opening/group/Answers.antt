use Rattle.std.proofs.Common.{sym, arith}
use Rattle.std.proofs.lemmas.List.{get_or-map, length-take-le}
use Rattle.forms.specs.Figures.{figures_of}
use Rattle.forms.specs.Openings.{terms_in}
use Rattle.forms.proofs.terms.Opening.group.Goals as goal

pub returns : goal.returns
unfolding terms_in
returns c =
    let groups = c.args.self.now.groups in
    rw c.as_slice.ensures (λ d. sym (get_or-map figures_of _ c.args.a _ d (omega (arith, length-take-le groups.count groups.places groups.room))))
