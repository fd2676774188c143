use Rattle.std.proofs.Common.{not, ◌&&◌, ltb, ap, ◌∙◌, w32, w64, rules}
use Rattle.std.proofs.lemmas.Int.{to_z-of_z}
use Rattle.forms.specs.Figures.{figures_of}
use Rattle.settlement.specs.declared.phase.Phase.TheVariants.{After}
use Rattle.settlement.specs.Positions.{open_position, excess, no_farther}
use Rattle.book.proofs.growth.moves_out.Goals as goal

pub returns : goal.returns
returns c =
    let f = figures_of c.args.figures.now in
    let next = to_z-of_z w64 c.open_position-next.result (search rules) ∙ c.open_position-next.ensures.value ∙ ap (open_position f) (to_z-of_z w64 c.from.result (search rules) ∙ c.from.ensures ∙ to_z-of_z w32 c.args.next (search rules)) in
    let last = to_z-of_z w64 c.open_position-last.result (search rules) ∙ c.open_position-last.ensures.value ∙ ap (open_position f) (to_z-of_z w64 c.from-2.result (search rules) ∙ c.from-2.ensures ∙ to_z-of_z w32 c.args.last (search rules)) in
    c.farther_out.ensures ∙ (λ j. ltb 0 (excess f After (next j)) && not (no_farther (next j) (last j)))
