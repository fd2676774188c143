use Rattle.std.proofs.Common.{◌+◌, sym, ◌∙◌}
use Rattle.std.specs.Option.{option_map}
use Rattle.book.specs.Tallies.{is_outside_at}
use Rattle.book.proofs.Counting.{uncounted, none_first}
use Rattle.book.proofs.beyond.tally_outside.Goals as goal

pub returns-then-beyond-eq0 : goal.returns-then-beyond-eq0
returns-then-beyond-eq0 c =
    let p = is_outside_at c.args.band.now c.args.checks.now in
    let count = c.count_outside-beyond.ensures in
    let none = none_first p c.args.quarters (uncounted p c.args.quarters (sym count ∙ c.if-beyond-eq0.true)) in
    (λ j. (count j, option_map (λ k. k + 1) (sym none j)))
