use Rattle.std.proofs.Common.{ℕ, Bool, true, ◌&&◌, leb, ◌∙◌, rules, tests}
use Rattle.std.proofs.lemmas.Iterator.{YieldsList-from_slice}
use Rattle.std.proofs.lemmas.Iterator.Consumers.{fold_from_yields_List}
use Rattle.forms.specs.Bounds.{power_bound}
use Rattle.book.proofs.Powers.{pass_within}
use Rattle.book.proofs.whole_sheet.all_within.Goals as goal

pub returns : goal.returns
returns c =
    let also : Bool → ℕ → Bool = λ within w. within && leb w power_bound in
    fold_from_yields_List _ also true _ c.fold.ensures.ran (YieldsList-from_slice c.args.words.now cc) (λ a x b q k. search (rules, tests))
    ∙ pass_within true c.args.words.now
