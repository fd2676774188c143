use Rattle.std.proofs.Common.{◌+◌, ◌-◌, sym, ◌∙◌, arith, rules, tests}
use Rattle.std.proofs.lemmas.Iterator.Consumers.{YieldsList-at, YieldsList-from_filter, count_from_yields_List}
use Rattle.stage.specs.Marked.{marks_of, on_day}
use Rattle.stage.specs.LawProofs.Windows.{rolling_counts}
use Rattle.stage.proofs.Inclusive.{YieldsList-from_inclusive}
use Rattle.stage.proofs.rolling.RollingStageRule.stage.Goals as goal

pub returns : goal.returns
returns c =
    let xs = marks_of c.args.marks.now in
    let n = c.days-last.result in
    let w = c.args.self.now.window in
    let new = c.new.ensures in
    count_from_yields_List _ _ c.count.ensures.ran
    (YieldsList-from_filter _ (on_day xs)
    (YieldsList-at c.filter.ensures.source (YieldsList-from_inclusive (n - w + 1) (n - (n - w)) (omega arith) new.exhausted (omega arith)))
    c.filter.ensures.closure
    (λ x r q k. search (rules, tests)))
    ∙ sym (rolling_counts w xs n c.days-last.ensures.count)
