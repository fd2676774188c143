use Rattle.std.proofs.Common.{◌≡◌, ◌+◌, Some, sym, ◌∙◌, rules, tests}
use Rattle.forms.specs.declared.kind.Kind.TheVariants.{Out, In}
use Rattle.forms.specs.Kinds.{number_of}
use Rattle.forms.proofs.Firsts.{each_in_order}
use Rattle.message.specs.Form.{kind_at, counter_at}
use Rattle.message.specs.Places.{place_under}
use Rattle.message.specs.Values.{opposed_check}
use Rattle.message.proofs.Passes.{opposed_alone}
use Rattle.message.proofs.SeriesLaws.{trade_told, counter_of_out, opposite_place}
use Rattle.message.proofs.Stated.{value_found}
use Rattle.message.proofs.by_slot.SeriesBySlot.check_trade.Goals as goal

pub overflow_sub-counter : goal.overflow_sub-counter
overflow_sub-counter c =
    let x = c.args.self.now in
    let trade = c.in-Some-Trade-default-Out-default-default in
    let told = trade_told x.message.quarters x.message.bytes.now c.args.i _ _ _ _ (rw (trade.field-0-is, trade.field-0-1-is) at trade.ensures) in
    (counter_of_out x.groups x.own x.message.bytes.now x.passed c.args.i c.requires trade.counter told.1 told.2).0

pub find-requires : goal.find-requires
find-requires c =
    let x = c.args.self.now in
    let trade = c.in-Some-Trade-default-Out-default-default in
    let told = trade_told x.message.quarters x.message.bytes.now c.args.i _ _ _ _ (rw (trade.field-0-is, trade.field-0-1-is) at trade.ensures) in
    (counter_of_out x.groups x.own x.message.bytes.now x.passed c.args.i c.requires trade.counter told.1 told.2).1

pub returns-in_default-find : goal.returns-in_default-find
returns-in_default-find c =
    let x = c.args.self.now in
    let trade = c.in-Some-Trade-default-Out-default-default in
    let told = trade_told x.message.quarters x.message.bytes.now c.args.i _ _ _ _ (rw (trade.field-0-is, trade.field-0-1-is) at trade.ensures) in
    let counter = counter_of_out x.groups x.own x.message.bytes.now x.passed c.args.i c.requires trade.counter told.1 told.2 in
    sym (opposed_alone x.message.quarters x.message.bytes.now c.args.i (opposite_place x.message.bytes.now c.args.i trade.counter told.2 counter.0 ∙ sym c.in_default-find.ensures.value))

pub returns : goal.returns
returns c =
    let x = c.args.self.now in
    let q = x.message.quarters in
    let s = x.message.bytes.now in
    let i = c.args.i in
    let trade = c.in-Some-Trade-default-Out-default-default in
    let told = trade_told q s i _ _ _ _ (rw (trade.field-0-is, trade.field-0-1-is) at trade.ensures) in
    let place : trade.series ≡ i + 1 = told.0 in
    let out : kind_at s i ≡ number_of Out = sym told.1 in
    let counter = counter_of_out x.groups x.own s x.passed i c.requires trade.counter told.1 told.2 in
    let opposite : place_under s (number_of In) (counter_at s i) ≡ Some c.in-Some.opposite = opposite_place s i trade.counter told.2 counter.0 ∙ sym c.in-Some.ensures.value in
    each_in_order (opposed_check q s i) q c.in_order.ensures
    (λ t v l p. let into = value_found q s (number_of In) (counter_at s i) c.in-Some.opposite t opposite in search (rules, tests))
