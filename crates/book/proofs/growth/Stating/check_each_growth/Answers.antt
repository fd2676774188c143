use Rattle.std.proofs.Common.{◌≡◌, ℕ, ◌<◌, false, sym, refl, ◌∙◌, arith, w32, rules}
use Rattle.std.proofs.lemmas.Int.{to_z-of_z}
use Rattle.forms.proofs.Firsts.{each_none, each_more, each_exit}
use Rattle.settlement.proofs.Bands.{day_near}
use Rattle.settlement.specs.declared.phase.Phase.TheVariants.{After}
use Rattle.settlement.specs.Positions.{stated_open, open_position, is_beyond, beyond_by}
use Rattle.settlement.specs.Sheets.{words_per_slot}
use Rattle.book.specs.Messages.{by_message}
use Rattle.book.specs.States.{State, state_of, day_quarters}
use Rattle.book.specs.Tallies.{is_outside_at}
use Rattle.book.proofs.Counting.{uncounted}
use Rattle.book.proofs.Growing.{none_grows, last_known, next_known, grows_known}
use Rattle.book.proofs.growth.Stating.check_each_growth.Goals as goal

pub loop-t-init : goal.loop-t-init
loop-t-init c = each_none _

pub returns-then-moves_out : goal.returns-then-moves_out
returns-then-moves_out c =
    let x = c.args.self.now.sending.now in
    let s : State = state_of x.day.ledger.now in
    let sheet = x.day.sheet.now in
    let form = x.series.message.bytes.now in
    let t = c.loop-t.t in
    let on = c.on_sheet.ensures in
    let within : t < words_per_slot = omega (arith, c.quarters-quarters.ensures.few, c.from-t-end.ensures, c.loop-t-test.true) in
    let below : t < day_quarters s = omega (arith, c.quarters-quarters.ensures.value, c.from-t-end.ensures, c.loop-t-test.true) in
    let last =
    last_known s sheet form x.own t _ _ _ _ on.groups on.sent on.words
    (to_z-of_z w32 c.net-in-loop-t.result (search rules) ∙ c.net-in-loop-t.ensures.value ∙ c.stated_checks-last.ensures t within) in
    let next =
    next_known s sheet form x.own t _ _ _ x.read.quarters refl
    (to_z-of_z w32 c.net.result (search rules) ∙ c.net.ensures.value ∙ c.checks-next.ensures t below) in
    let grows = grows_known s sheet form x.own t _ _ _ _ c.moves_out.ensures c.figures-figures.ensures next last in
    let yes = sym grows ∙ c.if-moves_out.true in
    each_exit _ _ t _ below c.loop-t.invariant (search rules)

pub loop-t-preserved : goal.loop-t-preserved
loop-t-preserved c =
    let x = c.args.self.now.sending.now in
    let s : State = state_of x.day.ledger.now in
    let sheet = x.day.sheet.now in
    let form = x.series.message.bytes.now in
    let t = c.loop-t.t in
    let on = c.on_sheet.ensures in
    let within : t < words_per_slot = omega (arith, c.quarters-quarters.ensures.few, c.from-t-end.ensures, c.loop-t-test.true) in
    let below : t < day_quarters s = omega (arith, c.quarters-quarters.ensures.value, c.from-t-end.ensures, c.loop-t-test.true) in
    let last =
    last_known s sheet form x.own t _ _ _ _ on.groups on.sent on.words
    (to_z-of_z w32 c.net-in-loop-t.result (search rules) ∙ c.net-in-loop-t.ensures.value ∙ c.stated_checks-last.ensures t within) in
    let next =
    next_known s sheet form x.own t _ _ _ x.read.quarters refl
    (to_z-of_z w32 c.net.result (search rules) ∙ c.net.ensures.value ∙ c.checks-next.ensures t below) in
    let grows = grows_known s sheet form x.own t _ _ _ _ c.moves_out.ensures c.figures-figures.ensures next last in
    let no-growth = sym grows ∙ c.if-moves_out.false in
    each_more _ _ c.loop-t.invariant (rw no-growth)

pub returns-then-count_outside-eq0 : goal.returns-then-count_outside-eq0
unfolding stated_open
returns-then-count_outside-eq0 c =
    let x = c.args.self.now.sending.now in
    let s : State = state_of x.day.ledger.now in
    let S = by_message x.own x.series.message.quarters x.series.message.bytes.now in
    let p = is_outside_at c.new.result c.checks-next.result in
    let f = c.figures-figures.ensures in
    let none : (t : ℕ) → t < day_quarters s → beyond_by s.terms S After x.own t ≡ false =
    λ t l.
    let past = uncounted p c.quarters-quarters.result (sym c.count_outside.ensures ∙ c.if-count_outside-eq0.true) t (omega (arith, c.quarters-quarters.ensures.value)) in
    let known : p t ≡ beyond_by s.terms S After x.own t =
    c.new.ensures _ (day_near c.checks-next.result t) ∙ (λ j. is_beyond (f j) After (open_position (f j) (c.checks-next.ensures t l j))) in
    sym known ∙ past in
    sym (none_grows s x.day.sheet.now x.series.message.bytes.now x.own x.series.message.quarters x.read.quarters none)
