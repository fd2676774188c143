use Rattle.std.proofs.Common.{◌≡◌, ◌+◌, ◌*◌, get_or, ◌∙◌, arith, rules}
use Rattle.forms.specs.Slots.{slot_of}
use Rattle.settlement.specs.Statements.{sent_on}
use Rattle.settlement.proofs.Places.{sent_at, unsent_at}
use Rattle.settlement.proofs.sheet.WholeSheet.add_slot.Goals as goal

pub returns-then-self-place-clause-value : goal.returns-then-self-place-clause-value
returns-then-self-place-clause-value c =
    let sheet = c.args.self.now in
    let place = c.slot_place-place in
    λ t l. c.add_words.ensures.value (sent_on sheet c.args.group (slot_of c.args.slot))
    (λ u w h p.
    let read : w ≡ get_or sheet.words.now (place.result * 96 + u) 0 = search rules in
    read ∙ sent_at _ _ _ _ _ u _ place.ensures.value c.if-self-place.true)
    t
    (omega arith)

pub returns-else-self-place-clause-value : goal.returns-else-self-place-clause-value
returns-else-self-place-clause-value c =
    let sheet = c.args.self.now in
    let place = c.slot_place-place in
    λ t l. omega (arith, unsent_at sheet.groups sheet.sent.now sheet.words.now c.args.group (slot_of c.args.slot) t place.result place.ensures.value c.if-self-place.false)
