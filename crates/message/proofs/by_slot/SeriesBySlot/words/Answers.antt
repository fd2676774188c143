use Rattle.std.proofs.Common.{◌∙◌, sym}
use Rattle.forms.specs.Slots.{slot_of, kind_of, counter_of}
use Rattle.message.proofs.Stated.{value_found}
use Rattle.message.proofs.by_slot.SeriesBySlot.words.Goals as goal

pub returns-clause-each : goal.returns-clause-each
returns-clause-each c = λ t l.
    let m = c.args.self.now.message in
    let slot = slot_of c.args.slot in
    c.words.ensures.each t l ∙ sym (value_found m.quarters m.bytes.now (kind_of slot) (counter_of slot) c.in_ok-i.i t (sym c.in_ok-i.ensures.value))
