use Rattle.std.proofs.Common.{sym, arith}
use Rattle.forms.specs.Slots.{slot_of}
use Rattle.message.proofs.Stated.{stated_unsent}
use Rattle.message.proofs.by_slot.SeriesBySlot.slot_bits.Goals as goal

pub returns-in-None : goal.returns-in-None
returns-in-None c = λ t l.
    let m = c.args.self.now.message in
    omega (arith, stated_unsent m.quarters m.bytes.now (slot_of c.args.slot) t (sym c.in-None.ensures.there))
