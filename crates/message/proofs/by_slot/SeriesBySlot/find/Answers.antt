use Rattle.std.proofs.Common.{◌≡◌, None, get_or, sym, rules}
use Rattle.forms.specs.Slots.{slot_of, kind_of, counter_of}
use Rattle.message.specs.Form.{series_count}
use Rattle.message.specs.Places.{head_is, place_of, place_under}
use Rattle.message.proofs.Search.{first_at}
use Rattle.message.proofs.by_slot.SeriesBySlot.find.Goals as goal

pub returns-clause-first : goal.returns-clause-first
unfolding place_under
returns-clause-first c =
    let x = c.args.self.now in
    let s = x.message.bytes.now in
    let slot = slot_of c.args.slot in
    let value : get_or x.places c.number.result None ≡ place_of s slot = search rules in
    first_at (head_is s (kind_of slot) (counter_of slot)) (series_count s) _ (sym value)
