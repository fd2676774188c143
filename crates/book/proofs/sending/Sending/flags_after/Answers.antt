use Rattle.std.proofs.Common.{◌≡◌, ◌+◌, ◌-◌, ◌<◌, ◌≤◌, false, length, get_or, set, drop, ap, ◌∙◌, add-mul, arith}
use Rattle.std.proofs.lemmas.List.{length-take-le, length-drop}
use Rattle.std.proofs.lemmas.List.Edits.{fill_by_more}
use Rattle.std.proofs.lemmas.Nat.{mul-le}
use Rattle.message.specs.Places.{sent_in}
use Rattle.forms.specs.Slots.{slots, slot_at}
use Rattle.book.specs.States.{State, state_of, size}
use Rattle.book.proofs.Days.{flags_enough}
use Rattle.book.proofs.Flagging.{flags_between}
use Rattle.book.proofs.sending.Sending.flags_after.Goals as goal

pub loop-number-preserved : goal.loop-number-preserved
loop-number-preserved c =
    let g = size (state_of c.args.self.now.day.ledger.now) in
    let form = c.args.self.now.series.message.bytes.now in
    let n = c.loop-number.number in
    let xs = c.loop-number.flag-items in
    let within : n < length xs = omega (arith, c.loop-number-test.true, c.loop-number.auto.flag-items) in
    let below : n < slots g = omega (arith, within, c.loop-number.auto.flag-items, c.slots_per_group-slots.ensures, c.groups-groups.ensures.value) in
    let is = c.has_at.ensures ∙ ap (λ h. sent_in form (slot_at h n)) c.args.self.now.groups in
    λ k l. ap (λ v. get_or (set xs n v) k false) is ∙ fill_by_more (λ m. sent_in form (slot_at g m)) xs n false within c.loop-number.invariant k l

pub returns : goal.returns
returns c =
    let self = c.args.self.now in
    let s : State = state_of self.day.ledger.now in
    let sent = self.day.ledger.now.sent in
    let a = c.place-first.result in
    let k = a + c.slots_per_group-slots.result - a in
    let count : k ≡ slots (size s) = omega (arith, c.slots_per_group-slots.ensures ∙ ap slots c.groups-groups.ensures.value) in
    let below = mul-le (self.own + 1) (slots (size s)) (size s) (slots (size s)) (omega (arith, self.read.sender)) (omega arith) in
    let room : a + k ≤ length sent =
    omega (arith, c.place-first.ensures.value, count, add-mul self.own 1 (slots (size s)), below, flags_enough (size s) (omega (arith, c.groups-groups.ensures.value, c.groups-groups.ensures.few)), self.day.ledger.now.flags) in
    let long = length-take-le k (drop a sent) (omega (arith, room, length-drop a sent)) in
    flags_between (size s) self.own self.series.message.bytes.now sent a k c.loop-number.flag-items (omega (arith, c.place-first.ensures.value)) count room c.loop-number.auto.flag-items
    (λ n l. c.loop-number.invariant n (omega (arith, long, c.loop-number-test.false)))
