use Rattle.std.proofs.Common.{◌≡◌, ◌+◌, ◌<◌, Err, sym, ap, ◌∙◌, subst, arith}
use Rattle.forms.specs.Slots.{Within, slot_number}
use Rattle.forms.specs.declared.fault.Fault.TheVariants.{RepeatedHead}
use Rattle.message.specs.Form.{series_count}
use Rattle.message.specs.Read.{as_read}
use Rattle.message.proofs.SeriesLaws.{series_there, names_told}
use Rattle.message.proofs.Numbering.{Listed, number, within_told, number_told, listed_none, listed_all, slot_taken, listed_more}
use Rattle.message.proofs.Message.places.Goals as goal
use Rattle.message.proofs.Message.places.Goals.{in-Some+else-is_some, in_default}

pub loop-i-init : goal.loop-i-init
loop-i-init c = listed_none c.args.groups c.args.self.now.bytes.now c.requires.few

pub slot-requires : goal.slot-requires
slot-requires c =
    let m = c.args.self.now in
    names_told c.args.groups c.requires.lawful.0 m.quarters m.bytes.now c.requires.lawful.1 c.loop-i.i (omega (arith, c.loop-i-test.true, c.count-i-end.ensures)) (as_read c.in-Some.series) c.in-Some.ensures

pub number-number-requires : goal.number-number-requires
number-number-requires c =
    let m = c.args.self.now in
    let within = within_told c.args.groups c.requires.lawful.0 m.bytes.now c.requires.lawful.1 c.loop-i.i (omega (arith, c.loop-i-test.true, c.count-i-end.ensures)) m.quarters (as_read c.in-Some.series) c.in-Some.ensures in
    (c.requires.few, subst (Within c.args.groups) (sym c.slot.ensures) within)

pub returns-then-is_some : goal.returns-then-is_some
returns-then-is_some c =
    let g = c.args.groups in
    let m = c.args.self.now in
    let there : c.loop-i.i < series_count m.bytes.now = omega (arith, c.loop-i-test.true, c.count-i-end.ensures) in
    let is : c.number-number.result ≡ number g c.requires.lawful.0 m.bytes.now c.requires.lawful.1 c.loop-i.i there =
    c.number-number.ensures.value ∙ ap (slot_number g) c.slot.ensures ∙ number_told g c.requires.lawful.0 m.bytes.now c.requires.lawful.1 c.loop-i.i there m.quarters (as_read c.in-Some.series) c.in-Some.ensures in
    slot_taken g c.requires.lawful.0 m.bytes.now c.requires.lawful.1 c.loop-i.i there c.requires.few c.loop-i.places c.loop-i.invariant c.number-number.result is (sym c.is_some.ensures ∙ c.if-is_some.true)
    ∙ ap (λ p. Err (RepeatedHead p)) (sym c.place.ensures)

pub loop-i-preserved : goal.loop-i-preserved
loop-i-preserved c =
    let g = c.args.groups in
    let q = c.args.self.now.quarters in
    let s = c.args.self.now.bytes.now in
    let i = c.loop-i.i in
    let there : i < series_count s = omega (arith, c.loop-i-test.true, c.count-i-end.ensures) in
    elim c.match-series.branch [
      | in-Some+else-is_some w ↦
          let is : w.number-number.result ≡ number g c.requires.lawful.0 s c.requires.lawful.1 i there =
          w.number-number.ensures.value ∙ ap (slot_number g) w.slot.ensures ∙ number_told g c.requires.lawful.0 s c.requires.lawful.1 i there q (as_read w.in-Some.series) w.in-Some.ensures in
          subst (Listed g s (i + 1)) (sym w.places-is)
          (listed_more g c.requires.lawful.0 s c.requires.lawful.1 i there c.requires.few c.loop-i.places c.loop-i.invariant w.number-number.result is (sym w.is_some.ensures ∙ w.if-is_some.false))
      | in_default w ↦ absurd (series_there g c.requires.lawful.0 q s c.requires.lawful.1 i there w.in_default.ensures)
    ]

pub returns : goal.returns
returns c =
    listed_all c.args.groups c.args.self.now.bytes.now c.loop-i.i c.loop-i.places
    (omega (arith, c.loop-i-test.false, c.loop-i.auto.i-end, c.count-i-end.ensures)) c.loop-i.invariant
