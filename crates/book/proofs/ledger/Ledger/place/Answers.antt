use Rattle.std.proofs.Common.{◌*◌, ap, ◌∙◌, arith}
use Rattle.std.proofs.lemmas.Nat.{mul-add-lt}
use Rattle.forms.specs.Slots.{slots}
use Rattle.book.specs.States.{State, state_of, size}
use Rattle.book.proofs.Days.{flags_enough}
use Rattle.book.proofs.ledger.Ledger.place.Goals as goal

pub returns : goal.returns
returns c =
    let s : State = state_of c.args.self.now in
    let own = c.args.own in
    let e = ap (λ n. own * n) (c.slots_per_group.ensures ∙ ap slots c.groups.ensures.value) in
    let below = mul-add-lt own (slots (size s)) c.args.number (size s) c.requires.0 c.requires.1 in
    record {
      value = omega (arith, e);
      flag = omega (arith, e, below, flags_enough (size s) (omega (arith, c.groups.ensures.value, c.groups.ensures.few)));
      room = omega (arith, e, below);
    }
