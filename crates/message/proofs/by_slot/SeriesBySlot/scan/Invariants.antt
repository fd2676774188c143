use Rattle.std.proofs.Common.{◌≡◌, ℕ, ◌<◌, true}
use Rattle.forms.specs.Slots.{out_to, in_from}
use Rattle.message.specs.Values.{StatesAtMost, Unopposed}
use Rattle.message.proofs.by_slot.SeriesBySlot.scan.Given as goal

abbrev pub invariant-loop-b : goal.invariant-loop-b
invariant-loop-b l = record {
  outs : (b : ℕ) → b < l.b → StatesAtMost l.self.message.quarters l.self.message.bytes.now (out_to b) l.trades;
  intos : (b : ℕ) → b < l.b → StatesAtMost l.self.message.quarters l.self.message.bytes.now (in_from b) l.trades;
  apart : l.apart ≡ true → (b : ℕ) → b < l.b → Unopposed l.self.message.quarters l.self.message.bytes.now b;
}
