use Rattle.std.proofs.Common.{◌≡◌, Ok}
use Rattle.book.specs.Messages.{each_growth}
use Rattle.book.specs.States.{state_of}
use Rattle.book.proofs.growth.Stating.check_each_growth.Given as goal

abbrev pub invariant-loop-t : goal.invariant-loop-t
invariant-loop-t l = each_growth (state_of l.self.sending.now.day.ledger.now) l.self.sending.now.day.sheet.now l.self.sending.now.own l.self.sending.now.series.message.bytes.now l.t ≡ Ok tt
